-- A line that changes nothing.
use Rattle.std.proofs.Common.{◌≡◌, ℕ, List, true, false, Option, Some, None, Result, Ok, Err, refl, ap}
use Rattle.scene_kinds.specs.declared.shape.Shape.{Shape}
use Rattle.scene_script.specs.declared.script_line.Line.{Line}
use Rattle.scene_script.specs.declared.script_line.Line.TheVariants.{Empty, Kind, Slots, Load, Calls, Depth, Do, Queue, Commit, Show, Get, Changed, Added, History, Dump, DumpAll}
use Rattle.scene_script.specs.declared.bad_line.BadLine.{BadLine}
use Rattle.scene_script.specs.Script.{line_in}
use Rattle.scene_interpreter.specs.Changes.{changes, changes_alone, changes_frame, changes_said, changes_setup, changes_within, declares, said_changes}
use Rattle.scene_interpreter.specs.OpenFrame.{Opened}
use Rattle.scene_interpreter.specs.Play.{Base, Declared, Loaded, PlayState, SetupState, frame_reply, kind_reply, lone_reply, reply_within, said_reply, setup_said, slots_reply}
use Rattle.scene_interpreter.specs.Interpreter.{Interpreter, Setting, Playing, interpreter_kinds, interpreter_reply, interpreter_said, set_or_begun}
use Rattle.scene_interpreter.proofs.FrameLaws.{frame_put_back}

no : {A : Type 0} → true ≡ false → A
no e = absurd (let wrong : true ≡ false = e in cc)

-- a declaration behind a load
kind_stays : (s : SetupState) (base : Base) (name : List ℕ) (shape : Shape) → declares base ≡ false
    → (kind_reply s base name shape).setup ≡ s
kind_stays s (Declared kinds limit) name shape e = no e
kind_stays s (Loaded editor) name shape e = refl

slots_stay : (s : SetupState) (base : Base) (n : ℕ) → declares base ≡ false → (slots_reply s base n).setup ≡ s
slots_stay s (Declared kinds limit) n e = no e
slots_stay s (Loaded editor) n e = refl

-- in the setup
setting_stays : (s : SetupState) (said : Result Line BadLine) → changes_said (changes_setup s.base) said ≡ false
    → (set_or_begun s said (setup_said s said)).interpreter ≡ Setting s
setting_stays s (Err reason) e = refl
setting_stays s (Ok Empty) e = refl
setting_stays s (Ok Queue) e = refl
setting_stays s (Ok Commit) e = refl
setting_stays s (Ok (Kind name shape)) e = ap Setting (kind_stays s s.base name shape e)
setting_stays s (Ok (Slots n)) e = ap Setting (slots_stay s s.base n e)
setting_stays s (Ok line) e = no e

-- where no frame is open
alone_stays : (s : PlayState) (line : Line) → changes_alone line ≡ false → (lone_reply s line).state ≡ s
alone_stays s Empty e = refl
alone_stays s (Kind name shape) e = refl
alone_stays s (Slots n) e = refl
alone_stays s (Load text) e = refl
alone_stays s (Calls n) e = refl
alone_stays s (Depth n) e = refl
alone_stays s Queue e = refl
alone_stays s Commit e = refl
alone_stays s Show e = refl
alone_stays s (Get entity) e = refl
alone_stays s Changed e = refl
alone_stays s Added e = refl
alone_stays s History e = refl
alone_stays s Dump e = refl
alone_stays s DumpAll e = refl
alone_stays s line e = no e

-- where one is open
frame_stays : (s : PlayState) (f : Opened) (line : Line) → s.frame ≡ Some f → changes_frame line ≡ false
    → (frame_reply s f line).state ≡ s
frame_stays s f (Do command) opened e = no e
frame_stays s f Queue opened e = no e
frame_stays s f Commit opened e = no e
frame_stays s f line opened e = frame_put_back s f s.frame opened

within_stays : (s : PlayState) (frame : Option Opened) (line : Line) → s.frame ≡ frame
    → changes_within frame line ≡ false → (reply_within s line frame).state ≡ s
within_stays s None line is e = alone_stays s line e
within_stays s (Some f) line is e = frame_stays s f line is e

-- behind the setup
playing_stays : (s : PlayState) (said : Result Line BadLine) → changes_said (changes_within s.frame) said ≡ false
    → (said_reply s said).state ≡ s
playing_stays s (Err reason) e = refl
playing_stays s (Ok line) e = within_stays s s.frame line refl e

pub said_unchanged : (p : Interpreter) (said : Result Line BadLine) → said_changes p said ≡ false → (interpreter_said p said).interpreter ≡ p
said_unchanged (Setting s) said e = setting_stays s said e
said_unchanged (Playing s) said e = ap Playing (playing_stays s said e)

pub unchanged : (p : Interpreter) (bytes : List ℕ) → changes p bytes ≡ false → (interpreter_reply p bytes).interpreter ≡ p
unchanged p bytes e = said_unchanged p (line_in (interpreter_kinds p) bytes) e
