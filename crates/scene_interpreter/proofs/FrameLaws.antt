-- A line where a frame is open, and where none is.
use Rattle.std.proofs.Common.{◌≡◌, Option, Some, None, Ok, false, refl, sym}
use Rattle.std.specs.Prelude.{Err, is_some}
use Rattle.scene_script.specs.declared.script_line.Line.{Line}
use Rattle.scene_script.specs.declared.script_line.Line.TheVariants.{Do}
use Rattle.scene_kinds.specs.Answers.{Outcome}
use Rattle.scene_interpreter.specs.OpenFrame.{Opened, with_command}
use Rattle.scene_interpreter.specs.Play.{PlayState, frame_reply, line_reply, lone_reply, queued_reply, reply_within, with_frame}

-- where no frame is open, the reply is the one outside a frame
pub alone_within : (s : PlayState) (line : Line) → is_some s.frame ≡ false → lone_reply s line ≡ line_reply s line
alone_within s line none = by_frame s.frame none
  where
    by_frame : (f : Option Opened) → is_some f ≡ false → lone_reply s line ≡ reply_within s line f
    by_frame None is = refl
    by_frame (Some f) is = absurd (cc is)

-- a frame that was taken out of the state is that of the state
pub frame_taken : (s : PlayState) (f : Opened) (line : Line) → frame_reply (with_frame s None) f line ≡ frame_reply s f line
frame_taken s f (Do command) = queued_taken (with_command f command)
  where
    queued_taken : (o : Outcome (Unit {0}) Opened) → queued_reply (with_frame s None) f o ≡ queued_reply s f o
    queued_taken (Ok p) = refl
    queued_taken (Err r) = refl
frame_taken s f line = refl

-- and where it is put back, the state is as it was
pub frame_put_back : (s : PlayState) (f : Opened) (g : Option Opened) → s.frame ≡ Some f → with_frame (with_frame s g) (Some f) ≡ s
frame_put_back s f g some = (λ i. record { owner = s.owner; schema = s.schema; cursor = s.cursor; frame = sym some i; phases = s.phases })
