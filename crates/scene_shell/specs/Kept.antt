-- What a shell keeps of the lines that it answers.
use Rattle.std.specs.Prelude.{⊤, Result, Ok, Err, ◌≡◌, ℕ, ◌+◌, ◌-◌, ◌^◌, ◌≤◌, List, [], ◌++◌, Option, IfSome, if◌then◌else◌, codes, length, slice_index, ◌==◌}
use Rattle.std.specs.List.{fold}
use Rattle.std.specs.Io.{StopsAt}
use Rattle.std.specs.Io.KnownBytes.{Appends}
use Rattle.std.specs.Str.Lines.{lines}
use Rattle.scene_streams.specs.Keep.{Grows}
use Rattle.scene_interpreter.specs.Interpreter.{Interpreter}
use Rattle.scene_interpreter.specs.Changes.{frame_is_open}
use Rattle.scene_streams.specs.declared.app_fault.AppFault.{AppFault}
use Rattle.scene_streams.specs.declared.app_fault.AppFault.TheVariants.{NoMemory, ReadFault, WriteFault, TooLong}
use Rattle.scene_shell.specs.declared.kept_fault.KeptFault.{KeptFault}
use Rattle.scene_shell.specs.declared.kept_fault.KeptFault.TheVariants.{Ended, Keep}
use Rattle.scene_shell.specs.declared.store_writer.StoreWriter.{StoreWriter}
use Rattle.scene_shell.specs.ShellLine.{shell_changes, shell_reply}
use Rattle.scene_shell.specs.Shell.{AnswerStyle, HasSaid, IsSaid, Parts, bad_count}

-- the line break behind a line; where the line ends with a carriage return (13), one more stands before the line feed,
-- which drops it
abbrev pub break_of : List ℕ → List ℕ
break_of l = if slice_index l (length l - 1) == 13 then codes "\r\n" else codes "\n"

-- a line with a line break
abbrev pub ended : List ℕ → List ℕ
ended l = l ++ break_of l

-- what stands behind a text begins a line
abbrev pub IsWhole : List ℕ → Type 0
IsWhole t = (ys : List ℕ) → lines (t ++ ys) ≡ lines t ++ lines ys

-- An interpreter, and the lines that led to it: those that are to be kept by now, and those of the frame that is open
pub record Keeping : Type 0 where
  pub interpreter : Interpreter
  pub due : List ℕ
  pub held : List ℕ

-- the lines of a frame are due where it is over
abbrev pub released : Interpreter → List ℕ → List ℕ → Keeping
released p due held =
    if frame_is_open p then record { interpreter = p; due = due; held = held }
    else record { interpreter = p; due = due ++ held; held = [] }

-- a line is noted where it changes the interpreter
abbrev pub noted : Interpreter → List ℕ → List ℕ → List ℕ
noted p l held = held ++ (if shell_changes p l then ended l else [])

-- a line is played and noted
abbrev pub kept_line : Keeping → List ℕ → Keeping
kept_line k l = released (shell_reply k.interpreter l).interpreter k.due (noted k.interpreter l k.held)

-- lines are played and noted, one after another
abbrev pub kept_after : Keeping → List (List ℕ) → Keeping
kept_after = fold kept_line

-- before the first line
abbrev pub starting : Interpreter → Keeping
starting p = record { interpreter = p; due = []; held = [] }

-- what is to be kept of lines
abbrev pub kept_of : Interpreter → List (List ℕ) → List ℕ
kept_of p ls = (kept_after (starting p) ls).due

-- the same, behind lines that were kept before
abbrev pub behind : List ℕ → Keeping → Keeping
behind t k = record k { due = t ++ k.due }

-- ---- who keeps lines and writes answers

-- What a `KeptWriter` means
pub record Meaning (K : Type 0) : Type 1 where
  -- these are the bytes of all lines that it keeps
  pub keeps : K → List ℕ → Type 0
  -- what is written, where that is known
  pub contents : K → Option (List ℕ)
  -- it is at a shell that began with this writer and this interpreter before its first line, in this style
  pub begun : K → K → Interpreter → AnswerStyle → Type 0

-- a store that keeps so, beside a stream of which this is known; it has no notes of the shell that it is at
abbrev pub both_mean : {S W : Type 0} → (S → List ℕ → Type 0) → (W → Option (List ℕ)) → Meaning (StoreWriter S W)
both_mean keeps contents =
    record { keeps = λ s. keeps s.store; contents = λ s. contents s.writer; begun = λ _ _ _ _. ⊤ }

module _ {K : Type 0} (m : Meaning K) where
  -- the shell that one is at goes on
  abbrev pub Continues : (old new : K) → Type 0
  Continues old new = (start : K) (first : Interpreter) (style : AnswerStyle) → m.begun old start first style
      → m.begun new start first style

  -- When answers may be sent: with what was written since the shell began they are the answers to lines of its
  -- interpreter, and what these lines have to keep is kept.
  pub record MaySend (now : K) (answers : List ℕ) : Type 0 where
    pub start : K
    pub first : Interpreter
    pub style : AnswerStyle
    pub is_of : m.begun now start first style
    pub front : List (List ℕ)
    pub said : List ℕ
    pub written : Appends (m.contents start) (m.contents now) said
    pub are_answers : IsSaid style first front (said ++ answers)
    pub grown : Grows m.keeps start now (kept_of first front)

-- ---- how a shell ends

-- How a shell begins
pub record Beginning (K : Type 0) : Type 0 where
  -- how its answers are written
  pub style : AnswerStyle
  -- the interpreter before the first line
  pub first : Interpreter
  -- the writer
  pub start : K
  -- what the reader is to give, where that is known
  pub script : Option (List ℕ)

module _ {K : Type 0} (m : Meaning K) where
  -- the answers to these lines are written
  abbrev pub HasAnswered : Beginning K → (now : K) → List (List ℕ) → Type 0
  HasAnswered shell now ls = HasSaid shell.style shell.first ls (m.contents shell.start) (m.contents now)

  -- what these lines have to keep is kept
  abbrev pub HasKept : Beginning K → (now : K) → List (List ℕ) → Type 0
  HasKept shell now ls = Grows m.keeps shell.start now (kept_of shell.first ls)

  -- both
  abbrev pub IsSettled : Beginning K → (now : K) → List (List ℕ) → Type 0
  IsSettled shell now ls = HasAnswered shell now ls × HasKept shell now ls

  -- what is known of the lines before the one that was read when a stream, the memory or the number of lines stopped it
  abbrev pub StopsBy : Beginning K → (now : K) → List (List ℕ) → AppFault → Type 0
  StopsBy shell now ls WriteFault = HasKept shell now ls
  StopsBy shell now ls NoMemory = IsSettled shell now ls
  StopsBy shell now ls ReadFault = IsSettled shell now ls
  StopsBy shell now ls TooLong = IsSettled shell now ls × (2 ^ 64 ≤ length ls + 2)

  -- How a shell that keeps its lines ends, with this writer and with so much left of its reader: all lines are answered
  -- and kept; or all before the one that was read when a stream or the memory stopped it, which are kept where the
  -- writer failed. Where lines weren't kept, first lines are answered.
  abbrev pub EndsAs : {F : Type 0} → Beginning K → (now : K) → (rest : Option (List ℕ)) → Result ℕ (KeptFault F)
      → Type 0
  EndsAs shell now rest (Ok count) =
      (ls : List (List ℕ)) × IfSome shell.script (λ s. lines s ≡ ls) × IsSettled shell now ls
      × (count ≡ bad_count shell.first ls)
  EndsAs shell now rest (Err (Ended fault)) =
      (ls : List (List ℕ)) × (last : List ℕ) × StopsAt last 10 × Parts shell.script rest ls last
      × StopsBy shell now ls fault
  EndsAs shell now rest (Err (Keep fault)) =
      (ls : List (List ℕ)) × (others : List (List ℕ)) × IfSome shell.script (λ s. lines s ≡ ls ++ others)
      × HasAnswered shell now ls
