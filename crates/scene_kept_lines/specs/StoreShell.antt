-- A shell on a store, from its opening to its end.
use Rattle.std.specs.Prelude.{⊤, ◌≡◌, ℕ, List, Option, Result, Ok, Err}
use Rattle.std.specs.Str.Lines.{lines}
use Rattle.scene_interpreter.specs.Interpreter.{Interpreter}
use Rattle.scene_streams.specs.Keep.{StaysKept}
use Rattle.scene_kept_lines.specs.Checkpoints.{AllHonest, Starts, kept_interpreter}
use Rattle.scene_shell.specs.Kept.{Beginning, EndsAs, both_mean}
use Rattle.scene_shell.specs.Shell.{interpreter_after}
use Rattle.scene_shell.specs.declared.kept_fault.KeptFault.{KeptFault}
use Rattle.scene_shell.specs.declared.store_writer.StoreWriter.{StoreWriter}
use Rattle.scene_shell.specs.declared.style.AnswerStyle.{AnswerStyle}
use Rattle.scene_kept_lines.specs.Replayed.{NoneIsBad, StopsBy, fault_behind}
use Rattle.scene_kept_lines.specs.declared.line_fault.KeptLineFault.{KeptLineFault}
use Rattle.scene_kept_lines.specs.declared.line_fault.KeptLineFault.TheVariants.{NoMemory}
use Rattle.scene_kept_lines.specs.declared.store_shell.StoreShellFault.{StoreShellFault}
use Rattle.scene_kept_lines.specs.declared.store_shell.StoreShellFault.TheVariants.{Unopened, Lines, Shell, Unclosed}

-- What a store, and the stream beside it, mean
pub record StoreMeaning (S W : Type 0) : Type 1 where
  -- lines are kept as they have to be, whichever they are
  pub is_store : S → Type 0
  -- these are the bytes of all lines that are kept
  pub keeps : S → List ℕ → Type 0
  -- an interpreter plays this text which takes so many calls
  pub plays : List ℕ → ℕ → Type 0
  -- what is written, where that is known
  pub contents : W → Option (List ℕ)

-- How a shell on a store begins
pub record StoreBeginning (W : Type 0) : Type 0 where
  -- how its answers are written
  pub style : AnswerStyle
  -- the writer
  pub start : W
  -- what the reader is to give, where that is known
  pub script : Option (List ℕ)

-- how a shell begins that goes on with this interpreter
abbrev pub behind_store : {S W : Type 0} → StoreBeginning W → (read : S) → (first : Interpreter) → Beginning (StoreWriter S W)
behind_store shell read first = record {
  style = shell.style;
  first = first;
  start = record { store = read; writer = shell.start };
  script = shell.script;
}

-- nothing was read or written
abbrev pub IsUntouched : {W : Type 0} → (old new : W) → (script rest : Option (List ℕ)) → Type 0
IsUntouched old new script rest = (new ≡ old) × (rest ≡ script)

module _ {S W : Type 0} (m : StoreMeaning S W) where
  -- the lines of a store were read, which an interpreter plays that takes so many calls
  pub record IsRead (read : S) (text : List ℕ) (calls : ℕ) : Type 0 where
    pub opened : S
    pub is_opened : m.is_store opened
    pub same : StaysKept m.keeps opened read
    pub kept : m.keeps read text
    pub is_played : m.plays text calls

  -- The lines of a store were read, and some of them are played: all, or those behind a checkpoint, from the interpreter
  -- that begins there.
  pub record IsBegun : Type 0 where
    pub read : S
    pub text : List ℕ
    pub calls : ℕ
    pub is_read : IsRead read text calls
    pub start : Interpreter
    pub skipped : ℕ
    pub rest : List (List ℕ)
    pub starts : Starts (kept_interpreter calls) (lines text) start skipped rest

  -- A shell went on with the interpreter that the lines of a store led to, none of which was bad as it was played, and
  -- ended so, with this store and writer: it answers as that interpreter, and the store keeps its lines behind those.
  -- Where all checkpoints are honest it ends as one that played all lines.
  pub record HasGoneOn {F : Type 0} (shell : StoreBeginning W) (now : S) (new : W) (rest : Option (List ℕ))
      (r : Result ℕ (KeptFault F)) : Type 0 where
    pub begun : IsBegun
    pub good : NoneIsBad begun.start begun.rest
    pub ends : EndsAs (both_mean m.keeps m.contents)
        (behind_store shell begun.read (interpreter_after begun.start begun.rest))
        (record { store = now; writer = new }) rest r
    pub ends_as_all : AllHonest (kept_interpreter begun.calls) (lines begun.text)
        → EndsAs (both_mean m.keeps m.contents)
        (behind_store shell begun.read (interpreter_after (kept_interpreter begun.calls) (lines begun.text)))
        (record { store = now; writer = new }) rest r

  -- the lines of a store weren't played
  pub record IsUnplayed (fault : KeptLineFault) : Type 0 where
    pub begun : IsBegun
    pub left : Interpreter
    pub stop : KeptLineFault
    pub stopped : StopsBy begun.start left begun.rest stop
    pub told : fault ≡ fault_behind begun.skipped stop

  -- they weren't, or no memory was found for where to begin
  abbrev pub IsStopped : KeptLineFault → Type 0
  IsStopped NoMemory = ⊤
  IsStopped fault = IsUnplayed fault

  -- How a shell on a store ends, where `closes` says that a store was closed: it was opened, its lines were played,
  -- the shell went on and ended, and the store was closed; or it stopped on the way, and where no line was to be read
  -- yet, none was and nothing was written. Where the end was told and then the store wasn't closed, it had kept all.
  abbrev pub EndsStored : {F : Type 0} → (closes : S → Type 0) → StoreBeginning W → (new : W) → (rest : Option (List ℕ))
      → Result ℕ (StoreShellFault F) → Type 0
  EndsStored {F = F} closes shell new rest (Ok count) =
      (now : S) × closes now × HasGoneOn {F = F} shell now new rest (Ok count)
  EndsStored {F = F} closes shell new rest (Err (Unclosed fault)) =
      (now : S) × (count : ℕ) × HasGoneOn {F = F} shell now new rest (Ok count)
  EndsStored closes shell new rest (Err (Shell fault)) =
      (now : S) × HasGoneOn shell now new rest (Err fault)
  EndsStored closes shell new rest (Err (Lines fault)) =
      IsUntouched shell.start new shell.script rest × IsStopped fault
  EndsStored closes shell new rest (Err (Unopened fault)) = IsUntouched shell.start new shell.script rest

-- ---- on the way. Nothing that a shell on a store promises is said with these words.

-- where lines were played from
pub record IsPlayedFrom (calls : ℕ) (all : List (List ℕ)) : Type 0 where
  pub start : Interpreter
  pub skipped : ℕ
  pub rest : List (List ℕ)
  pub starts : Starts (kept_interpreter calls) all start skipped rest

-- Lines of a store were played and led to an interpreter; or one of them stopped them; or no memory was found before.
abbrev pub ArePlayed : {A : Type 0} → (calls : ℕ) → (all : List (List ℕ)) → (A → Interpreter) → Result A KeptLineFault → Type 0
ArePlayed calls all interpreter (Ok a) =
    (from : IsPlayedFrom calls all) × NoneIsBad from.start from.rest × (interpreter a ≡ interpreter_after from.start from.rest)
ArePlayed calls all interpreter (Err NoMemory) = ⊤
ArePlayed calls all interpreter (Err fault) =
    (from : IsPlayedFrom calls all) × (left : Interpreter) × (stop : KeptLineFault) × StopsBy from.start left from.rest stop
    × (fault ≡ fault_behind from.skipped stop)

module _ {S W : Type 0} (m : StoreMeaning S W) where
  -- how a shell ends on a store that is open
  abbrev pub GoesOn : {F : Type 0} → StoreBeginning W → (now : StoreWriter S W) → (rest : Option (List ℕ))
      → Result ℕ (StoreShellFault F) → Type 0
  GoesOn {F = F} shell now rest (Ok count) = HasGoneOn m {F = F} shell now.store now.writer rest (Ok count)
  GoesOn shell now rest (Err (Shell fault)) = HasGoneOn m shell now.store now.writer rest (Err fault)
  GoesOn shell now rest (Err (Lines fault)) = IsUntouched shell.start now.writer shell.script rest × IsStopped m fault
  GoesOn shell now rest (Err (Unopened fault)) = IsUntouched shell.start now.writer shell.script rest
  GoesOn {F = F} shell now rest (Err (Unclosed fault)) =
      (before : S) × (count : ℕ) × HasGoneOn m {F = F} shell before now.writer rest (Ok count)
