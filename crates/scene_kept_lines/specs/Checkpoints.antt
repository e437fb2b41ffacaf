-- Checkpoints: comments among kept lines, from which an interpreter goes on as if it had played all lines before them.
use Rattle.std.specs.Prelude.{◌≡◌, ◌≢◌, ◌⊎◌, ◌<◌, ◌^◌, ℕ, List, [], ◌∷◌, ◌++◌, Some, codes, decimal, length, map}
use Rattle.std.specs.List.{AllByRecursion}
use Rattle.std.specs.Str.Lines.{lines}
use Rattle.scene_undo.specs.declared.cursor.Cursor.{Cursor}
use Rattle.scene_interpreter.specs.declared.progress.Progress.{Progress}
use Rattle.scene_interpreter.specs.Interpreter.{Interpreter, lone_interpreter}
use Rattle.scene_interpreter.specs.Progress.{Resumes, progress_in}
use Rattle.scene_kept_lines.specs.Compacted.{LeadTo}
use Rattle.scene_kept_lines.specs.Dated.{IsComment}
use Rattle.scene_shell.specs.Kept.{IsWhole}
use Rattle.scene_shell.specs.Shell.{interpreter_after}
use Rattle.scene_kept_lines.specs.Replayed.{NoneIsBad}

-- the interpreter before the first line that a store has kept, which takes so many calls
abbrev pub kept_interpreter : ℕ → Interpreter
kept_interpreter calls = lone_interpreter 1048576 calls

-- comments, each a line
abbrev pub AreNotes : List ℕ → Type 0
AreNotes text = IsWhole text × AllByRecursion IsComment (lines text)

-- a line of a checkpoint, as a comment
abbrev pub marked : List ℕ → List ℕ
marked l = codes "# checkpoint: " ++ l

-- a cursor, as the comment that ends one says it
abbrev pub mark_text : Cursor → List ℕ
mark_text c = codes ", mark " ++ decimal c.rewinds ++ codes " " ++ decimal c.tick

-- that comment: how many lines it has, and how far the interpreter had come that they lead to
abbrev pub end_of : ℕ → Progress → List ℕ
end_of count x =
    codes "# checkpoint of lines " ++ decimal count ++ codes ", calls " ++ decimal x.calls
    ++ codes ", undos " ++ decimal x.rewinds ++ mark_text x.cursor

-- it says numbers of 64 bits, as the code's are
pub record IsSayable (count : ℕ) (x : Progress) : Type 0 where
  pub lines : count < 2 ^ 64
  pub calls : x.calls < 2 ^ 64
  pub rewinds : x.rewinds < 2 ^ 64
  pub mark : x.cursor.rewinds < 2 ^ 64
  pub tick : x.cursor.tick < 2 ^ 64

-- a line isn't such a comment
abbrev pub EndsNone : List ℕ → Type 0
EndsNone l = (count : ℕ) (x : Progress) → l ≢ end_of count x

-- The lines before these are a checkpoint: its lines as comments, and the comment that ends it
pub record Checkpoint (all rest : List (List ℕ)) : Type 0 where
  -- what stands before it
  pub front : List (List ℕ)
  pub ls : List (List ℕ)
  pub progress : Progress
  pub sayable : IsSayable (length ls) progress
  pub parted : all ≡ front ++ (map marked ls ++ end_of (length ls) progress ∷ rest)

-- Lines lead to where an interpreter is: none of them is bad, they lead to one with which it agrees, and it has come so far.
pub record IsLedTo (first p : Interpreter) (ls : List (List ℕ)) (x : Progress) : Type 0 where
  pub lead : LeadTo first ls p
  pub progress : progress_in p ≡ Some x

-- a checkpoint is honest where it is that of the interpreter to which all lines before it lead
abbrev pub IsHonest : Interpreter → {all rest : List (List ℕ)} → Checkpoint all rest → Type 0
IsHonest first c = IsLedTo first (interpreter_after first c.front) c.ls c.progress

-- all checkpoints among lines are
abbrev pub AllHonest : Interpreter → List (List ℕ) → Type 0
AllHonest first all = (rest : List (List ℕ)) (c : Checkpoint all rest) → IsHonest first c

-- an interpreter begins at a checkpoint: it is the one that the checkpoint's lines lead to, none of which is bad, and goes
-- on from where another had come
pub record BeginsAt (first : Interpreter) {all rest : List (List ℕ)} (c : Checkpoint all rest) (start : Interpreter) : Type 0 where
  pub good : NoneIsBad first c.ls
  pub resumed : Resumes c.progress (interpreter_after first c.ls) start

-- An interpreter is where the playing of lines begins, with so many of them behind it, and these before it: the first of
-- all, or one that begins at a checkpoint.
pub record Starts (first : Interpreter) (all : List (List ℕ)) (start : Interpreter) (skipped : ℕ) (rest : List (List ℕ)) : Type 0 where
  pub before : List (List ℕ)
  pub parted : all ≡ before ++ rest
  pub counted : skipped ≡ length before
  pub begins : ((before ≡ []) × (start ≡ first)) ⊎ ((c : Checkpoint all rest) × BeginsAt first c start)

-- the text of a checkpoint, by lines: these as comments, and the one that ends it
abbrev pub IsCheckpointText : (ls : List (List ℕ)) → Progress → List (List ℕ) → Type 0
IsCheckpointText ls x text = text ≡ map marked ls ++ end_of (length ls) x ∷ []

-- These lines are a checkpoint of an interpreter.
pub record IsCheckpointOf (first p : Interpreter) (text : List (List ℕ)) : Type 0 where
  pub ls : List (List ℕ)
  pub progress : Progress
  pub is : IsCheckpointText ls progress text
  pub led : IsLedTo first p ls progress
