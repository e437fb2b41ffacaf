-- Checkpoints, as they are found among the lines of a text.
use Rattle.std.specs.Prelude.{◌≡◌, ◌≢◌, ◌⊎◌, ℕ, ◌+◌, List, ◌∷◌, ◌++◌, length, map}
use Rattle.std.specs.Str.Lines.{lines}
use Rattle.scene_kept_lines.specs.Checkpoints.{end_of, marked}
use Rattle.scene_shell.specs.Kept.{ended}
use Rattle.scene_kept_lines.specs.declared.checkpoints.Checkpoint.{Checkpoint as Code}
use Rattle.scene_kept_lines.specs.declared.checkpoints.Scan.{Scan}

-- a checkpoint stands among these lines
pub record IsFound (all : List (List ℕ)) (c : Code) : Type 0 where
  pub front : List (List ℕ)
  pub ls : List (List ℕ)
  pub parted : all ≡ front ++ lines c.block.now
  pub block : lines c.block.now ≡ map marked ls ++ end_of (length ls) c.progress ∷ lines c.rest.now
  pub counted : c.count ≡ length ls
  pub skipped : c.skipped ≡ length front + (length ls + 1)

-- lines were looked at so far
pub record IsScanned (all : List (List ℕ)) (s : Scan) : Type 0 where
  pub front : List (List ℕ)
  pub ls : List (List ℕ)
  pub parted : all ≡ front ++ lines s.run.now
  pub run : lines s.run.now ≡ map marked ls ++ lines s.rest.now
  pub counted : s.count ≡ length ls
  pub number : s.number ≡ length front + length ls

-- the line of a checkpoint that a comment is, is taken behind others; nothing is where it isn't one
abbrev pub TakesLine : (line old new : List ℕ) → Type 0
TakesLine line old new =
    ((said : List ℕ) × (line ≡ marked said) × (new ≡ old ++ ended said)) ⊎ (((said : List ℕ) → line ≢ marked said) × (new ≡ old))
