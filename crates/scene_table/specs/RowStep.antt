-- What a step that writes reads and writes.
use Rattle.std.specs.Prelude.{ℕ, Bool, List, nat_eq}
use Rattle.std.specs.List.{list_any}
use Rattle.scene_table.specs.declared.row_step.RowStep.{RowStep}
use Rattle.scene_table.specs.declared.row_step.RowStep.TheVariants.{AddVec, AddInt}

-- the kind that a step writes
abbrev pub target : RowStep → ℕ
target (AddVec to by) = to
target (AddInt to by) = to

-- a kind is written by one of the steps
abbrev pub is_written : List RowStep → ℕ → Bool
is_written steps kind = list_any (λ s. nat_eq (target s) kind) steps
