-- What the numbers of a column, or of a part of it, are after so many turns.
use Rattle.std.specs.Prelude.{List}
use Rattle.scene_kinds.specs.declared.value.Value.{Value}
use Rattle.scene_table.specs.declared.grown.Grown.{Grown}
use Rattle.scene_table.specs.declared.grown.Grown.TheVariants.{Ints, Vecs}
use Rattle.scene_table.specs.Runs.{ints_after, vecs_after}

-- the values
abbrev pub values_in : Grown → List Value
values_in (Ints base by turns) = ints_after base.now by turns
values_in (Vecs base by turns) = vecs_after base.now by.now turns
