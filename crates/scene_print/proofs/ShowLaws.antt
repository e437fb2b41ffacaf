-- The names of a kind set, one kind after another; and the row of an entity.
use Rattle.std.proofs.Common.{rules, ◌≡◌, ◌<◌, ◌+◌, ◌++◌, ℕ, List, [], drop, length}
use Rattle.std.proofs.lemmas.List.{append_assoc, drop_more}
use Rattle.std.proofs.lemmas.Option.{slice_get-get_or}
use Rattle.scene_kinds.specs.Schema.{Kinds}
use Rattle.scene_kinds.specs.Lists.{whole}
use Rattle.scene_kinds.specs.declared.shape.Shape.TheVariants as shape
use Rattle.scene_print.specs.Shown.{names_from}
use Rattle.scene_print.specs.ShowSteps.{name_in, one_name}

-- the names from a kind on: its own where it is in the set, and those from the next on
pub names_step : (kinds : Kinds) (k mask : ℕ) → k < length kinds → names_from (drop k kinds) k mask ≡ one_name (name_in kinds mask k) ++ names_from (drop (k + 1) kinds) (k + 1) mask
names_step kinds k mask lt =
    let first = drop_more kinds k ([], shape.Tag) lt in
    let found = slice_get-get_or kinds k ([], shape.Tag) lt in
    search (rules, first, found)

-- a part that is moved from what is to come to what is there
pub moved : {X : Type 0} (there more to_come rest all after : List X) → there ++ to_come ≡ all → to_come ≡ more ++ rest → after ≡ there ++ more → after ++ rest ≡ all
moved there more to_come rest all after whole step next = cc (append_assoc there more rest, whole, step, next)
