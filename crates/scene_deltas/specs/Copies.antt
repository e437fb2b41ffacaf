-- Which deltas bring what only memory can copy: a text.
use Rattle.std.specs.Prelude.{Bool, true, false, Option, None, Some, List, [], ◌∷◌, ◌++◌}
use Rattle.scene_kinds.specs.declared.cell.Cell.{Cell}
use Rattle.scene_table.specs.Plain.{has_text, is_text}
use Rattle.scene_deltas.specs.declared.delta.Delta.{Delta}
use Rattle.scene_deltas.specs.declared.delta.Delta.TheVariants.{Spawned, Despawned, Shifted, CellSet, Linked, ResourceSet}

-- the value of a cell is one, where there is a cell
abbrev pub any_text : Option Cell → Bool
any_text None = false
any_text (Some cell) = is_text cell.value

-- a delta that is taken back brings such
abbrev pub copies_back : Delta → Bool
copies_back (Spawned e cells fresh) = false
copies_back (Despawned e place cells link retired) = has_text cells
copies_back (Shifted e place kind cell inward) = is_text cell.value
copies_back (CellSet e kind before after) = is_text before.value
copies_back (Linked e before after) = false
copies_back (ResourceSet name before after) = any_text before

-- a delta that is made again brings such
abbrev pub copies_again : Delta → Bool
copies_again (Spawned e cells fresh) = has_text cells
copies_again (Despawned e place cells link retired) = false
copies_again (Shifted e place kind cell inward) = is_text cell.value
copies_again (CellSet e kind before after) = is_text after.value
copies_again (Linked e before after) = false
copies_again (ResourceSet name before after) = any_text after

-- copies, with that of a delta last where it has one
abbrev pub with_copy : Bool → Delta → List Delta → List Delta
with_copy true d copies = copies ++ d ∷ []
with_copy false d copies = copies
