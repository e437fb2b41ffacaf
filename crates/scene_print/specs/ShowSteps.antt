-- What the bodies below `show` find one by one. How a world prints doesn't rest on these words.
use Rattle.std.specs.Prelude.{ℕ, List, [], ◌∷◌, Option, Some, None, if◌then◌else◌}
use Rattle.scene_kinds.specs.declared.cell.Cell.{Cell}
use Rattle.scene_kinds.specs.KindSet.{KindSet, has_kind}
use Rattle.scene_kinds.specs.Schema.{Kinds, name_of}
use Rattle.scene_resources.specs.Resources.{NamedCells}
use Rattle.scene_json_forms.specs.NamedCells.{by_names}
use Rattle.scene_print.specs.Shown.{resource_text}

-- the name of a kind that a kind set has
abbrev pub name_in : Kinds → KindSet → ℕ → Option (List ℕ)
name_in kinds mask k = if has_kind mask k then name_of kinds k else None

-- a name that may be there, as a list
abbrev pub one_name : Option (List ℕ) → List (List ℕ)
one_name None = []
one_name (Some name) = name ∷ []

-- a resource that may be there
abbrev pub one_resource : List ℕ → Option Cell → List ℕ
one_resource name None = []
one_resource name (Some cell) = resource_text name cell

-- the resources of names
abbrev pub named_text : NamedCells → List (List ℕ) → List ℕ
named_text resources names = by_names one_resource resources names
