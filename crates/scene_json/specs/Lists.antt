-- The elements of a list.
use Rattle.std.specs.Prelude.{List, [], ◌∷◌}
use Rattle.serde_json.specs.Data.{Data, Items, no_items, item}

-- the values in a list, first to last
abbrev pub elements : Items → List Data
elements no_items = []
elements (item d ds) = d ∷ elements ds
