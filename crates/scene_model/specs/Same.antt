-- Whether two parts of a world are equal, as tests that compute.
use Rattle.std.specs.Prelude.{ℕ, Bool, true, false, ◌&&◌, List, nat_eq}
use Rattle.std.specs.Cmp.Lexicographic.{pointwise}
use Rattle.std.specs.Ordering.{int_eq}
use Rattle.std.specs.Str.{bytes_eq}
use Rattle.scene_kinds.specs.declared.entity.Entity.{Entity}
use Rattle.scene_kinds.specs.declared.cell.Cell.{Cell}
use Rattle.scene_kinds.specs.declared.cells.Row.{Row}
use Rattle.scene_kinds.specs.declared.value.Value.{Value}
use Rattle.scene_kinds.specs.declared.value.Value.TheVariants.{Tag, Int, Vec3, Text, Link}
use Rattle.scene_kinds.specs.Entity.{is_same}
use Rattle.scene_table.specs.declared.home.Home.{Home}

-- values
abbrev pub same_value : Value → Value → Bool
same_value Tag Tag = true
same_value (Int a) (Int b) = int_eq a b
same_value (Vec3 a) (Vec3 b) = pointwise int_eq a b
same_value (Text a) (Text b) = bytes_eq a b
same_value (Link a) (Link b) = is_same a b
same_value a b = false

-- cells, by both ticks and by value
abbrev pub same_cell : Cell → Cell → Bool
same_cell a b = nat_eq a.added b.added && nat_eq a.changed b.changed && same_value a.value b.value

-- cells with their kinds
abbrev pub same_cells : List (ℕ × Cell) → List (ℕ × Cell) → Bool
same_cells = pointwise (λ a b. nat_eq a.0 b.0 && same_cell a.1 b.1)

-- rows
abbrev pub same_row : Row → Row → Bool
same_row a b = is_same a.entity b.entity && same_cells a.cells b.cells

-- homes
abbrev pub same_home : Home → Home → Bool
same_home a b = nat_eq a.mask b.mask && nat_eq a.place b.place

-- links, each a parent with a place
abbrev pub same_link : Entity × ℕ → Entity × ℕ → Bool
same_link a b = is_same a.0 b.0 && nat_eq a.1 b.1
