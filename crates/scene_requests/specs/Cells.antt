-- A cell of a kind of a number, as the code reads it. Nothing that is promised is said with these words.
use Rattle.std.specs.Prelude.{ℕ, List, [], ◌∷◌, Option, Some, None, Result, Ok}
use Rattle.serde_json.specs.Data.{Members}
use Rattle.serde_json.specs.Find.{get_member}
use Rattle.scene_kinds.specs.declared.shape.Shape.{Shape}
use Rattle.scene_kinds.specs.declared.value.Value.{Value}
use Rattle.scene_json_forms.specs.declared.fault.FileFault.{FileFault}
use Rattle.scene_requests.specs.Walk.{cell_where}

-- the cell of a kind, where it is there and its name is a key
abbrev pub cell_numbered : List ℕ → Members → ℕ → Option (List ℕ × Shape) → Result (List (ℕ × Value)) FileFault
cell_numbered path ms kind None = Ok []
cell_numbered path ms kind (Some k) = cell_where path kind k (get_member k.0 ms)

-- a cell that may be missing, as a list
abbrev pub listed : Option (ℕ × Value) → List (ℕ × Value)
listed None = []
listed (Some cell) = cell ∷ []
