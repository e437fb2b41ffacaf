-- How values, cells, rows and refusals print.
use Rattle.std.specs.Prelude.{ℕ, ℤ, List, [], ◌∷◌, ◌++◌, Option, Some, None, codes, decimal, map, unwrap_or}
use Rattle.std.specs.List.{join_with_byte}
use Rattle.std.specs.Fmt.{signed_decimal}
use Rattle.scene_json.specs.Texts.{json_text}
use Rattle.scene_kinds.specs.declared.value.Value.{Value}
use Rattle.scene_kinds.specs.declared.value.Value.TheVariants as value
use Rattle.scene_kinds.specs.declared.cell.Cell.{Cell}
use Rattle.scene_kinds.specs.declared.cells.Row.{Row}
use Rattle.scene_kinds.specs.declared.entity.Entity.{Entity}
use Rattle.scene_kinds.specs.Entity.{entity_text}
use Rattle.scene_kinds.specs.declared.refusal.Place.{Place}
use Rattle.scene_kinds.specs.declared.refusal.Refusal.{Refusal}
use Rattle.scene_kinds.specs.Fault.{fault_text}
use Rattle.scene_kinds.specs.Schema.{Kinds, name_of}

-- whole numbers with commas (44) between them
abbrev pub vec3_text : List ℤ → List ℕ
vec3_text v = join_with_byte 44 (map signed_decimal v)

-- a value; a tag has none
abbrev pub value_text : Value → List ℕ
value_text value.Tag = []
value_text (value.Int z) = signed_decimal z
value_text (value.Vec3 v) = vec3_text v
value_text (value.Text bytes) = json_text bytes
value_text (value.Link e) = entity_text e.index e.generation

-- what stands behind a name: nothing for a tag, else = and the value
abbrev pub assigned_text : Value → List ℕ
assigned_text value.Tag = []
assigned_text v = codes "=" ++ value_text v

-- the ticks at which a cell was added and last changed
abbrev pub ticks_text : ℕ → ℕ → List ℕ
ticks_text added changed = codes "@" ++ (decimal added ++ (codes "/" ++ decimal changed))

-- NAME=VALUE@ADDED/CHANGED, and NAME@ADDED/CHANGED of a tag
abbrev pub cell_text : List ℕ → Cell → List ℕ
cell_text name cell = name ++ (assigned_text cell.value ++ ticks_text cell.added cell.changed)

-- the name of a kind; one that isn't there has none
abbrev pub kind_text : Kinds → ℕ → List ℕ
kind_text kinds kind = unwrap_or (name_of kinds kind) []

-- a cell of a row: after a space (32), with the name of its kind
abbrev pub row_cell_text : Kinds → ℕ → Cell → List ℕ
row_cell_text kinds kind cell = 32 ∷ cell_text (kind_text kinds kind) cell

-- the cells of a row, one after another
abbrev pub cells_text : Kinds → List (ℕ × Cell) → List ℕ
cells_text kinds [] = []
cells_text kinds (c ∷ cs) = row_cell_text kinds c.0 c.1 ++ cells_text kinds cs

-- what a row begins with
abbrev pub row_head : Entity → List ℕ
row_head entity = codes "row " ++ entity_text entity.index entity.generation

-- the entity of a row, and then its cells
abbrev pub row_text : Kinds → Row → List ℕ
row_text kinds row = row_head row.entity ++ cells_text kinds row.cells

-- what stands behind a fault: nothing where it has no place, else  at PHASE.QUEUE.COMMAND
abbrev pub dotted_place : Option Place → List ℕ
dotted_place None = []
dotted_place (Some p) = codes " at " ++ (decimal p.phase ++ (codes "." ++ (decimal p.queue ++ (codes "." ++ decimal p.command))))

-- a refusal: the fault by number and name with its fields, and its place where it has one
abbrev pub refusal_line : Refusal → List ℕ
refusal_line r = fault_text r.fault ++ dotted_place r.place
