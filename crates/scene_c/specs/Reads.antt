-- What the calls of C read of a scene that stays as it is.
use Rattle.std.specs.Prelude.{◌≡◌, ◌⊎◌, ℕ, ◌+◌, Bool, false, ◌&&◌, not, if◌then◌else◌, List, [], ◌∷◌, Option, Some, None, is_some, pos, Result, Ok, Err, filter, drop, length, map, nat_eq, unwrap_or}
use Rattle.std.specs.Option.{option_and_then, option_map}
use Rattle.scene_kinds.specs.declared.cell.Cell.{Cell}
use Rattle.scene_kinds.specs.declared.cells.Row.{Row}
use Rattle.scene_kinds.specs.declared.entity.Entity.{Entity}
use Rattle.scene_kinds.specs.declared.refusal.Refusal.{Refusal}
use Rattle.scene_kinds.specs.declared.shape.Shape.{Shape}
use Rattle.scene_kinds.specs.declared.value.Value.{Value}
use Rattle.scene_kinds.specs.declared.value.Value.TheVariants.{Tag}
use Rattle.scene_kinds.specs.KindSet.{KindSet, has_kind}
use Rattle.scene_kinds.specs.Schema.{Kinds, number_of, shape_of}
use Rattle.scene_kinds.specs.Shape.{same_shape}
use Rattle.scene_links.specs.Forest.{parent_of}
use Rattle.scene_model.specs.World.{World, component_of, is_live, kind_sets, rows_of}
use Rattle.scene_pass.specs.declared.cell_name.CellName.{CellName}
use Rattle.scene_resources.specs.Resources.{cell_of}
use Rattle.scene_session.specs.Owner.{whole_at}
use Rattle.scene_session.specs.Whole.{Whole}
use Rattle.scene_systems.specs.declared.filter.Filter.{Filter}
use Rattle.scene_systems.specs.Filter.{is_match}
use Rattle.scene_table.specs.Tables.{rows_at}
use Rattle.scene_table.specs.Table.{cells_of_kind}
use Rattle.scene_undo.specs.Cursor.{since}
use Rattle.scene_interpreter.specs.Interpreter.{IsSetting, interpreter_kinds, interpreter_of, owner_of}
use Rattle.scene_c.specs.Arguments.{cursor_of, entity_of, shape_number, shown_cell, shown_name, text_of}
use Rattle.scene_c.specs.HeldScene.{seen}
use Rattle.scene_c.specs.Memory.{copied}
use Rattle.scene_c.specs.OpenScene.{numbers_of, world_of}
use Rattle.scene_c.specs.Shown.{text_value}
use Rattle.scene_c.specs.declared.held_scene.HeldScene.{HeldScene}
use Rattle.scene_c.specs.declared.open_scene.OpenScene.{OpenScene}
use Rattle.scene_c.specs.declared.shown.SceneMoment.{SceneMoment}
use Rattle.scene_c.specs.declared.shown.SceneTable.{SceneTable}
use Rattle.scene_c.specs.declared.shown.SceneTicks.{SceneTicks}
use Rattle.scene_c.specs.declared.value.SceneCell.{SceneCell}
use Rattle.scene_c.specs.declared.value.SceneEntity.{SceneEntity}
use Rattle.scene_c.specs.declared.value.SceneName.{SceneName}

-- the machine with its records
abbrev pub whole_now : OpenScene → Whole
whole_now d = whole_at (owner_of (interpreter_of d.interpreter))

-- the kinds, also in the setup
abbrev pub kinds_now : OpenScene → Kinds
kinds_now d = interpreter_kinds (interpreter_of d.interpreter)

-- ---- answers

-- what is told; or, only in the setup, nothing is, and what was to be filled stays
abbrev pub Tells : (kept : Type 0) → (ℕ → Type 0) → OpenScene → ℕ → Type 0
Tells kept told d code = told code ⊎ ((code ≡ 4) × (kept × IsSetting (interpreter_of d.interpreter)))

-- the same of the scene that a handle holds; of null nothing is told
abbrev pub TellsOf : (kept : Type 0) → (OpenScene → ℕ → Type 0) → Option HeldScene → ℕ → Type 0
TellsOf kept told None code = (code ≡ 2) × kept
TellsOf kept told (Some h) code = Tells kept (told (seen h)) (seen h) code

-- what is told in the setup too
abbrev pub TellsAlways : (kept : Type 0) → (OpenScene → ℕ → Type 0) → Option HeldScene → ℕ → Type 0
TellsAlways kept told None code = (code ≡ 2) × kept
TellsAlways kept told (Some h) code = told (seen h) code

-- a value is told
abbrev pub IsTold : {A : Type 0} → A → A → ℕ → Type 0
IsTold value new code = (code ≡ 0) × (new ≡ value)

-- a list is told from a place on, as far as there is room, and how long it is
abbrev pub Lists : {A : Type 0} → List A → ℕ → (old new : List A) → (total : ℕ) → ℕ → Type 0
Lists items from old new total code = (code ≡ 0) × ((total ≡ length items) × (new ≡ copied (drop from items) old))

-- a list, where there is one; else nothing is told
abbrev pub ListsIf : {A : Type 0} → (kept : Type 0) → Option (List A) → ℕ → (old new : List A) → (total : ℕ) → ℕ → Type 0
ListsIf kept None from old new total code = (code ≡ 4) × kept
ListsIf kept (Some items) from old new total code = Lists items from old new total code

-- what is told, or no memory was found and what was to be filled stays
abbrev pub OrNoMemory : (kept : Type 0) → (ℕ → Type 0) → ℕ → Type 0
OrNoMemory kept told code = told code ⊎ ((code ≡ 1) × kept)

-- a list, or that there is none any more, which is refused
abbrev pub ListsSince : {A : Type 0} → Option (List A) → ℕ → (old new : List A) → (old_total total : ℕ) → ℕ → Type 0
ListsSince None from old new old_total total code = (code ≡ 3) × ((new ≡ old) × (total ≡ old_total))
ListsSince (Some items) from old new old_total total code = Lists items from old new total code

-- ---- entities

-- whether an entity is alive and has no parent
abbrev pub is_root : World → Entity → Bool
is_root w e = is_live w e && not (is_some (parent_of w.children e))

-- the newest entity of each index, from an index on
abbrev pub slot_entities : ℕ → List ℕ → List Entity
slot_entities index [] = []
slot_entities index (generation ∷ generations) = record { index = index; generation = generation } ∷ slot_entities (index + 1) generations

-- the entities that are alive and have no parent, by their index
abbrev pub roots_in : World → List Entity
roots_in w = filter (is_root w) (slot_entities 0 w.slots.generations)

-- the kind set of an entity that is alive, and else that it isn't
abbrev pub TellsMask : Option KindSet → (old new : ℕ) → ℕ → Type 0
TellsMask None old new code = (code ≡ 3) × (new ≡ old)
TellsMask (Some mask) old new code = IsTold mask new code

-- ---- rows

-- the rows of a kind set
abbrev pub rows_in : World → KindSet → List Row
rows_in w mask = unwrap_or (rows_of w mask) []

-- their entities
abbrev pub entities_in : World → KindSet → List Entity
entities_in w mask = map (λ row. row.entity) (rows_in w mask)

-- the kind sets that a filter matches and that have rows, ascending, each with the count of its rows
abbrev pub tables_in : World → Filter → List SceneTable
tables_in w f = map (λ mask. record { mask = mask; rows = length (rows_at w.tables mask) }) (filter (is_match f) (kind_sets w))

-- they are listed, or no memory was found
abbrev pub TellsTables : List SceneTable → ℕ → (old new : List SceneTable) → (old_total total : ℕ) → ℕ → Type 0
TellsTables tables from old new old_total total code =
    Lists tables from old new total code ⊎ ((code ≡ 1) × ((new ≡ old) × (total ≡ old_total)))

-- the cells of a kind in the rows of a kind set that has it, row by row
abbrev pub column_in : World → KindSet → Option ℕ → Option (List (Option Cell))
column_in w mask None = None
column_in w mask (Some kind) = if has_kind mask kind then Some (cells_of_kind (rows_in w mask) kind) else None

-- whether a kind that there is has a shape
abbrev pub is_of_shape : Shape → Option Shape → Bool
is_of_shape shape None = false
is_of_shape shape (Some other) = same_shape other shape

-- the value of a cell
abbrev pub value_told : Option Cell → Value
value_told None = Tag
value_told (Some cell) = cell.value

-- the values of a kind of a shape
abbrev pub values_in : World → KindSet → Option ℕ → Shape → Option (List Value)
values_in w mask kind shape = if is_of_shape shape (option_and_then (shape_of w.schema) kind)
    then option_map (map value_told) (column_in w mask kind) else None

-- the tick of a cell
abbrev pub tick_told : (Cell → ℕ) → Option Cell → ℕ
tick_told tick None = 0
tick_told tick (Some cell) = tick cell

-- the ticks of cells: for 0 those at which they were added, for 1 those at which they were last changed
abbrev pub ticks_told : ℕ → List (Option Cell) → Option (List ℕ)
ticks_told which cells = if nat_eq which 0 then Some (map (tick_told (λ cell. cell.added)) cells)
    else if nat_eq which 1 then Some (map (tick_told (λ cell. cell.changed)) cells) else None

-- the ticks of a kind
abbrev pub ticks_in : World → KindSet → Option ℕ → ℕ → Option (List ℕ)
ticks_in w mask kind which = option_and_then (ticks_told which) (column_in w mask kind)

-- ---- kinds

-- a kind by its name
abbrev pub kind_named : Kinds → List ℕ → Option ℕ
kind_named kinds name = option_and_then (number_of kinds) (text_of name)

-- the name and the shape of a kind that there is
abbrev pub TellsKind : Option (List ℕ × Shape) → (old_shape new_shape from : ℕ)
    → (old new : List ℕ) → (old_total total : ℕ) → ℕ → Type 0
TellsKind None old_shape new_shape from old new old_total total code =
    (code ≡ 4) × ((new_shape ≡ old_shape) × ((new ≡ old) × (total ≡ old_total)))
TellsKind (Some kind) old_shape new_shape from old new old_total total code =
    (new_shape ≡ shape_number kind.1) × Lists kind.0 from old new total code

-- the number of a kind, where there is one
abbrev pub TellsNumber : Option ℕ → (old new : ℕ) → ℕ → Type 0
TellsNumber None old new code = (code ≡ 4) × (new ≡ old)
TellsNumber (Some kind) old new code = IsTold kind new code

-- ---- components

-- a component that there is, with its ticks
abbrev pub TellsCell : ℕ → Result Cell Refusal → (old new : SceneCell) → (old_ticks new_ticks : SceneTicks) → ℕ → Type 0
TellsCell kind (Err r) old new old_ticks new_ticks code = (code ≡ 3) × ((new ≡ old) × (new_ticks ≡ old_ticks))
TellsCell kind (Ok cell) old new old_ticks new_ticks code =
    (code ≡ 0) × ((new ≡ shown_cell kind (numbers_of cell.value)) × (new_ticks ≡ record { added = cell.added; changed = cell.changed }))

-- the text that a component is
abbrev pub text_at : Result Cell Refusal → Option (List ℕ)
text_at (Err r) = None
text_at (Ok cell) = text_value cell.value

-- it is told from a place on, or there is none
abbrev pub TellsText : Option (List ℕ) → ℕ → (old new : List ℕ) → (old_total total : ℕ) → ℕ → Type 0
TellsText None from old new old_total total code = (code ≡ 3) × ((new ≡ old) × (total ≡ old_total))
TellsText (Some text) from old new old_total total code = Lists text from old new total code

-- of the scene that a handle holds; no component has a kind of more than 8 bits
abbrev pub TellsCellOf : Option ℕ → Entity → Option HeldScene
    → (old new : SceneCell) → (old_ticks new_ticks : SceneTicks) → ℕ → Type 0
TellsCellOf None e d old new old_ticks new_ticks code = (code ≡ 4) × ((new ≡ old) × (new_ticks ≡ old_ticks))
TellsCellOf (Some kind) e d old new old_ticks new_ticks code =
    TellsOf ((new ≡ old) × (new_ticks ≡ old_ticks)) (λ o. TellsCell kind (component_of (world_of o) e kind) old new old_ticks new_ticks) d code

-- a text of an entity is told from one of its bytes on, where the number names a kind
abbrev pub TellsTextOf : Option ℕ → Entity → Option HeldScene → ℕ → (old new : List ℕ) → (old_total total : ℕ) → ℕ → Type 0
TellsTextOf None e d from old new old_total total code = (code ≡ 4) × ((new ≡ old) × (total ≡ old_total))
TellsTextOf (Some kind) e d from old new old_total total code =
    TellsOf ((new ≡ old) × (total ≡ old_total))
    (λ o. TellsText (text_at (component_of (world_of o) e kind)) from old new old_total total) d code

-- ---- resources

-- the resource of a name; no other bytes than a text name one
abbrev pub resource_in : World → List ℕ → Option Cell
resource_in w name = option_and_then (cell_of w.resources) (text_of name)

-- a resource that there is, with its ticks; its kind is told as 0
abbrev pub TellsHeld : Option Cell → (old new : SceneCell) → (old_ticks new_ticks : SceneTicks) → ℕ → Type 0
TellsHeld None old new old_ticks new_ticks code = (code ≡ 3) × ((new ≡ old) × (new_ticks ≡ old_ticks))
TellsHeld (Some cell) old new old_ticks new_ticks code =
    (code ≡ 0) × ((new ≡ shown_cell 0 (numbers_of cell.value)) × (new_ticks ≡ record { added = cell.added; changed = cell.changed }))

-- the text that a resource is
abbrev pub text_held : Option Cell → Option (List ℕ)
text_held None = None
text_held (Some cell) = text_value cell.value

-- ---- one kind of many entities

-- a component as C sees it; one that isn't there has a shape of its own
abbrev pub cell_or_absent : ℕ → Result Cell Refusal → SceneCell
cell_or_absent kind (Ok cell) = shown_cell kind (numbers_of cell.value)
cell_or_absent kind (Err r) = record { kind = kind; shape = 5; x = pos 0; y = pos 0; z = pos 0 }

-- as many as there is room for
abbrev pub IsGathered : List SceneCell → (old new : List SceneCell) → ℕ → Type 0
IsGathered cells old new code = (code ≡ 0) × (new ≡ copied cells old)

-- of the scene that a handle holds; no component has a kind of more than 8 bits
abbrev pub TellsGathered : Option ℕ → List SceneEntity → Option HeldScene → (old new : List SceneCell) → ℕ → Type 0
TellsGathered None entities d old new code = (code ≡ 4) × (new ≡ old)
TellsGathered (Some kind) entities d old new code =
    TellsOf (new ≡ old) (λ o. IsGathered (map (λ e. cell_or_absent kind (component_of (world_of o) (entity_of e) kind)) entities) old new) d code

-- ---- what was written since a moment

-- the cells that are listed from a tick on; none any more after an undo
abbrev pub names_from : (ℕ → List CellName) → Result ℕ Refusal → Option (List CellName)
names_from listed (Err r) = None
names_from listed (Ok tick) = Some (listed tick)

-- the cells that a query lists since a moment
abbrev pub names_since : (World → Filter → ℕ → List CellName) → Whole → SceneMoment → Filter → Option (List CellName)
names_since listed w m f = names_from (listed w.machine.now f) (since (cursor_of m) w.machine)

-- as C sees them
abbrev pub shown_names : Option (List CellName) → Option (List SceneName)
shown_names = option_map (map shown_name)
