-- What the calls of C read of the records that an editor keeps of its frames (docs/JOURNAL.md, "Records").
use Rattle.std.specs.Prelude.{◌≡◌, ℕ, if◌then◌else◌, List, [], Option, Some, None, pos, map, nat_eq, option_map, slice_get, unwrap_or}
use Rattle.std.specs.Option.{option_and_then}
use Rattle.scene_kinds.specs.declared.cell.Cell.{Cell}
use Rattle.scene_kinds.specs.declared.entity.Entity.{Entity}
use Rattle.scene_kinds.specs.declared.value.Value.{Value}
use Rattle.scene_kinds.specs.Cells.{cell_of}
use Rattle.scene_deltas.specs.declared.delta.Delta.{Delta}
use Rattle.scene_deltas.specs.declared.delta.Delta.TheVariants.{Spawned, Despawned, Shifted, CellSet, Linked, ResourceSet}
use Rattle.scene_journal.specs.Records.{Record}
use Rattle.scene_session.specs.declared.way.Way.{Way}
use Rattle.scene_session.specs.declared.way.Way.TheVariants.{Back, On}
use Rattle.scene_session.specs.Whole.{Whole}
use Rattle.scene_c.specs.Arguments.{shown_cell, shown_entity}
use Rattle.scene_c.specs.Joined.{IsUntold, TellsParts}
use Rattle.scene_c.specs.OpenScene.{numbers_of}
use Rattle.scene_c.specs.Reads.{Lists, TellsOf, whole_now}
use Rattle.scene_c.specs.Shown.{no_entity, text_value}
use Rattle.scene_c.specs.declared.delta.SceneDelta.{SceneDelta}
use Rattle.scene_c.specs.declared.held_scene.HeldScene.{HeldScene}
use Rattle.scene_c.specs.declared.value.SceneCell.{SceneCell}
use Rattle.scene_c.specs.declared.value.SceneEntity.{SceneEntity}

-- ---- deltas

-- a component of a kind, by its numbers
abbrev pub cell_seen : ℕ → Cell → SceneCell
cell_seen kind cell = shown_cell kind (numbers_of cell.value)

-- a component that isn't there
abbrev pub no_cell : SceneCell
no_cell = record { kind = 0; shape = 5; x = pos 0; y = pos 0; z = pos 0 }

-- the parent of a link, and of no link none
abbrev pub parent_by : Option (Entity × ℕ) → SceneEntity
parent_by None = no_entity
parent_by (Some link) = shown_entity link.0

-- and its place among the children
abbrev pub place_by : Option (Entity × ℕ) → ℕ
place_by None = 0
place_by (Some link) = link.1

-- the component of a resource, which has no kind
abbrev pub held_seen : Option Cell → SceneCell
held_seen None = no_cell
held_seen (Some cell) = cell_seen 0 cell

-- what a delta did to an entity: which of the six it is, the place of a row, the component before and after it, and the
-- links
abbrev pub delta_by : ℕ → SceneEntity → ℕ → (before after : SceneCell) → (link_before link_after : Option (Entity × ℕ)) → SceneDelta
delta_by change e place before after link_before link_after = record {
  change = change;
  entity = e;
  place = place;
  before = before;
  after = after;
  parent_before = parent_by link_before;
  place_before = place_by link_before;
  parent_after = parent_by link_after;
  place_after = place_by link_after;
}

-- a delta as C sees it: the cells of a row that came or went, and texts, are told apart
abbrev pub shown_delta : Delta → SceneDelta
shown_delta (Spawned e cells fresh) = delta_by 0 (shown_entity e) 0 no_cell no_cell None None
shown_delta (Despawned e place cells link retired) = delta_by 1 (shown_entity e) place no_cell no_cell link None
shown_delta (Shifted e place kind cell inward) =
    delta_by 2 (shown_entity e) place (if inward then no_cell else cell_seen kind cell)
    (if inward then cell_seen kind cell else no_cell) None None
shown_delta (CellSet e kind before after) = delta_by 3 (shown_entity e) 0 (cell_seen kind before) (cell_seen kind after) None None
shown_delta (Linked e before after) = delta_by 4 (shown_entity e) 0 no_cell no_cell before after
shown_delta (ResourceSet name before after) = delta_by 5 no_entity 0 (held_seen before) (held_seen after) None None

-- ---- what is told of a delta apart

-- the cells of the row that it brought or took away; of no row none
abbrev pub row_in : Delta → List (ℕ × Cell)
row_in (Spawned e cells fresh) = cells
row_in (Despawned e place cells link retired) = cells
row_in d = []

-- as C sees them
abbrev pub row_seen : Delta → List SceneCell
row_seen d = map (λ c. cell_seen c.0 c.1) (row_in d)

-- the value of a cell, where there is one
abbrev pub value_held : Option Cell → Option Value
value_held cell = option_map (λ c. c.value) cell

-- the value before it: in a row the one of a kind
abbrev pub value_before : ℕ → Delta → Option Value
value_before kind (Despawned e place cells link retired) = value_held (cell_of cells kind)
value_before kind (Shifted e place other cell inward) = if inward then None else Some cell.value
value_before kind (CellSet e other before after) = Some before.value
value_before kind (ResourceSet name before after) = value_held before
value_before kind d = None

-- and after it
abbrev pub value_after : ℕ → Delta → Option Value
value_after kind (Spawned e cells fresh) = value_held (cell_of cells kind)
value_after kind (Shifted e place other cell inward) = if inward then Some cell.value else None
value_after kind (CellSet e other before after) = Some after.value
value_after kind (ResourceSet name before after) = value_held after
value_after kind d = None

-- the name of its resource
abbrev pub name_in : Delta → Option (List ℕ)
name_in (ResourceSet name before after) = Some name
name_in d = None

-- a text of it: 0 is the one before it, 1 the one after it, and 2 the name
abbrev pub text_told : (which kind : ℕ) → Delta → Option (List ℕ)
text_told which kind d = if nat_eq which 0 then option_and_then text_value (value_before kind d)
    else if nat_eq which 1 then option_and_then text_value (value_after kind d)
    else if nat_eq which 2 then name_in d
    else None

-- and empty where it has none
abbrev pub text_seen : (which kind : ℕ) → Delta → List ℕ
text_seen which kind d = unwrap_or (text_told which kind d) []

-- ---- steps

-- the records along a way: of the frames that can be undone, the newest first, or of those that can be redone, the next
-- one first
abbrev pub records_on : Way → Whole → List Record
records_on Back w = w.past
records_on On w = w.future

-- the tick before a step and its deltas from one on, as far as there is room, and how many there are; or no such step
-- is there, which is refused
abbrev pub TellsStep : Option Record → ℕ → (old_tick tick : ℕ) → (old new : List SceneDelta) → (old_total total : ℕ) → ℕ → Type 0
TellsStep None from old_tick tick old new old_total total code = (code ≡ 3) × ((tick ≡ old_tick) × ((new ≡ old) × (total ≡ old_total)))
TellsStep (Some r) from old_tick tick old new old_total total code =
    (tick ≡ r.tick_before) × Lists (map shown_delta r.deltas) from old new total code

-- of the scene that a handle holds, where the number names a way
abbrev pub TellsStepOf : Option Way → (place from : ℕ) → Option HeldScene
    → (old_tick tick : ℕ) → (old new : List SceneDelta) → (old_total total : ℕ) → ℕ → Type 0
TellsStepOf None place from d old_tick tick old new old_total total code =
    (code ≡ 4) × ((tick ≡ old_tick) × ((new ≡ old) × (total ≡ old_total)))
TellsStepOf (Some way) place from d old_tick tick old new old_total total code =
    TellsOf ((tick ≡ old_tick) × ((new ≡ old) × (total ≡ old_total)))
    (λ o. TellsStep (slice_get (records_on way (whole_now o)) place) from old_tick tick old new old_total total) d code

-- a way by its number
abbrev pub way_by : ℕ → Option Way
way_by n = if nat_eq n 0 then Some Back else if nat_eq n 1 then Some On else None

-- what each delta of a step has, of the scene that a handle holds
abbrev pub TellsPartsOf : {A : Type 0} → (Delta → List A) → Option Way → (place from : ℕ) → Option HeldScene
    → (old_ends ends : List ℕ) → (old new : List A) → (old_told told old_total total : ℕ) → ℕ → Type 0
TellsPartsOf part None place from d old_ends ends old new old_told told old_total total code =
    (code ≡ 4) × IsUntold old_ends ends old new old_told told old_total total
TellsPartsOf part (Some way) place from d old_ends ends old new old_told told old_total total code =
    TellsOf (IsUntold old_ends ends old new old_told told old_total total)
    (λ o. TellsParts part (slice_get (records_on way (whole_now o)) place) from old_ends ends old new old_told told old_total total) d code

-- where a number names a kind; else nothing is told
abbrev pub TellsTextsOf : (which : ℕ) → Option ℕ → Option Way → (place from : ℕ) → Option HeldScene
    → (old_ends ends old new : List ℕ) → (old_told told old_total total : ℕ) → ℕ → Type 0
TellsTextsOf which None way place from d old_ends ends old new old_told told old_total total code =
    (code ≡ 4) × IsUntold old_ends ends old new old_told told old_total total
TellsTextsOf which (Some kind) way place from d old_ends ends old new old_told told old_total total code =
    TellsPartsOf (text_seen which kind) way place from d old_ends ends old new old_told told old_total total code
