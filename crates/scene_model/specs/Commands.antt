-- The nine commands, and raising the tick, as functions of whole worlds: the first refusal, or the answer with the
-- world after.
use Rattle.std.specs.Prelude.{ℕ, ◌+◌, List, [], ◌∷◌, Bool, false, not, ◌||◌, ◌&&◌, Option, Some, None, Ok, Err, is_some, nat_eq, if◌then◌else◌}
use Rattle.std.specs.List.{list_any}
use Rattle.scene_kinds.specs.declared.entity.Entity.{Entity}
use Rattle.scene_kinds.specs.declared.cell.Cell.{Cell}
use Rattle.scene_kinds.specs.declared.cells.Row.{Row}
use Rattle.scene_kinds.specs.declared.value.Value.{Value}
use Rattle.scene_kinds.specs.declared.fault.Fault.{Fault}
use Rattle.scene_kinds.specs.declared.fault.Fault.TheVariants.{NoSuchKind, DuplicateKind, WrongShape, NoSuchEntity, HasChildren, NotPresent, TickFull, BadName}
use Rattle.scene_kinds.specs.Answers.{Outcome, refuse}
use Rattle.scene_kinds.specs.Cells.{new_cell, put_over, cell_of, with_cell, without_cell}
use Rattle.scene_kinds.specs.Map as map
use Rattle.scene_kinds.specs.Schema.{Kinds, fits_kind, is_good_name}
use Rattle.scene_alloc.specs.Slots.{SlotState, take_of, release_of}
use Rattle.scene_table.specs.Table.{row_with_cell}
use Rattle.scene_links.specs.Forest.{Forest, cut, link_of, unlink_of, post}
use Rattle.scene_resources.specs.Resources.{NamedCells, put_of, take_of as taken_name}
use Rattle.scene_table.specs.declared.home.Home.{Home}
use Rattle.scene_model.specs.World.{World, is_unknown, is_live, row_of}
use Rattle.scene_table.specs.Tables.{Tables, with_row, without_row, with_row_at}

-- a refusal where there is a fault, or else the rest
abbrev pub unless : {A W : Type 0} → Option Fault → Outcome A W → Outcome A W
unless None rest = rest
unless (Some f) rest = refuse f

-- one call after another: the first refusal ends them
abbrev pub and_then : {A B W : Type 0} → Outcome A W → (A → W → Outcome B W) → Outcome B W
and_then (Ok p) rest = rest p.0 p.1
and_then (Err r) rest = Err r

-- what a part of a world answers, as an answer of the world
abbrev pub in_world : {A P : Type 0} → Outcome A P → (P → World) → Outcome A World
in_world (Ok p) into = Ok (p.0, into p.1)
in_world (Err r) into = Err r

-- an outcome without its answer
abbrev pub without_answer : {A W : Type 0} → Outcome A W → Outcome (Unit {0}) W
without_answer (Ok p) = Ok (tt, p.1)
without_answer (Err r) = Err r

-- what is done with the row of a live entity
abbrev pub with_live : {A : Type 0} → Option (Home × Row) → (Home → Row → Outcome A World) → Outcome A World
with_live None rest = refuse NoSuchEntity
with_live (Some p) rest = rest p.0 p.1

-- Raising the tick.
abbrev pub highest_tick : ℕ
highest_tick = 18446744073709551615

-- the tick goes up by one, unless it is the highest
abbrev pub raise_tick : World → Outcome (Unit {0}) World
raise_tick w = if nat_eq w.tick highest_tick then refuse TickFull else Ok (tt, record w { tick = w.tick + 1 })

-- Spawn: a kind that is given twice.
abbrev pub any_twice : List (ℕ × Value) → Bool
any_twice [] = false
any_twice (c ∷ cs) = list_any (λ d. nat_eq c.0 d.0) cs || any_twice cs

-- each refusal is tried over all cells before the next one
abbrev pub spawn_fault : Kinds → List (ℕ × Value) → Option Fault
spawn_fault schema cells =
    if list_any (λ c. is_unknown schema c.0) cells then Some NoSuchKind
    else if any_twice cells then Some DuplicateKind
    else if list_any (λ c. not (fits_kind schema c.1 c.0)) cells then Some WrongShape
    else None

-- the cells of a new row, ascending by kind
abbrev pub new_cells : ℕ → List (ℕ × Value) → List (ℕ × Cell)
new_cells tick [] = []
new_cells tick (c ∷ cs) = with_cell (new_cells tick cs) c.0 (new_cell tick c.1)

-- a new row for the entity that the slots gave, or their refusal
abbrev pub after_take : World → List (ℕ × Cell) → Outcome Entity SlotState → Outcome Entity World
after_take w cells (Ok p) = Ok (p.0, record w { slots = p.1; tables = with_row w.tables (record { entity = p.0; cells = cells }) })
after_take w cells (Err r) = Err r

-- the refusals of the cells come before that of the slots
abbrev pub spawn : World → List (ℕ × Value) → Outcome Entity World
spawn w cells = unless (spawn_fault w.schema cells) (after_take w (new_cells w.tick cells) (take_of w.slots))

-- Despawn: the row leaves its list, the slot is released, and the entity leaves its parent's list.
abbrev pub after_despawn : World → Home → Entity → World
after_despawn w h e = record w { slots = release_of w.slots e; tables = without_row w.tables h; children = cut w.children e }

-- an entity with children is refused
abbrev pub despawn : World → Entity → Outcome (Unit {0}) World
despawn w e = with_live (row_of w e) (λ h row. if is_some (map.get w.children e) then refuse HasChildren else Ok (tt, after_despawn w h e))

-- Recursive despawn: the descendants in post-order, the list being made before the first of them goes.
abbrev pub despawn_each : List Entity → World → Outcome (Unit {0}) World
despawn_each [] w = Ok (tt, w)
despawn_each (e ∷ es) w = and_then (despawn w e) (λ a v. despawn_each es v)

-- the entity and all below it
abbrev pub despawn_recursive : World → Entity → Outcome (Unit {0}) World
despawn_recursive w e = with_live (row_of w e) (λ h row. despawn_each (post w.children e) w)

-- the same of an entity that lives; a dead one is passed over
abbrev pub despawn_recursive_if_alive : World → Entity → Outcome (Unit {0}) World
despawn_recursive_if_alive w e = if is_live w e then despawn_recursive w e else Ok (tt, w)

-- a row with other cells leaves its list, and goes last in the list of its new kind set
abbrev pub after_move : Tables → Home → Row → List (ℕ × Cell) → Tables
after_move tables h row cells = with_row (without_row tables h) (record { entity = row.entity; cells = cells })

-- Insert: a kind that is there is written in its place, and keeps its added tick; another one moves the row.
abbrev pub after_insert : ℕ → Tables → Home → Row → ℕ → Value → Option Cell → Tables
after_insert tick tables h row kind value None = after_move tables h row (with_cell row.cells kind (new_cell tick value))
after_insert tick tables h row kind value (Some c) = with_row_at tables h (row_with_cell row kind (put_over (Some c) value tick))

-- the refusals of an insert, in their order
abbrev pub insert_fault : Kinds → ℕ → Value → Option Fault
insert_fault schema kind value =
    if is_unknown schema kind then Some NoSuchKind
    else if not (fits_kind schema value kind) then Some WrongShape
    else None

-- the cell is written, or the row moves with it
abbrev pub insert : World → Entity → ℕ → Value → Outcome (Unit {0}) World
insert w e kind value = with_live (row_of w e) (λ h row. unless (insert_fault w.schema kind value)
    (Ok (tt, record w { tables = after_insert w.tick w.tables h row kind value (cell_of row.cells kind) })))

-- Remove: the row moves, without the kind.
abbrev pub remove_fault : Kinds → List (ℕ × Cell) → ℕ → Option Fault
remove_fault schema cells kind =
    if is_unknown schema kind then Some NoSuchKind
    else if not (is_some (cell_of cells kind)) then Some NotPresent
    else None

-- the row moves without the cell
abbrev pub remove : World → Entity → ℕ → Outcome (Unit {0}) World
remove w e kind = with_live (row_of w e) (λ h row. unless (remove_fault w.schema row.cells kind)
    (Ok (tt, record w { tables = after_move w.tables h row (without_cell row.cells kind) })))

-- Links change no row and no tick.
abbrev pub with_children : World → Forest → World
with_children w forest = record w { children = forest }

-- both have to live; then the links refuse or take it
abbrev pub set_parent : World → Entity → Entity → Outcome (Unit {0}) World
set_parent w child parent =
    if is_live w child && is_live w parent then in_world (link_of w.children child parent) (with_children w) else refuse NoSuchEntity

-- the child has to live, and to have a parent
abbrev pub remove_parent : World → Entity → Outcome (Unit {0}) World
remove_parent w child = if is_live w child then without_answer (in_world (unlink_of w.children child) (with_children w)) else refuse NoSuchEntity

-- Resources.
abbrev pub with_resources : World → NamedCells → World
with_resources w named = record w { resources = named }

-- the name has to be good
abbrev pub put_resource : World → List ℕ → Value → Outcome (Unit {0}) World
put_resource w name value = if is_good_name name then Ok (tt, with_resources w (put_of w.resources name value w.tick)) else refuse BadName

-- the name has to have a value
abbrev pub remove_resource : World → List ℕ → Outcome (Unit {0}) World
remove_resource w name = without_answer (in_world (taken_name w.resources name) (with_resources w))
