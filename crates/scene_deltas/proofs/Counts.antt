-- How many deltas a command makes.
use Rattle.std.proofs.Common.{◌≡◌, ℕ, ◌+◌, ◌≤◌, Bool, true, false, List, [], ◌∷◌, length, sum, arith, Option, Some, None, if◌then◌else◌}
use Rattle.std.proofs.lemmas.List.{length-append}
use Rattle.scene_kinds.specs.declared.entity.Entity.{Entity}
use Rattle.scene_kinds.specs.declared.cell.Cell.{Cell}
use Rattle.scene_kinds.specs.declared.cells.Row.{Row}
use Rattle.scene_kinds.specs.Cells.{cell_of}
use Rattle.scene_alloc.specs.Slots.{take_of}
use Rattle.scene_links.specs.Forest.{post}
use Rattle.scene_table.specs.declared.home.Home.{Home}
use Rattle.scene_model.specs.World.{World, is_live, row_of}
use Rattle.scene_model.specs.Commands.{new_cells}
use Rattle.scene_model.specs.Perform.{Spawn, Despawn, DespawnRecursive, DespawnRecursiveIfAlive, Insert, Remove, SetParent, RemoveParent, PutResource, RemoveResource}
use Rattle.scene_model.specs.Raw.{taken_entity, cut_row}
use Rattle.scene_deltas.specs.declared.delta.Delta.{Delta}
use Rattle.scene_deltas.specs.Notes.{of_row, of_cell, spawned, despawned, despawned_each}
use Rattle.scene_deltas.specs.CommandLaws.{descendants, CommandsMakeFewDeltas}

few_of_row : (o : Option (Home × Row)) (note : ℕ → List (ℕ × Cell) → List Delta) → ((place : ℕ) (cells : List (ℕ × Cell)) → length (note place cells) ≤ 1) → length (of_row o note) ≤ 1
few_of_row None note few = omega arith
few_of_row (Some p) note few = few p.0.place p.1.cells

few_of_cell : (o : Option Cell) (note : Cell → Delta) → length (of_cell o note) ≤ 1
few_of_cell None note = omega arith
few_of_cell (Some c) note = omega arith

few_spawned : (w : World) (cells : List (ℕ × Cell)) (o : Option Entity) → length (spawned w cells o) ≤ 1
few_spawned w cells None = omega arith
few_spawned w cells (Some e) = omega arith

few_despawned : (w : World) (e : Entity) → length (despawned w e) ≤ 1
few_despawned w e = few_of_row (row_of w e) _ (λ place cells. omega arith)

few_each : (es : List Entity) (w : World) → length (despawned_each es w) ≤ length es
few_each [] w = omega arith
few_each (e ∷ es) w =
    let sum : length (despawned_each (e ∷ es) w) ≡ length (despawned w e) + length (despawned_each es (cut_row w e)) = length-append (despawned w e) (despawned_each es (cut_row w e)) in
    let first = few_despawned w e in
    let rest = few_each es (cut_row w e) in
    omega (arith, sum, first, rest)

few_recursive : (w : World) (e : Entity) → length (despawned_each (post w.children e) w) ≤ 1 + sum (length (descendants w.children e) ∷ [])
few_recursive w e =
    let all : length (post w.children e) ≡ length (descendants w.children e) + 1 = length-append (descendants w.children e) (e ∷ []) in
    let few = few_each (post w.children e) w in
    omega (arith, all, few)

pub commands_make_few : CommandsMakeFewDeltas
commands_make_few w (Spawn cells) = few_spawned w (new_cells w.tick cells) (taken_entity (take_of w.slots))
commands_make_few w (Despawn e) = few_despawned w e
commands_make_few w (DespawnRecursive e) = few_recursive w e
commands_make_few w (DespawnRecursiveIfAlive e) = from (is_live w e)
  where
    from : (b : Bool) → length (if b then despawned_each (post w.children e) w else []) ≤ 1 + sum (if b then length (descendants w.children e) ∷ [] else [])
    from true = few_recursive w e
    from false = omega arith
commands_make_few w (Insert e kind value) = few_of_row (row_of w e) _ (λ place cells. omega arith)
commands_make_few w (Remove e kind) = few_of_row (row_of w e) _ (λ place cells. few_of_cell (cell_of cells kind) _)
commands_make_few w (SetParent c p) = omega arith
commands_make_few w (RemoveParent c) = omega arith
commands_make_few w (PutResource name value) = omega arith
commands_make_few w (RemoveResource name) = omega arith
