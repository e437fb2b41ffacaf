-- Each command, where it is accepted, keeps a world on the way of its frame.
use Rattle.std.proofs.Common.{◌≡◌, ℕ, Bool, true, false, ◌&&◌, List, [], ◌∷◌, refl, ap, ◌∙◌, subst, None, Ok, if◌then◌else◌}
use Rattle.std.specs.Prelude.{Err, is_some}
use Rattle.std.proofs.lemmas.Bool.{and_parts}
use Rattle.scene_kinds.specs.declared.entity.Entity.{Entity}
use Rattle.scene_kinds.specs.declared.cell.Cell.{Cell}
use Rattle.scene_kinds.specs.declared.cells.Row.{Row}
use Rattle.scene_kinds.specs.declared.fault.Fault.TheVariants.{HasChildren}
use Rattle.scene_kinds.specs.declared.value.Value.{Value}
use Rattle.scene_kinds.specs.Answers.{Outcome}
use Rattle.scene_kinds.specs.Cells.{cell_of, without_cell}
use Rattle.scene_kinds.specs.Map as map
use Rattle.scene_kinds.specs.Schema.{is_good_name}
use Rattle.scene_alloc.specs.Slots.{SlotState, take_of}
use Rattle.scene_links.specs.Forest.{link_of, unlink_of, post}
use Rattle.scene_resources.specs.Resources.{NamedCells, take_of as taken_name}
use Rattle.scene_table.proofs.Standing.{each_added, each_removed}
use Rattle.scene_model.specs.World.{World, is_live}
use Rattle.scene_model.specs.Commands.{in_world, spawn, spawn_fault, new_cells, after_take, despawn, after_despawn, despawn_each, despawn_recursive, despawn_recursive_if_alive, insert, insert_fault, remove, remove_fault, set_parent, with_children, remove_parent, put_resource, with_resources, remove_resource}
use Rattle.scene_model.specs.Perform.{Command, Spawn, Despawn, DespawnRecursive, DespawnRecursiveIfAlive, Insert, Remove, SetParent, RemoveParent, PutResource, RemoveResource, answering, perform}
use Rattle.scene_model.proofs.DespawnKeeps.{gone_valid}
use Rattle.scene_model.proofs.LinkKeeps.{linked_valid, unlinked_valid}
use Rattle.scene_model.proofs.MoveKeeps.{insert_made, remove_made}
use Rattle.scene_model.proofs.NewCells.{insert_tests}
use Rattle.scene_model.proofs.Outcomes.{no_fault, not_ok, same_world, with_row_of}
use Rattle.scene_model.proofs.Parts.{asked, allowed, lifted_part, done_part}
use Rattle.scene_model.proofs.SpawnKeeps.{with_spawned, spawned_valid}
use Rattle.scene_editor.specs.GoesOn.{bare, IsRowFrom, IsOnTheWay}
use Rattle.scene_editor.proofs.Leaves.{Leaves, given_leaves, then_leaves}
use Rattle.scene_editor.proofs.RowsFrom.{without_from, new_cells_from, moved_rows, inserted_rows}

module _ (before : World) where
  -- ---- rows that come and go

  -- the world after a spawn, by what the slots gave
  taken_stays : (w v : World) (given : List (ℕ × Value)) (e : Entity) (o : Outcome Entity SlotState) → take_of w.slots ≡ o
      → spawn_fault w.schema given ≡ None → after_take w (new_cells w.tick given) o ≡ Ok (e, v) → IsOnTheWay before w → IsOnTheWay before v
  taken_stays w v given e (Ok p) took none made way =
      let cells : List (ℕ × Cell) = new_cells w.tick given in
      let row : Row = record { entity = p.0; cells = cells } in
      subst (IsOnTheWay before) (same_world p.0 e (with_spawned w p.1 row) v made).1
      (record {
        sound = spawned_valid (bare w) given cells p.1 p.0 way.sound none refl took;
        later = way.later;
        rows = each_added (IsRowFrom before) w.tables row way.rows (new_cells_from before p.0 w.tick given way.later);
      })
  taken_stays w v given e (Err r) took none made way = absurd (not_ok (e, v) r made)

  spawn_stays : (w v : World) (given : List (ℕ × Value)) (e : Entity) → IsOnTheWay before w → spawn w given ≡ Ok (e, v) → IsOnTheWay before v
  spawn_stays w v given e way is =
      let parts = no_fault (spawn_fault w.schema given) _ (e, v) is in taken_stays w v given e (take_of w.slots) refl parts.0 parts.1 way

  despawn_stays : (w v : World) (e : Entity) → IsOnTheWay before w → despawn w e ≡ Ok (tt, v) → IsOnTheWay before v
  despawn_stays w v e way is =
      with_row_of (IsOnTheWay before v) w e _ (tt, v) is (λ h r at same made.
      let parts = asked (is_some (map.get w.children e)) HasChildren (Ok (tt, after_despawn w h e)) (tt, v) made in
      subst (IsOnTheWay before) (ap (after_despawn w h) same ∙ (same_world tt tt (after_despawn w h e) v parts.1).1)
      (record {
        sound = gone_valid (bare w) h r way.sound at (ap (λ (x : Entity). is_some (map.get w.children x)) same ∙ parts.0);
        later = way.later;
        rows = each_removed (IsRowFrom before) w.tables h r at way.rows;
      }))

  each_leaves : (es : List Entity) (w : World) → IsOnTheWay before w → Leaves (IsOnTheWay before) (despawn_each es w)
  each_leaves [] w way = given_leaves (IsOnTheWay before) tt w way
  each_leaves (e ∷ es) w way =
      then_leaves (IsOnTheWay before) (despawn w e) (λ a v. despawn_each es v) (λ a v is. despawn_stays w v e way is) (λ a v so. each_leaves es v so)

  recursive_stays : (w v : World) (e : Entity) → IsOnTheWay before w → despawn_recursive w e ≡ Ok (tt, v) → IsOnTheWay before v
  recursive_stays w v e way is =
      with_row_of (IsOnTheWay before v) w e _ (tt, v) is (λ h row at same made. each_leaves (post w.children e) w way tt v made)

  if_alive_stays : (w v : World) (e : Entity) → IsOnTheWay before w → despawn_recursive_if_alive w e ≡ Ok (tt, v) → IsOnTheWay before v
  if_alive_stays w v e way is = from (is_live w e) is
    where
      from : (b : Bool) → (if b then despawn_recursive w e else Ok (tt, w)) ≡ Ok (tt, v) → IsOnTheWay before v
      from true h = recursive_stays w v e way h
      from false h = subst (IsOnTheWay before) (same_world tt tt w v h).1 way

  -- ---- rows that are written, or move

  insert_stays : (w v : World) (e : Entity) (kind : ℕ) (value : Value) → IsOnTheWay before w → insert w e kind value ≡ Ok (tt, v)
      → IsOnTheWay before v
  insert_stays w v e kind value way is =
      with_row_of (IsOnTheWay before v) w e _ (tt, v) is (λ h r at same made.
      let parts = no_fault (insert_fault w.schema kind value) _ (tt, v) made in
      let fits = (insert_tests w.schema kind value parts.0).1 in
      subst (IsOnTheWay before) (same_world tt tt _ v parts.1).1
      (record {
        sound = insert_made (bare w) h r kind value (cell_of r.cells kind) refl way.sound at fits;
        later = way.later;
        rows = inserted_rows before w.tick w.tables h r kind value (cell_of r.cells kind) refl way.later at way.rows;
      }))

  remove_stays : (w v : World) (e : Entity) (kind : ℕ) → IsOnTheWay before w → remove w e kind ≡ Ok (tt, v) → IsOnTheWay before v
  remove_stays w v e kind way is =
      with_row_of (IsOnTheWay before v) w e _ (tt, v) is (λ h r at same made.
      let parts = no_fault (remove_fault w.schema r.cells kind) _ (tt, v) made in
      subst (IsOnTheWay before) (same_world tt tt _ v parts.1).1
      (record {
        sound = remove_made (bare w) h r kind way.sound at;
        later = way.later;
        rows = moved_rows before w.tables h r (without_cell r.cells kind) at way.rows
            (without_from before r.entity r.cells kind (way.rows h r at));
      }))

  -- ---- links and resources, which change no row

  set_parent_stays : (w v : World) (child parent : Entity) → IsOnTheWay before w → set_parent w child parent ≡ Ok (tt, v) → IsOnTheWay before v
  set_parent_stays w v c p way is =
      let live = allowed (is_live w c && is_live w p) _ _ (tt, v) is in
      let both = and_parts (is_live w c) (is_live w p) live.0 in
      let made = lifted_part (link_of w.children c p) (with_children w) tt v live.1 in
      subst (IsOnTheWay before) made.1.1
      (record { sound = linked_valid (bare w) c p made.0 way.sound both.0 both.1 made.1.0; later = way.later; rows = way.rows })

  remove_parent_stays : (w v : World) (child : Entity) → IsOnTheWay before w → remove_parent w child ≡ Ok (tt, v) → IsOnTheWay before v
  remove_parent_stays w v c way is =
      let live = allowed (is_live w c) _ _ (tt, v) is in
      let told = done_part (in_world (unlink_of w.children c) (with_children w)) v live.1 in
      let made = lifted_part (unlink_of w.children c) (with_children w) told.0 v told.1 in
      subst (IsOnTheWay before) made.1.1
      (record { sound = unlinked_valid (bare w) c told.0 made.0 way.sound made.1.0; later = way.later; rows = way.rows })

  -- other resources
  resources_stay : (w : World) (named : NamedCells) → IsOnTheWay before w → IsOnTheWay before (with_resources w named)
  resources_stay w named way = record { sound = way.sound; later = way.later; rows = way.rows }

  put_resource_stays : (w v : World) (name : List ℕ) (value : Value) → IsOnTheWay before w → put_resource w name value ≡ Ok (tt, v)
      → IsOnTheWay before v
  put_resource_stays w v name value way is =
      let good = allowed (is_good_name name) _ _ (tt, v) is in
      subst (IsOnTheWay before) (same_world tt tt _ v good.1).1 (resources_stay w _ way)

  remove_resource_stays : (w v : World) (name : List ℕ) → IsOnTheWay before w → remove_resource w name ≡ Ok (tt, v) → IsOnTheWay before v
  remove_resource_stays w v name way is =
      let told = done_part (in_world (taken_name w.resources name) (with_resources w)) v is in
      let made = lifted_part (taken_name w.resources name) (with_resources w) told.0 v told.1 in
      subst (IsOnTheWay before) made.1.1 (resources_stay w made.0 way)

  -- ---- all of them

  -- what an outcome answered before its answer became another one
  answered : {A B : Type 0} (f : A → B) (o : Outcome A World) (b : B) (v : World) → answering f o ≡ Ok (b, v) → (a : A) × (o ≡ Ok (a, v))
  answered f (Ok p) b v h = (p.0, λ i. Ok (p.0, (same_world (f p.0) b p.1 v h).1 i))
  answered f (Err r) b v h = absurd (not_ok (b, v) r h)

  pub command_stays : (w : World) (c : Command) → IsOnTheWay before w → Leaves (IsOnTheWay before) (perform w c)
  command_stays w (Spawn cells) way a v is = let k = answered _ (spawn w cells) a v is in spawn_stays w v cells k.0 way k.1
  command_stays w (Despawn e) way a v is = despawn_stays w v e way (answered _ (despawn w e) a v is).1
  command_stays w (DespawnRecursive e) way a v is = recursive_stays w v e way (answered _ (despawn_recursive w e) a v is).1
  command_stays w (DespawnRecursiveIfAlive e) way a v is = if_alive_stays w v e way (answered _ (despawn_recursive_if_alive w e) a v is).1
  command_stays w (Insert e kind value) way a v is = insert_stays w v e kind value way (answered _ (insert w e kind value) a v is).1
  command_stays w (Remove e kind) way a v is = remove_stays w v e kind way (answered _ (remove w e kind) a v is).1
  command_stays w (SetParent c p) way a v is = set_parent_stays w v c p way (answered _ (set_parent w c p) a v is).1
  command_stays w (RemoveParent c) way a v is = remove_parent_stays w v c way (answered _ (remove_parent w c) a v is).1
  command_stays w (PutResource name value) way a v is = put_resource_stays w v name value way (answered _ (put_resource w name value) a v is).1
  command_stays w (RemoveResource name) way a v is = remove_resource_stays w v name way (answered _ (remove_resource w name) a v is).1
