-- Each command, where it is accepted, keeps a valid world valid.
use Rattle.std.proofs.Common.{◌≡◌, Ok, Bool, true, false, subst, if◌then◌else◌}
use Rattle.std.specs.Prelude.{Err}
use Rattle.scene_kinds.specs.Answers.{Outcome}
use Rattle.scene_kinds.specs.declared.entity.Entity.{Entity}
use Rattle.scene_model.specs.World.{World, is_live}
use Rattle.scene_model.specs.Valid.{IsValid}
use Rattle.scene_model.specs.Commands.{spawn, despawn, despawn_recursive, despawn_recursive_if_alive, insert, remove, set_parent, remove_parent, put_resource, remove_resource}
use Rattle.scene_model.specs.Perform.{Spawn, Despawn, DespawnRecursive, DespawnRecursiveIfAlive, Insert, Remove, SetParent, RemoveParent, PutResource, RemoveResource, answering}
use Rattle.scene_model.specs.Laws.{CommandsKeep}
use Rattle.scene_model.proofs.Outcomes.{not_ok, same_world}
use Rattle.scene_model.proofs.SpawnKeeps.{spawn_keeps}
use Rattle.scene_model.proofs.DespawnKeeps.{despawn_keeps}
use Rattle.scene_model.proofs.DespawnEach.{recursive_keeps}
use Rattle.scene_model.proofs.MoveKeeps.{insert_keeps, remove_keeps}
use Rattle.scene_model.proofs.LinkKeeps.{set_parent_keeps, remove_parent_keeps}
use Rattle.scene_model.proofs.ResourceKeeps.{put_resource_keeps, remove_resource_keeps}

-- what an outcome answered before its answer became another one
answered : {A B W : Type 0} (f : A → B) (o : Outcome A W) (b : B) (v : W) → answering f o ≡ Ok (b, v) → (a : A) × (o ≡ Ok (a, v))
answered f (Ok p) b v h = (p.0, λ i. Ok (p.0, (same_world (f p.0) b p.1 v h).1 i))
answered f (Err r) b v h = absurd (not_ok (b, v) r h)

-- a recursive despawn that passes over a dead entity
if_alive_keeps : (w v : World) (e : Entity) → IsValid w → despawn_recursive_if_alive w e ≡ Ok (tt, v) → IsValid v
if_alive_keeps w v e valid is = from (is_live w e) is
  where
    from : (b : Bool) → (if b then despawn_recursive w e else Ok (tt, w)) ≡ Ok (tt, v) → IsValid v
    from true h = recursive_keeps w v e valid h
    from false h = subst IsValid (same_world tt tt w v h).1 valid

pub commands_keep : CommandsKeep
commands_keep w v (Spawn cells) a valid held is = let k = answered _ (spawn w cells) a v is in spawn_keeps w v cells k.0 valid k.1
commands_keep w v (Despawn e) a valid held is = despawn_keeps w v e valid (answered _ (despawn w e) a v is).1
commands_keep w v (DespawnRecursive e) a valid held is = recursive_keeps w v e valid (answered _ (despawn_recursive w e) a v is).1
commands_keep w v (DespawnRecursiveIfAlive e) a valid held is = if_alive_keeps w v e valid (answered _ (despawn_recursive_if_alive w e) a v is).1
commands_keep w v (Insert e kind value) a valid held is = insert_keeps w v e kind value valid (answered _ (insert w e kind value) a v is).1
commands_keep w v (Remove e kind) a valid held is = remove_keeps w v e kind valid (answered _ (remove w e kind) a v is).1
commands_keep w v (SetParent c p) a valid held is = set_parent_keeps w v c p valid (answered _ (set_parent w c p) a v is).1
commands_keep w v (RemoveParent c) a valid held is = remove_parent_keeps w v c valid (answered _ (remove_parent w c) a v is).1
commands_keep w v (PutResource name value) a valid held is = put_resource_keeps w v name value valid held (answered _ (put_resource w name value) a v is).1
commands_keep w v (RemoveResource name) a valid held is = remove_resource_keeps w v name valid (answered _ (remove_resource w name) a v is).1
