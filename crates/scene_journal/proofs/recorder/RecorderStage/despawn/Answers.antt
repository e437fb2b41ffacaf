use Rattle.std.proofs.Common.{◌++◌, ◌∷◌, [], ap, subst, sym, ◌∙◌, Some}
use Rattle.scene_model.specs.Perform.{Despawn}
use Rattle.scene_world.specs.Room.{IsWider}
use Rattle.scene_world.proofs.Room.{wider_self}
use Rattle.scene_journal.specs.Recorder.{Recording, began, began_with}
use Rattle.scene_deltas.proofs.Commands.{despawn_leads}
use Rattle.scene_journal.proofs.Recorded.{same_ready, stays_ready, goes_ready, goes_back}
use Rattle.scene_journal.proofs.recorder.RecorderStage.despawn.Goals as goal

pub invariant_of-self-in_err-row : goal.invariant_of-self-in_err-row
invariant_of-self-in_err-row c =
    let w = c.self.inside.world in
    let v = c.despawn_row.new.self in (
      stays_ready w.room v.room c.self.inside.deltas.items c.reserve.new.self.items w.world v.world
          c.self.invariant.0 (subst (IsWider w.room) (sym c.despawn_row.ensures.room) (wider_self w.room)) c.in_err-row.ensures.back c.reserve.ensures.items,
      c.end.ensures v.world,
    )

pub invariant_of-self-2 : goal.invariant_of-self-2
invariant_of-self-2 c =
    let w = c.self.inside.world in
    let v = c.despawn_row.new.self in (
      goes_ready w.room v.room c.self.inside.deltas.items c.push_reserved.new.self.items w.world v.world (Despawn c.args.entity) (Some c.despawned.result)
          c.is_sound.ensures.valid (c.despawned.ensures w.world c.in_ok-row.ensures.row) (despawn_leads w.world v.world c.args.entity c.is_sound.ensures.valid c.in_ok-row.ensures.made)
          (c.push_reserved.ensures.items ∙ ap (λ xs. xs ++ c.despawned.result ∷ []) c.reserve.ensures.items) c.is_sound.ensures.held
          (subst (IsWider w.room) (sym c.despawn_row.ensures.room) (wider_self w.room)) c.self.invariant.0,
      c.end.ensures v.world,
    )

pub returns-clause-opening : goal.returns-clause-opening
returns-clause-opening c =
    let w = c.self.inside.world in
    let v = c.despawn_row.new.self in
    ap (λ u. Some (began_with c.self.inside.tick_before u)) (goes_back w.room v.room c.self.inside.deltas.items c.push_reserved.new.self.items w.world v.world (Despawn c.args.entity) (Some c.despawned.result)
    c.is_sound.ensures.valid (c.despawned.ensures w.world c.in_ok-row.ensures.row) (despawn_leads w.world v.world c.args.entity c.is_sound.ensures.valid c.in_ok-row.ensures.made)
    (c.push_reserved.ensures.items ∙ ap (λ xs. xs ++ c.despawned.result ∷ []) c.reserve.ensures.items))
    ∙ ap (λ (r : Recording). Some (began r)) c.self.view_is

pub invariant_of-self : goal.invariant_of-self
invariant_of-self c =
    let w = c.self.inside.world in (same_ready w.room c.self.inside.deltas.items c.reserve.new.self.items w.world c.self.invariant.0 c.reserve.ensures.items, c.end.ensures w.world)
