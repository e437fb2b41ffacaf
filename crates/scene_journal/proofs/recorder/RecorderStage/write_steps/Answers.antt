use Rattle.std.proofs.Common.{◌≡◌, ap, subst, sym, ◌∙◌, Some}
use Rattle.scene_world.specs.Room.{IsWider}
use Rattle.scene_world.proofs.Room.{wider_self}
use Rattle.scene_deltas.specs.Deltas.{back_all}
use Rattle.scene_deltas.specs.Ready.{AreReady}
use Rattle.scene_journal.specs.Recorder.{Recording, began, began_with}
use Rattle.scene_journal.proofs.Recorded.{stays_ready}
use Rattle.scene_journal.proofs.TurnRecords.{by_answer, recorded_back, recorded_ready}
use Rattle.scene_journal.proofs.recorder.RecorderStage.write_steps.Goals as goal

pub invariant_of-self : goal.invariant_of-self
invariant_of-self g c =
    let w = c.self.inside.world in
    let v = c.write_steps.new.world in
    let ds = c.self.inside.deltas.items in
    let es = c.write_steps.new.deltas.items in
    let wide = subst (IsWider w.room) (sym c.write_steps.ensures.room) (wider_self w.room) in (
      by_answer (∥ AreReady v.room es v.world ∥₁) ((v.world ≡ w.world) × (es ≡ ds)) c.write_steps.result
          (λ done. recorded_ready w.room w.world c.args.mask c.args.steps.now ds v.world es (c.write_steps.ensures.fit done) v.room c.write_steps.ensures.room c.self.invariant.0)
          (λ unfit. let same = c.write_steps.ensures.unfit unfit in stays_ready w.room v.room ds es w.world v.world c.self.invariant.0 wide same.1 same.2)
          c.write_steps.ensures.full (λ same. stays_ready w.room v.room ds es w.world v.world c.self.invariant.0 wide same.0 same.1),
      c.write_steps.ensures.kept,
    )

pub returns-clause-opening : goal.returns-clause-opening
returns-clause-opening g c =
    let w = c.self.inside.world in
    let v = c.write_steps.new.world in
    let ds = c.self.inside.deltas.items in
    let es = c.write_steps.new.deltas.items in
    let back : back_all es v.world ≡ back_all ds w.world =
    by_answer (back_all es v.world ≡ back_all ds w.world) ((v.world ≡ w.world) × (es ≡ ds)) c.write_steps.result
    (λ done. recorded_back w.room w.world c.args.mask c.args.steps.now ds v.world es (c.write_steps.ensures.fit done))
    (λ unfit. let same = c.write_steps.ensures.unfit unfit in λ i. back_all (same.2 i) (same.1 i))
    c.write_steps.ensures.full (λ same. λ i. back_all (same.1 i) (same.0 i)) in
    ap (λ u. Some (began_with c.self.inside.tick_before u)) back ∙ ap (λ (r : Recording). Some (began r)) c.self.view_is
