use Rattle.std.proofs.Common.{◌≡◌, ◌+◌, ◌∙◌, true, ap, arith, rules, subst, sym}
use Rattle.std.proofs.lemmas.Bool.Decides.{nat_tests}
use Rattle.scene_model.specs.World.{World}
use Rattle.scene_model.specs.Can.{can_set_tick}
use Rattle.scene_deltas.specs.Ready.{AreReady}
use Rattle.scene_deltas.specs.Deltas.{back_all}
use Rattle.scene_deltas.proofs.ComeBack.{back_all_keeps_tick}
use Rattle.scene_deltas.proofs.Turns.{ready_fits_back}
use Rattle.scene_journal.specs.Newest.{Covers}
use Rattle.scene_journal.proofs.Covers.{covers_at}
use Rattle.scene_journal.specs.Faults.{IsLastUnfit, Names}
use Rattle.scene_journal.proofs.SomeDeltas.{fault_of_delta}
use Rattle.scene_journal.proofs.record.FrameRecord.undo_checked_with.Goals as goal

pub returns-in_err-undo_fitting-clause-refused : goal.returns-in_err-undo_fitting-clause-refused
returns-in_err-undo_fitting-clause-refused c =
    let w = c.args.draft.now.world in
    let r = c.args.self.now in
    let is = c.tick-tick.ensures.tick in
    let before = c.tick_before-before.ensures in
    let some = c.if-tick-eq0.false in
    let right = c.if-tick-before.false in
    let tick : w.tick ≡ r.tick_before + 1 = grind (arith, nat_tests) in
    let named = fault_of_delta r w c.in_err-undo_fitting.field-0.0 tick (subst (λ ds. Names (IsLastUnfit ds w) c.in_err-undo_fitting.field-0.0) c.deltas-2.ensures c.in_err-undo_fitting.ensures.refused) in
    search (named, rules)

pub can_set_tick-requires-clause-covered : goal.can_set_tick-requires-clause-covered
can_set_tick-requires-clause-covered c =
    let w = c.args.draft.now.world in
    subst (Covers c.take_back.new.self) (sym (c.in_ok-undo_fitting.ensures.done ∙ ap (λ ds. back_all ds w) (c.deltas-2.ensures ∙ sym c.deltas-3.ensures)))
    (c.in_ok-take_back.ensures.back w c.requires)

pub can_set_tick-requires-clause-one_before : goal.can_set_tick-requires-clause-one_before
can_set_tick-requires-clause-one_before c =
    let w = c.args.draft.now.world in
    let is = c.tick-tick.ensures.tick in
    let some = c.if-tick-eq0.false in
    let right = c.if-tick-before.false in
    let tick : w.tick ≡ c.tick_before-before.result + 1 = grind (arith, nat_tests) in
    ap (λ (u : World). u.tick) c.in_ok-undo_fitting.ensures.done ∙ back_all_keeps_tick c.deltas-2.result.now.items w ∙ tick

pub returns-clause-covers : goal.returns-clause-covers
returns-clause-covers c =
    let w = c.args.draft.now.world in
    let v = c.undo_fitting.new.draft.world in
    let m = c.take_back.new.self in
    let covered : Covers m v = subst (Covers m) (sym (c.in_ok-undo_fitting.ensures.done ∙ ap (λ ds. back_all ds w) (c.deltas-2.ensures ∙ sym c.deltas-3.ensures)))
    (c.in_ok-take_back.ensures.back w c.requires) in
    subst (Covers m) (sym c.set_tick.ensures.world) (covers_at m v c.tick_before-before.result covered)

pub returns-clause-fits : goal.returns-clause-fits
returns-clause-fits c =
    let w = c.args.draft.now.world in
    let r = c.args.self.now in
    let v = c.undo_fitting.new.draft in
    let is = c.tick-tick.ensures.tick in
    let before = c.tick_before-before.ensures in
    let some = c.if-tick-eq0.false in
    let right = c.if-tick-before.false in
    let tick : w.tick ≡ r.tick_before + 1 = grind (arith, nat_tests) in
    let ready = subst (λ ds. AreReady v.room ds w) c.deltas-2.ensures c.in_ok-undo_fitting.ensures.ready in
    let done : v.world ≡ back_all r.deltas w = c.in_ok-undo_fitting.ensures.done ∙ ap (λ ds. back_all ds w) c.deltas-2.ensures in
    let can : can_set_tick v.world r.tick_before ≡ true = ap (can_set_tick v.world) (sym before) ∙ sym c.in_ok-can_set_tick.ensures.can ∙ c.if-not-branch.false in
    record { tick = tick; deltas = ready_fits_back v.room r.deltas w ready; timely = subst (λ u. can_set_tick u r.tick_before ≡ true) done can }
