use Rattle.std.proofs.Common.{◌∷◌, ◌∙◌, ap, length, sym}
use Rattle.scene_kinds.specs.Answers.{refusal_of}
use Rattle.scene_kinds.specs.declared.fault.Fault.TheVariants.{BadRecord}
use Rattle.scene_world.proofs.Room.{wider_wider}
use Rattle.scene_deltas.specs.Deltas.{fits_back}
use Rattle.scene_deltas.specs.Segments.{seen}
use Rattle.scene_journal.proofs.SomeDeltas.{ready_taken, taken_next, unfit_next}
use Rattle.scene_deltas.proofs.Turns.{ready_fits_back}
use Rattle.scene_journal.proofs.faults.undo_fitting.Goals as goal

pub returns-then-not-fits_back-clause-refused : goal.returns-then-not-fits_back-clause-refused
returns-then-not-fits_back-clause-refused c = λ other.
    let now = c.loop-delta.invariant.0 in (
      length c.next.new.self,
      (
        c.bad_record.ensures ∙ ap (λ k. refusal_of (BadRecord 0 k)) c.len.ensures,
        unfit_next c.args.deltas.now.items c.args.draft.now.world c.loop-delta.draft.world c.loop-delta.left c.next.new.self now.0 (seen c.in-Some.delta)
            c.in-Some.ensures now.1.0 (ready_fits_back c.loop-delta.draft.room now.0 c.args.draft.now.world now.1.1)
            (ap (λ x. fits_back x c.loop-delta.draft.world) (sym c.get.ensures) ∙ sym c.fits_back.ensures ∙ c.if-not-fits_back.true),
      ),
    )

pub loop-delta-preserved : goal.loop-delta-preserved
loop-delta-preserved c =
    let now = c.loop-delta.invariant.0 in
    let w = c.args.draft.now.world in
    let v = c.loop-delta.draft in
    let next = c.undo_lent.new.draft in
    let d = seen c.in-Some.delta in (
      (
        d ∷ now.0,
        (
          taken_next c.args.deltas.now.items w v.world c.loop-delta.left c.next.new.self now.0 d c.in-Some.ensures now.1.0 next.world
              c.in_ok-undo_lent.ensures.done,
          ready_taken c.args.deltas.now.items w v.world c.loop-delta.left c.next.new.self now.0 d c.in-Some.ensures now.1.0 v.room next.room next.world
              c.in_ok-undo_lent.ensures.done (ap (λ x. fits_back x c.loop-delta.draft.world) (sym c.get.ensures) ∙ sym c.fits_back.ensures ∙ c.if-not-fits_back.false) c.room_holds.ensures c.undo_lent.ensures.wide now.1.1,
        ),
      ),
      wider_wider c.args.draft.now.room v.room next.room c.loop-delta.invariant.1 c.undo_lent.ensures.wide,
    )
