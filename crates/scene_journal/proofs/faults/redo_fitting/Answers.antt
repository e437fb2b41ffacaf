use Rattle.std.proofs.Common.{◌∙◌, ◌-◌, ◌++◌, ◌∷◌, [], ap, length, rules, sym}
use Rattle.scene_kinds.specs.Answers.{refusal_of}
use Rattle.scene_kinds.specs.declared.fault.Fault.TheVariants.{BadRecord}
use Rattle.scene_world.proofs.Room.{wider_wider}
use Rattle.scene_deltas.specs.Deltas.{fits_on}
use Rattle.scene_deltas.specs.Segments.{seen}
use Rattle.scene_journal.proofs.SomeDeltas.{made_next, number_made, ready_next, some_made, unfit_here}
use Rattle.scene_deltas.proofs.Turns.{ready_fits_on}
use Rattle.scene_journal.proofs.faults.redo_fitting.Goals as goal

pub returns-then-not-fits_on-clause-refused : goal.returns-then-not-fits_on-clause-refused
returns-then-not-fits_on-clause-refused c = λ other.
    let now = c.loop-delta.invariant.0 in
    let ds = c.args.deltas.now.items in
    let w = c.args.draft.now.world in
    let v = c.loop-delta.draft in
    let count = number_made ds w v.world c.loop-delta.left c.next.new.self now.0 (seen c.in-Some.delta) c.in-Some.ensures now.1.0 in (
      length now.0,
      (
        c.bad_record.ensures ∙ ap (λ k. refusal_of (BadRecord 0 k)) (ap (λ k. k - 1 - c.len-then-not-fits_on.result) c.len.ensures ∙ ap (λ k. length ds - 1 - k) c.len-then-not-fits_on.ensures ∙ count),
        unfit_here ds w v.world c.loop-delta.left c.next.new.self now.0 (seen c.in-Some.delta) c.in-Some.ensures now.1.0
            (ready_fits_on v.room now.0 w now.1.1)
            (ap (λ x. fits_on x c.loop-delta.draft.world) (sym c.get.ensures) ∙ sym c.fits_on.ensures ∙ c.if-not-fits_on.true),
      ),
    )

pub returns-then-not-fits_on-clause-part : goal.returns-then-not-fits_on-clause-part
returns-then-not-fits_on-clause-part c =
    let now = c.loop-delta.invariant.0 in
    some_made c.args.deltas.now.items c.args.draft.now.world c.loop-delta.draft.world c.loop-delta.left now.0 now.1.0

pub returns-in_err-redo_lent-clause-part : goal.returns-in_err-redo_lent-clause-part
returns-in_err-redo_lent-clause-part c =
    let now = c.loop-delta.invariant.0 in
    let part = some_made c.args.deltas.now.items c.args.draft.now.world c.redo_lent.new.draft.world c.loop-delta.left now.0
    (now.1.0.0, c.in_err-redo_lent.ensures.full ∙ now.1.0.1) in
    search (part, rules)

pub loop-delta-preserved : goal.loop-delta-preserved
loop-delta-preserved c =
    let now = c.loop-delta.invariant.0 in
    let ds = c.args.deltas.now.items in
    let w = c.args.draft.now.world in
    let v = c.loop-delta.draft in
    let next = c.redo_lent.new.draft in
    let d = seen c.in-Some.delta in (
      (
        now.0 ++ d ∷ [],
        (
          made_next ds w v.world c.loop-delta.left c.next.new.self now.0 d c.in-Some.ensures now.1.0 next.world c.in_ok-redo_lent.ensures.done,
          ready_next ds w v.world c.loop-delta.left c.next.new.self now.0 d c.in-Some.ensures now.1.0 v.room next.room next.world
              c.in_ok-redo_lent.ensures.done (ap (λ x. fits_on x c.loop-delta.draft.world) (sym c.get.ensures) ∙ sym c.fits_on.ensures ∙ c.if-not-fits_on.false) c.room_holds.ensures c.redo_lent.ensures.wide now.1.1,
        ),
      ),
      wider_wider c.args.draft.now.room v.room next.room c.loop-delta.invariant.1 c.redo_lent.ensures.wide,
    )
