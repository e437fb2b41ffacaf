use Rattle.std.proofs.Common.{[], ◌∷◌, ◌++◌, rules, ◌∙◌}
use Rattle.scene_world.proofs.Room.{wider_wider}
use Rattle.scene_deltas.specs.Segments.{seen}
use Rattle.scene_journal.proofs.SomeDeltas.{fits_next, made_next, some_made}
use Rattle.scene_journal.proofs.drafts.redo_each.Goals as goal

pub redo_lent-requires : goal.redo_lent-requires
redo_lent-requires c =
    let now = c.loop-delta.invariant.0 in
    fits_next c.args.deltas.now.items c.args.draft.now.world c.loop-delta.draft.world c.loop-delta.left c.next.new.self now.0 (seen c.in-Some.delta)
    c.in-Some.ensures now.1 c.requires

pub returns-in_err-redo_lent-clause-part : goal.returns-in_err-redo_lent-clause-part
returns-in_err-redo_lent-clause-part c =
    let now = c.loop-delta.invariant.0 in
    let part = some_made c.args.deltas.now.items c.args.draft.now.world c.redo_lent.new.draft.world c.loop-delta.left now.0
    (now.1.0, c.in_err-redo_lent.ensures.full ∙ now.1.1) in
    search (part, rules)

pub loop-delta-preserved : goal.loop-delta-preserved
loop-delta-preserved c =
    let now = c.loop-delta.invariant.0 in (
      (
        now.0 ++ seen c.in-Some.delta ∷ [],
        made_next c.args.deltas.now.items c.args.draft.now.world c.loop-delta.draft.world c.loop-delta.left c.next.new.self now.0 (seen c.in-Some.delta)
            c.in-Some.ensures now.1 c.redo_lent.new.draft.world c.in_ok-redo_lent.ensures.done,
      ),
      wider_wider c.args.draft.now.room c.loop-delta.draft.room c.redo_lent.new.draft.room c.loop-delta.invariant.1 c.redo_lent.ensures.wide,
    )
