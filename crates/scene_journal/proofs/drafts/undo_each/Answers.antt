use Rattle.std.proofs.Common.{◌∷◌}
use Rattle.scene_world.proofs.Room.{wider_wider}
use Rattle.scene_deltas.specs.Segments.{seen}
use Rattle.scene_journal.proofs.SomeDeltas.{fits_back_next, taken_next}
use Rattle.scene_journal.proofs.drafts.undo_each.Goals as goal

pub undo_lent-requires : goal.undo_lent-requires
undo_lent-requires c =
    let now = c.loop-delta.invariant.0 in
    fits_back_next c.args.deltas.now.items c.args.draft.now.world c.loop-delta.draft.world c.loop-delta.left c.next.new.self now.0 (seen c.in-Some.delta) c.in-Some.ensures now.1 c.requires

pub loop-delta-preserved : goal.loop-delta-preserved
loop-delta-preserved c =
    let now = c.loop-delta.invariant.0 in (
      (
        seen c.in-Some.delta ∷ now.0,
        taken_next c.args.deltas.now.items c.args.draft.now.world c.loop-delta.draft.world c.loop-delta.left c.next.new.self now.0 (seen c.in-Some.delta) c.in-Some.ensures now.1
            c.undo_lent.new.draft.world c.in_ok-undo_lent.ensures.done,
      ),
      wider_wider c.args.draft.now.room c.loop-delta.draft.room c.undo_lent.new.draft.room c.loop-delta.invariant.1 c.undo_lent.ensures.wide,
    )
