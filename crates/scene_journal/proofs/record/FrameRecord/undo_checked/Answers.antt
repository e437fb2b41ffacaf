use Rattle.scene_journal.proofs.record.FrameRecord.undo_checked.Goals as goal

pub undo_checked_with-requires : goal.undo_checked_with-requires
undo_checked_with-requires c = c.none.ensures.covers c.args.draft.now.world
