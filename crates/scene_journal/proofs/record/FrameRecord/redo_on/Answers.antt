use Rattle.std.proofs.Common.{◌≡◌, true, ◌+◌, subst, sym}
use Rattle.scene_model.specs.Can.{can_set_tick}
use Rattle.scene_journal.proofs.Records.{can_raise}
use Rattle.scene_journal.proofs.record.FrameRecord.redo_on.Goals as goal

pub set_tick-requires : goal.set_tick-requires
set_tick-requires c =
    let w = c.args.draft.now.world in
    subst (λ t. can_set_tick w (t + 1) ≡ true) (sym c.tick-tick.ensures.tick) (can_raise w c.tick-tick.ensures.valid c.requires.low)
