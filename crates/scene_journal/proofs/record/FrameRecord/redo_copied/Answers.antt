use Rattle.std.proofs.Common.{◌≡◌, true, ◌+◌, ap, subst, sym}
use Rattle.scene_model.specs.Can.{can_set_tick}
use Rattle.scene_journal.proofs.Records.{can_raise}
use Rattle.scene_journal.proofs.record.FrameRecord.redo_copied.Goals as goal

pub set_tick-requires : goal.set_tick-requires
set_tick-requires c =
    subst (λ t. can_set_tick c.args.world.now.world t ≡ true) (sym (ap (λ n. n + 1) c.tick-tick.ensures.tick))
    (can_raise c.args.world.now.world c.tick-tick.ensures.valid c.requires.fits.low)
