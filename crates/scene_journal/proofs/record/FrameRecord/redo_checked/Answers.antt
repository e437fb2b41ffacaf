use Rattle.std.proofs.Common.{◌≡◌, true, ◌+◌, ◌<◌, arith, subst, sym}
use Rattle.std.proofs.lemmas.Bool.Decides.{nat_tests}
use Rattle.scene_model.specs.Commands.{highest_tick}
use Rattle.scene_model.specs.Can.{can_set_tick}
use Rattle.scene_journal.proofs.Records.{can_raise}
use Rattle.scene_journal.proofs.record.FrameRecord.redo_checked.Goals as goal

pub set_tick-requires : goal.set_tick-requires
set_tick-requires c =
    let w = c.args.draft.now.world in
    let most = c.tick-tick.ensures.valid.tick in
    let is = c.tick-tick.ensures.tick in
    let other = c.if-tick.false in
    let low : w.tick < highest_tick = grind (arith, nat_tests) in
    subst (λ t. can_set_tick w (t + 1) ≡ true) (sym is) (can_raise w c.tick-tick.ensures.valid low)
