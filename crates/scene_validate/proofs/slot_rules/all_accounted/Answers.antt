use Rattle.std.proofs.Common.{arith, length, ap, sym, ◌∙◌, nat_eq, get_or}
use Rattle.std.specs.Prelude.{◌||◌}
use Rattle.scene_alloc.specs.Slots.{highest}
use Rattle.scene_validate.specs.Marks.{is_marked}
use Rattle.scene_validate.proofs.Accounts.{range_passes}
use Rattle.scene_validate.proofs.BrokenTests.{accounted_by}
use Rattle.scene_validate.proofs.slot_rules.all_accounted.Goals as goal

pub loop-generation-preserved : goal.loop-generation-preserved
loop-generation-preserved c = record {
  at = omega arith;
  rest = range_passes (accounted_by c.args.generations.now c.args.live.now c.args.free.now) (length c.args.generations.now) c.loop-generation.index c.is_accounted.result _ c.loop-generation.invariant.rest (omega arith)
      (c.is_accounted.ensures ∙ ap (λ j. is_marked c.args.live.now c.loop-generation.index || is_marked c.args.free.now c.loop-generation.index || nat_eq (get_or c.args.generations.now j 0) highest) (sym c.loop-generation.invariant.at))
      c.if-not-is_accounted.false;
}
