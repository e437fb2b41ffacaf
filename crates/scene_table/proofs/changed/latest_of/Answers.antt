use Rattle.std.proofs.Common.{get_or, subst, sym, take, arith, refl, ◌+◌, ℕ, List}
use Rattle.std.proofs.lemmas.List.{take_all}
use Rattle.scene_table.proofs.TickBounds.{AllUpTo, up_to_more}
use Rattle.scene_table.proofs.changed.latest_of.Goals as goal

pub loop-tick-preserved : goal.loop-tick-preserved
loop-tick-preserved c =
    subst (λ (latest : ℕ). AllUpTo latest (take (c.loop-tick.tick-index + 1) c.args.ticks.now)) (sym c.max-latest.ensures)
    (up_to_more c.loop-tick.latest (get_or c.args.ticks.now c.loop-tick.tick-index 0) c.loop-tick.tick-index 0 c.args.ticks.now c.loop-tick-test.true refl c.loop-tick.invariant)

pub returns : goal.returns
returns c =
    subst (λ (ticks : List ℕ). AllUpTo c.loop-tick.latest ticks) (take_all c.loop-tick.tick-index c.args.ticks.now (omega (arith, c.loop-tick-test.false))) c.loop-tick.invariant
