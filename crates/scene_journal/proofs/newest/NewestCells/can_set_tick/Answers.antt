use Rattle.std.proofs.Common.{◌+◌, ◌∙◌, ap, arith, sym}
use Rattle.std.specs.List.{list_all}
use Rattle.scene_journal.specs.Newest.{was_changed_otherwise}
use Rattle.scene_journal.proofs.Late.{late_listed}
use Rattle.scene_journal.proofs.newest.NewestCells.can_set_tick.Goals as goal

pub returns-in-Some-clause-can : goal.returns-in-Some-clause-can
returns-in-Some-clause-can c =
    let w = c.args.world.now.world in
    let spots = c.in-Some.spots.now in
    c.were_changed_otherwise.ensures ∙ ap (λ t. list_all (was_changed_otherwise w t) spots) c.tick-now.ensures.tick
    ∙ late_listed c.args.self.now w c.args.tick c.in-Some.ensures.some.0 spots c.tick-now.ensures.valid c.requires.covered c.requires.one_before
    (ap (λ t. t + c.in-Some.ensures.some.0) (sym c.tick-now.ensures.tick) ∙ c.in-Some.ensures.some.1.0) c.in-Some.ensures.some.1.1

pub returns-in-None-clause-kept : goal.returns-in-None-clause-kept
returns-in-None-clause-kept c = λ age is low.
    let past = c.in-None.ensures.none age (ap (λ t. t + age) c.tick-now.ensures.tick ∙ is) in
    absurd (omega (arith, past, low))
