use Rattle.std.proofs.Common.{◌≡◌, ◌<◌, ◌+◌, false, refl, subst, sym, arith, length}
use Rattle.std.specs.Prelude.{vec_capacity}
use Rattle.scene_journal.specs.declared.runs.Last.{Last}
use Rattle.scene_journal.specs.declared.runs.Runs.{Runs}
use Rattle.scene_journal.proofs.LiveRuns.{IsEnded, ended_here, spared_here}
use Rattle.scene_journal.proofs.runs.Runs.end_touched.Goals as goal
use Rattle.scene_journal.proofs.runs.Runs.end_touched.Goals.{then-is_touched, else-is_touched}

pub loop-at-preserved : goal.loop-at-preserved
loop-at-preserved c =
    let run = c.args.run.now in
    let old = c.args.self.now.list in
    let now = c.loop-at.self.list in
    let at = c.loop-at.at in
    let within = c.loop-at-test.true in
    let low : at < length now.items = omega (arith, within, c.loop-at.invariant.0.count, c.len-at-end.ensures) in
    elim c.if-is_touched.branch [
      | then-is_touched w ↦
          let was = w.index_mut.result.now in
          let x : Last = record { run = was.run; turns = was.turns; tick = was.tick; live = false } in
          subst (λ (r : Runs). IsEnded run old.items r.list.items (at + 1) × (vec_capacity r.list ≡ vec_capacity old)) (sym w.self-is)
          (ended_here run old.items now.items at x c.loop-at.invariant.0 low refl, c.loop-at.invariant.1)
      | else-is_touched w ↦
          subst (λ (r : Runs). IsEnded run old.items r.list.items (at + 1) × (vec_capacity r.list ≡ vec_capacity old)) (sym w.self-is)
          (spared_here run old.items now.items at c.loop-at.invariant.0 low (c.is_touched.ensures w.if-is_touched.false), c.loop-at.invariant.1)
    ]

pub returns-clause-others : goal.returns-clause-others
returns-clause-others c = λ w v spares all k d l. c.loop-at.invariant.0.done w v spares all k d (let end = c.loop-at-test.false in omega (arith, l, end, c.loop-at.invariant.0.count, c.len-at-end.ensures))
