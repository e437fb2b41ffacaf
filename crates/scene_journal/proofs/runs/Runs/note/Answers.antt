use Rattle.std.proofs.Common.{◌≡◌, pos, ◌+ℤ◌, ap, sym, subst, ◌∙◌, true, false, to_z, of_z, w64}
use Rattle.std.proofs.lemmas.Int.{to_z-of_z}
use Rattle.scene_table.proofs.CellsOfTurn.{next_fits}
use Rattle.scene_journal.specs.LiveRuns.{IsLiveRun}
use Rattle.scene_journal.proofs.LiveRuns.{Others}
use Rattle.scene_journal.proofs.runs.Runs.note.Goals as goal

pub returns : goal.returns
returns c = λ w v kept turn. record {
  each = c.put.ensures.each v (c.end_touched.ensures.others w v (subst (λ r. Others r w v) (sym c.deref.ensures) turn.others) kept.each)
      (λ live. subst (λ n. IsLiveRun v c.args.run.value n c.args.tick) (sym (ap (λ n. to_z w64 (of_z w64 (n +ℤ pos 1))) (to_z-of_z w64 c.args.turns c.ranges.turns) ∙ to_z-of_z w64 (c.args.turns +ℤ pos 1) (next_fits c.args.turns c.ranges.turns c.requires.counted))) turn.own);
  flag = λ none. absurd (let k : true ≡ false = sym c.put.ensures.flag ∙ none in cc);
}
