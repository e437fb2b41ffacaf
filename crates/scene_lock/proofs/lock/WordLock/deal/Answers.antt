use Rattle.std.proofs.Common.{rules, arith, ◌≡◌, ◌++◌, ◌∷◌, ◌+◌, ◌-◌, suc, [], ap, ◌∙◌}
use Rattle.scene_lock.specs.Pass.{first_passes}
use Rattle.scene_lock.specs.Members.{new_seat}
use Rattle.scene_lock.proofs.lock.WordLock.deal.Goals as goal

pub part-pass-requires-clause-some : goal.part-pass-requires-clause-some
part-pass-requires-clause-some g c = let l = c.loop-number in let all = c.args.passes in let left : all - l.number ≡ suc (all - (l.number + 1)) = omega arith in
    (all - (l.number + 1), l.invariant.1 ∙ ap (λ n. (new_seat c.args.self.now.terms n l.number, [])) left)

pub loop-number-preserved : goal.loop-number-preserved
loop-number-preserved g c = let l = c.loop-number in let next : suc l.number ≡ l.number + 1 = omega arith in let all = c.args.passes in let left : all - l.number ≡ suc (all - (l.number + 1)) = omega arith in (
  search rules,
  c.part-pass.ensures.others (all - (l.number + 1)) (l.invariant.1 ∙ ap (λ n. (new_seat c.args.self.now.terms n l.number, [])) left),
  c.push_reserved.ensures.items ∙ ((λ i. l.invariant.2 i ++ c.part-pass.ensures.pass i ∷ []) ∙ ap (first_passes c.args.self.now) next),
  search rules,
  search rules,
)
