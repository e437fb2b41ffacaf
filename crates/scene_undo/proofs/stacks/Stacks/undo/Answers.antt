use Rattle.std.proofs.Common.{◌≡◌, ◌<◌, ◌≤◌, ◌+◌, ◌-◌, ◌∷◌, length, reverse, take, drop, ap, subst, sym, ◌∙◌, arith}
use Rattle.scene_undo.specs.Stacks.{Stacked}
use Rattle.scene_undo.proofs.StackLaws.{has_past, one_behind, one_later, stands}
use Rattle.scene_undo.proofs.stacks.Stacks.undo.Goals as goal

pub returns-clause-moved : goal.returns-clause-moved
returns-clause-moved c =
    let xs = c.self.inside.records.items in
    let d = c.self.inside.dropped in
    let m = c.self.inside.middle in
    let past : reverse (drop d (take m xs)) ≡ c.args.self.now.past = ap (λ (s : Stacked). s.past) c.self.view_is in
    let future : drop m xs ≡ c.args.self.now.future = ap (λ (s : Stacked). s.future) c.self.view_is in
    let short = c.self.invariant.1 in
    let some : d < m = has_past xs d m short (subst (λ l. 0 < length l) (sym past) c.requires) in
    let n = m - 1 in
    let is : m ≡ n + 1 = omega (arith, some) in
    let low : d ≤ n = omega (arith, some) in
    let within : n < length xs = omega (arith, some, short) in
    let first = stands xs n within in (
      first.0,
      (
        sym past ∙ ap (λ k. reverse (drop d (take k xs))) is ∙ one_later xs d n first.0 low within first.1,
        one_behind xs n first.0 within first.1 ∙ ap (λ k. first.0 ∷ drop k xs) (sym is) ∙ ap (λ ys. first.0 ∷ ys) future,
      ),
    )
