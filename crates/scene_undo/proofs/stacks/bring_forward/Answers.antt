use Rattle.std.proofs.Common.{◌≡◌, ◌∙◌, ◌+◌, ◌-◌, ◌<◌, ◌≤◌, length, take, drop, get_or, arith, ap, sym, rules}
use Rattle.std.proofs.lemmas.List.{take_all, length-drop}
use Rattle.scene_undo.proofs.StackLaws.{stands, brought, left_behind}
use Rattle.scene_undo.proofs.stacks.bring_forward.Goals as goal

pub loop-place-preserved : goal.loop-place-preserved
loop-place-preserved c =
    let xs = c.loop-place.records in
    let zs = c.args.records.now in
    let f = c.args.from in
    let p = c.loop-place.place in
    let low : f + p < length xs = omega (arith, c.loop-place.invariant.long) in
    let few : length xs ≤ f + f = omega (arith, c.loop-place.invariant.long, c.requires.fewer) in
    let d = (stands xs (f + p) low).0 in
    record {
      long = c.swap.ensures.len ∙ c.loop-place.invariant.long;
      front = ap (take (p + 1)) c.swap.ensures.after
          ∙ brought xs zs f p d c.loop-place.invariant.long low few c.loop-place.invariant.front (c.loop-place.invariant.behind (f + p) d (omega arith));
      behind = λ k e l. ap (λ ys. get_or ys k e) c.swap.ensures.after ∙ left_behind xs f p k e low few l
          ∙ c.loop-place.invariant.behind k e (omega (arith, l));
    }

pub returns-clause-front : goal.returns-clause-front
returns-clause-front c =
    let zs = c.args.records.now in
    let f = c.args.from in
    let n : length (drop f zs) ≡ length zs - f = length-drop f zs in
    let at : c.loop-place.place ≡ length zs - f = search rules in
    ap (λ k. take k c.loop-place.records) (sym at) ∙ c.loop-place.invariant.front ∙ ap (λ k. take k (drop f zs)) at
    ∙ take_all (length zs - f) (drop f zs) (omega (arith, n))
