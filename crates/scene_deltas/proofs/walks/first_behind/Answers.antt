use Rattle.std.proofs.Common.{◌∷◌, ◌≤◌, ◌+◌, ◌-◌, arith, ap, drop, length, sym, ◌∙◌}
use Rattle.scene_deltas.specs.Segments.{flat, seen, shown}
use Rattle.scene_deltas.proofs.Segments.{drop_past, drop_within}
use Rattle.scene_deltas.proofs.walks.first_behind.Goals as goal

pub returns-then-gone-count : goal.returns-then-gone-count
returns-then-gone-count c =
    let first = c.in-Some.first.now in
    let behind = c.in-Some.behind.now in
    let cut = c.in-Some.ensures.cases.0 in
    sym c.on.invariant
    ∙ ap (λ ss. drop c.on.gone (flat ss)) cut
    ∙ drop_within (shown first) (flat behind) c.on.gone (seen c.delta_at.result) c.delta_at.ensures
    ∙ ap (λ ss. seen c.delta_at.result ∷ drop (c.on.gone + 1) (flat ss)) (sym cut)

pub on-preserved : goal.on-preserved
on-preserved c =
    let first = c.in-Some.first.now in
    let behind = c.in-Some.behind.now in
    let cut = c.in-Some.ensures.cases.0 in
    let few : length (shown first) ≤ c.on.gone = omega (arith, c.len-count.ensures, c.if-gone-count.false) in
    ap (λ n. drop (c.on.gone - n) (flat behind)) c.len-count.ensures
    ∙ sym (drop_past (shown first) (flat behind) c.on.gone few)
    ∙ ap (λ ss. drop c.on.gone (flat ss)) (sym cut)
    ∙ c.on.invariant
