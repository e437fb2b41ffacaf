use Rattle.std.proofs.Common.{◌≡◌, ◌∷◌, ◌++◌, ◌<◌, ◌+◌, ◌-◌, [], arith, ap, length, sym, ◌∙◌, Some}
use Rattle.std.specs.Prelude.{slice_get}
use Rattle.scene_deltas.specs.Segments.{flat, front, seen, shown}
use Rattle.scene_deltas.proofs.Segments.{flat_pushed, front_within}
use Rattle.scene_deltas.proofs.walks.last_before.Goals as goal

pub returns-then-gone-count : goal.returns-then-gone-count
returns-then-gone-count c =
    let last = c.in-Some.last.now in
    let before = c.in-Some.before.now in
    let cut = c.in-Some.ensures.cases.0 in
    let parts = ap flat cut ∙ flat_pushed before last in
    let low : c.back.gone < length (shown last) = omega (arith, c.len-count.ensures, c.if-gone-count.true) in
    let there : slice_get (shown last) (length (shown last) - c.back.gone - 1) ≡ Some (seen c.delta_at.result) =
    ap (λ n. slice_get (shown last) (n - c.back.gone - 1)) (sym c.len-count.ensures) ∙ c.delta_at.ensures in
    sym c.back.invariant
    ∙ ap (front c.back.gone) parts
    ∙ front_within (flat before) (shown last) c.back.gone (seen c.delta_at.result) low there
    ∙ ap (λ ds. front (c.back.gone + 1) ds ++ seen c.delta_at.result ∷ []) (sym parts)
