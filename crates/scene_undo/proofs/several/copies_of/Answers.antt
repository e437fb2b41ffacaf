use Rattle.std.proofs.Common.{◌≡◌, ◌<◌, ◌+◌, ◌∷◌, [], length, get_or, ap, subst, sym, ◌∙◌, arith, length-append}
use Rattle.std.proofs.lemmas.Option.{slice_get_within}
use Rattle.scene_undo.specs.Copies.{AreOfEach}
use Rattle.scene_undo.specs.Direction.{in_turn}
use Rattle.scene_undo.proofs.SeveralCalls.{one_copy_more}
use Rattle.scene_undo.proofs.Turns.{here}
use Rattle.scene_undo.proofs.several.copies_of.Goals as goal

pub loop-number-preserved : goal.loop-number-preserved
loop-number-preserved c =
    let way = c.args.direction in
    let rs = in_turn way c.args.frames.now in
    let all = c.loop-number.all.items in
    let r = c.at_turn.result.now in
    let copies = c.in_ok-copies.copies in
    let low = slice_get_within rs c.loop-number.number r c.at_turn.ensures in
    let count = c.loop-number.invariant.1 in
    let within : length all < length rs = omega (arith, low, count) in
    let is : r ≡ get_or rs (length all) r = subst (λ n. r ≡ get_or rs n r) (sym count) (here rs c.loop-number.number r c.at_turn.ensures) in
    let long = length-append all (copies ∷ []) in (
      subst (λ cs. AreOfEach way cs rs) (sym c.in_ok-push.ensures.items) (one_copy_more way all copies rs r c.loop-number.invariant.0 within is c.in_ok-copies.ensures),
      ap length c.in_ok-push.ensures.items ∙ long ∙ ap (λ n. n + 1) count,
    )
