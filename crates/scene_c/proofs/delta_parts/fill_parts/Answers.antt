use Rattle.std.proofs.Common.{◌≡◌, ◌<◌, ◌≤◌, ◌+◌, ◌-◌, ◌++◌, ◌∙◌, ap, sym, subst, map, length, drop, take, arith, []}
use Rattle.std.specs.Prelude.{slice_set}
use Rattle.std.proofs.lemmas.List.{length-map, length-take}
use Rattle.std.proofs.Math.ListN.{drop_of_length-le}
use Rattle.scene_deltas.specs.Segments.{seen}
use Rattle.scene_c.specs.Joined.{AreTold, fitting}
use Rattle.scene_c.proofs.JoinedLaws.{AreWritten, list_here, written_all, written_full, written_more}
use Rattle.scene_c.proofs.StepLaws.{next_at, none_left}
use Rattle.scene_c.proofs.delta_parts.fill_parts.Goals as goal

pub returns-in_default : goal.returns-in_default
returns-in_default g c =
    let part = g.P.DeltaPart.part c.args.part.now in
    let ends = c.args.ends.now in
    let room = c.args.room.now in
    let lists = take (length ends) (map part c.args.deltas) in
    let most = none_left c.parts.at c.args.deltas (sym c.parts.invariant.1.0 ∙ c.in_default.ensures.0) in
    let free : c.parts.at < length ends = omega (arith, c.parts-test.true, c.parts.auto.at-end, c.parts.auto.ends) in
    let count : length lists ≡ c.parts.at = omega (arith, length-take (length ends) (map part c.args.deltas), length-map c.args.deltas part, most, c.parts.invariant.1.1, free) in
    let none : fitting (length room - c.parts.size) (drop c.parts.at lists) ≡ [] =
    ap (fitting (length room - c.parts.size)) (drop_of_length-le lists (let low : length lists ≤ c.parts.at = omega (arith, count) in low)) in
    written_all c.parts.at c.parts.size lists ends c.parts.ends room c.parts.room c.parts.invariant.0 (omega (arith, count)) (omega (arith, free)) none

pub returns-in_default-put : goal.returns-in_default-put
returns-in_default-put g c =
    let part = g.P.DeltaPart.part c.args.part.now in
    let ends = c.args.ends.now in
    let room = c.args.room.now in
    let lists = take (length ends) (map part c.args.deltas) in
    let delta = seen c.in-Some.delta in
    let free : c.parts.at < length ends = omega (arith, c.parts-test.true, c.parts.auto.at-end, c.parts.auto.ends) in
    let next = next_at c.parts.at c.args.deltas c.next.new.self delta (sym c.parts.invariant.1.0 ∙ c.in-Some.ensures) in
    let here = list_here part c.parts.at (length ends) c.args.deltas delta free next.0 in
    let none = c.in_default-put.ensures.none in
    subst (λ r. AreTold (fitting (length room) lists) ends c.parts.ends room r c.parts.at) (sym none.0)
    (written_full c.parts.at c.parts.size lists _ (part delta) ends c.parts.ends room c.parts.room c.parts.invariant.0 here (omega (arith, free))
    (omega (arith, none.1, c.parts.auto.room, ap (λ d. length (part d)) c.get.ensures)))

pub parts-preserved : goal.parts-preserved
parts-preserved g c =
    let part = g.P.DeltaPart.part c.args.part.now in
    let ends = c.args.ends.now in
    let room = c.args.room.now in
    let lists = take (length ends) (map part c.args.deltas) in
    let delta = seen c.in-Some.delta in
    let free : c.parts.at < length ends = omega (arith, c.parts-test.true, c.parts.auto.at-end, c.parts.auto.ends) in
    let next = next_at c.parts.at c.args.deltas c.next.new.self delta (sym c.parts.invariant.1.0 ∙ c.in-Some.ensures) in
    let here = list_here part c.parts.at (length ends) c.args.deltas delta free next.0 in
    let some = c.in-Some-put.ensures.some in
    let is : c.in-Some-put.end ≡ c.parts.size + length (part delta) = omega (arith, some.0, ap (λ d. length (part d)) c.get.ensures) in
    let put : c.put.new.room ≡ take c.parts.size c.parts.room ++ part delta ++ drop (c.parts.size + length (part delta)) c.parts.room = some.2
    ∙ ap (λ d. take c.parts.size c.parts.room ++ part d ++ drop c.in-Some-put.end c.parts.room) c.get.ensures
    ∙ ap (λ k. take c.parts.size c.parts.room ++ part delta ++ drop k c.parts.room) is in (
      subst (λ k. AreWritten (c.parts.at + 1) k lists ends (slice_set c.parts.ends c.parts.at k) room c.put.new.room) (sym is)
          (written_more c.parts.at c.parts.size lists _ (part delta) ends c.parts.ends room c.parts.room c.put.new.room
          c.parts.invariant.0 here free (omega (arith, some.1, c.parts.auto.room, is)) put),
      (sym next.1, omega (arith, next.2)),
    )
