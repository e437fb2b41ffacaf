use Rattle.std.proofs.Common.{◌≡◌, ◌∙◌, ◌<◌, length, map, ap, sym, Some, arith}
use Rattle.std.specs.Option.{option_map}
use Rattle.std.specs.Prelude.{min}
use Rattle.std.proofs.lemmas.List.{length-map}
use Rattle.std.proofs.lemmas.Option.{slice_get-map}
use Rattle.scene_deltas.specs.Segments.{seen}
use Rattle.scene_c.specs.Steps.{shown_delta}
use Rattle.scene_c.proofs.Filled.{fill_more, fill_all}
use Rattle.scene_c.proofs.StepLaws.{next_at, none_left}
use Rattle.scene_c.proofs.steps.fill_deltas.Goals as goal

pub deltas-preserved : goal.deltas-preserved
deltas-preserved c =
    let here = next_at c.deltas.at c.args.deltas c.next.new.self (seen c.in-Some.delta) (sym c.deltas.invariant.0 ∙ c.in-Some.ensures) in
    let free : c.deltas.at < length c.args.room.now = omega (arith, c.deltas-test.true, c.deltas.auto.at-end, c.deltas.auto.room) in (
      sym here.1,
      omega (arith, here.2),
      fill_more c.deltas.at (map shown_delta c.args.deltas) c.args.room.now c.deltas.room c.shown_delta.result c.deltas.invariant.2 free
          (slice_get-map shown_delta c.args.deltas c.deltas.at ∙ ap (option_map shown_delta) here.0
          ∙ ap (λ x. Some x) (ap shown_delta (sym c.get.ensures) ∙ sym c.shown_delta.ensures)),
    )

pub returns-in_default : goal.returns-in_default
returns-in_default c =
    let most = none_left c.deltas.at c.args.deltas (sym c.deltas.invariant.0 ∙ c.in_default.ensures.0) in
    let free : c.deltas.at < length c.args.room.now = omega (arith, c.deltas-test.true, c.deltas.auto.at-end, c.deltas.auto.room) in
    let ends : min (length (map shown_delta c.args.deltas)) (length c.args.room.now) ≡ c.deltas.at =
    ap (λ n. min n (length c.args.room.now)) (length-map c.args.deltas shown_delta)
    ∙ (let e : min (length c.args.deltas) (length c.args.room.now) ≡ c.deltas.at = omega (arith, most, c.deltas.invariant.1, free) in e) in
    fill_all c.deltas.at (map shown_delta c.args.deltas) c.args.room.now c.deltas.room c.deltas.invariant.2 ends
