use Rattle.std.proofs.Common.{◌≡◌, ◌<◌, ◌-◌, ◌∙◌, ap, sym, map, drop, length, Some, arith, refl}
use Rattle.std.specs.Option.{option_map}
use Rattle.std.specs.Prelude.{min}
use Rattle.std.proofs.lemmas.List.{drop-map, length-drop, length-map, take_all}
use Rattle.std.proofs.lemmas.Option.{slice_get-map, slice_get_read}
use Rattle.scene_c.proofs.Filled.{fill_more, fill_all}
use Rattle.scene_c.specs.Memory.{copied}
use Rattle.scene_c.proofs.filling.fill.Goals as goal

pub loop-at-preserved : goal.loop-at-preserved
loop-at-preserved g c =
    let shown = g.S.ShownAs.shown in
    let rest = c.in-Some.rest.now in
    let there : c.loop-at.at < length rest = omega (arith, c.min-at-end.ensures, c.loop-at-test.true) in
    let free : c.loop-at.at < length c.args.room.now = omega (arith, c.min-at-end.ensures, c.loop-at-test.true) in
    let read = slice_get_read rest (length rest) c.loop-at.at c.index-rest-at.result refl there c.index-rest-at.is in
    fill_more c.loop-at.at (map shown rest) c.args.room.now c.loop-at.room c.shown.result c.loop-at.invariant free
    (slice_get-map shown rest c.loop-at.at ∙ ap (option_map shown) read ∙ ap (λ x. Some x) (sym c.shown.ensures))

pub returns : goal.returns
returns g c =
    let shown = g.S.ShownAs.shown in
    let rest = c.in-Some.rest.now in
    let items = c.args.items.now in
    let ends : min (length (map shown rest)) (length c.args.room.now) ≡ c.loop-at.at =
    ap (λ n. min n (length c.args.room.now)) (length-map rest shown) ∙ (let e : min (length rest) (length c.args.room.now) ≡ c.loop-at.at = omega (arith, c.min-at-end.ensures, c.loop-at-test.false, c.loop-at.auto.at-end) in e) in
    let all : rest ≡ drop c.args.from items = c.in-Some.ensures.lookup.0.2 ∙ take_all (length items - c.args.from) (drop c.args.from items) (omega (arith, length-drop c.args.from items)) in
    fill_all c.loop-at.at (map shown rest) c.args.room.now c.loop-at.room c.loop-at.invariant ends
    ∙ ap (λ xs. copied xs c.args.room.now) (ap (map shown) all ∙ sym (drop-map shown c.args.from c.args.items.now))
