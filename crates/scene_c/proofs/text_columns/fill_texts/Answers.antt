use Rattle.std.proofs.Common.{◌≡◌, ◌<◌, ◌≤◌, ◌+◌, ◌-◌, ◌++◌, ◌∙◌, ap, sym, subst, map, length, drop, take, arith, refl, []}
use Rattle.std.specs.Prelude.{min, slice_set}
use Rattle.std.proofs.lemmas.List.{length-map, length-take}
use Rattle.std.proofs.lemmas.Option.{slice_get_read}
use Rattle.std.proofs.Math.ListN.{drop_of_length-le}
use Rattle.scene_c.specs.Joined.{AreTold, fitting}
use Rattle.scene_c.specs.OpenScene.{text_in}
use Rattle.scene_c.proofs.JoinedLaws.{AreWritten, list_here, written_all, written_full, written_more}
use Rattle.scene_c.proofs.text_columns.fill_texts.Goals as goal

pub returns-in_default : goal.returns-in_default
returns-in_default c =
    let values = c.args.values.now in
    let ends = c.args.ends.now in
    let bytes = c.args.bytes.now in
    let there : c.texts.at < length values = omega (arith, c.min-at-end.ensures, c.texts-test.true) in
    let free : c.texts.at < length ends = omega (arith, c.min-at-end.ensures, c.texts-test.true) in
    let read = slice_get_read values (length values) c.texts.at c.index-values-at.result refl there c.index-values-at.is in
    let here = list_here text_in c.texts.at (length ends) values c.index-values-at.result free read in
    let none = c.in_default.ensures.none in
    subst (λ b. AreTold (fitting (length bytes) (take (length ends) (map text_in values))) ends c.texts.ends bytes b c.texts.at) (sym none.0)
    (written_full c.texts.at c.texts.size (take (length ends) (map text_in values)) _ (text_in c.index-values-at.result) ends c.texts.ends bytes c.texts.bytes
    c.texts.invariant here (omega (arith, free)) (omega (arith, none.1, c.texts.auto.bytes, ap length c.text_in.ensures)))

pub texts-preserved : goal.texts-preserved
texts-preserved c =
    let values = c.args.values.now in
    let ends = c.args.ends.now in
    let bytes = c.args.bytes.now in
    let text = text_in c.index-values-at.result in
    let there : c.texts.at < length values = omega (arith, c.min-at-end.ensures, c.texts-test.true) in
    let free : c.texts.at < length ends = omega (arith, c.min-at-end.ensures, c.texts-test.true) in
    let read = slice_get_read values (length values) c.texts.at c.index-values-at.result refl there c.index-values-at.is in
    let here = list_here text_in c.texts.at (length ends) values c.index-values-at.result free read in
    let some = c.in-Some.ensures.some in
    let is : c.in-Some.end ≡ c.texts.size + length text = omega (arith, some.0, ap length c.text_in.ensures) in
    let put : c.put_bytes.new.room ≡ take c.texts.size c.texts.bytes ++ text ++ drop (c.texts.size + length text) c.texts.bytes = some.2
    ∙ ap (λ t. take c.texts.size c.texts.bytes ++ t ++ drop c.in-Some.end c.texts.bytes) c.text_in.ensures
    ∙ ap (λ k. take c.texts.size c.texts.bytes ++ text ++ drop k c.texts.bytes) is in
    subst (λ k. AreWritten (c.texts.at + 1) k (take (length ends) (map text_in values)) ends (slice_set c.texts.ends c.texts.at k) bytes c.put_bytes.new.room) (sym is)
    (written_more c.texts.at c.texts.size (take (length ends) (map text_in values)) _ text ends c.texts.ends bytes c.texts.bytes c.put_bytes.new.room
    c.texts.invariant here free (omega (arith, some.1, c.texts.auto.bytes, is)) put)

pub returns : goal.returns
returns c =
    let values = c.args.values.now in
    let ends = c.args.ends.now in
    let bytes = c.args.bytes.now in
    let texts = take (length ends) (map text_in values) in
    let ended : c.texts.at ≡ min (length values) (length ends) = omega (arith, c.min-at-end.ensures, c.texts-test.false, c.texts.auto.at-end) in
    let count : c.texts.at ≡ length texts = omega (arith, ended, length-take (length ends) (map text_in values), length-map values text_in) in
    let none : fitting (length bytes - c.texts.size) (drop c.texts.at texts) ≡ [] =
    ap (fitting (length bytes - c.texts.size)) (drop_of_length-le texts (let low : length texts ≤ c.texts.at = omega (arith, count) in low)) in
    subst (λ n. AreTold (fitting (length bytes) texts) ends c.texts.ends bytes c.texts.bytes n) (let e : c.texts.at ≡ c.min.result = omega (arith, ended, c.min.ensures) in e)
    (written_all c.texts.at c.texts.size texts ends c.texts.ends bytes c.texts.bytes c.texts.invariant (omega (arith, count)) (omega (arith, ended)) none)
