use Rattle.std.proofs.Common.{◌≡◌, ◌∙◌, pos, ap, sym, arith, rules, refl, length, map, List}
use Rattle.std.specs.Option.{is_some}
use Rattle.std.specs.List.{list_all}
use Rattle.std.proofs.lemmas.Option.{slice_get_read}
use Rattle.scene_kinds.specs.Ranges.{is_in_range}
use Rattle.scene_kinds.specs.declared.value.Value.{Value}
use Rattle.scene_kinds.specs.declared.value.Value.TheVariants.{Vec3}
use Rattle.scene_table.specs.Runs.{vecs_after}
use Rattle.scene_table.specs.Steps.{value_sum}
use Rattle.scene_table.proofs.FirstSums.{vecs_before_more, vecs_fit_more, addends_more, vec_sum_fits, vec_unfit}
use Rattle.scene_table.proofs.sums.vec_series.Goals as goal

pub returns-then-not-vectors_fit-clause-unfit : goal.returns-then-not-vectors_fit-clause-unfit
returns-then-not-vectors_fit-clause-unfit c =
    let values = c.args.values.now in
    let addends = c.args.addends.now in
    let at = c.loop-at.at in
    let vector = c.vector_of-vector.result in
    let addend = c.vector_of-addend.result in
    let there = slice_get_read values (length values) at c.index-values-at.result refl (omega arith) c.index-values-at.is in
    let there_by = slice_get_read addends (length addends) at c.index-addends-at.result refl (omega arith) c.index-addends-at.is in
    let l : length vector ≡ 3 = search rules in
    let m : length addend ≡ 3 = search rules in
    vec_unfit values addends c.index-values-at.result c.index-addends-at.result at there there_by
    ((λ i. is_some (value_sum (c.vector_of-vector.ensures i) (c.vector_of-addend.ensures i))) ∙ vec_sum_fits vector addend l m ∙ sym c.vectors_fit.ensures ∙ c.if-not-vectors_fit.true)

pub loop-at-preserved : goal.loop-at-preserved
loop-at-preserved c =
    let values = c.args.values.now in
    let addends = c.args.addends.now in
    let at = c.loop-at.at in
    let vector = c.vector_of-vector.result in
    let addend = c.vector_of-addend.result in
    let there = slice_get_read values (length values) at c.index-values-at.result refl (omega arith) c.index-values-at.is in
    let there_by = slice_get_read addends (length addends) at c.index-addends-at.result refl (omega arith) c.index-addends-at.is in
    let l : length vector ≡ 3 = search rules in
    let m : length addend ≡ 3 = search rules in
    let base = c.loop-at.base.items in
    let by = c.loop-at.by.items in
    let long : length base ≡ length by = omega arith in
    let e = c.push_reserved.ensures.items in
    let f = c.push_reserved-in-loop-at.ensures.items in
    record {
      before = (λ i. vecs_after (e i) (f i) (pos 0)) ∙ vecs_before_more values base by vector addend c.index-values-at.result at long (l ∙ sym m) c.loop-at.invariant.before there c.vector_of-vector.ensures;
      addends = addends_more addends by addend c.index-addends-at.result at c.loop-at.invariant.addends there_by c.vector_of-addend.ensures ∙ ap (map Vec3) (sym f);
      fits = ap (λ (t : List Value). list_all is_in_range t) (λ i. vecs_after (e i) (f i) (pos 1)) ∙ vecs_fit_more base by vector addend long c.loop-at.invariant.fits (sym c.vectors_fit.ensures ∙ c.if-not-vectors_fit.false);
      room = omega arith;
      room_by = omega arith;
      long = omega arith;
      long_by = omega arith;
    }
