use Rattle.std.proofs.Common.{◌≡◌, ◌+◌, ◌∙◌, ◌++◌, ℤ, pos, ap, sym, subst, arith, rules, refl, length, take, List, [], ◌∷◌, FitsSigned, to_z, of_z, w64}
use Rattle.std.specs.Option.{is_some}
use Rattle.std.proofs.lemmas.Int.{to_z-of_z}
use Rattle.std.proofs.lemmas.Option.{slice_get_read}
use Rattle.scene_kinds.specs.declared.value.Value.TheVariants.{Int}
use Rattle.scene_table.specs.Runs.{AreInRange, ints_after}
use Rattle.scene_table.specs.Steps.{value_sum}
use Rattle.scene_table.proofs.FirstSums.{ints_before_more, ints_fit_more, int_unfit}
use Rattle.scene_table.proofs.sums.int_series.Goals as goal

pub returns-in_default-clause-unfit : goal.returns-in_default-clause-unfit
returns-in_default-clause-unfit c =
    let values = c.args.values.now in
    let by = to_z w64 (of_z w64 c.args.by) in
    let at = c.loop-value.value-index in
    let there = slice_get_read values (length values) at c.value-item.result refl (omega arith) c.value-item.is in
    int_unfit values c.args.by c.value-item.result at there (ap (λ x. is_some (value_sum c.value-item.result (Int x))) (sym (to_z-of_z w64 c.args.by c.ranges.by)) ∙ c.in_default.ensures.unfit)

pub loop-value-preserved : goal.loop-value-preserved
loop-value-preserved c =
    let values = c.args.values.now in
    let by = to_z w64 (of_z w64 c.args.by) in
    let at = c.loop-value.value-index in
    let there = slice_get_read values (length values) at c.value-item.result refl (omega arith) c.value-item.is in
    let number : FitsSigned w64 c.in-Some.number = search rules in
    let base = c.loop-value.base.items in
    let e : c.push_reserved.new.self.items ≡ base ++ c.in-Some.number ∷ [] = c.push_reserved.ensures.items ∙ ap (λ x. base ++ x ∷ []) (to_z-of_z w64 c.in-Some.number number) in
    record {
      before = subst (λ (t : List ℤ). ints_after t by (pos 0) ≡ take (at + 1) values) (sym e) (ints_before_more values base c.in-Some.number by c.value-item.result at c.loop-value.invariant.before there c.in-Some.ensures.value);
      fits = subst (λ (t : List ℤ). AreInRange (ints_after t by (pos 1))) (sym e) (ints_fit_more base c.in-Some.number by c.loop-value.invariant.fits c.in-Some.ensures.fits);
      room = omega arith;
      long = omega arith;
    }
