use Rattle.std.proofs.Common.{◌≡◌, ◌<◌, ◌-◌, ◌^◌, length, map, subst, sym, ap, ◌∙◌, arith, Some, IfOk}
use Rattle.std.specs.Prelude.{slice_get}
use Rattle.std.specs.List.{AllZip, range_with_len}
use Rattle.std.specs.declared.alloc.AllocError.{AllocError}
use Rattle.std.proofs.lemmas.List.{length-map}
use Rattle.rayon.specs.Numbers.{nat_range}
use Rattle.rayon.proofs.ToStd.{nat_range-All}
use Rattle.scene_pass.specs.Changes.{change_of}
use Rattle.scene_pass.proofs.ChangedRows.{answers_by_place, ok_from_match}
use Rattle.scene_pass.proofs.changed_rows.parted_changes.Goals as goal

pub collect-requires-clause-ready : goal.collect-requires-clause-ready
collect-requires-clause-ready g c κs within =
    let ends = c.into_par_iter.ensures in
    let count = c.len.ensures.count in
    let few = c.requires in
    let inside = nat_range-All (λ i. (i < length c.args.table.now.rows) × (length c.args.steps.now < 2 ^ 32)) 0 c.len.result (λ i low high. (omega (arith, high, count), few)) in
    rw (c.map.ensures.base, c.map.ensures.f, ends.0, ends.1) (λ k d lt. (inside k d lt, λ y p. tt))

pub returns : goal.returns
returns g c =
    let ends = c.into_par_iter.ensures in
    let rows = c.args.table.now.rows in
    let all = map (change_of c.args.steps.now) rows in
    let whole : c.len.result - 0 ≡ length rows = omega (arith, c.len.ensures.count) in
    let made = c.in_ok-made.ensures in
    let chain = rw (c.map.ensures.base, c.map.ensures.f) at made.1 in
    let places = chain.1 ∙ (λ i. nat_range (ends.0 i) (ends.1 i)) ∙ ap (range_with_len 0) whole in
    ok_from_match c.in_ok-made.made _ _ _ made.2 (λ v h.
    h.2 ∙ answers_by_place AllocError all (length rows) made.0 h.0 (sym (length-map rows (change_of c.args.steps.now)))
    (subst (λ l. AllZip (λ at r. IfOk r (λ y. slice_get all at ≡ Some y)) l made.0) places chain.2) h.1)
