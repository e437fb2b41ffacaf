use Rattle.std.proofs.Common.{◌∙◌, ℤ, ap, sym, arith, refl, length, Some, List, [], to_z, of_z, w64}
use Rattle.std.proofs.lemmas.Int.{to_z-of_z}
use Rattle.std.proofs.lemmas.Option.{slice_get-get_or, slice_get_read}
use Rattle.scene_kinds.specs.declared.value.Value.{Value}
use Rattle.scene_kinds.specs.declared.value.Value.TheVariants.{Vec3}
use Rattle.scene_table.specs.Runs.{vecs_after, vector_after}
use Rattle.scene_table.proofs.Fits.{vec_there, vec_fits}
use Rattle.scene_table.proofs.Walks.{same_more, same_all}
use Rattle.scene_table.proofs.Zips.{zip-low}
use Rattle.scene_table.proofs.series.are_vecs_after.Goals as goal

pub vector_after-requires : goal.vector_after-requires
vector_after-requires c =
    let base = c.args.base.now in
    let by = c.args.by.now in
    let low = zip-low (λ (x y : List ℤ). Vec3 (vector_after x y c.args.turns)) base by in
    let b = slice_get-get_or base c.loop-at.at [] (omega (arith, low.0, low.1)) in
    let d = slice_get-get_or by c.loop-at.at [] (omega (arith, low.0, low.1)) in
    vec_fits base by c.args.turns _ _ _ c.loop-at.at b d (to_z-of_z w64 _ c.ranges.turns) c.requires

pub loop-at-preserved : goal.loop-at-preserved
loop-at-preserved c =
    let base = c.args.base.now in
    let by = c.args.by.now in
    let low = zip-low (λ (x y : List ℤ). Vec3 (vector_after x y c.args.turns)) base by in
    let b = slice_get-get_or base c.loop-at.at [] (omega (arith, low.0, low.1)) in
    let d = slice_get-get_or by c.loop-at.at [] (omega (arith, low.0, low.1)) in
    let ts = vecs_after base by (to_z w64 (of_z w64 c.args.turns)) in
    let next = vec_there base by _ _ _ _ c.loop-at.at b d refl ∙ ap (λ x. Some (Vec3 x)) (sym c.vector_after.ensures) in
    same_more c.loop-at.at c.args.values.now ts c.index-values-at.result c.loop-at.invariant (slice_get_read c.args.values.now (length base) c.loop-at.at c.index-values-at.result (omega arith) (omega arith) c.index-values-at.is)
    (next ∙ ap (λ (v : Value). Some v) (sym (c.is_vec.ensures c.if-not-is_vec.false)))

pub returns : goal.returns
returns c same =
    let base = c.args.base.now in
    let by = c.args.by.now in
    let t = to_z-of_z w64 _ c.ranges.turns in
    let low = zip-low (λ (x y : List ℤ). Vec3 (vector_after x y (to_z w64 (of_z w64 c.args.turns)))) base by in
    same_all c.loop-at.at c.args.values.now (vecs_after base by (to_z w64 (of_z w64 c.args.turns))) c.loop-at.invariant (omega arith) (omega (arith, low.0)) ∙ ap (vecs_after base by) t
