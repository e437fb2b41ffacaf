use Rattle.std.proofs.Common.{◌∙◌, ℤ, ap, sym, arith, refl, length, Some, List, [], to_z, of_z, w64}
use Rattle.std.proofs.lemmas.Int.{to_z-of_z}
use Rattle.std.proofs.lemmas.Option.{slice_get-get_or}
use Rattle.scene_kinds.specs.declared.value.Value.{Value}
use Rattle.scene_kinds.specs.declared.value.Value.TheVariants.{Vec3}
use Rattle.scene_table.specs.Runs.{vecs_after, vector_after}
use Rattle.scene_table.proofs.Fits.{vec_there, vec_fits}
use Rattle.scene_table.proofs.Walks.{write_more, write_all}
use Rattle.scene_table.proofs.Zips.{zip-low}
use Rattle.scene_table.proofs.series.put_vecs.Goals as goal

pub vector_after-requires : goal.vector_after-requires
vector_after-requires c =
    let base = c.args.base.now in
    let by = c.args.by.now in
    let low = zip-low (λ (x y : List ℤ). Vec3 (vector_after x y c.args.turns)) base by in
    let b = slice_get-get_or base c.loop-at.at [] (omega (arith, low.0, low.1)) in
    let d = slice_get-get_or by c.loop-at.at [] (omega (arith, low.0, low.1)) in
    vec_fits base by c.args.turns _ _ _ c.loop-at.at b d (to_z-of_z w64 _ c.ranges.turns) c.requires.range

pub bounds-base-at : goal.bounds-base-at
bounds-base-at c = let low = zip-low (λ (x y : List ℤ). Vec3 (vector_after x y c.args.turns)) c.args.base.now c.args.by.now in omega (arith, low.0, low.1)

pub bounds-by-at : goal.bounds-by-at
bounds-by-at c = let low = zip-low (λ (x y : List ℤ). Vec3 (vector_after x y c.args.turns)) c.args.base.now c.args.by.now in omega (arith, low.0, low.1)

pub loop-at-preserved : goal.loop-at-preserved
loop-at-preserved c =
    let base = c.args.base.now in
    let by = c.args.by.now in
    let low = zip-low (λ (x y : List ℤ). Vec3 (vector_after x y c.args.turns)) base by in
    let b = slice_get-get_or base c.loop-at.at [] (omega (arith, low.0, low.1)) in
    let d = slice_get-get_or by c.loop-at.at [] (omega (arith, low.0, low.1)) in
    let ts = vecs_after base by (to_z w64 (of_z w64 c.args.turns)) in
    let next = vec_there base by _ _ _ _ c.loop-at.at b d refl ∙ ap (λ x. Some (Vec3 x)) (sym c.vector_after.ensures) in
    let t = to_z-of_z w64 _ c.ranges.turns in
    write_more c.loop-at.at ts c.args.values.now c.loop-at.values c.put_vec.new.value c.loop-at.invariant (ap (λ x. length (vecs_after base by x)) t ∙ c.requires.long) (next ∙ ap (λ (v : Value). Some v) (sym c.put_vec.ensures))

pub returns : goal.returns
returns c =
    let base = c.args.base.now in
    let by = c.args.by.now in
    let t = to_z-of_z w64 _ c.ranges.turns in
    let long = ap (λ x. length (vecs_after base by x)) t ∙ c.requires.long in
    write_all c.loop-at.at (vecs_after base by (to_z w64 (of_z w64 c.args.turns))) c.args.values.now c.loop-at.values c.loop-at.invariant long (omega arith) ∙ ap (vecs_after base by) t
