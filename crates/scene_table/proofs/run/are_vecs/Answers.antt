use Rattle.std.proofs.Common.{◌∙◌, ap, sym, arith, refl, length, map, Some, []}
use Rattle.std.specs.Option.{option_map}
use Rattle.std.proofs.lemmas.Option.{slice_get-get_or, slice_get_read, slice_get-map}
use Rattle.scene_kinds.specs.declared.value.Value.{Value}
use Rattle.scene_kinds.specs.declared.value.Value.TheVariants.{Vec3}
use Rattle.scene_table.proofs.Walks.{same_more}
use Rattle.scene_table.proofs.run.are_vecs.Goals as goal

pub loop-at-preserved : goal.loop-at-preserved
loop-at-preserved c =
    let values = c.args.values.now in
    let vectors = c.args.vectors.now in
    same_more c.loop-at.at values (map Vec3 vectors) c.index-values-at.result c.loop-at.invariant (slice_get_read values (length values) c.loop-at.at c.index-values-at.result refl (omega arith) c.index-values-at.is)
    (slice_get-map Vec3 vectors c.loop-at.at ∙ ap (option_map Vec3) (slice_get-get_or vectors c.loop-at.at [] (omega arith)) ∙ ap (λ (v : Value). Some v) (sym (c.is_vec.ensures c.if-not-is_vec.false)))
