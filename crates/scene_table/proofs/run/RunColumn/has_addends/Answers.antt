use Rattle.std.proofs.Common.{◌∙◌, ap, sym, subst, map, Some}
use Rattle.scene_kinds.specs.declared.value.Value.{Value}
use Rattle.scene_kinds.specs.declared.value.Value.TheVariants.{Vec3}
use Rattle.scene_table.specs.Runs.{HaveAddends}
use Rattle.scene_table.proofs.RunFacts.{some_vectors, values_lent}
use Rattle.scene_table.proofs.run.RunColumn.has_addends.Goals as goal

pub returns-in-Some-column : goal.returns-in-Some-column
returns-in-Some-column c same =
    let rows = c.args.table.now.rows in
    let kind = c.in-Some.kind in
    let lent = c.in-Some-column.lent in
    subst (λ b. HaveAddends rows b c.args.self.now.series) (sym c.in-Some.is) (subst (HaveAddends rows (Some kind)) (sym c.in-Vecs.is)
    (values_lent rows kind lent.values.now lent.added.now lent.changed.now c.in-Some-column.ensures.cells c.in-Some-column.ensures.lists.0 c.in-Some-column.ensures.lists.1
    ∙ ap (map (λ (v : Value). Some v)) (c.are_vecs.ensures same ∙ ap (map Vec3) c.as_slice.ensures.value) ∙ some_vectors c.in-Vecs.by.items))
