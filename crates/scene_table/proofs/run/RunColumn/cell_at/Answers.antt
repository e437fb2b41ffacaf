use Rattle.std.proofs.Common.{◌∙◌, ℤ, length, ap, sym, refl, w64}
use Rattle.std.specs.Prelude.{slice_get}
use Rattle.std.proofs.lemmas.Int.{to_z-of_z}
use Rattle.std.proofs.lemmas.Option.{slice_get_read}
use Rattle.scene_table.specs.Columns.{stamped, ticks, zip_with}
use Rattle.scene_table.specs.Runs.{grown}
use Rattle.scene_table.proofs.Zips.{zip-get}
use Rattle.scene_table.proofs.run.RunColumn.cell_at.Goals as goal

pub returns : goal.returns
returns c changes there =
    let place = c.args.place in
    let added = c.args.self.now.added.items in
    let values = grown c.args.self.now.series c.args.turns in
    let value = ap (λ (t : ℤ). slice_get (grown c.args.self.now.series t) place) (sym (to_z-of_z w64 c.args.turns c.ranges.turns)) ∙ c.value_at.ensures in
    zip-get stamped values (zip_with ticks added changes) place c.value_at.result (c.index.result.now, c.args.changed) value
    (zip-get ticks added changes place c.index.result.now c.args.changed (slice_get_read added (length added) place c.index.result.now refl c.requires.added c.index.ensures) there)
