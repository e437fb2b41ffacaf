use Rattle.std.proofs.Common.{◌∙◌, ap, sym, subst, map, w64}
use Rattle.std.proofs.lemmas.Int.{to_z-of_z}
use Rattle.scene_kinds.specs.declared.cells.Row.{Row}
use Rattle.scene_table.specs.Runs.{rows_after, rows_with_rows}
use Rattle.scene_table.specs.Tables.{rows_at, with_rows}
use Rattle.scene_archetypes.specs.Archetypes.{AreHomes}
use Rattle.scene_archetypes.proofs.RunRows.{rows_homes, run_entities}
use Rattle.scene_archetypes.proofs.archetypes.Archetypes.put_run.Goals as goal

pub invariant_of-self : goal.invariant_of-self
invariant_of-self g c =
    let t = c.self.inside.tables.tables in
    let own = c.requires.rows ∙ ap (λ a. map (λ (row : Row). row.entity) (rows_at a.tables c.args.run.now.mask)) (sym c.self.view_is) in
    subst (λ u. AreHomes u c.self.inside.homes.items) (sym (c.put_run.ensures.tables ∙ ap (λ k. with_rows t c.args.run.now.mask (rows_with_rows (rows_at t c.args.run.now.mask) (rows_after c.args.run.now k c.args.changed.now))) (to_z-of_z w64 c.args.turns c.ranges.turns)))
    (rows_homes t c.self.inside.homes.items c.args.run.now.mask (rows_with_rows (rows_at t c.args.run.now.mask) (rows_after c.args.run.now c.args.turns c.args.changed.now)) c.self.invariant
    (run_entities (rows_at t c.args.run.now.mask) c.args.run.now c.args.turns c.args.changed.now own c.width-width.ensures.long c.requires.ticks))
