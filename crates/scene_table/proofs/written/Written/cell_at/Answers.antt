use Rattle.std.proofs.Common.{◌≡◌, ◌∙◌, ◌<◌, ◌+ℤ◌, ◌<ℤ◌, ◌^◌, pos, ℤ, List, length, get_or, subst, ap, sym, arith, FitsSigned, to_z, of_z, w64}
use Rattle.std.specs.Prelude.{slice_get}
use Rattle.std.proofs.lemmas.Int.{to_z-of_z}
use Rattle.std.proofs.lemmas.Option.{get_or_from_slice_get}
use Rattle.scene_kinds.specs.declared.cells.Row.{Row}
use Rattle.scene_kinds.specs.declared.entity.Entity.{Entity}
use Rattle.scene_table.specs.Columns.{rows_of}
use Rattle.scene_table.specs.Runs.{RunState, Same, TurnState, changed_of, columns_after, rows_after_turn, rows_before_turn}
use Rattle.scene_table.proofs.CellsOfTurn.{cell_of_run, next_fits, run_long, same_tick, tick_there}
use Rattle.scene_table.proofs.TurnCells.{length-grown}
use Rattle.scene_table.proofs.written.Written.cell_at.Goals as goal

pub cell_at-requires-clause-value : goal.cell_at-requires-clause-value
cell_at-requires-clause-value c =
    let columns : c.columns.result.now ≡ c.self.inside.run.value.columns = c.columns.ensures.columns ∙ ap (λ (r : RunState). r.columns) c.deref.ensures in
    let within : c.args.number < length c.columns.result.now = omega (arith, c.requires.number, ap length columns, ap (λ (t : TurnState). length t.run.columns) c.self.view_is) in
    let place : c.args.place < length c.deref.result.now.entities = omega (arith, c.requires.place, ap (λ (r : RunState). length r.entities) c.deref.ensures, ap (λ (t : TurnState). length t.run.entities) c.self.view_is) in
    let wide = run_long c.deref.result.now.entities c.columns.result.now c.args.number c.index-columns-number.result c.columns.ensures.long within c.index-columns-number.is in
    let same = length-grown c.index-columns-number.result.series (to_z w64 (of_z w64 c.turns-turns.result)) (pos 0) in
    omega (arith, place, wide.1, same)

pub cell_at-requires-2-clause-value : goal.cell_at-requires-2-clause-value
cell_at-requires-2-clause-value c =
    let columns : c.columns.result.now ≡ c.self.inside.run.value.columns = c.columns.ensures.columns ∙ ap (λ (r : RunState). r.columns) c.deref.ensures in
    let within : c.args.number < length c.columns.result.now = omega (arith, c.requires.number, ap length columns, ap (λ (t : TurnState). length t.run.columns) c.self.view_is) in
    let place : c.args.place < length c.deref.result.now.entities = omega (arith, c.requires.place, ap (λ (r : RunState). length r.entities) c.deref.ensures, ap (λ (t : TurnState). length t.run.entities) c.self.view_is) in
    let wide = run_long c.deref.result.now.entities c.columns.result.now c.args.number c.index-columns-number.result c.columns.ensures.long within c.index-columns-number.is in
    let same = length-grown c.index-columns-number.result.series (to_z w64 (of_z w64 (to_z w64 (of_z w64 c.turns-turns.result) +ℤ pos 1))) (pos 0) in
    omega (arith, place, wide.1, same)

pub returns-clause-before : goal.returns-clause-before
returns-clause-before c row there =
    let columns : c.columns.result.now ≡ c.self.inside.run.value.columns = c.columns.ensures.columns ∙ ap (λ (r : RunState). r.columns) c.deref.ensures in
    let within : c.args.number < length c.columns.result.now = omega (arith, c.requires.number, ap length columns, ap (λ (t : TurnState). length t.run.columns) c.self.view_is) in
    let place : c.args.place < length c.deref.result.now.entities = omega (arith, c.requires.place, ap (λ (r : RunState). length r.entities) c.deref.ensures, ap (λ (t : TurnState). length t.run.entities) c.self.view_is) in
    let wide = run_long c.deref.result.now.entities c.columns.result.now c.args.number c.index-columns-number.result c.columns.ensures.long within c.index-columns-number.is in
    let turns : to_z w64 (of_z w64 c.turns-turns.result) ≡ c.args.self.now.turns = to_z-of_z w64 c.turns-turns.result (record { sfits = c.turns-turns.type_inv }) ∙ c.turns-turns.ensures in
    let column = c.index-columns-number.result in
    let before = c.self.inside.before in
    let tick = tick_there before c.args.number c.args.place (length column.added.items) c.at-changed.result c.at-changed.ensures (omega (arith, place, wide.0)) in
    let cell = c.cell_at.ensures (changed_of before c.args.number (length column.added.items)) tick in
    let rows : rows_before_turn c.args.self.now ≡ rows_of c.deref.result.now.entities (columns_after 0 c.columns.result.now (to_z w64 (of_z w64 c.turns-turns.result)) before) =
    λ i. rows_of ((ap (λ (t : TurnState). t.run.entities) (sym c.self.view_is) ∙ ap (λ (r : RunState). r.entities) (sym c.deref.ensures)) i)
    (columns_after 0 ((ap (λ (t : TurnState). t.run.columns) (sym c.self.view_is) ∙ sym columns) i) (sym turns i) (ap (λ (t : TurnState). t.before) (sym c.self.view_is) i)) in
    let is = cell_of_run c.deref.result.now.entities c.columns.result.now (to_z w64 (of_z w64 c.turns-turns.result)) before c.args.place c.args.number column c.cell_at.result row within c.index-columns-number.is cell
    (ap (λ (rs : List Row). slice_get rs c.args.place) (sym rows) ∙ there) in
    let entities : c.entities.result.now ≡ c.deref.result.now.entities = c.entities.ensures ∙ ap (λ (r : RunState). r.entities) (c.deref-2.ensures ∙ sym c.deref.ensures) in
    (sym (ap (λ (es : List Entity). get_or es c.args.place (record { index = 0; generation = 0 })) entities ∙ get_or_from_slice_get c.deref.result.now.entities c.args.place row.entity (record { index = 0; generation = 0 }) is.0), is.1)

pub returns-clause-after : goal.returns-clause-after
returns-clause-after c row there =
    let columns : c.columns.result.now ≡ c.self.inside.run.value.columns = c.columns.ensures.columns ∙ ap (λ (r : RunState). r.columns) c.deref.ensures in
    let within : c.args.number < length c.columns.result.now = omega (arith, c.requires.number, ap length columns, ap (λ (t : TurnState). length t.run.columns) c.self.view_is) in
    let place : c.args.place < length c.deref.result.now.entities = omega (arith, c.requires.place, ap (λ (r : RunState). length r.entities) c.deref.ensures, ap (λ (t : TurnState). length t.run.entities) c.self.view_is) in
    let wide = run_long c.deref.result.now.entities c.columns.result.now c.args.number c.index-columns-number.result c.columns.ensures.long within c.index-columns-number.is in
    let turns : to_z w64 (of_z w64 c.turns-turns.result) ≡ c.args.self.now.turns = to_z-of_z w64 c.turns-turns.result (record { sfits = c.turns-turns.type_inv }) ∙ c.turns-turns.ensures in
    let column = c.index-columns-number.result in
    let later = to_z w64 (of_z w64 (to_z w64 (of_z w64 c.turns-turns.result) +ℤ pos 1)) in
    let fits : FitsSigned w64 (to_z w64 (of_z w64 c.turns-turns.result) +ℤ pos 1) =
    next_fits (to_z w64 (of_z w64 c.turns-turns.result)) (subst (FitsSigned w64) (sym (to_z-of_z w64 c.turns-turns.result (record { sfits = c.turns-turns.type_inv }))) (record { sfits = c.turns-turns.type_inv }))
    (subst (λ (t : ℤ). (t +ℤ pos 1) <ℤ pos (2 ^ 63)) (ap (λ (t : TurnState). t.turns) c.self.view_is ∙ sym turns) c.self.invariant.counted) in
    let cell = c.cell_at-2.ensures (changed_of (Same c.self.inside.tick) c.args.number (length column.added.items)) (same_tick (length column.added.items) c.args.place c.self.inside.tick (omega (arith, place, wide.0))) in
    let rows : rows_after_turn c.args.self.now ≡ rows_of c.deref.result.now.entities (columns_after 0 c.columns.result.now later (Same c.self.inside.tick)) =
    λ i. rows_of ((ap (λ (t : TurnState). t.run.entities) (sym c.self.view_is) ∙ ap (λ (r : RunState). r.entities) (sym c.deref.ensures)) i)
    (columns_after 0 ((ap (λ (t : TurnState). t.run.columns) (sym c.self.view_is) ∙ sym columns) i)
    (sym (to_z-of_z w64 (to_z w64 (of_z w64 c.turns-turns.result) +ℤ pos 1) fits ∙ ap (λ (t : ℤ). t +ℤ pos 1) turns) i) (ap (λ (t : TurnState). Same t.tick) (sym c.self.view_is) i)) in
    let is = cell_of_run c.deref.result.now.entities c.columns.result.now later (Same c.self.inside.tick) c.args.place c.args.number column c.cell_at-2.result row within c.index-columns-number.is cell
    (ap (λ (rs : List Row). slice_get rs c.args.place) (sym rows) ∙ there) in
    is.1
