use Rattle.std.proofs.Common.{◌≡◌, ◌∙◌, ℕ, ℤ, List, Some, All, length, subst, ap, sym, arith, to_z, of_z, w64}
use Rattle.std.specs.Prelude.{vec_capacity, slice_get}
use Rattle.std.proofs.lemmas.Int.{to_z-of_z}
use Rattle.scene_table.specs.declared.run.RunColumn.{RunColumn}
use Rattle.scene_table.specs.Columns.{AreLong, ColumnState, IsTable, least, rows_of}
use Rattle.scene_table.specs.Runs.{AreLongFor, changed_of, grown}
use Rattle.scene_table.proofs.ColumnsTurned.{put_changed, put_rows, put_table, put_values, turned_back, least_turned}
use Rattle.scene_table.proofs.table.Table.put_run.Goals as goal

pub put_columns-requires-clause-long : goal.put_columns-requires-clause-long
put_columns-requires-clause-long g c κs within =
    let rows = ap (λ t. t.rows) c.self.view_is in
    let long = subst (AreLongFor c.args.run.now.entities) c.columns.ensures.columns c.columns.ensures.long in
    let all = put_values c.self.inside.mask (vec_capacity c.self.inside.entities) c.self.inside.entities.items c.self.inside.columns.items c.args.self.now.rows c.self.invariant rows
    c.args.run.now.entities c.args.run.now.columns c.args.turns c.args.changed.now c.requires.rows long c.requires.ticks c.requires.added in
    subst (λ (t : ℤ). All (λ (x : RunColumn). AreLong (length (grown x.series t)) c.deref_mut.result.now) c.columns.result.now) (sym (to_z-of_z w64 c.args.turns c.ranges.turns))
    (subst (λ (cs : List ColumnState). All (λ (x : RunColumn). AreLong (length (grown x.series c.args.turns)) cs) c.columns.result.now) (sym c.deref_mut.ensures.value)
    (subst (λ (xs : List RunColumn). All (λ (x : RunColumn). AreLong (length (grown x.series c.args.turns)) c.self.inside.columns.items) xs) (sym c.columns.ensures.columns) all))

pub put_columns-requires-clause-ticks : goal.put_columns-requires-clause-ticks
put_columns-requires-clause-ticks g c κs within =
    let rows = ap (λ t. t.rows) c.self.view_is in
    let long = subst (AreLongFor c.args.run.now.entities) c.columns.ensures.columns c.columns.ensures.long in
    let each = put_changed c.self.inside.mask (vec_capacity c.self.inside.entities) c.self.inside.entities.items c.self.inside.columns.items c.args.self.now.rows c.self.invariant rows
    c.args.run.now.entities c.args.run.now.columns c.args.turns c.args.changed.now c.requires.rows long c.requires.ticks c.requires.added in
    subst (λ (t : ℤ). (number : ℕ) (x : RunColumn) → slice_get c.columns.result.now number ≡ Some x → length (changed_of c.args.changed.now number (length (grown x.series t))) ≡ length (grown x.series t))
    (sym (to_z-of_z w64 c.args.turns c.ranges.turns)) (λ number x there. each number x (ap (λ xs. slice_get xs number) (sym c.columns.ensures.columns) ∙ there))

pub invariant_of-self : goal.invariant_of-self
invariant_of-self g c =
    let rows = ap (λ t. t.rows) c.self.view_is in
    let long = subst (AreLongFor c.args.run.now.entities) c.columns.ensures.columns c.columns.ensures.long in
    let back = turned_back c.self.inside.columns.len c.args.run.now.columns c.columns.result.now c.args.turns (to_z w64 (of_z w64 c.args.turns)) c.args.changed.now c.self.inside.columns.items c.deref_mut.result.now c.put_columns.new.columns
    (omega arith) c.deref_mut.ensures.value c.columns.ensures.columns (to_z-of_z w64 c.args.turns c.ranges.turns) c.put_columns.ensures in
    subst (IsTable c.self.inside.mask c.self.inside.entities.items (vec_capacity c.self.inside.entities)) (sym back) (put_table c.self.inside.mask (vec_capacity c.self.inside.entities) c.self.inside.entities.items c.self.inside.columns.items c.args.self.now.rows c.self.invariant rows
    c.args.run.now.entities c.args.run.now.columns c.args.turns c.args.changed.now c.requires.rows long c.requires.ticks c.requires.added)

pub returns-clause-rows : goal.returns-clause-rows
returns-clause-rows g c =
    let rows = ap (λ t. t.rows) c.self.view_is in
    let long = subst (AreLongFor c.args.run.now.entities) c.columns.ensures.columns c.columns.ensures.long in
    let back = turned_back c.self.inside.columns.len c.args.run.now.columns c.columns.result.now c.args.turns (to_z w64 (of_z w64 c.args.turns)) c.args.changed.now c.self.inside.columns.items c.deref_mut.result.now c.put_columns.new.columns
    (omega arith) c.deref_mut.ensures.value c.columns.ensures.columns (to_z-of_z w64 c.args.turns c.ranges.turns) c.put_columns.ensures in
    ap (rows_of c.self.inside.entities.items) back
    ∙ put_rows c.self.inside.mask (vec_capacity c.self.inside.entities) c.self.inside.entities.items c.self.inside.columns.items c.args.self.now.rows c.self.invariant rows
    c.args.run.now.entities c.args.run.now.columns c.args.turns c.args.changed.now c.requires.rows long c.requires.ticks c.requires.added

pub returns-clause-capacity : goal.returns-clause-capacity
returns-clause-capacity g c =
    let back = turned_back c.self.inside.columns.len c.args.run.now.columns c.columns.result.now c.args.turns (to_z w64 (of_z w64 c.args.turns)) c.args.changed.now c.self.inside.columns.items c.deref_mut.result.now c.put_columns.new.columns
    (omega arith) c.deref_mut.ensures.value c.columns.ensures.columns (to_z-of_z w64 c.args.turns c.ranges.turns) c.put_columns.ensures in
    ap (least (vec_capacity c.self.inside.entities)) back
    ∙ least_turned 0 c.args.run.now.columns c.args.turns c.args.changed.now (vec_capacity c.self.inside.entities) c.self.inside.columns.items
    ∙ ap (λ t. t.capacity) c.self.view_is
