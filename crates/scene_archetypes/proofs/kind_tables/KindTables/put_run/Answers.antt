use Rattle.std.proofs.Common.{◌≡◌, ◌∙◌, ℕ, [], ap, sym, subst, length, map, Some, arith, w64}
use Rattle.std.proofs.lemmas.Int.{to_z-of_z}
use Rattle.std.specs.Prelude.{All, slice_set}
use Rattle.std.specs.Cmp.{nat_cmp_total}
use Rattle.std.specs.FinMap.{nat_cmp-IsAntisymmetric}
use Rattle.scene_kinds.specs.declared.cells.Row.{Row}
use Rattle.scene_kinds.proofs.Lists.{with_list-list_at}
use Rattle.scene_table.specs.declared.run.RunColumn.{RunColumn}
use Rattle.scene_table.specs.Runs.{added_in, changed_of, rows_after, rows_with_rows}
use Rattle.scene_table.specs.Tables.{rows_at, with_rows}
use Rattle.scene_table.proofs.RunFacts.{length-mapped}
use Rattle.scene_archetypes.specs.KindTables.{NoneHas, StandsAt}
use Rattle.scene_archetypes.proofs.Rooms.{IsThere, IsStep, there, step, now_held}
use Rattle.scene_archetypes.proofs.RunRows.{few_over}
use Rattle.scene_archetypes.proofs.Stored.{none_seen}
use Rattle.scene_archetypes.proofs.kind_tables.KindTables.put_run.Goals as goal

-- the table, and the tables after it
here : (g : _) (c : goal.After-index_mut g) → IsThere c.args.self.now c.args.run.now.mask c.index_mut.result.now
here g c =
    there c.self.inside.tables.items c.as_slice.result.now c.args.self.now c.args.run.now.mask c.in-Some.at c.index_mut.result.now c.self.view_is c.as_slice.ensures.value
    (subst (λ (m : ℕ). StandsAt c.as_slice.result.now m c.in-Some.at) c.mask.ensures c.in-Some.ensures.some) c.index_mut.ensures.value

after : (g : _) (c : goal.After-self-1 g) → IsStep c.self.inside.kind_sets.keys c.args.self.now (slice_set c.self.inside.tables.items c.in-Some.at c.put_run.new.self) c.args.run.now.mask
    (rows_with_rows (rows_at c.args.self.now.tables c.args.run.now.mask) (rows_after c.args.run.now c.args.turns c.args.changed.now))
after g c =
    let rows = rows_at c.args.self.now.tables c.args.run.now.mask in
    let written = rows_after c.args.run.now c.args.turns c.args.changed.now in
    let stands = subst (λ (m : ℕ). StandsAt c.as_slice.result.now m c.in-Some.at) c.mask.ensures c.in-Some.ensures.some in
    let own = there c.self.inside.tables.items c.as_slice.result.now c.args.self.now c.args.run.now.mask c.in-Some.at c.index_mut.result.now c.self.view_is c.as_slice.ensures.value stands c.index_mut.ensures.value in
    step c.self.inside.kind_sets.keys c.self.inside.tables.items c.as_slice.result.now c.args.self.now c.args.run.now.mask c.in-Some.at c.index_mut.result.now c.put_run.new.self (rows_with_rows rows written) c.self.view_is c.as_slice.ensures.value stands
    c.index_mut.ensures.value c.self.invariant c.put_run.ensures.mask (c.put_run.ensures.rows ∙ ap (λ t. rows_with_rows c.index_mut.result.now.rows (rows_after c.args.run.now t c.args.changed.now)) (to_z-of_z w64 c.args.turns c.ranges.turns)
    ∙ ap (λ rs. rows_with_rows rs written) (sym own.rows)) c.put_run.ensures.capacity
    (let held = now_held c.self.inside.tables.items c.args.self.now c.self.view_is c.self.invariant.room c.args.run.now.mask in omega (arith, held, few_over rows written))

pub returns-in_default-clause-tables : goal.returns-in_default-clause-tables
returns-in_default-clause-tables g c =
    let t = c.args.self.now.tables in
    let m = c.args.run.now.mask in
    let written = rows_after c.args.run.now c.args.turns c.args.changed.now in
    let seen = none_seen m c.self.inside.tables.items (subst (λ k. NoneHas k c.self.inside.tables.items) c.mask.ensures (subst (NoneHas c.mask.result) c.as_slice.ensures.value c.in_default.ensures.none)) in
    let none : rows_at t m ≡ [] = sym (ap (λ u. rows_at u.tables m) c.self.view_is) ∙ seen in
    sym (ap (λ rows. with_rows t m (rows_with_rows rows written)) none ∙ ap (with_rows t m) (sym none) ∙ with_list-list_at nat_cmp_total nat_cmp-IsAntisymmetric t m)

pub put_run-requires-clause-mask : goal.put_run-requires-clause-mask
put_run-requires-clause-mask g c κs within = sym (here g c).named

pub put_run-requires-clause-rows : goal.put_run-requires-clause-rows
put_run-requires-clause-rows g c κs within = c.requires.rows ∙ ap (map (λ (row : Row). row.entity)) (here g c).rows

pub put_run-requires-clause-ticks : goal.put_run-requires-clause-ticks
put_run-requires-clause-ticks g c κs within = λ number column at.
    let count = ap length (c.requires.rows ∙ ap (map (λ (row : Row). row.entity)) (here g c).rows) ∙ length-mapped (λ (row : Row). row.entity) c.index_mut.result.now.rows in
    subst (λ n. length (changed_of c.args.changed.now number n) ≡ n) count (c.requires.ticks number column at)

pub put_run-requires-clause-added : goal.put_run-requires-clause-added
put_run-requires-clause-added g c κs within = subst (λ rows. All (λ (x : RunColumn). added_in rows x.kind ≡ map (λ (tick : ℕ). Some tick) x.added.items) c.args.run.now.columns) (here g c).rows c.requires.added

pub invariant_of-self : goal.invariant_of-self
invariant_of-self g c = (after g c).sound

pub returns-clause-tables : goal.returns-clause-tables
returns-clause-tables g c = (after g c).tables

pub returns-clause-rooms : goal.returns-clause-rooms
returns-clause-rooms g c = (after g c).rooms
