-- The rows of a table over which others are written: their entities stay, and with them the homes.
use Rattle.std.proofs.Common.{◌≡◌, ◌≤◌, ℕ, zero, suc, ℤ, true, false, List, [], ◌∷◌, length, map, refl, ap, subst, sym, ◌∙◌, arith, Option, Some, None}
use Rattle.std.specs.Prelude.{slice_get}
use Rattle.std.specs.Ordering.{nat_cmp, eq_by_cmp}
use Rattle.std.specs.FinMap.{nat_cmp-IsAntisymmetric}
use Rattle.scene_kinds.specs.declared.entity.Entity.{Entity}
use Rattle.scene_kinds.specs.declared.cells.Row.{Row}
use Rattle.scene_kinds.proofs.Maps.{equal_keys}
use Rattle.scene_table.specs.declared.home.Home.{Home}
use Rattle.scene_table.specs.declared.run.RunColumn.{RunColumn}
use Rattle.scene_table.specs.Runs.{AreLongFor, Changed, RunState, changed_of, columns_after, rows_after, rows_with_rows}
use Rattle.scene_table.specs.Tables.{Tables, row_at, rows_at, with_rows}
use Rattle.scene_table.proofs.RowsWithCells.{with_cells-entity}
use Rattle.scene_table.proofs.RunFacts.{length-mapped}
use Rattle.scene_table.proofs.Standing.{apart, from_list, in_list, there_apart, there_written, written_rows}
use Rattle.scene_table.proofs.TableRows.{length-rows_of}
use Rattle.scene_table.proofs.TurnCells.{columns_long}
use Rattle.scene_archetypes.specs.Archetypes.{AreHomes}

abbrev pub entities_in : List Row → List Entity
entities_in rows = map (λ (row : Row). row.entity) rows

first_entity : (e f : Entity) (es fs : List Entity) → e ∷ es ≡ f ∷ fs → e ≡ f
first_entity e f es fs h = cc

rest_entities : (e f : Entity) (es fs : List Entity) → e ∷ es ≡ f ∷ fs → es ≡ fs
rest_entities e f es fs h = cc

-- the row of the same entity in another list
row_like : (xs ys : List Row) (i : ℕ) (y : Row) → entities_in xs ≡ entities_in ys → slice_get ys i ≡ Some y → (x : Row) × ((slice_get xs i ≡ Some x) × (x.entity ≡ y.entity))
row_like xs [] i y e h = absurd (let k : None ≡ Some y = h in cc)
row_like [] (z ∷ ys) i y e h = absurd (let k : [] ≡ z.entity ∷ entities_in ys = e in cc)
row_like (x ∷ xs) (z ∷ ys) zero y e h =
    let same : z ≡ y = (let k : Some z ≡ Some y = h in cc) in
    (x, (refl, first_entity x.entity z.entity (entities_in xs) (entities_in ys) e ∙ ap (λ (r : Row). r.entity) same))
row_like (x ∷ xs) (z ∷ ys) (suc i) y e h = row_like xs ys i y (rest_entities x.entity z.entity (entities_in xs) (entities_in ys) e) h

-- rows of the same entities in the same order have the same homes
pub rows_homes : (t : Tables) (homes : List (Option Home)) (m : ℕ) (new : List Row) → AreHomes t homes → entities_in (rows_at t m) ≡ entities_in new → AreHomes (with_rows t m new) homes
rows_homes t homes m new a same = record {
  kept = λ h r is. written_rows (slice_get homes r.entity.index ≡ Some (Some h)) t m new h r is
      (λ e g.
      let old = row_like (rows_at t m) new h.place r same g in
      subst (λ (x : Entity). slice_get homes x.index ≡ Some (Some h)) old.1.1 (a.kept h old.0 (from_list t m h old.0 e old.1.0)))
      (λ ne g. a.kept h r g);
  found = λ i h is.
      let w = a.found i h is in
      elim (eq_by_cmp nat_cmp h.mask m) as (λ b. eq_by_cmp nat_cmp h.mask m ≡ b → (row : Row) × ((row_at (with_rows t m new) h ≡ Some row) × (row.entity.index ≡ i))) [
        | true ↦ λ e.
            let own = equal_keys nat_cmp-IsAntisymmetric h.mask m e in
            let there = row_like new (rows_at t m) h.place w.0 (sym same) (in_list t m h w.0 own w.1.0) in
            (there.0, (there_written t m new h there.0 own there.1.0, ap (λ (x : Entity). x.index) there.1.1 ∙ w.1.1))
        | false ↦ λ e. (w.0, (there_apart t m new h w.0 (apart h.mask m e) w.1.0, w.1.1))
      ] refl;
}

-- ---- rows over which others are written

pub few_over : (rows written : List Row) → length (rows_with_rows rows written) ≤ length rows
few_over [] written = omega arith
few_over (r ∷ rows) [] = omega arith
few_over (r ∷ rows) (w ∷ written) = omega (arith, few_over rows written)

entities_kept : (rows written : List Row) → length written ≡ length rows → entities_in rows ≡ entities_in (rows_with_rows rows written)
entities_kept [] written e = refl
entities_kept (r ∷ rows) [] e = absurd (omega arith)
entities_kept (r ∷ rows) (w ∷ written) e = λ i. with_cells-entity r w.cells i ∷ entities_kept rows written (omega arith) i

pub run_entities : (rows : List Row) (run : RunState) (turns : ℤ) (changed : Changed) → run.entities ≡ entities_in rows → AreLongFor run.entities run.columns
    → ((number : ℕ) (c : RunColumn) → slice_get run.columns number ≡ Some c → length (changed_of changed number (length run.entities)) ≡ length run.entities)
    → entities_in rows ≡ entities_in (rows_with_rows rows (rows_after run turns changed))
run_entities rows run turns changed own long ticks =
    let columns = columns_long 0 run.columns run.entities turns changed long
    (λ k c there. ap (λ n. length (changed_of changed n (length run.entities))) (omega arith) ∙ ticks k c there) in
    entities_kept rows (rows_after run turns changed)
    (length-rows_of run.entities (columns_after 0 run.columns turns changed) columns ∙ ap length own ∙ length-mapped (λ (row : Row). row.entity) rows)
