-- The rows that C reads: the lists of a column beside its cells, and tables beside their kind sets.
use Rattle.std.proofs.Common.{◌≡◌, ℕ, true, false, cond, Bor, List, [], ◌∷◌, length, map, refl, ap, sym, ◌∙◌, arith, Some}
use Rattle.std.specs.List.{filter}
use Rattle.scene_kinds.specs.declared.value.Value.{Value}
use Rattle.scene_kinds.specs.declared.cell.Cell.{Cell}
use Rattle.scene_model.specs.World.{World}
use Rattle.scene_systems.specs.declared.filter.Filter.{Filter}
use Rattle.scene_systems.specs.Filter.{is_match}
use Rattle.scene_table.specs.Columns.{cells_of}
use Rattle.scene_table.specs.Table.{TableState}
use Rattle.scene_table.specs.Tables.{rows_at}
use Rattle.scene_c.specs.Reads.{tick_told, value_told}
use Rattle.scene_c.specs.Shown.{table_of}
use Rattle.scene_c.specs.declared.shown.SceneTable.{SceneTable}

-- the values of cells, and their ticks
pub values_told : (values : List Value) (added changed : List ℕ) → length added ≡ length values → length changed ≡ length values
    → map value_told (map (λ (cell : Cell). Some cell) (cells_of values added changed)) ≡ values
values_told [] added changed a c = refl
values_told (v ∷ values) [] changed a c = absurd (omega (arith, a))
values_told (v ∷ values) (m ∷ added) [] a c = absurd (omega (arith, c))
values_told (v ∷ values) (m ∷ added) (n ∷ changed) a c = ap (λ vs. v ∷ vs) (values_told values added changed (omega (arith, a)) (omega (arith, c)))

pub added_told : (values : List Value) (added changed : List ℕ) → length added ≡ length values → length changed ≡ length values
    → map (tick_told (λ cell. cell.added)) (map (λ (cell : Cell). Some cell) (cells_of values added changed)) ≡ added
added_told [] [] changed a c = refl
added_told [] (m ∷ added) changed a c = absurd (omega (arith, a))
added_told (v ∷ values) [] changed a c = absurd (omega (arith, a))
added_told (v ∷ values) (m ∷ added) [] a c = absurd (omega (arith, c))
added_told (v ∷ values) (m ∷ added) (n ∷ changed) a c = ap (λ ms. m ∷ ms) (added_told values added changed (omega (arith, a)) (omega (arith, c)))

pub changed_told : (values : List Value) (added changed : List ℕ) → length added ≡ length values → length changed ≡ length values
    → map (tick_told (λ cell. cell.changed)) (map (λ (cell : Cell). Some cell) (cells_of values added changed)) ≡ changed
changed_told [] added [] a c = refl
changed_told [] added (n ∷ changed) a c = absurd (omega (arith, c))
changed_told (v ∷ values) [] changed a c = absurd (omega (arith, a))
changed_told (v ∷ values) (m ∷ added) [] a c = absurd (omega (arith, c))
changed_told (v ∷ values) (m ∷ added) (n ∷ changed) a c = ap (λ ns. n ∷ ns) (changed_told values added changed (omega (arith, a)) (omega (arith, c)))

-- tables that a filter matches, over their own kind sets
tables_kept : (w : World) (f : Filter) (ts : List (Bor TableState)) → map (λ t. t.now.rows) ts ≡ map (rows_at w.tables) (map (λ t. t.now.mask) ts)
    → map (λ t. table_of t.now) (filter (λ t. is_match f t.now.mask) ts)
    ≡ map (λ mask. record { mask = mask; rows = length (rows_at w.tables mask) }) (filter (is_match f) (map (λ t. t.now.mask) ts))
tables_kept w f [] h = refl
tables_kept w f (t ∷ ts) h =
    let first : t.now.rows ≡ rows_at w.tables t.now.mask = cc in
    let rest : map (λ t. t.now.rows) ts ≡ map (rows_at w.tables) (map (λ t. t.now.mask) ts) = cc in
    let shown : ℕ → SceneTable = λ mask. record { mask = mask; rows = length (rows_at w.tables mask) } in
    elim (is_match f t.now.mask) as (λ b. map (λ t. table_of t.now) (cond b (t ∷ filter (λ t. is_match f t.now.mask) ts) (filter (λ t. is_match f t.now.mask) ts))
    ≡ map shown (cond b (t.now.mask ∷ filter (is_match f) (map (λ t. t.now.mask) ts)) (filter (is_match f) (map (λ t. t.now.mask) ts)))) [
      | true ↦ λ i. record { mask = t.now.mask; rows = length (first i) } ∷ tables_kept w f ts rest i
      | false ↦ tables_kept w f ts rest
    ]

-- and over the kind sets that they are known to have
pub tables_matching : (w : World) (f : Filter) (ts : List (Bor TableState)) (masks : List ℕ) → map (λ t. t.now.mask) ts ≡ masks → map (λ t. t.now.rows) ts ≡ map (rows_at w.tables) masks
    → map (λ t. table_of t.now) (filter (λ t. is_match f t.now.mask) ts)
    ≡ map (λ mask. record { mask = mask; rows = length (rows_at w.tables mask) }) (filter (is_match f) masks)
tables_matching w f ts masks is rows =
    tables_kept w f ts (rows ∙ ap (map (rows_at w.tables)) (sym is)) ∙ ap (λ ms. map (λ mask. record { mask = mask; rows = length (rows_at w.tables mask) }) (filter (is_match f) ms)) is
