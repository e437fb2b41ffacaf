-- What is known of a row at a home, and of its kinds.
use Rattle.std.proofs.Common.{◌≡◌, ℕ, ◌<◌, ◌≤◌, true, false, List, [], ◌∷◌, length, nat_lt, refl, arith, Some, None}
use Rattle.std.specs.Prelude.{slice_get, option_map}
use Rattle.std.specs.List.{list_all}
use Rattle.std.proofs.lemmas.Bool.{and_parts, and_from, lt-ltb}
use Rattle.std.proofs.lemmas.Option.{slice_get_within}
use Rattle.scene_kinds.specs.declared.cell.Cell.{Cell}
use Rattle.scene_kinds.specs.declared.cells.Row.{Row}
use Rattle.scene_kinds.specs.declared.shape.Shape.{Shape}
use Rattle.scene_kinds.specs.declared.value.Value.{Value}
use Rattle.scene_kinds.specs.Cells.{AreKindsBelow}
use Rattle.scene_kinds.specs.Schema.{Kinds, fits_kind, has_shape}
use Rattle.scene_model.specs.Valid.{IsRowOf}

-- a value that fits a kind fits one of the schema
pub fits_known : (schema : Kinds) (value : Value) (kind : ℕ) → fits_kind schema value kind ≡ true → kind < length schema
fits_known schema value kind h = elim (slice_get schema kind) as (λ o. slice_get schema kind ≡ o → has_shape value (option_map (λ (k : List ℕ × Shape). k.1) o) ≡ true → kind < length schema) [
  | None ↦ λ e g. absurd (let k : false ≡ true = g in cc)
  | Some s ↦ λ e g. slice_get_within schema kind s e
] refl h

-- the kinds of a row of a world are below 64
pub row_kinds_low : (schema : Kinds) (mask : ℕ) (row : Row) → IsRowOf schema mask row → length schema ≤ 64 → AreKindsBelow 64 row.cells
row_kinds_low schema mask row fits l = low_kinds row.cells fits.shapes
  where
    low_kinds : (cells : List (ℕ × Cell)) → list_all (λ (c : ℕ × Cell). fits_kind schema c.1.value c.0) cells ≡ true → AreKindsBelow 64 cells
    low_kinds [] h = refl
    low_kinds (c ∷ cs) h =
        let parts = and_parts (fits_kind schema c.1.value c.0) _ h in
        let known = fits_known schema c.1.value c.0 parts.0 in
        and_from (nat_lt c.0 64) _ (lt-ltb c.0 64 (omega (arith, known, l))) (low_kinds cs parts.1)
