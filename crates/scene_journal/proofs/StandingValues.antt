-- What a run has where it stands in a valid world is in the range of its types.
use Rattle.std.proofs.Common.{◌≡◌, ℕ, suc, ℤ, true, false, List, [], ◌∷◌, get_or, map, refl, ap, sym, ◌∙◌, Some, None}
use Rattle.std.specs.Prelude.{slice_get}
use Rattle.std.specs.List.{list_all}
use Rattle.std.specs.Option.{option_map}
use Rattle.std.proofs.lemmas.Bool.{and_parts, and_from}
use Rattle.scene_kinds.specs.declared.cell.Cell.{Cell}
use Rattle.scene_kinds.specs.declared.cells.Row.{Row}
use Rattle.scene_kinds.specs.declared.value.Value.{Value}
use Rattle.scene_kinds.specs.Cells.{cell_of}
use Rattle.scene_kinds.specs.Ranges.{is_in_range}
use Rattle.scene_kinds.specs.Schema.{Kinds, fits_kind, has_shape, shape_of}
use Rattle.scene_kinds.specs.Shape.{same_shape, shape_of_value}
use Rattle.scene_table.specs.Runs.{HoldsAt, RunState, Stands, grown}
use Rattle.scene_table.specs.Tables.{rows_at}
use Rattle.scene_model.specs.World.{World}
use Rattle.scene_model.specs.Valid.{IsValid}
use Rattle.scene_model.proofs.GoodCells.{found_good, good_cells}
use Rattle.scene_model.proofs.StandingRuns.{first_same, rest_same}

in_range : (schema : Kinds) (kind : ℕ) (x : Value) → fits_kind schema x kind ≡ true → is_in_range x ≡ true
in_range schema kind x fits = elim (shape_of schema kind) as (λ o. has_shape x o ≡ true → is_in_range x ≡ true) [
  | None ↦ λ h. absurd (let k : false ≡ true = h in cc)
  | Some s ↦ λ h. (and_parts (is_in_range x) (same_shape (shape_of_value x) s) h).0
] fits

all_in_range : (kind : ℕ) (rows : List Row) (values : List Value) → map (λ (row : Row). option_map (λ (c : Cell). c.value) (cell_of row.cells kind)) rows ≡ map (λ (v : Value). Some v) values
    → ((i : ℕ) (row : Row) (c : Cell) → slice_get rows i ≡ Some row → cell_of row.cells kind ≡ Some c → is_in_range c.value ≡ true) → list_all is_in_range values ≡ true
all_in_range kind [] [] e h = refl
all_in_range kind [] (v ∷ values) e h = absurd (let k : [] ≡ Some v ∷ map (λ (x : Value). Some x) values = e in cc)
all_in_range kind (r ∷ rows) [] e h = absurd (let k : option_map (λ (c : Cell). c.value) (cell_of r.cells kind) ∷ map (λ (row : Row). option_map (λ (c : Cell). c.value) (cell_of row.cells kind)) rows ≡ [] = e in cc)
all_in_range kind (r ∷ rows) (v ∷ values) e h =
    let of_row = λ (row : Row). option_map (λ (c : Cell). c.value) (cell_of row.cells kind) in
    and_from (is_in_range v) (list_all is_in_range values)
    (elim (cell_of r.cells kind) as (λ o. cell_of r.cells kind ≡ o → option_map (λ (c : Cell). c.value) o ≡ Some v → is_in_range v ≡ true) [
      | None ↦ λ t k. absurd (let g : None ≡ Some v = k in cc)
      | Some c ↦ λ t k. ap is_in_range (let g : Some v ≡ Some c.value = sym k in let f : v ≡ c.value = cc in f) ∙ h 0 r c refl t
    ] refl (first_same (of_row r) (Some v) (map of_row rows) (map (λ (x : Value). Some x) values) e))
    (all_in_range kind rows values (rest_same (of_row r) (Some v) (map of_row rows) (map (λ (x : Value). Some x) values) e) (λ i row c there is. h (suc i) row c there is))

pub standing_holds : (w : World) (run : RunState) (turns : ℤ) → IsValid w → Stands (rows_at w.tables run.mask) run turns → HoldsAt run turns
standing_holds w run turns v stands = λ n d l.
    let kind : ℕ = (get_or run.columns n d).kind in
    all_in_range kind (rows_at w.tables run.mask) (grown (get_or run.columns n d).series turns) (stands.columns n d l).values
    (λ i row c there is.
    in_range w.schema kind c.value (found_good w row.cells kind c (good_cells w w.slots run.mask row (v.rows.each (record { mask = run.mask; place = i }) row there)) is).fits)
