-- The tick of a world may be set where all cells that its readers list are timely.
use Rattle.std.proofs.Common.{◌≡◌, ◌<◌, ◌+◌, ℕ, zero, suc, Bool, true, false, ◌&&◌, Bor, List, [], ◌∷◌, length, drop, map, arith, refl, ap, sym, ◌∙◌, Some}
use Rattle.std.specs.Prelude.{slice_get}
use Rattle.std.specs.List.{list_all}
use Rattle.std.proofs.lemmas.List.{drop_more}
use Rattle.std.proofs.lemmas.Option.{slice_get_within, get_or_from_slice_get}
use Rattle.std.proofs.lemmas.List.Folds.{list_all-map}
use Rattle.scene_resources.specs.Resources.{NamedCells, names_of, cell_of}
use Rattle.scene_table.specs.Table.{TableState}
use Rattle.scene_table.specs.Tables.{Tables, rows_at, masks_of}
use Rattle.scene_model.specs.Timely.{if_some, rows_are_timely, tables_are_timely, resources_are_timely}
use Rattle.scene_model.specs.Valid.{is_timely}

-- the element at a place
pub there : {X : Type 0} (xs : List X) (i : ℕ) → i < length xs → (x : X) × (slice_get xs i ≡ Some x)
there [] i low = absurd (omega (arith, low))
there (x ∷ xs) zero low = (x, refl)
there (x ∷ xs) (suc i) low = there xs i (omega (arith, low))

-- a test of all elements, as far as it has come
module _ {X : Type 0} (p : X → Bool) (xs : List X) (n : ℕ) (x : X) (all : Bool) (at : slice_get xs n ≡ Some x) (now : list_all p (drop n xs) ≡ all) where
  one_step : list_all p (drop n xs) ≡ (p x && list_all p (drop (n + 1) xs))
  one_step = ap (list_all p) (drop_more xs n x (slice_get_within xs n x at)) ∙ ap (λ y. p y && list_all p (drop (n + 1) xs)) (get_or_from_slice_get xs n x x at)

  pub one_passes : p x ≡ true → list_all p (drop (n + 1) xs) ≡ all
  one_passes passes = ap (λ b. b && list_all p (drop (n + 1) xs)) (sym passes) ∙ sym one_step ∙ now

  pub one_fails : p x ≡ false → false ≡ all
  one_fails fails = ap (λ b. b && list_all p (drop (n + 1) xs)) (sym fails) ∙ sym one_step ∙ now

-- the rows of tables, as they are lent in order
pub rows_told : (tables : Tables) (tick : ℕ) (ts : List (Bor TableState)) → map (λ t. t.now.rows) ts ≡ map (rows_at tables) (masks_of tables)
    → list_all (λ t. rows_are_timely tick t.now.rows) ts ≡ tables_are_timely tick tables
rows_told tables tick ts rows =
    sym (list_all-map (rows_are_timely tick) (λ t. t.now.rows) ts)
    ∙ ap (list_all (rows_are_timely tick)) rows
    ∙ list_all-map (rows_are_timely tick) (rows_at tables) (masks_of tables)

-- resources by their names, as they are lent
pub names_told : {S : Type 0} (r : NamedCells) (tick : ℕ) (text : S → List ℕ) (names : List S) → map text names ≡ names_of r
    → list_all (λ name. if_some (cell_of r (text name)) (is_timely tick)) names ≡ resources_are_timely tick r
names_told r tick text names are =
    sym (list_all-map (λ name. if_some (cell_of r name) (is_timely tick)) text names)
    ∙ ap (list_all (λ name. if_some (cell_of r name) (is_timely tick))) are
