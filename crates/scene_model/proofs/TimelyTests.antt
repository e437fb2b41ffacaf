-- All cells of a world are timely where those of each of its tables and of its resources are.
use Rattle.std.proofs.Common.{◌≡◌, ℕ, zero, suc, Bool, true, false, cond, List, [], ◌∷◌, map, refl, ap, sym, ◌∙◌, Option, Some, None, Decides}
use Rattle.std.specs.Prelude.{slice_get}
use Rattle.std.specs.declared.cmp.Ordering.{Ordering}
use Rattle.std.specs.List.{list_all}
use Rattle.std.specs.Ordering.{eq_by_cmp}
use Rattle.std.specs.FinMap.{IsAntisymmetric, nat_cmp-IsAntisymmetric}
use Rattle.std.specs.FinMap.Entries.{find}
use Rattle.std.proofs.lemmas.Bool.{and_parts, and_from}
use Rattle.std.proofs.lemmas.Option.{same_Some}
use Rattle.scene_kinds.specs.declared.cell.Cell.{Cell}
use Rattle.scene_kinds.specs.declared.cells.Row.{Row}
use Rattle.scene_kinds.specs.Lists.{listed}
use Rattle.scene_kinds.specs.Map as map_of
use Rattle.scene_kinds.proofs.Maps.{equal_keys}
use Rattle.scene_resources.specs.Resources.{NamedCells, name_cmp_exact, names_of, cell_of}
use Rattle.scene_table.specs.Tables.{Tables, EachRow, rows_at, masks_of}
use Rattle.scene_model.specs.Timely.{if_some, row_is_timely, rows_are_timely, tables_are_timely, resources_are_timely}
use Rattle.scene_model.specs.Valid.{is_timely}

-- what all elements pass, the one at a place passes
pub passed_at : {X : Type 0} (p : X → Bool) (xs : List X) (i : ℕ) (x : X) → list_all p xs ≡ true → slice_get xs i ≡ Some x → p x ≡ true
passed_at p [] i x all h = absurd (let k : None ≡ Some x = h in cc)
passed_at p (y ∷ ys) zero x all h = ap p (sym (same_Some y x h)) ∙ (and_parts (p y) (list_all p ys) all).0
passed_at p (y ∷ ys) (suc i) x all h = passed_at p ys i x (and_parts _ _ all).1 h

-- and the other way round
pub pass_all : {X : Type 0} (p : X → Bool) (xs : List X) → ((i : ℕ) (x : X) → slice_get xs i ≡ Some x → p x ≡ true) → list_all p xs ≡ true
pass_all p [] each = refl
pass_all p (y ∷ ys) each = and_from (p y) (list_all p ys) (each zero y refl) (pass_all p ys (λ i. each (suc i)))

-- what all keys pass, one that is found passes
key_passes : {K X : Type 0} {R : K → K → Ordering} → IsAntisymmetric R → (p : K → Bool) (es : List (K × X)) (k : K) (x : X) → find R k es ≡ Some x → list_all p (map (λ e. e.0) es) ≡ true → p k ≡ true
key_passes exact p [] k x h all = absurd (let wrong : None ≡ Some x = h in cc)
key_passes {R = R} exact p (e ∷ es) k x h all = elim (eq_by_cmp R k e.0) as (λ b. eq_by_cmp R k e.0 ≡ b → cond b (Some e.1) (find R k es) ≡ Some x → p k ≡ true) [
  | true ↦ λ t g. ap p (equal_keys exact k e.0 t) ∙ (and_parts _ _ all).0
  | false ↦ λ t g. key_passes exact p es k x g (and_parts _ _ all).1
] refl h

-- the rows of a world
module _ (tables : Tables) (tick : ℕ) where
  each_row : tables_are_timely tick tables ≡ true → EachRow (λ mask row. row_is_timely tick row ≡ true) tables
  each_row all h row at =
      passed_at (row_is_timely tick) (rows_at tables h.mask) h.place row (from (map_of.get tables h.mask) refl) at
    where
      from : (o : Option (Row × List Row)) → map_of.get tables h.mask ≡ o → rows_are_timely tick (rows_at tables h.mask) ≡ true
      from None is = absurd (let wrong : None ≡ Some row = ap (λ o. slice_get (listed o) h.place) (sym is) ∙ at in cc)
      from (Some x) is = key_passes nat_cmp-IsAntisymmetric (λ mask. rows_are_timely tick (rows_at tables mask)) tables.entries h.mask x is all

  pub rows_decide : Decides (tables_are_timely tick tables) (EachRow (λ mask row. row_is_timely tick row ≡ true) tables)
  rows_decide = (
    each_row,
    λ each. pass_all (λ mask. rows_are_timely tick (rows_at tables mask)) (masks_of tables) (λ i mask at.
        pass_all (row_is_timely tick) (rows_at tables mask) (λ place row there. each (record { mask = mask; place = place }) row there)),
  )

-- its resources
module _ (r : NamedCells) (tick : ℕ) where
  abbrev EachIsTimely : Type 0
  EachIsTimely = (name : List ℕ) (cell : Cell) → map_of.get r name ≡ Some cell → is_timely tick cell ≡ true

  abbrev test : List ℕ → Bool
  test name = if_some (cell_of r name) (is_timely tick)

  each_name : resources_are_timely tick r ≡ true → EachIsTimely
  each_name all name cell is = ap (λ o. if_some o (is_timely tick)) (sym is) ∙ key_passes name_cmp_exact test r.entries name cell is all

  all_names : EachIsTimely → resources_are_timely tick r ≡ true
  all_names each = pass_all test (names_of r) (λ i name at. from name (cell_of r name) refl)
    where
      from : (name : List ℕ) (o : Option Cell) → cell_of r name ≡ o → test name ≡ true
      from name None is = ap (λ o. if_some o (is_timely tick)) is
      from name (Some cell) is = ap (λ o. if_some o (is_timely tick)) is ∙ each name cell is

  pub resources_decide : Decides (resources_are_timely tick r) EachIsTimely
  resources_decide = (each_name, all_names)
