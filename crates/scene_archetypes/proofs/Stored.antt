-- The tables of the code after one of them was made, grown or written.
use Rattle.std.proofs.Common.{◌≡◌, ◌≢◌, ℕ, zero, suc, ◌<◌, Bool, true, false, cond, List, [], ◌∷◌, ◌++◌, length, refl, ap, subst, sym, ◌∙◌, arith, Option, Some, None, nat_eq, length-set}
use Rattle.std.specs.Prelude.{slice_set, slice_get, slice_index_or, option_map}
use Rattle.std.specs.List.{position_from}
use Rattle.std.specs.Ordering.{nat_cmp}
use Rattle.std.specs.Cmp.{nat_cmp_total}
use Rattle.std.specs.FinMap.{nat_cmp-IsAntisymmetric}
use Rattle.std.proofs.lemmas.Bool.{eqb-true, eqb-false}
use Rattle.scene_kinds.specs.declared.cells.Row.{Row}
use Rattle.scene_kinds.specs.Lists.{whole, listed}
use Rattle.scene_kinds.specs.Map as map
use Rattle.scene_kinds.proofs.Lists.{list_at_same, list_at_apart, with_list-with_list, with_list_apart, get-with_list}
use Rattle.scene_kinds.proofs.Maps.{same_map}
use Rattle.scene_table.specs.Table.{TableState}
use Rattle.scene_table.specs.Tables.{Tables, rows_at, with_rows}
use Rattle.scene_archetypes.specs.KindTables.{tables_of, IsFirstOf, StandsAt, NoneHas, AreApart, masks_in}
use Rattle.scene_kinds.proofs.Positions.{found, missed}

-- ---- which rows are seen

absent : {X : Type 0} (b : Bool) (o : Option X) → o ≡ None → cond b None o ≡ o
absent true o h = sym h
absent false o h = refl

-- a new table without rows isn't seen
pub tables_of_pushed : (ts : List TableState) (t : TableState) → t.rows ≡ [] → tables_of (ts ++ t ∷ []) ≡ tables_of ts
tables_of_pushed [] t e = ap (λ r. with_rows map.empty t.mask r) e ∙ same_map nat_cmp_total nat_cmp-IsAntisymmetric _ _ (λ q.
    get-with_list nat_cmp_total map.empty t.mask [] q ∙ absent _ (map.get (map.empty {K = ℕ} {X = Row × List Row} {R = nat_cmp}) q) refl)
tables_of_pushed (x ∷ ts) t e = ap (λ z. with_rows z x.mask x.rows) (tables_of_pushed ts t e)

-- the rows of the first table of a kind set are those that are seen
pub rows_of_first : (ts : List TableState) (mask i : ℕ) (d : TableState) → IsFirstOf ts mask i → rows_at (tables_of ts) mask ≡ (slice_index_or ts i d).rows
rows_of_first [] mask i d h = absurd h
rows_of_first (t ∷ ts) mask zero d h = ap (rows_at (with_rows (tables_of ts) t.mask t.rows)) (sym h) ∙ list_at_same nat_cmp_total (tables_of ts) t.mask t.rows
rows_of_first (t ∷ ts) mask (suc i) d h = list_at_apart nat_cmp_total nat_cmp-IsAntisymmetric (tables_of ts) t.mask mask t.rows (λ e. h.0 (sym e)) ∙ rows_of_first ts mask i d h.1

-- a write of the first table of a kind set
pub tables_of_set : (ts : List TableState) (mask i : ℕ) (new : TableState) → IsFirstOf ts mask i → new.mask ≡ mask → tables_of (slice_set ts i new) ≡ with_rows (tables_of ts) mask new.rows
tables_of_set [] mask i new h e = absurd h
tables_of_set (t ∷ ts) mask zero new h e =
    ap (λ m. with_rows (tables_of ts) m new.rows) e ∙ sym (ap (λ m. with_rows (with_rows (tables_of ts) m t.rows) mask new.rows) h ∙ with_list-with_list nat_cmp_total nat_cmp-IsAntisymmetric (tables_of ts) mask t.rows new.rows)
tables_of_set (t ∷ ts) mask (suc i) new h e =
    ap (λ z. with_rows z t.mask t.rows) (tables_of_set ts mask i new h.1 e) ∙ with_list_apart nat_cmp_total nat_cmp-IsAntisymmetric (tables_of ts) mask t.mask new.rows t.rows (λ u. h.0 (sym u))

-- a write that keeps a table's kind set and rows isn't seen
pub tables_of_same : (ts : List TableState) (i : ℕ) (d new : TableState) → new.mask ≡ (slice_index_or ts i d).mask → new.rows ≡ (slice_index_or ts i d).rows → tables_of (slice_set ts i new) ≡ tables_of ts
tables_of_same [] i d new e f = refl
tables_of_same (t ∷ ts) zero d new e f = ap (λ m. with_rows (tables_of ts) m new.rows) e ∙ ap (λ r. with_rows (tables_of ts) t.mask r) f
tables_of_same (t ∷ ts) (suc i) d new e f = ap (λ z. with_rows z t.mask t.rows) (tables_of_same ts i d new e f)

-- ---- where the table of a kind set stands

-- a search from the front ends at the table's index
pub found_table : (mask : ℕ) (ts : List TableState) (i : ℕ) → Some i ≡ position_from (λ (t : TableState). nat_eq t.mask mask) 0 ts → StandsAt ts mask i
found_table mask ts i h = found (λ (t : TableState). nat_eq t.mask mask) (λ us k. StandsAt us mask k)
    (λ t us p. record { within = omega arith; first = eqb-true t.mask mask p })
    (λ t us k p s. record { within = omega (arith, s.within); first = (eqb-false t.mask mask p, s.first) })
    ts i (sym h)

-- where the search finds nothing no table has the kind set
pub none_found : (mask : ℕ) (ts : List TableState) → None ≡ position_from (λ (t : TableState). nat_eq t.mask mask) 0 ts → NoneHas mask ts
none_found mask ts h = missed (λ (t : TableState). nat_eq t.mask mask) (NoneHas mask) tt (λ t us p none. ((λ e. eqb-false t.mask mask p (sym e)), none)) ts (sym h)

-- and no rows of it are seen
pub none_seen : (mask : ℕ) (ts : List TableState) → NoneHas mask ts → rows_at (tables_of ts) mask ≡ []
none_seen mask [] h = refl
none_seen mask (t ∷ ts) h = list_at_apart nat_cmp_total nat_cmp-IsAntisymmetric (tables_of ts) t.mask mask t.rows h.0 ∙ none_seen mask ts h.1

-- ---- a place that was guessed

none_there : (m mask : ℕ) (ts : List TableState) (i : ℕ) → NoneHas m ts → slice_get (masks_in ts) i ≡ Some mask → m ≢ mask
none_there m mask [] i none e = absurd (cc e)
none_there m mask (t ∷ ts) zero none e = λ s. none.0 (s ∙ sym (cc e))
none_there m mask (t ∷ ts) (suc i) none e = none_there m mask ts i none.1 e

-- where a kind set is listed, its table stands
pub listed_there : (mask : ℕ) (ts : List TableState) (i : ℕ) → AreApart ts → slice_get (masks_in ts) i ≡ Some mask → StandsAt ts mask i
listed_there mask [] i apart e = absurd (cc e)
listed_there mask (t ∷ ts) zero apart e = record { within = omega arith; first = cc e }
listed_there mask (t ∷ ts) (suc i) apart e =
    let later = listed_there mask ts i apart.1 e in
    record { within = omega (arith, later.within); first = (none_there t.mask mask ts i apart.0 e, later.first) }

first_pushed : (mask : ℕ) (ts : List TableState) (new : TableState) → NoneHas mask ts → new.mask ≡ mask → IsFirstOf (ts ++ new ∷ []) mask (length ts)
first_pushed mask [] new h e = e
first_pushed mask (t ∷ ts) new h e = ((λ s. h.0 (sym s)), first_pushed mask ts new h.1 e)

length_pushed : (ts : List TableState) (new : TableState) → length ts < length (ts ++ new ∷ [])
length_pushed [] new = omega arith
length_pushed (t ∷ ts) new = omega (arith, length_pushed ts new)

-- a new table stands last, where none had its kind set
pub new_table : (mask : ℕ) (ts : List TableState) (new : TableState) → NoneHas mask ts → new.mask ≡ mask → StandsAt (ts ++ new ∷ []) mask (length ts)
new_table mask ts new h e = record { within = length_pushed ts new; first = first_pushed mask ts new h e }

pub mask_of_first : (ts : List TableState) (mask i : ℕ) (d : TableState) → IsFirstOf ts mask i → (slice_index_or ts i d).mask ≡ mask
mask_of_first [] mask i d h = absurd h
mask_of_first (t ∷ ts) mask zero d h = h
mask_of_first (t ∷ ts) mask (suc i) d h = mask_of_first ts mask i d h.1

-- a write that keeps a table's kind set keeps each table's index
first_kept : (ts : List TableState) (i : ℕ) (d new : TableState) → new.mask ≡ (slice_index_or ts i d).mask → (m p : ℕ) → IsFirstOf ts m p → IsFirstOf (slice_set ts i new) m p
first_kept [] i d new e m p h = absurd h
first_kept (t ∷ ts) zero d new e m zero h = e ∙ h
first_kept (t ∷ ts) zero d new e m (suc p) h = (λ u. h.0 (sym e ∙ u), h.1)
first_kept (t ∷ ts) (suc i) d new e m zero h = h
first_kept (t ∷ ts) (suc i) d new e m (suc p) h = (h.0, first_kept ts i d new e m p h.1)

pub stands_kept : (ts : List TableState) (i : ℕ) (d new : TableState) → new.mask ≡ (slice_index_or ts i d).mask → (m p : ℕ) → StandsAt ts m p → StandsAt (slice_set ts i new) m p
stands_kept ts i d new e m p h = record { within = rw length-set h.within; first = first_kept ts i d new e m p h.first }

first_appended : (ts : List TableState) (new : TableState) (m p : ℕ) → IsFirstOf ts m p → IsFirstOf (ts ++ new ∷ []) m p
first_appended [] new m p h = absurd h
first_appended (t ∷ ts) new m zero h = h
first_appended (t ∷ ts) new m (suc p) h = (h.0, first_appended ts new m p h.1)

pub stands_appended : (ts : List TableState) (new : TableState) (m p : ℕ) → StandsAt ts m p → StandsAt (ts ++ new ∷ []) m p
stands_appended ts new m p h = record { within = omega (arith, h.within, length_pushed ts new); first = first_appended ts new m p h.first }

-- ---- kind sets stay distinct

none_kept : (mask : ℕ) (ts : List TableState) (i : ℕ) (d new : TableState) → new.mask ≡ (slice_index_or ts i d).mask → NoneHas mask ts → NoneHas mask (slice_set ts i new)
none_kept mask [] i d new e h = tt
none_kept mask (t ∷ ts) zero d new e h = ((λ s. h.0 (s ∙ e)), h.1)
none_kept mask (t ∷ ts) (suc i) d new e h = (h.0, none_kept mask ts i d new e h.1)

pub apart_kept : (ts : List TableState) (i : ℕ) (d new : TableState) → new.mask ≡ (slice_index_or ts i d).mask → AreApart ts → AreApart (slice_set ts i new)
apart_kept [] i d new e h = tt
apart_kept (t ∷ ts) zero d new e h = (subst (λ m. NoneHas m ts) (sym e) h.0, h.1)
apart_kept (t ∷ ts) (suc i) d new e h = (none_kept t.mask ts i d new e h.0, apart_kept ts i d new e h.1)

none_appended : (mask : ℕ) (ts : List TableState) (new : TableState) → (mask ≡ new.mask → ⊥) → NoneHas mask ts → NoneHas mask (ts ++ new ∷ [])
none_appended mask [] new ne h = (ne, tt)
none_appended mask (t ∷ ts) new ne h = (h.0, none_appended mask ts new ne h.1)

pub apart_appended : (ts : List TableState) (new : TableState) → NoneHas new.mask ts → AreApart ts → AreApart (ts ++ new ∷ [])
apart_appended [] new h a = (tt, tt)
apart_appended (t ∷ ts) new h a = (none_appended t.mask ts new (λ e. h.0 (sym e)) a.0, apart_appended ts new h.1 a.1)

-- ---- one step on the table of a kind set

-- the rows that are seen of a table that stands at an index
pub rows_there : (ts : List TableState) (mask i : ℕ) (d : TableState) → StandsAt ts mask i → d ≡ slice_index_or ts i d → rows_at (tables_of ts) mask ≡ d.rows
rows_there ts mask i d h e = rows_of_first ts mask i d h.first ∙ ap (λ t. t.rows) (sym e)

pub mask_there : (ts : List TableState) (mask i : ℕ) (d : TableState) → StandsAt ts mask i → d ≡ slice_index_or ts i d → d.mask ≡ mask
mask_there ts mask i d h e = ap (λ t. t.mask) e ∙ mask_of_first ts mask i d h.first

-- the rows of one table were written
pub rows_written : (ts : List TableState) (mask i : ℕ) (d new : TableState) (rows : List Row) → StandsAt ts mask i → d ≡ slice_index_or ts i d → new.mask ≡ d.mask → new.rows ≡ rows → tables_of (slice_set ts i new) ≡ with_rows (tables_of ts) mask rows
rows_written ts mask i d new rows h e m r = tables_of_set ts mask i new h.first (m ∙ mask_there ts mask i d h e) ∙ ap (with_rows (tables_of ts) mask) r

-- ---- the rows of a kind set, where it has some

pub no_rows : (t : Tables) (mask : ℕ) → rows_at t mask ≡ [] → option_map whole (map.get t mask) ≡ None
no_rows t mask e = elim (map.get t mask) as (λ o. listed o ≡ [] → option_map whole o ≡ None) [
  | None ↦ λ h. refl
  | Some p ↦ λ h. absurd (let k : p.0 ∷ p.1 ≡ [] = h in cc)
] e

pub some_rows : (t : Tables) (mask : ℕ) (rows : List Row) → rows_at t mask ≡ rows → (rows ≡ [] → ⊥) → Some rows ≡ option_map whole (map.get t mask)
some_rows t mask rows e ne = elim (map.get t mask) as (λ o. listed o ≡ rows → Some rows ≡ option_map whole o) [
  | None ↦ λ h. absurd (ne (sym h))
  | Some p ↦ λ h. ap Some (sym h)
] e
