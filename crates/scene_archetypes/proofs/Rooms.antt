-- The room of tables, and one step on the table of a kind set.
use Rattle.std.proofs.Common.{◌≡◌, ℕ, zero, suc, ◌+◌, ◌<◌, ◌≤◌, ◌^◌, true, false, cond, List, [], ◌∷◌, ◌++◌, length, refl, ap, subst, sym, ◌∙◌, arith, Option, Some, None, nat_eq, get_or-set_other, get_or-set_same}
use Rattle.std.specs.Prelude.{slice_set, slice_get, slice_index_or, is_some, Result, Ok, Err, OnOk, IfSome, IfNone, position}
use Rattle.std.specs.List.{list_any, position_from}
use Rattle.std.proofs.lemmas.Iterator.Adapters.{position_from-zero}
use Rattle.std.proofs.lemmas.Bool.{eqb-true, eqb-false, eq-eqb, ne_eqb}
use Rattle.std.specs.Option.{unwrap_or, option_map}
use Rattle.std.specs.Ordering.{nat_cmp, eq_by_cmp}
use Rattle.std.specs.Cmp.{nat_cmp_total}
use Rattle.std.specs.FinMap.{nat_cmp-IsAntisymmetric}
use Rattle.scene_kinds.specs.declared.cell.Cell.{Cell}
use Rattle.scene_kinds.specs.declared.cells.Row.{Row}
use Rattle.scene_kinds.specs.KindSet.{has_kind, set_with, set_without}
use Rattle.scene_kinds.specs.Map as map
use Rattle.scene_kinds.proofs.KindSets.{has_kind-set_with, has_kind-set_without}
use Rattle.scene_kinds.proofs.Maps.{get-insert, ties_itself, equal_keys}
use Rattle.scene_kinds.proofs.Lists.{with_list_apart, list_at_same, list_at_apart}
use Rattle.scene_table.specs.Rows.{swap_out, put_back}
use Rattle.scene_table.specs.Table.{TableState, row_with_cell, rows_with_cell}
use Rattle.scene_table.proofs.Swaps.{length-swap_out, length-put_back}
use Rattle.std.proofs.lemmas.List.{length-set}
use Rattle.scene_table.specs.declared.home.Home.{Home}
use Rattle.scene_table.specs.Tables.{Tables, rows_at, with_rows}
use Rattle.scene_archetypes.specs.KindTables.{Rooms, TablesState, IsKnown, HasRoomFor, IsWithin, capacity_at, IsWider, tables_of, rooms_of, IsFirstOf, StandsAt, NoneHas, AreListed, AreSound, HoldRows, masks_in}
use Rattle.scene_archetypes.proofs.Stored.{found_table, none_found, rows_of_first, none_seen, rows_there, mask_there, mask_of_first, rows_written, tables_of_same, apart_kept, apart_appended, stands_kept}

-- ---- the room of a kind set

-- that of the first table, and of the others
room_here : (rooms : Rooms) (m c q : ℕ) → m ≡ q → map.get (map.insert nat_cmp_total rooms m c) q ≡ Some c
room_here rooms m c q e = get-insert nat_cmp_total rooms m c q ∙ ap (λ b. cond b (Some c) (map.get rooms q)) (ap (λ n. eq_by_cmp nat_cmp n m) (sym e) ∙ ties_itself nat_cmp_total m)

room_there : (rooms : Rooms) (m c q : ℕ) → (m ≡ q → ⊥) → map.get (map.insert nat_cmp_total rooms m c) q ≡ map.get rooms q
room_there rooms m c q ne = get-insert nat_cmp_total rooms m c q ∙
    elim (eq_by_cmp nat_cmp q m) as (λ b. eq_by_cmp nat_cmp q m ≡ b → cond b (Some c) (map.get rooms q) ≡ map.get rooms q) [
      | true ↦ λ e. absurd (ne (sym (equal_keys nat_cmp-IsAntisymmetric q m e)))
      | false ↦ λ e. refl
    ] refl

-- the table that stands at an index has the room of its kind set
pub room_of_first : (ts : List TableState) (mask i : ℕ) (d : TableState) → IsFirstOf ts mask i → map.get (rooms_of ts) mask ≡ Some (slice_index_or ts i d).capacity
room_of_first [] mask i d h = absurd h
room_of_first (t ∷ ts) mask zero d h = room_here (rooms_of ts) t.mask t.capacity mask h
room_of_first (t ∷ ts) mask (suc i) d h = room_there (rooms_of ts) t.mask t.capacity mask h.0 ∙ room_of_first ts mask i d h.1

pub capacity_there : (ts : List TableState) (mask i : ℕ) (d : TableState) → StandsAt ts mask i → d ≡ slice_index_or ts i d → capacity_at (rooms_of ts) mask ≡ d.capacity
capacity_there ts mask i d h e = ap (λ o. unwrap_or o 0) (room_of_first ts mask i d h.first) ∙ ap (λ t. t.capacity) (sym e)

-- where no table has a kind set it has no room, and where it has none no table has it
none_known : (mask : ℕ) (ts : List TableState) → NoneHas mask ts → map.get (rooms_of ts) mask ≡ None
none_known mask [] h = refl
none_known mask (t ∷ ts) h = room_there (rooms_of ts) t.mask t.capacity mask (λ e. h.0 (sym e)) ∙ none_known mask ts h.1

unknown_none : (mask : ℕ) (ts : List TableState) → map.get (rooms_of ts) mask ≡ None → NoneHas mask ts
unknown_none mask [] e = tt
unknown_none mask (t ∷ ts) e =
    let ne : mask ≡ t.mask → ⊥ = λ s. let k : None ≡ Some t.capacity = sym e ∙ room_here (rooms_of ts) t.mask t.capacity mask (sym s) in absurd (cc) in
    (ne, unknown_none mask ts (sym (room_there (rooms_of ts) t.mask t.capacity mask (λ s. ne (sym s))) ∙ e))

-- a kind set with a table isn't among those that none has
pub known_stands : (mask : ℕ) (ts : List TableState) → IsKnown (rooms_of ts) mask → NoneHas mask ts → ⊥
known_stands mask ts known none = let k : false ≡ true = sym (ap is_some (none_known mask ts none)) ∙ known in absurd (cc)

-- a kind set with rows, or with room, has a table
pub rows_known : (ts : List TableState) (mask : ℕ) → 0 < length (rows_at (tables_of ts) mask) → IsKnown (rooms_of ts) mask
rows_known ts mask l = elim (map.get (rooms_of ts) mask) as (λ o. map.get (rooms_of ts) mask ≡ o → is_some o ≡ true) [
  | Some c ↦ λ e. refl
  | None ↦ λ e. let none : length (rows_at (tables_of ts) mask) ≡ 0 = ap length (none_seen mask ts (unknown_none mask ts e)) in absurd (omega (arith, l))
] refl

capacity_known : (rooms : Rooms) (mask n : ℕ) → n < capacity_at rooms mask → IsKnown rooms mask
capacity_known rooms mask n l = elim (map.get rooms mask) as (λ o. n < unwrap_or o 0 → is_some o ≡ true) [
  | Some c ↦ λ k. refl
  | None ↦ λ k. absurd (omega (arith, k))
] l

pub first_known : (ts : List TableState) (mask i : ℕ) (d : TableState) → IsFirstOf ts mask i → IsKnown (rooms_of ts) mask
first_known ts mask i d h = ap is_some (room_of_first ts mask i d h)

-- ---- room after a step

-- a write that keeps a table's kind set and room keeps all room
pub rooms_same : (ts : List TableState) (i : ℕ) (d new : TableState) → new.mask ≡ (slice_index_or ts i d).mask → new.capacity ≡ (slice_index_or ts i d).capacity → rooms_of (slice_set ts i new) ≡ rooms_of ts
rooms_same [] i d new e f = refl
rooms_same (t ∷ ts) zero d new e f = ap (λ m. map.insert nat_cmp_total (rooms_of ts) m new.capacity) e ∙ ap (λ c. map.insert nat_cmp_total (rooms_of ts) t.mask c) f
rooms_same (t ∷ ts) (suc i) d new e f = ap (λ r. map.insert nat_cmp_total r t.mask t.capacity) (rooms_same ts i d new e f)

-- the room of a kind set after the room of one was written
capacity_written : (rooms : Rooms) (m c q : ℕ) → capacity_at (map.insert nat_cmp_total rooms m c) q ≡ cond (eq_by_cmp nat_cmp q m) c (capacity_at rooms q)
capacity_written rooms m c q = ap (λ o. unwrap_or o 0) (get-insert nat_cmp_total rooms m c q) ∙
    elim (eq_by_cmp nat_cmp q m) as (λ b. unwrap_or (cond b (Some c) (map.get rooms q)) 0 ≡ cond b c (capacity_at rooms q)) [ true ↦ refl | false ↦ refl ]

-- room that is no less at one kind set and at all others
wide_with : (old new : Rooms) (m c d : ℕ) → IsWider old new → c ≤ d → IsWider (map.insert nat_cmp_total old m c) (map.insert nat_cmp_total new m d)
wide_with old new m c d h l = λ q.
    let k = elim (eq_by_cmp nat_cmp q m) as (λ b. cond b c (capacity_at old q) ≤ cond b d (capacity_at new q)) [ true ↦ l | false ↦ h q ] in
    omega (arith, k, capacity_written old m c q, capacity_written new m d q)

wide_itself : (rooms : Rooms) → IsWider rooms rooms
wide_itself rooms = λ q. omega arith

-- a table that grew
pub wide_grown : (ts : List TableState) (i : ℕ) (d new : TableState) → new.mask ≡ (slice_index_or ts i d).mask → (slice_index_or ts i d).capacity ≤ new.capacity → IsWider (rooms_of ts) (rooms_of (slice_set ts i new))
wide_grown [] i d new e l = wide_itself map.empty
wide_grown (t ∷ ts) zero d new e l =
    subst (λ m. IsWider (rooms_of (t ∷ ts)) (map.insert nat_cmp_total (rooms_of ts) m new.capacity)) (sym e) (wide_with (rooms_of ts) (rooms_of ts) t.mask t.capacity new.capacity (wide_itself (rooms_of ts)) l)
wide_grown (t ∷ ts) (suc i) d new e l = wide_with (rooms_of ts) (rooms_of (slice_set ts i new)) t.mask t.capacity t.capacity (wide_grown ts i d new e l) (omega arith)

-- a table more
pub wide_pushed : (ts : List TableState) (t : TableState) → IsWider (rooms_of ts) (rooms_of (ts ++ t ∷ []))
wide_pushed [] t = λ q. omega arith
wide_pushed (x ∷ ts) t = wide_with (rooms_of ts) (rooms_of (ts ++ t ∷ [])) x.mask x.capacity x.capacity (wide_pushed ts t) (omega arith)

-- ---- one step on the table of a kind set

-- what contracts see of tables
abbrev seen : List TableState → TablesState
seen ts = record { tables = tables_of ts; rooms = rooms_of ts }

-- a kind set with a row, or with room, has a table
pub home_known : (ts now : List TableState) (t : TablesState) (home : Home) → seen ts ≡ t → now ≡ ts → IsWithin t.tables home → IsKnown (rooms_of now) home.mask
home_known ts now t home v s l = subst (λ us. IsKnown (rooms_of us) home.mask) (sym s)
    (rows_known ts home.mask (let k : length (rows_at (tables_of ts) home.mask) ≡ length (rows_at t.tables home.mask) = ap (λ u. length (rows_at u.tables home.mask)) v in omega (arith, l, k)))

pub room_known : (ts now : List TableState) (t : TablesState) (mask : ℕ) → seen ts ≡ t → now ≡ ts → HasRoomFor t mask → IsKnown (rooms_of now) mask
room_known ts now t mask v s l = subst (λ us. IsKnown (rooms_of us) mask) (sym s) (subst (λ u. IsKnown u.rooms mask) (sym v) (capacity_known t.rooms mask (length (rows_at t.tables mask)) l))

-- the table that stands at an index, as contracts see its kind set
pub record IsThere (t : TablesState) (mask : ℕ) (d : TableState) : Type 0 where
  pub rows : rows_at t.tables mask ≡ d.rows
  pub capacity : capacity_at t.rooms mask ≡ d.capacity
  pub named : d.mask ≡ mask

pub there : (ts now : List TableState) (t : TablesState) (mask at : ℕ) (d : TableState) → seen ts ≡ t → now ≡ ts → StandsAt now mask at → d ≡ slice_index_or ts at d → IsThere t mask d
there ts now t mask at d v s h e =
    let stands = subst (λ us. StandsAt us mask at) s h in
    record {
      rows = sym (ap (λ u. rows_at u.tables mask) v) ∙ rows_there ts mask at d stands e;
      capacity = sym (ap (λ u. capacity_at u.rooms mask) v) ∙ capacity_there ts mask at d stands e;
      named = mask_there ts mask at d stands e;
    }

masks_kept : (ts : List TableState) (i : ℕ) (d new : TableState) → new.mask ≡ (slice_index_or ts i d).mask → masks_in (slice_set ts i new) ≡ masks_in ts
masks_kept [] i d new e = refl
masks_kept (t ∷ ts) zero d new e = ap (λ m. m ∷ masks_in ts) e
masks_kept (t ∷ ts) (suc i) d new e = ap (λ ms. t.mask ∷ ms) (masks_kept ts i d new e)

pub listed_kept : (masks : List ℕ) (ts : List TableState) (i : ℕ) (d new : TableState) → new.mask ≡ (slice_index_or ts i d).mask → AreListed masks ts → AreListed masks (slice_set ts i new)
listed_kept masks ts i d new e h = record { listed = h.listed ∙ sym (masks_kept ts i d new e); apart = apart_kept ts i d new e h.apart }

-- the rows of one kind set were written, and room stays
pub record IsStep (masks : List ℕ) (t : TablesState) (new : List TableState) (mask : ℕ) (rows : List Row) : Type 0 where
  pub sound : AreSound masks new
  pub tables : tables_of new ≡ with_rows t.tables mask rows
  pub rooms : rooms_of new ≡ t.rooms

-- where they fit, and the others did
pub held_with : (rooms : Rooms) (t : Tables) (mask : ℕ) (rows : List Row) → HoldRows rooms t → length rows ≤ capacity_at rooms mask → HoldRows rooms (with_rows t mask rows)
held_with rooms t mask rows h l = λ q. elim (nat_eq mask q) as (λ b. nat_eq mask q ≡ b → length (rows_at (with_rows t mask rows) q) ≤ capacity_at rooms q) [
  | true ↦ λ e. subst (λ p. length (rows_at (with_rows t mask rows) p) ≤ capacity_at rooms p) (eqb-true mask q e) (omega (arith, l, ap length (list_at_same nat_cmp_total t mask rows)))
  | false ↦ λ e. omega (arith, h q, ap length (list_at_apart nat_cmp_total nat_cmp-IsAntisymmetric t mask q rows (λ s. eqb-false mask q e (sym s))))
] refl

-- a table more, with memory for its rows
pub held_more : (ts : List TableState) (t : TableState) → length t.rows ≤ t.capacity → HoldRows (rooms_of ts) (tables_of ts) → HoldRows (rooms_of (t ∷ ts)) (tables_of (t ∷ ts))
held_more ts t l h =
    let wide = λ (q : ℕ). elim (eq_by_cmp nat_cmp q t.mask) as (λ b. eq_by_cmp nat_cmp q t.mask ≡ b → length (rows_at (tables_of (t ∷ ts)) q) ≤ cond b t.capacity (capacity_at (rooms_of ts) q)) [
      | true ↦ λ e. subst (λ p. length (rows_at (tables_of (t ∷ ts)) p) ≤ t.capacity) (sym (equal_keys nat_cmp-IsAntisymmetric q t.mask e)) (omega (arith, l, ap length (list_at_same nat_cmp_total (tables_of ts) t.mask t.rows)))
      | false ↦ λ e. omega (arith, h q, ap length (list_at_apart nat_cmp_total nat_cmp-IsAntisymmetric (tables_of ts) t.mask q t.rows (λ s. let k : false ≡ true = sym e ∙ ap (λ m. eq_by_cmp nat_cmp m t.mask) s ∙ ties_itself nat_cmp_total t.mask in absurd (cc))))
    ] refl in
    λ q. omega (arith, wide q, capacity_written (rooms_of ts) t.mask t.capacity q)

-- as contracts see it
pub now_held : (ts : List TableState) (t : TablesState) → seen ts ≡ t → HoldRows (rooms_of ts) (tables_of ts) → HoldRows t.rooms t.tables
now_held ts t v h = subst (λ u. HoldRows u.rooms u.tables) v h

-- rows that one left, to which one came, or of which one was written, fit
pub few_left : (rooms : Rooms) (t : Tables) (h : Home) → HoldRows rooms t → IsWithin t h → length (swap_out (rows_at t h.mask) h.place) ≤ capacity_at rooms h.mask
few_left rooms t h held l = omega (arith, held h.mask, length-swap_out (rows_at t h.mask) h.place l)

pub few_come : (rooms : Rooms) (t : Tables) (mask place : ℕ) (row : Row) → length (rows_at t mask) < capacity_at rooms mask → length (put_back (rows_at t mask) place row) ≤ capacity_at rooms mask
few_come rooms t mask place row l = omega (arith, l, length-put_back (rows_at t mask) place row)

pub few_written : (rooms : Rooms) (t : Tables) (h : Home) (kind : ℕ) (cell : Cell) → HoldRows rooms t → length (rows_with_cell (rows_at t h.mask) h.place kind cell) ≤ capacity_at rooms h.mask
few_written rooms t h kind cell held =
    let same = elim (slice_get (rows_at t h.mask) h.place) as (λ o. length (unwrap_or (option_map (λ (row : Row). slice_set (rows_at t h.mask) h.place (row_with_cell row kind cell)) o) (rows_at t h.mask)) ≡ length (rows_at t h.mask)) [
      | None ↦ refl
      | Some row ↦ length-set (rows_at t h.mask) h.place (row_with_cell row kind cell)
    ] in
    omega (arith, held h.mask, same)

pub step : (masks : List ℕ) (ts now : List TableState) (t : TablesState) (mask at : ℕ) (d new : TableState) (rows : List Row) → seen ts ≡ t → now ≡ ts → StandsAt now mask at → d ≡ slice_index_or ts at d
    → AreSound masks ts → new.mask ≡ d.mask → new.rows ≡ rows → new.capacity ≡ d.capacity → length rows ≤ capacity_at t.rooms mask → IsStep masks t (slice_set ts at new) mask rows
step masks ts now t mask at d new rows v s h e l m r c few =
    let tables = rows_written ts mask at d new rows (subst (λ us. StandsAt us mask at) s h) e m r ∙ ap (λ u. with_rows u.tables mask rows) v in
    let rooms = rooms_same ts at d new (m ∙ ap (λ u. u.mask) e) (c ∙ ap (λ u. u.capacity) e) ∙ ap (λ u. u.rooms) v in
    let held : HoldRows t.rooms (with_rows t.tables mask rows) = held_with t.rooms t.tables mask rows (subst (λ u. HoldRows u.rooms u.tables) v l.room) few in
    record {
      sound = record {
        listed = listed_kept masks ts at d new (m ∙ ap (λ u. u.mask) e) l.listed;
        room = subst (λ p. HoldRows p (tables_of (slice_set ts at new))) (sym rooms) (subst (HoldRows t.rooms) (sym tables) held);
      };
      tables = tables;
      rooms = rooms;
    }

-- ---- a table more

masks_pushed : (ts : List TableState) (t : TableState) → masks_in (ts ++ t ∷ []) ≡ masks_in ts ++ t.mask ∷ []
masks_pushed [] t = refl
masks_pushed (x ∷ ts) t = ap (λ ms. x.mask ∷ ms) (masks_pushed ts t)

pub listed_pushed : (masks : List ℕ) (ts : List TableState) (t : TableState) → NoneHas t.mask ts → AreListed masks ts → AreListed (masks ++ t.mask ∷ []) (ts ++ t ∷ [])
listed_pushed masks ts t none h = record { listed = ap (λ ms. ms ++ t.mask ∷ []) h.listed ∙ sym (masks_pushed ts t); apart = apart_appended ts t none h.apart }

-- a kind set that isn't listed
pub not_listed : (mask : ℕ) (ts : List TableState) → NoneHas mask ts → list_any (nat_eq mask) (masks_in ts) ≡ false
not_listed mask [] h = refl
not_listed mask (t ∷ ts) h = rw (ne_eqb mask t.mask h.0) (not_listed mask ts h.1)

-- a search among the kind sets ends where one among the tables does
pub found_by_mask : (mask n : ℕ) (ts : List TableState) → position_from (nat_eq mask) n (masks_in ts) ≡ position_from (λ (t : TableState). nat_eq t.mask mask) n ts
found_by_mask mask n [] = refl
found_by_mask mask n (t ∷ ts) = ap (λ b. cond b (Some n) (position_from (nat_eq mask) (n + 1) (masks_in ts))) (turned mask t.mask) ∙ ap (λ o. cond (nat_eq t.mask mask) (Some n) o) (found_by_mask mask (n + 1) ts)
  where
    turned : (a b : ℕ) → nat_eq a b ≡ nat_eq b a
    turned a b = elim (nat_eq a b) as (λ x. nat_eq a b ≡ x → x ≡ nat_eq b a) [
      | true ↦ λ e. sym (eq-eqb b a (sym (eqb-true a b e)))
      | false ↦ λ e. sym (ne_eqb b a (λ s. eqb-false a b e (sym s)))
    ] refl

-- so a walk over the kind sets says where the table of one stands, or that none has it
pub walk_says : (mask : ℕ) (masks : List ℕ) (ts : List TableState) (o : Option ℕ) → masks ≡ masks_in ts
    → o ≡ position_from (nat_eq mask) 0 masks → IfSome o (StandsAt ts mask) × IfNone o (NoneHas mask ts)
walk_says mask masks ts o listed is =
    let found : o ≡ position_from (λ (t : TableState). nat_eq t.mask mask) 0 ts =
    is ∙ ap (position_from (nat_eq mask) 0) listed ∙ found_by_mask mask 0 ts in
    elim o as (λ o. o ≡ position_from (λ (t : TableState). nat_eq t.mask mask) 0 ts → IfSome o (StandsAt ts mask) × IfNone o (NoneHas mask ts)) [
      | None ↦ λ e. (tt, none_found mask ts e)
      | Some i ↦ λ e. (found_table mask ts i e, tt)
    ] found

-- and so does the search by hash
pub search_says : (mask : ℕ) (masks : List ℕ) (ts : List TableState) (o : Option ℕ) → masks ≡ masks_in ts
    → o ≡ position (nat_eq mask) masks → IfSome o (StandsAt ts mask) × IfNone o (NoneHas mask ts)
search_says mask masks ts o listed is = walk_says mask masks ts o listed (is ∙ position_from-zero (nat_eq mask) masks)

-- ---- a table that grew

pub room_grown : {E : Type 0} (r : Result (Unit {0}) E) (ts now : List TableState) (mask at : ℕ) (d new : TableState) → now ≡ ts → StandsAt now mask at → new.mask ≡ (slice_index_or ts at d).mask
    → OnOk r (length new.rows + 1 ≤ new.capacity) → OnOk r (length (rows_at (tables_of (slice_set ts at new)) mask) < capacity_at (rooms_of (slice_set ts at new)) mask)
room_grown (Err x) ts now mask at d new s h m o = tt
room_grown (Ok x) ts now mask at d new s h m o =
    let before = subst (λ us. StandsAt us mask at) s h in
    let within : at < length ts = before.within in
    let stands = stands_kept ts at d new m mask at before in
    let here : slice_index_or (slice_set ts at new) at d ≡ new = get_or-set_same ts at new d within in
    let rows = rows_of_first (slice_set ts at new) mask at d stands.first ∙ ap (λ u. u.rows) here in
    let capacity = ap (λ c. unwrap_or c 0) (room_of_first (slice_set ts at new) mask at d stands.first) ∙ ap (λ u. u.capacity) here in
    omega (arith, o, ap length rows, capacity)

pub held_grown : (ts : List TableState) (at : ℕ) (d new : TableState) → new.mask ≡ (slice_index_or ts at d).mask → new.rows ≡ (slice_index_or ts at d).rows → (slice_index_or ts at d).capacity ≤ new.capacity
    → HoldRows (rooms_of ts) (tables_of ts) → HoldRows (rooms_of (slice_set ts at new)) (tables_of (slice_set ts at new))
held_grown ts at d new m r l h = λ q.
    omega (arith, h q, wide_grown ts at d new m l q, ap (λ (t : Tables). length (rows_at t q)) (tables_of_same ts at d new m r))

-- ---- a row that moves between two tables

set_over : (ts : List TableState) (i : ℕ) (a b : TableState) → slice_set (slice_set ts i a) i b ≡ slice_set ts i b
set_over [] i a b = refl
set_over (t ∷ ts) zero a b = refl
set_over (t ∷ ts) (suc i) a b = ap (λ us. t ∷ us) (set_over ts i a b)

-- what was taken out for a while doesn't matter
taken_out : (ts : List TableState) (i j : ℕ) (a b c : TableState) → (i ≡ j → ⊥) → slice_set (slice_set (slice_set ts i a) j b) i c ≡ slice_set (slice_set ts j b) i c
taken_out [] i j a b c ne = refl
taken_out (t ∷ ts) zero zero a b c ne = absurd (ne refl)
taken_out (t ∷ ts) zero (suc j) a b c ne = refl
taken_out (t ∷ ts) (suc i) zero a b c ne = ap (λ us. b ∷ us) (set_over ts i a c)
taken_out (t ∷ ts) (suc i) (suc j) a b c ne = ap (λ us. t ∷ us) (taken_out ts i j a b c (λ e. ne (ap suc e)))

-- the tables of two kind sets stand at two indices
two_places : (ts : List TableState) (a b i j : ℕ) (d : TableState) → (a ≡ b → ⊥) → StandsAt ts a i → StandsAt ts b j → i ≡ j → ⊥
two_places ts a b i j d ne h k e = ne (sym (mask_of_first ts a i d h.first) ∙ ap (λ n. (slice_index_or ts n d).mask) e ∙ mask_of_first ts b j d k.first)

-- the table to which a row moves, while the one from which it moves is taken out
pub still_there : (ts now : List TableState) (t : TablesState) (a b i j : ℕ) (e d : TableState) → seen ts ≡ t → now ≡ ts → (a ≡ b → ⊥) → StandsAt now a i → StandsAt now b j
    → d ≡ slice_index_or (slice_set ts i e) j d → IsThere t b d
still_there ts now t a b i j e d v s ne h k is =
    there ts now t b j d v s k (is ∙ get_or-set_other ts i j e d (λ x. two_places ts a b i j d ne (subst (λ us. StandsAt us a i) s h) (subst (λ us. StandsAt us b j) s k) (sym x)))

-- a row moved from the one to the other
pub record IsMoved (masks : List ℕ) (t : TablesState) (new : List TableState) (a : ℕ) (left : List Row) (b : ℕ) (come : List Row) : Type 0 where
  pub sound : AreSound masks new
  pub tables : tables_of new ≡ with_rows (with_rows t.tables a left) b come
  pub rooms : rooms_of new ≡ t.rooms

pub moved : (masks : List ℕ) (ts now : List TableState) (t : TablesState) (a b i j : ℕ) (e was left d come : TableState) (xs ys : List Row) → seen ts ≡ t → now ≡ ts → (a ≡ b → ⊥) → StandsAt now a i → StandsAt now b j
    → AreSound masks ts → was ≡ slice_index_or ts i was → left.mask ≡ was.mask → left.rows ≡ xs → left.capacity ≡ was.capacity
    → d ≡ slice_index_or (slice_set ts i e) j d → come.mask ≡ d.mask → come.rows ≡ ys → come.capacity ≡ d.capacity
    → length xs ≤ capacity_at t.rooms a → length ys ≤ capacity_at t.rooms b → IsMoved masks t (slice_set (slice_set (slice_set ts i e) j come) i left) a xs b ys
moved masks ts now t a b i j e was left d come xs ys v s ne h k l is m r c is2 m2 r2 c2 few few2 =
    let stands = subst (λ us. StandsAt us a i) s h in
    let stands2 = subst (λ us. StandsAt us b j) s k in
    let apart : i ≡ j → ⊥ = two_places ts a b i j d ne stands stands2 in
    let there2 : d ≡ slice_index_or ts j d = is2 ∙ get_or-set_other ts i j e d (λ x. apart (sym x)) in
    let same : come.mask ≡ (slice_index_or ts j d).mask = m2 ∙ ap (λ u. u.mask) there2 in
    let first = step masks ts now t b j d come ys v s k there2 l m2 r2 c2 few2 in
    let still : was ≡ slice_index_or (slice_set ts j come) i was = is ∙ sym (get_or-set_other ts j i come was apart) in
    let then = step masks (slice_set ts j come) (slice_set ts j come) (seen (slice_set ts j come)) a i was left xs refl refl (stands_kept ts j d come same a i stands) still first.sound m r c (subst (λ p. length xs ≤ capacity_at p a) (sym first.rooms) few) in
    let one : slice_set (slice_set (slice_set ts i e) j come) i left ≡ slice_set (slice_set ts j come) i left = taken_out ts i j e come left apart in
    record {
      sound = subst (AreSound masks) (sym one) then.sound;
      tables = ap tables_of one ∙ then.tables ∙ ap (λ u. with_rows u a xs) first.tables ∙ with_list_apart nat_cmp_total nat_cmp-IsAntisymmetric t.tables b a ys xs (λ x. ne (sym x));
      rooms = ap rooms_of one ∙ then.rooms ∙ first.rooms;
    }

-- a kind more or less makes another kind set
pub gained_apart : (mask kind : ℕ) → has_kind mask kind ≡ false → mask ≡ set_with mask kind → ⊥
gained_apart mask kind lacks e =
    let has : has_kind (set_with mask kind) kind ≡ true = has_kind-set_with mask kind kind ∙ ap (λ b. cond b true (has_kind mask kind)) (ties_itself nat_cmp_total kind) in
    let k : false ≡ true = sym lacks ∙ ap (λ m. has_kind m kind) e ∙ has in absurd (cc)

pub lost_apart : (mask kind : ℕ) → mask < 2 ^ 64 → kind < 64 → has_kind mask kind ≡ true → mask ≡ set_without mask kind → ⊥
lost_apart mask kind fits low has e =
    let lacks : has_kind (set_without mask kind) kind ≡ false = has_kind-set_without mask kind kind fits low ∙ ap (λ b. cond b false (has_kind mask kind)) (ties_itself nat_cmp_total kind) in
    let k : false ≡ true = sym lacks ∙ ap (λ m. has_kind m kind) (sym e) ∙ has in absurd (cc)
