-- The cells of a column, when each of its lists changes at a place.
use Rattle.std.proofs.Common.{◌≡◌, ℕ, ◌<◌, ◌≤◌, Bool, List, [], ◌∷◌, ◌++◌, length, get_or, refl, ap, sym, ◌∙◌, arith, nat_lt, Some, map}
use Rattle.std.specs.Prelude.{slice_get, slice_range, slice_set}
use Rattle.std.specs.List.{list_any, swap, swap_remove}
use Rattle.std.proofs.lemmas.Option.{slice_get_read}
use Rattle.scene_kinds.specs.declared.cell.Cell.{Cell}
use Rattle.scene_kinds.specs.declared.value.Value.{Value}
use Rattle.scene_table.specs.declared.since.Since.TheVariants.{Added, Changed}
use Rattle.scene_table.specs.Rows.{swap_out, put_back}
use Rattle.scene_table.specs.Columns.{zip_with, stamped, ticks, cells_of, IsColumn}
use Rattle.scene_table.specs.Since.{is_since}
use Rattle.scene_table.proofs.Swaps.{swap_remove_is, swap_is}
use Rattle.scene_table.proofs.Zips.{zip-length, zip-swap_out, zip-put_back, zip-set, zip-get, zip-part, zip-any-first, zip-any-second, parts-length}

module _ (values : List Value) (added changed : List ℕ) (is : IsColumn values added changed) where
  length-ticks : length (zip_with ticks added changed) ≡ length values
  length-ticks = zip-length ticks added changed (is.ticks_added ∙ sym is.ticks_changed) ∙ is.ticks_added

  -- a test of the ticks of a part is one of its cells
  any_of_ticks : (q : ℕ × ℕ → Bool) (from to : ℕ) → list_any (λ (cell : Cell). q (cell.added, cell.changed)) (slice_range (cells_of values added changed) from to)
      ≡ list_any q (zip_with ticks (slice_range added from to) (slice_range changed from to))
  any_of_ticks q from to =
      ap (list_any (λ (cell : Cell). q (cell.added, cell.changed))) (zip-part stamped values (zip_with ticks added changed) from to)
      ∙ zip-any-second stamped (λ (cell : Cell). q (cell.added, cell.changed)) q (λ v t. refl) _ _ (parts-length values (zip_with ticks added changed) (sym length-ticks) from to)
      ∙ ap (list_any q) (zip-part ticks added changed from to)

  -- there are as many cells as values
  pub length-cells_of : length (cells_of values added changed) ≡ length values
  length-cells_of = zip-length stamped values _ (sym length-ticks)

  -- a value left a place by a swap, and its ticks with it
  pub cells_of-swapped_out : (i : ℕ) (v : Value) → i < length values → cells_of (swap_remove values i v) (swap_out added i) (swap_out changed i) ≡ swap_out (cells_of values added changed) i
  cells_of-swapped_out i v within =
      ap (λ vs. cells_of vs (swap_out added i) (swap_out changed i)) (swap_remove_is values i v within)
      ∙ ap (zip_with stamped (swap_out values i)) (zip-swap_out ticks added changed i (is.ticks_added ∙ sym is.ticks_changed))
      ∙ zip-swap_out stamped values _ i (sym length-ticks)

  -- a value was put at a place, and its ticks with it
  pub cells_of-with_back : (i : ℕ) (v : Value) (a c : ℕ) →
      cells_of (put_back values i v) (put_back added i a) (put_back changed i c) ≡ put_back (cells_of values added changed) i (record { value = v; added = a; changed = c })
  cells_of-with_back i v a c =
      ap (zip_with stamped (put_back values i v)) (zip-put_back ticks added changed i a c (is.ticks_added ∙ sym is.ticks_changed))
      ∙ zip-put_back stamped values _ i v (a, c) (sym length-ticks)

  -- a value was pushed, and swapped with the one at a place, and its ticks with it
  pub cells_of-put_back : (i j : ℕ) (v : Value) (a c : ℕ) → i ≤ length values → j ≡ length values →
      cells_of (swap (values ++ v ∷ []) i j) (put_back added i a) (put_back changed i c) ≡ put_back (cells_of values added changed) i (record { value = v; added = a; changed = c })
  cells_of-put_back i j v a c within last =
      ap (λ vs. cells_of vs (put_back added i a) (put_back changed i c)) (swap_is values i j v within last) ∙ cells_of-with_back i v a c

  -- each list was written at a place
  pub cells_of-set : (i : ℕ) (v : Value) (a c : ℕ) →
      cells_of (slice_set values i v) (slice_set added i a) (slice_set changed i c) ≡ slice_set (cells_of values added changed) i (record { value = v; added = a; changed = c })
  cells_of-set i v a c =
      ap (zip_with stamped (slice_set values i v)) (zip-set ticks added changed i a c (is.ticks_added ∙ sym is.ticks_changed))
      ∙ zip-set stamped values _ i v (a, c) (sym length-ticks)

  -- what stands at a place
  pub cells_of-get : (i : ℕ) (v : Value) (a c : ℕ) → i < length values → v ≡ get_or values i v → slice_get added i ≡ Some a → slice_get changed i ≡ Some c →
      slice_get (cells_of values added changed) i ≡ Some (record { value = v; added = a; changed = c })
  cells_of-get i v a c within x y z = zip-get stamped values _ i v (a, c) (slice_get_read values (length values) i v refl within x) (zip-get ticks added changed i a c y z)

  -- a test of the added ticks of a part, or of the changed ones, is one of its cells
  pub any_added : (tick from to : ℕ) → list_any (is_since (Added tick)) (slice_range (cells_of values added changed) from to) ≡ list_any (nat_lt tick) (slice_range added from to)
  any_added tick from to = any_of_ticks (λ t. nat_lt tick t.0) from to ∙ zip-any-first ticks (λ t. nat_lt tick t.0) (nat_lt tick) (λ a c. refl) _ _ (parts-length added changed (is.ticks_added ∙ sym is.ticks_changed) from to)

  pub any_changed : (tick from to : ℕ) → list_any (is_since (Changed tick)) (slice_range (cells_of values added changed) from to) ≡ list_any (nat_lt tick) (slice_range changed from to)
  any_changed tick from to = any_of_ticks (λ t. nat_lt tick t.1) from to ∙ zip-any-second ticks (λ t. nat_lt tick t.1) (nat_lt tick) (λ a c. refl) _ _ (parts-length added changed (is.ticks_added ∙ sym is.ticks_changed) from to)

-- the ticks at which cells were added
pub added_of : (values : List Value) (added changed : List ℕ) → length added ≡ length values → length changed ≡ length values → map (λ (cell : Cell). cell.added) (cells_of values added changed) ≡ added
added_of [] [] changed e f = refl
added_of [] (a ∷ added) changed e f = absurd (omega (arith, e))
added_of (v ∷ values) [] changed e f = absurd (omega (arith, e))
added_of (v ∷ values) (a ∷ added) [] e f = absurd (omega (arith, f))
added_of (v ∷ values) (a ∷ added) (c ∷ changed) e f = ap (λ t. a ∷ t) (added_of values added changed (omega (arith, e)) (omega (arith, f)))
