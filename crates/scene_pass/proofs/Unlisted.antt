-- Rows of which no cell is listed.
use Rattle.std.proofs.Common.{◌≡◌, ◌≤◌, ℕ, Bool, false, cond, List, [], ◌∷◌, ◌++◌, drop, map, refl, ap, sym, ◌∙◌}
use Rattle.std.specs.Prelude.{slice_range}
use Rattle.std.specs.List.{filter, flat_map, list_any}
use Rattle.std.proofs.lemmas.Bool.{or_parts}
use Rattle.std.proofs.lemmas.Grind.{flat_map-append}
use Rattle.std.proofs.lemmas.List.Folds.{drop_split}
use Rattle.scene_kinds.specs.declared.cell.Cell.{Cell}
use Rattle.scene_kinds.specs.declared.cells.Row.{Row}
use Rattle.scene_table.specs.declared.since.Since.{Since}
use Rattle.scene_table.specs.Since.{is_since, row_has, rows_have}
use Rattle.scene_pass.specs.Pass.{names_in}

-- what passes no test isn't kept
none_kept : {X : Type 0} (p : X → Bool) (xs : List X) → list_any p xs ≡ false → filter p xs ≡ []
none_kept p [] h = refl
none_kept p (x ∷ xs) h =
    let parts = or_parts (p x) (list_any p xs) h in
    ap (λ b. cond b (x ∷ filter p xs) (filter p xs)) parts.0 ∙ none_kept p xs parts.1

pub none_in_rows : (since : Since) (rows : List Row) → rows_have since rows ≡ false → flat_map (names_in (is_since since)) rows ≡ []
none_in_rows since [] h = refl
none_in_rows since (row ∷ rows) h =
    let parts = or_parts (row_has since row) (rows_have since rows) h in
    (λ i. map (λ (c : ℕ × Cell). record { entity = row.entity; kind = c.0 }) (none_kept (λ (c : ℕ × Cell). is_since since c.1) row.cells parts.0 i) ++ none_in_rows since rows parts.1 i)

-- where a part has none, what is listed from its begin on is what is listed from its end on
pub none_in_part : (since : Since) (rows : List Row) (from to : ℕ) → from ≤ to → rows_have since (slice_range rows from to) ≡ false
    → flat_map (names_in (is_since since)) (drop to rows) ≡ flat_map (names_in (is_since since)) (drop from rows)
none_in_part since rows from to order h =
    sym (ap (flat_map (names_in (is_since since))) (drop_split rows from to order)
    ∙ flat_map-append (names_in (is_since since)) (slice_range rows from to) (drop to rows)
    ∙ ap (λ ns. ns ++ flat_map (names_in (is_since since)) (drop to rows)) (none_in_rows since (slice_range rows from to) h))
