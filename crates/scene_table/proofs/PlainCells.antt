-- Cells without texts.
use Rattle.std.proofs.Common.{◌≡◌, ℕ, false, List, [], ◌∷◌, ◌++◌, sym, ◌∙◌}
use Rattle.std.proofs.lemmas.Bool.{or_parts}
use Rattle.std.proofs.Math.Bool.{or-false}
use Rattle.std.proofs.lemmas.List.Folds.{list_any-append}
use Rattle.scene_kinds.specs.declared.cell.Cell.{Cell}
use Rattle.scene_table.specs.Plain.{has_text, is_text}

-- a list without a text has none before its last cell, nor in it
pub plain_before : (cells : List (ℕ × Cell)) (cell : ℕ × Cell) → has_text (cells ++ cell ∷ []) ≡ false
    → (has_text cells ≡ false) × (is_text cell.1.value ≡ false)
plain_before cells cell plain =
    let both = or_parts (has_text cells) (has_text (cell ∷ [])) (sym (list_any-append (λ (c : ℕ × Cell). is_text c.1.value) cells (cell ∷ [])) ∙ plain) in
    (both.0, sym (or-false (is_text cell.1.value)) ∙ both.1)
