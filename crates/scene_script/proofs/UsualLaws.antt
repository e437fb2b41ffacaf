-- Cells of which each is good for itself.
use Rattle.std.proofs.Common.{◌≡◌, ℕ, Bool, true, false, List, [], ◌∷◌, refl, ap, ◌∙◌, Option, Some, None, Result, Ok, Err}
use Rattle.std.specs.Prelude.{is_some}
use Rattle.std.specs.Option.{option_map_or}
use Rattle.scene_kinds.specs.EntityReading.{cut_at}
use Rattle.scene_kinds.specs.Schema.{Kinds, number_of}
use Rattle.scene_kinds.specs.declared.value.Value.{Value}
use Rattle.scene_script.specs.declared.bad_line.BadLine.{BadLine}
use Rattle.scene_script.specs.declared.bad_line.BadLine.TheVariants as bad
use Rattle.scene_script.specs.Cells.{cell_of_parts, cell_said, cells_behind, is_text, next_cell, tag_said, valued_said}
use Rattle.scene_script.specs.Reading.{◌>>=◌, or_bad}

abbrev Cell : Type 0
Cell = ℕ × Value

-- the cells that words are, each for itself
abbrev pub each_said : Kinds → List (List ℕ) → Result (List Cell) BadLine
each_said kinds [] = Ok []
each_said kinds (w ∷ ws) = do
  c ← cell_said kinds w
  cs ← each_said kinds ws
  Ok (c ∷ cs)

-- what goes on was there
was_there : (reason : BadLine) (o : Option ℕ) (next : ℕ → Result Cell BadLine) (c : Cell) → (or_bad reason o >>= next) ≡ Ok c → is_some o ≡ true
was_there reason None next c h = absurd (cc h)
was_there reason (Some k) next c h = refl

-- the name of a good cell is a kind's
known : (kinds : Kinds) (w : List ℕ) (o : Option (List ℕ × List ℕ)) (c : Cell) → cell_of_parts kinds w o ≡ Ok c
    → is_some (number_of kinds (option_map_or (λ p. p.0) o w)) ≡ true
known kinds w None c h = was_there (bad.UnknownKind w) (number_of kinds w) (tag_said kinds w) c h
known kinds w (Some p) c h = was_there (bad.UnknownKind p.0) (number_of kinds p.0) (valued_said kinds p.0 p.1) c h

-- so it is one behind a text too
next_said : (kinds : Kinds) (behind_text : Bool) (w : List ℕ) (c : Cell) → cell_said kinds w ≡ Ok c → next_cell kinds behind_text w ≡ Ok c
next_said kinds false w c h = h
next_said kinds true w c h = rw (known kinds w (cut_at 61 w) c h) h

rest_said : (kinds : Kinds) (behind_text : Bool) (c : Cell) (ws : List (List ℕ)) (r : Result (List Cell) BadLine) (cs : List Cell)
    → ((ds : List Cell) → r ≡ Ok ds → cells_behind kinds behind_text ws ≡ Ok ds)
    → (r >>= (λ ds. Ok (c ∷ ds))) ≡ Ok cs → (cells_behind kinds behind_text ws >>= (λ ds. Ok (c ∷ ds))) ≡ Ok cs
rest_said kinds behind_text c ws (Err reason) cs later h = absurd (cc h)
rest_said kinds behind_text c ws (Ok ds) cs later h = ap (λ r. r >>= (λ ds. Ok (c ∷ ds))) (later ds refl) ∙ h

first_said : (kinds : Kinds) (behind_text : Bool) (w : List ℕ) (ws : List (List ℕ)) (r : Result Cell BadLine) (cs : List Cell) → cell_said kinds w ≡ r
    → ((behind : Bool) (ds : List Cell) → each_said kinds ws ≡ Ok ds → cells_behind kinds behind ws ≡ Ok ds)
    → (r >>= (λ c. each_said kinds ws >>= (λ ds. Ok (c ∷ ds)))) ≡ Ok cs → cells_behind kinds behind_text (w ∷ ws) ≡ Ok cs
first_said kinds behind_text w ws (Err reason) cs e later h = absurd (cc h)
first_said kinds behind_text w ws (Ok c) cs e later h =
    ap (λ r. r >>= (λ c. cells_behind kinds (is_text c.1) ws >>= (λ ds. Ok (c ∷ ds)))) (next_said kinds behind_text w c e)
    ∙ rest_said kinds (is_text c.1) c ws (each_said kinds ws) cs (later (is_text c.1)) h

-- cells that are good each for itself are those that the words are, behind a text or not
pub are_said : (kinds : Kinds) (behind_text : Bool) (ws : List (List ℕ)) (cs : List Cell) → each_said kinds ws ≡ Ok cs → cells_behind kinds behind_text ws ≡ Ok cs
are_said kinds behind_text [] cs h = h
are_said kinds behind_text (w ∷ ws) cs h =
    first_said kinds behind_text w ws (cell_said kinds w) cs refl (λ behind ds e. are_said kinds behind ws ds e) h
