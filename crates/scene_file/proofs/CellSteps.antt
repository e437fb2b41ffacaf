-- The cells of a row, read one after another.
use Rattle.std.proofs.Common.{◌≡◌, ℕ, ◌+◌, ◌<◌, List, [], ◌∷◌, ◌++◌, length, drop, get_or, Result, Ok, Err, sym, ap, subst, ◌∙◌, arith}
use Rattle.std.specs.Result.{IsErrAnd}
use Rattle.std.proofs.lemmas.List.{at_drop_more, length-append}
use Rattle.serde_json.specs.Data.{Data}
use Rattle.scene_kinds.specs.declared.cell.Cell.{Cell}
use Rattle.scene_kinds.specs.declared.shape.Shape.{Shape}
use Rattle.scene_kinds.specs.declared.shape.Shape.TheVariants.{Tag}
use Rattle.scene_json_forms.specs.declared.fault.FileFault.{FileFault}
use Rattle.scene_json_forms.specs.Outcome.{IsTextFault, ReadsAs}
use Rattle.scene_json_forms.specs.Reading.{◌>>=◌, place_in}
use Rattle.scene_json_forms.specs.Walk.{cell_at}
use Rattle.scene_json_forms.proofs.Lists.{joined, joined-more}
use Rattle.scene_json_forms.proofs.Walking.{fault_stays}
use Rattle.scene_file.specs.Walk.{cells_from}

-- a call that hands on a fault answers what has that fault
pub handed_on : {X A : Type 0} (seen : X → A) (r : Result X FileFault) (x : Result A FileFault) (P : FileFault → Type 0) → IsErrAnd r P
    → ((f : FileFault) → P f → IsTextFault f x) → ReadsAs seen r x
handed_on seen (Ok item) x P h k = absurd h
handed_on seen (Err f) x P h k = k f h

module _ (path : List ℕ) (shapes : List Shape) (whole : Result (List Cell) FileFault) where
  -- what stands after these cells is read as cells of the shapes from there on
  abbrev pub AreRead : List Cell → List Data → Type 0
  AreRead cells ds = (whole ≡ joined cells (cells_from (drop (length cells) shapes) path (length cells) ds)) × (length cells + length ds ≡ length shapes)

  -- the next one, and the rest
  next_is : (cells : List Cell) (d : Data) (all ds : List Data) → all ≡ d ∷ ds → AreRead cells all
      → whole ≡ joined cells (cell_at (get_or shapes (length cells) Tag) (place_in path (length cells)) d
      >>= λ c. cells_from (drop (length cells + 1) shapes) path (length cells + 1) ds >>= λ cs. Ok (c ∷ cs))
  next_is cells d all ds e h =
      let within : length cells < length shapes = omega (arith, h.1, ap length e) in
      h.0 ∙ ap (λ l. joined cells (cells_from (drop (length cells) shapes) path (length cells) l)) e
      ∙ at_drop_more (λ (ss : List Shape). joined cells (cells_from ss path (length cells) (d ∷ ds))) shapes (length cells) Tag within

  pub one_read : (cells new : List Cell) (cell : Cell) (n : ℕ) (d : Data) (all ds : List Data) → n ≡ length cells → new ≡ cells ++ cell ∷ [] → all ≡ d ∷ ds
      → AreRead cells all → cell_at (get_or shapes n Tag) (place_in path n) d ≡ Ok cell → AreRead new ds
  one_read cells new cell n d all ds at grown e h read =
      let here : cell_at (get_or shapes (length cells) Tag) (place_in path (length cells)) d ≡ Ok cell =
      subst (λ (k : ℕ). cell_at (get_or shapes k Tag) (place_in path k) d ≡ Ok cell) at read in
      let rest : Result (List Cell) FileFault = cells_from (drop (length cells + 1) shapes) path (length cells + 1) ds in
      let longer : length cells + 1 ≡ length new = omega (arith, ap length grown, length-append cells (cell ∷ [])) in
      let more : whole ≡ joined (cells ++ cell ∷ []) rest =
      next_is cells d all ds e h ∙ ap (λ x. joined cells (x >>= λ c. rest >>= λ cs. Ok (c ∷ cs))) here ∙ joined-more cells cell rest in (
        subst (λ (k : ℕ). whole ≡ joined new (cells_from (drop k shapes) path k ds)) longer
            (subst (λ (l : List Cell). whole ≡ joined l rest) (sym grown) more),
        omega (arith, h.1, ap length e, longer),
      )

  pub one_faulty : (f : FileFault) (cells : List Cell) (n : ℕ) (d : Data) (all ds : List Data) → n ≡ length cells → all ≡ d ∷ ds → AreRead cells all
      → IsTextFault f (cell_at (get_or shapes n Tag) (place_in path n) d) → IsTextFault f whole
  one_faulty f cells n d all ds at e h fault =
      let here : IsTextFault f (cell_at (get_or shapes (length cells) Tag) (place_in path (length cells)) d) =
      subst (λ (k : ℕ). IsTextFault f (cell_at (get_or shapes k Tag) (place_in path k) d)) at fault in
      subst (IsTextFault f) (sym (next_is cells d all ds e h))
      (fault_stays f (cell_at (get_or shapes (length cells) Tag) (place_in path (length cells)) d
      >>= λ c. cells_from (drop (length cells + 1) shapes) path (length cells + 1) ds >>= λ cs. Ok (c ∷ cs)) (λ cs. Ok (cells ++ cs))
      (fault_stays f (cell_at (get_or shapes (length cells) Tag) (place_in path (length cells)) d)
      (λ c. cells_from (drop (length cells + 1) shapes) path (length cells + 1) ds >>= λ cs. Ok (c ∷ cs)) here))
