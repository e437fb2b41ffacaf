-- Lists whose elements are taken one after another, each as a word says.
use Rattle.std.proofs.Common.{◌≡◌, ℕ, ◌+◌, ◌-◌, Bool, true, List, [], ◌∷◌, ◌++◌, length, Option, Some, None, Result, refl, sym, ap, subst, ◌∙◌, map as each, slice_get}
use Rattle.std.proofs.lemmas.List.{append_assoc, append-nil}
use Rattle.json.specs.Token.{Token}
use Rattle.json.specs.Json.{after_end_array}
use Rattle.serde_json.specs.Data.{Data, array, no_items}
use Rattle.scene_json.specs.Lists.{elements}
use Rattle.scene_json.specs.NodeData.{items_before}
use Rattle.scene_json_forms.specs.declared.fault.FileFault.{FileFault}
use Rattle.scene_json_forms.specs.Reading.{each_at, list_of, may_follow, place_in, rising_at, rising_of}
use Rattle.scene_json_forms.proofs.Lists.{AreRead, AreRisen, all_read, all_risen, joined-none, read_on, risen_on}
use Rattle.scene_json_tokens.specs.Taken.{Begins, IsTaken}
use Rattle.scene_json_tokens.proofs.Grammar.{AreElements, list_begins, no_elements, one_more}

-- the elements of a list that was made of them
pub elements_before : (ds : List Data) → elements (items_before ds no_items) ≡ ds
elements_before [] = refl
elements_before (d ∷ ds) = ap (λ l. d ∷ l) (elements_before ds)

-- a list begins where its bracket was taken
pub list_from : (levels : ℕ) (old ts now next : List Token) (ds : List Data) → old ≡ Token.begin_array ∷ ts → AreElements levels ts ds now
    → after_end_array now ≡ Some next → Begins (levels + 1) old (array (items_before ds no_items)) next
list_from levels old ts now next ds e h over =
    subst (λ (l : List Token). Begins (levels + 1) l (array (items_before ds no_items)) next) (sym e) (list_begins levels ts now next ds h over)

module _ {A : Type 0} (word : List ℕ → Data → Result A FileFault) (levels : ℕ) (ts : List Token) where
  -- the elements so far are read as these items, whatever stands behind them
  abbrev pub AreTaken : List A → ℕ → List Token → Type 0
  AreTaken xs i now = (ds : List Data) × AreElements levels ts ds now
      × ((path : List ℕ) (rest : List Data) → AreRead word path (each_at word path 0 (ds ++ rest)) xs i rest)

  pub none_taken : {X : Type 0} (meant : X → A) (xs : List X) → xs ≡ [] → AreTaken (each meant xs) (length xs) ts
  none_taken {X} meant xs e = subst (λ (l : List X). AreTaken (each meant l) (length l) ts) (sym e)
      ([], no_elements levels ts, λ path rest. joined-none (each_at word path 0 rest))

  pub one_taken : {X : Type 0} (meant : X → A) (xs new : List X) (x : X) (now next : List Token) → new ≡ xs ++ x ∷ []
      → AreTaken (each meant xs) (length xs) now → IsTaken word levels now next (meant x) → AreTaken (each meant new) (length new) next
  one_taken {X} meant xs new x now next grown h one = (
    h.0 ++ one.0 ∷ [],
    one_more levels ts now next h.0 one.0 h.1 one.1,
    λ path rest. read_on word path meant (each_at word path 0 ((h.0 ++ one.0 ∷ []) ++ rest)) xs new x one.0 (one.0 ∷ rest) rest grown refl
        (subst (λ (l : List Data). AreRead word path (each_at word path 0 l) (each meant xs) (length xs) (one.0 ∷ rest))
        (sym (append_assoc h.0 (one.0 ∷ []) rest)) (h.2 path (one.0 ∷ rest))) (one.2 (place_in path (length xs))),
  )

  pub all_taken : (old now next : List Token) (xs : List A) (i : ℕ) → old ≡ Token.begin_array ∷ ts → AreTaken xs i now
      → after_end_array now ≡ Some next → IsTaken (list_of word) (levels + 1) old next xs
  all_taken old now next xs i e h over = (
    array (items_before h.0 no_items),
    list_from levels old ts now next h.0 e h.1 over,
    λ path. ap (each_at word path 0) (elements_before h.0 ∙ sym (append-nil h.0))
        ∙ all_read word path (each_at word path 0 (h.0 ++ [])) xs i [] refl (h.2 path []),
  )

  module _ (follows : A → A → Bool) where
    -- the same in an order
    abbrev pub AreRising : List A → ℕ → Option A → List Token → Type 0
    AreRising xs i before now = (ds : List Data) × AreElements levels ts ds now
        × ((path : List ℕ) (rest : List Data) → AreRisen word path follows (rising_at word follows path 0 None (ds ++ rest)) xs i before rest)

    pub none_rising : {X : Type 0} (meant : X → A) (xs : List X) → xs ≡ []
        → AreRising (each meant xs) (length xs) (slice_get (each meant xs) (length xs - 1)) ts
    none_rising {X} meant xs e =
        subst (λ (l : List X). AreRising (each meant l) (length l) (slice_get (each meant l) (length l - 1)) ts) (sym e)
        ([], no_elements levels ts, λ path rest. joined-none (rising_at word follows path 0 None rest))

    pub one_rising : {X : Type 0} (meant : X → A) (xs new : List X) (x : X) (now next : List Token) → new ≡ xs ++ x ∷ []
        → AreRising (each meant xs) (length xs) (slice_get (each meant xs) (length xs - 1)) now → IsTaken word levels now next (meant x)
        → may_follow follows (slice_get (each meant xs) (length xs - 1)) (meant x) ≡ true
        → AreRising (each meant new) (length new) (slice_get (each meant new) (length new - 1)) next
    one_rising {X} meant xs new x now next grown h one above = (
      h.0 ++ one.0 ∷ [],
      one_more levels ts now next h.0 one.0 h.1 one.1,
      λ path rest. risen_on word path follows meant (rising_at word follows path 0 None ((h.0 ++ one.0 ∷ []) ++ rest)) xs new x one.0 (one.0 ∷ rest) rest
          grown refl
          (subst (λ (l : List Data). AreRisen word path follows (rising_at word follows path 0 None l) (each meant xs) (length xs)
          (slice_get (each meant xs) (length xs - 1)) (one.0 ∷ rest))
          (sym (append_assoc h.0 (one.0 ∷ []) rest)) (h.2 path (one.0 ∷ rest))) (one.2 (place_in path (length xs))) above,
    )

    pub all_rising : (old now next : List Token) (xs : List A) (i : ℕ) (before : Option A) → old ≡ Token.begin_array ∷ ts → AreRising xs i before now
        → after_end_array now ≡ Some next → IsTaken (rising_of word follows) (levels + 1) old next xs
    all_rising old now next xs i before e h over = (
      array (items_before h.0 no_items),
      list_from levels old ts now next h.0 e h.1 over,
      λ path. ap (rising_at word follows path 0 None) (elements_before h.0 ∙ sym (append-nil h.0))
          ∙ all_risen word path follows (rising_at word follows path 0 None (h.0 ++ [])) xs i before [] refl (h.2 path []),
    )
