-- What is read of a list so far, and what of the rest.
use Rattle.std.proofs.Common.{◌≡◌, ℕ, ◌+◌, ◌-◌, Bool, true, false, List, [], ◌∷◌, ◌++◌, length, Option, Some, Result, Ok, Err, refl, sym, ap, subst, ◌∙◌, arith, map as each, option_map, slice_get}
use Rattle.std.proofs.lemmas.List.{map-append, append_assoc, append-nil, length-append}
use Rattle.std.proofs.lemmas.Option.{slice_get-map}
use Rattle.serde_json.specs.Data.{Data}
use Rattle.scene_json_forms.specs.declared.fault.FileFault.{FileFault}
use Rattle.scene_json_forms.specs.declared.fault.FileFault.TheVariants.{BadField}
use Rattle.scene_json_forms.specs.Outcome.{IsTextFault, Means}
use Rattle.scene_json_forms.specs.Reading.{◌>>=◌, if_good, each_at, may_follow, rising_at, place_in}
use Rattle.scene_json_forms.proofs.Walking.{fault_means, fault_stays}

-- what was read so far, before what the rest is read as
abbrev pub joined : {A : Type 0} → List A → Result (List A) FileFault → Result (List A) FileFault
joined xs rest = rest >>= λ ys. Ok (xs ++ ys)

pub joined-none : {A : Type 0} (x : Result (List A) FileFault) → x ≡ joined [] x
joined-none (Ok ys) = refl
joined-none (Err f) = refl

-- one more item, before what the rest is read as
pub joined-more : {A : Type 0} (xs : List A) (a : A) (rest : Result (List A) FileFault)
    → joined xs (rest >>= λ ys. Ok (a ∷ ys)) ≡ joined (xs ++ a ∷ []) rest
joined-more xs a (Ok ys) = ap Ok (sym (append_assoc xs (a ∷ []) ys))
joined-more xs a (Err f) = refl

-- the last item
pub last_pushed : {A : Type 0} (xs : List A) (a : A) → slice_get (xs ++ a ∷ []) (length xs) ≡ Some a
last_pushed [] a = refl
last_pushed (x ∷ xs) a = last_pushed xs a

-- what is said of a list with one more item
last_said : {A X : Type 0} (meant : X → A) (xs : List X) (x : X) → slice_get (each meant (xs ++ x ∷ [])) (length (xs ++ x ∷ []) - 1) ≡ Some (meant x)
last_said meant xs x =
    let n : length (xs ++ x ∷ []) - 1 ≡ length xs = omega (arith, length-append xs (x ∷ [])) in
    ap (slice_get (each meant (xs ++ x ∷ []))) n ∙ (slice_get-map meant (xs ++ x ∷ []) (length xs) ∙ ap (option_map meant) (last_pushed xs x))

module _ {A : Type 0} (read : List ℕ → Data → Result A FileFault) (path : List ℕ) where
  -- the elements from a place on were read as they are, after those before
  abbrev pub AreRead : Result (List A) FileFault → List A → ℕ → List Data → Type 0
  AreRead whole xs i ds = whole ≡ joined xs (each_at read path i ds)

  pub one_read : (whole : Result (List A) FileFault) (xs : List A) (i : ℕ) (d : Data) (all ds : List Data) (a : A) → all ≡ d ∷ ds
      → AreRead whole xs i all
      → read (place_in path i) d ≡ Ok a → AreRead whole (xs ++ a ∷ []) (i + 1) ds
  one_read whole xs i d all ds a e h r =
      h ∙ (ap (λ l. joined xs (each_at read path i l)) e
      ∙ (ap (λ x. joined xs (x >>= λ b. each_at read path (i + 1) ds >>= λ rest. Ok (b ∷ rest))) r
      ∙ joined-more xs a (each_at read path (i + 1) ds)))

  pub one_faulty : (whole : Result (List A) FileFault) (xs : List A) (i : ℕ) (d : Data) (all ds : List Data) (f : FileFault) → all ≡ d ∷ ds
      → AreRead whole xs i all
      → IsTextFault f (read (place_in path i) d) → IsTextFault f whole
  one_faulty whole xs i d all ds f e h r =
      subst (IsTextFault f) (sym (h ∙ ap (λ l. joined xs (each_at read path i l)) e))
      (fault_stays f (each_at read path i (d ∷ ds)) (λ ys. Ok (xs ++ ys))
      (fault_stays f (read (place_in path i) d) (λ b. each_at read path (i + 1) ds >>= λ rest. Ok (b ∷ rest)) r))

  pub all_read : (whole : Result (List A) FileFault) (xs : List A) (i : ℕ) (ds : List Data) → ds ≡ [] → AreRead whole xs i ds → whole ≡ Ok xs
  all_read whole xs i ds e h = h ∙ (ap (λ l. joined xs (each_at read path i l)) e ∙ ap Ok (append-nil xs))

  pub read_on : {X : Type 0} (meant : X → A) (whole : Result (List A) FileFault) (xs new : List X) (x : X) (d : Data) (all ds : List Data)
      → new ≡ xs ++ x ∷ [] → all ≡ d ∷ ds → AreRead whole (each meant xs) (length xs) all → read (place_in path (length xs)) d ≡ Ok (meant x)
      → AreRead whole (each meant new) (length new) ds
  read_on {X} meant whole xs new x d all ds e g h r =
      let longer : length xs + 1 ≡ length new = omega (arith, ap length e, length-append xs (x ∷ [])) in
      subst (λ (n : ℕ). AreRead whole (each meant new) n ds) longer
      (subst (λ (n : List X). AreRead whole (each meant n) (length xs + 1) ds) (sym e)
      (subst (λ (l : List A). AreRead whole l (length xs + 1) ds) (sym (map-append meant xs (x ∷ [])))
      (one_read whole (each meant xs) (length xs) d all ds (meant x) g h r)))

  module _ (follows : A → A → Bool) where
    -- the same in an order
    abbrev pub AreRisen : Result (List A) FileFault → List A → ℕ → Option A → List Data → Type 0
    AreRisen whole xs i before ds = whole ≡ joined xs (rising_at read follows path i before ds)

    pub one_risen : (whole : Result (List A) FileFault) (xs : List A) (i : ℕ) (before : Option A) (d : Data) (all ds : List Data) (a : A)
        → all ≡ d ∷ ds → AreRisen whole xs i before all
        → read (place_in path i) d ≡ Ok a → may_follow follows before a ≡ true → AreRisen whole (xs ++ a ∷ []) (i + 1) (Some a) ds
    one_risen whole xs i before d all ds a e h r m =
        h ∙ (ap (λ l. joined xs (rising_at read follows path i before l)) e
        ∙ (ap (λ x. joined xs (x >>= λ a. if_good (place_in path i) (may_follow follows before a) a
        >>= λ b. rising_at read follows path (i + 1) (Some b) ds >>= λ rest. Ok (b ∷ rest))) r
        ∙ (ap (λ t. joined xs (if_good (place_in path i) t a >>= λ b. rising_at read follows path (i + 1) (Some b) ds >>= λ rest. Ok (b ∷ rest))) m
        ∙ joined-more xs a (rising_at read follows path (i + 1) (Some a) ds))))

    pub one_unrisen : (whole : Result (List A) FileFault) (xs : List A) (i : ℕ) (before : Option A) (d : Data) (all ds : List Data) (f : FileFault)
        → all ≡ d ∷ ds → AreRisen whole xs i before all
        → IsTextFault f (read (place_in path i) d) → IsTextFault f whole
    one_unrisen whole xs i before d all ds f e h r =
        subst (IsTextFault f) (sym (h ∙ ap (λ l. joined xs (rising_at read follows path i before l)) e))
        (fault_stays f (rising_at read follows path i before (d ∷ ds)) (λ ys. Ok (xs ++ ys))
        (fault_stays f (read (place_in path i) d)
        (λ a. if_good (place_in path i) (may_follow follows before a) a >>= λ b. rising_at read follows path (i + 1) (Some b) ds
        >>= λ rest. Ok (b ∷ rest)) r))

    pub one_misplaced : (whole : Result (List A) FileFault) (xs : List A) (i : ℕ) (before : Option A) (d : Data) (all ds : List Data) (a : A)
        (f : FileFault) → all ≡ d ∷ ds → AreRisen whole xs i before all
        → read (place_in path i) d ≡ Ok a → may_follow follows before a ≡ false → Means f (BadField (place_in path i)) → IsTextFault f whole
    one_misplaced whole xs i before d all ds a f e h r m n =
        fault_means f (BadField (place_in path i)) whole n
        (h ∙ (ap (λ l. joined xs (rising_at read follows path i before l)) e
        ∙ (ap (λ x. joined xs (x >>= λ a. if_good (place_in path i) (may_follow follows before a) a
        >>= λ b. rising_at read follows path (i + 1) (Some b) ds >>= λ rest. Ok (b ∷ rest))) r
        ∙ ap (λ t. joined xs (if_good (place_in path i) t a >>= λ b. rising_at read follows path (i + 1) (Some b) ds >>= λ rest. Ok (b ∷ rest))) m)))

    pushed : {X : Type 0} (meant : X → A) (whole : Result (List A) FileFault) (xs : List X) (x : X) (j : ℕ) (ds : List Data)
        → AreRisen whole (each meant xs ++ meant x ∷ []) j (Some (meant x)) ds
        → AreRisen whole (each meant (xs ++ x ∷ [])) j (slice_get (each meant (xs ++ x ∷ [])) (length (xs ++ x ∷ []) - 1)) ds
    pushed meant whole xs x j ds h =
        subst (λ (o : Option A). AreRisen whole (each meant (xs ++ x ∷ [])) j o ds) (sym (last_said meant xs x))
        (subst (λ (l : List A). AreRisen whole l j (Some (meant x)) ds) (sym (map-append meant xs (x ∷ []))) h)

    pub risen_on : {X : Type 0} (meant : X → A) (whole : Result (List A) FileFault) (xs new : List X) (x : X) (d : Data) (all ds : List Data)
        → new ≡ xs ++ x ∷ []
        → all ≡ d ∷ ds → AreRisen whole (each meant xs) (length xs) (slice_get (each meant xs) (length xs - 1)) all
        → read (place_in path (length xs)) d ≡ Ok (meant x) → may_follow follows (slice_get (each meant xs) (length xs - 1)) (meant x) ≡ true
        → AreRisen whole (each meant new) (length new) (slice_get (each meant new) (length new - 1)) ds
    risen_on {X} meant whole xs new x d all ds e g h r m =
        let longer : length xs + 1 ≡ length new = omega (arith, ap length e, length-append xs (x ∷ [])) in
        subst (λ (n : ℕ). AreRisen whole (each meant new) n (slice_get (each meant new) (length new - 1)) ds) longer
        (subst (λ (n : List X). AreRisen whole (each meant n) (length xs + 1) (slice_get (each meant n) (length n - 1)) ds) (sym e)
        (pushed meant whole xs x (length xs + 1) ds
        (one_risen whole (each meant xs) (length xs) (slice_get (each meant xs) (length xs - 1)) d all ds (meant x) g h r m)))

    pub all_risen : (whole : Result (List A) FileFault) (xs : List A) (i : ℕ) (before : Option A) (ds : List Data) → ds ≡ []
        → AreRisen whole xs i before ds → whole ≡ Ok xs
    all_risen whole xs i before ds e h = h ∙ (ap (λ l. joined xs (rising_at read follows path i before l)) e ∙ ap Ok (append-nil xs))

pub ruleset lists = (slice_get-map)
