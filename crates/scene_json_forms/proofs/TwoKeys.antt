-- An object that has just two keys.
use Rattle.std.proofs.Common.{◌≡◌, ◌≢◌, ℕ, Bool, true, false, cond, List, [], ◌∷◌, Option, Some, None, Result, Ok, Err, bytes_eq, refl, sym, ap, subst, ◌∙◌}
use Rattle.std.specs.Prelude.{◌||◌}
use Rattle.std.specs.List.{list_any}
use Rattle.std.proofs.lemmas.Slice.Eq.{bytes_eq-Decides}
use Rattle.serde_json.specs.Data.{Data, Members, no_members, put}
use Rattle.serde_json.specs.Find.{as_object, get_member}
use Rattle.serde_json.proofs.Views.{get_member-put, get_member-put_other}
use Rattle.scene_json.specs.Keys.{sooner}
use Rattle.scene_json.proofs.Unknown.{first_unknown}
use Rattle.scene_json_forms.specs.declared.fault.FileFault.{FileFault}
use Rattle.scene_json_forms.specs.Outcome.{IsTextFault}
use Rattle.scene_json_forms.specs.Reading.{◌>>=◌, field, if_known, key_of, object_at, two_keys, under, unknown_in}
use Rattle.scene_json_forms.proofs.Walking.{fault_stays}

or_true : (b : Bool) → (b || true) ≡ true
or_true true = refl
or_true false = refl

module _ (k l : List ℕ) (d e : Data) where
  -- the members of the two keys
  abbrev pub two : Members
  two = put l e (put k d no_members)

  first_known : list_any (bytes_eq k) (k ∷ l ∷ []) ≡ true
  first_known = ap (λ b. b || list_any (bytes_eq k) (l ∷ [])) ((bytes_eq-Decides k k).1 refl)

  other_known : list_any (bytes_eq l) (k ∷ l ∷ []) ≡ true
  other_known = ap (λ b. bytes_eq l k || (b || false)) ((bytes_eq-Decides l l).1 refl) ∙ or_true (bytes_eq l k)

  none_unknown : unknown_in (k ∷ l ∷ []) two ≡ None
  none_unknown =
      first_unknown (k ∷ l ∷ []) ((k, d) ∷ (l, e) ∷ [])
      ∙ (λ i. cond (other_known i) (cond (first_known i) None (Some k)) (Some (sooner (cond (first_known i) None (Some k)) l)))

  module _ {A B : Type 0} (read : List ℕ → Data → Result A FileFault) (next : List ℕ → Data → Result B FileFault) (path : List ℕ) where
    -- what the two values say
    abbrev pub both : Result (A × B) FileFault
    both = read (under path k) d >>= λ a. next (under path l) e >>= λ b. Ok (a, b)

    pub two_read : (v : Data) → k ≢ l → as_object v ≡ Some two → two_keys read k next l path v ≡ both
    two_read v differ is =
        let rest : Members → Result (A × B) FileFault = λ ms. key_of read path k ms >>= λ a. key_of next path l ms >>= λ b. Ok (a, b) in
        let first : get_member k two ≡ Some d = get_member-put_other k l e (put k d no_members) differ ∙ get_member-put k d no_members in
        let other : get_member l two ≡ Some e = get_member-put l e (put k d no_members) in
        ap (λ o. (field path o >>= λ ms. if_known path (unknown_in (k ∷ l ∷ []) ms) ms) >>= rest) is
        ∙ ap (λ u. if_known path u two >>= rest) none_unknown
        ∙ (λ i. (field (under path k) (first i) >>= λ x. read (under path k) x)
        >>= λ a. (field (under path l) (other i) >>= λ x. next (under path l) x) >>= λ b. Ok (a, b))

    pub two_good : (v : Data) (a : A) (b : B) → k ≢ l → as_object v ≡ Some two → read (under path k) d ≡ Ok a → next (under path l) e ≡ Ok b
        → two_keys read k next l path v ≡ Ok (a, b)
    two_good v a b differ is h g =
        two_read v differ is ∙ ap (λ r. r >>= λ a. next (under path l) e >>= λ b. Ok (a, b)) h ∙ ap (λ r. r >>= λ b. Ok (a, b)) g

    pub first_faulty : (v : Data) (f : FileFault) → k ≢ l → as_object v ≡ Some two → IsTextFault f (read (under path k) d)
        → IsTextFault f (two_keys read k next l path v)
    first_faulty v f differ is h =
        subst (IsTextFault f) (sym (two_read v differ is)) (fault_stays f (read (under path k) d) (λ a. next (under path l) e >>= λ b. Ok (a, b)) h)

    pub other_faulty : (v : Data) (f : FileFault) (a : A) → k ≢ l → as_object v ≡ Some two → read (under path k) d ≡ Ok a
        → IsTextFault f (next (under path l) e) → IsTextFault f (two_keys read k next l path v)
    other_faulty v f a differ is h g =
        subst (IsTextFault f) (sym (two_read v differ is ∙ ap (λ r. r >>= λ a. next (under path l) e >>= λ b. Ok (a, b)) h))
        (fault_stays f (next (under path l) e) (λ b. Ok (a, b)) g)

-- ---- what is made of both

abbrev paired : {A B : Type 0} → Result A FileFault → Result B FileFault → Result (A × B) FileFault
paired x y = x >>= λ a. y >>= λ b. Ok (a, b)

module _ {A B C : Type 0} (made : A → B → C) where
  made_of_both : (x : Result A FileFault) (y : Result B FileFault) → (paired x y >>= λ p. Ok (made p.0 p.1)) ≡ (x >>= λ a. y >>= λ b. Ok (made a b))
  made_of_both (Err e) y = refl
  made_of_both (Ok a) (Err e) = refl
  made_of_both (Ok a) (Ok b) = refl

  made_within : (x : Result Members FileFault) (f : Members → Result A FileFault) (g : Members → Result B FileFault)
      → ((x >>= λ ms. paired (f ms) (g ms)) >>= λ p. Ok (made p.0 p.1)) ≡ (x >>= λ ms. f ms >>= λ a. g ms >>= λ b. Ok (made a b))
  made_within (Err e) f g = refl
  made_within (Ok ms) f g = made_of_both (f ms) (g ms)

  module _ (read : List ℕ → Data → Result A FileFault) (k : List ℕ) (next : List ℕ → Data → Result B FileFault) (l path : List ℕ) (v : Data) where
    -- an object of two keys, of which the values are put together
    abbrev pub made_at : Result C FileFault
    made_at = object_at (k ∷ l ∷ []) path v >>= λ ms. key_of read path k ms >>= λ a. key_of next path l ms >>= λ b. Ok (made a b)

    made_is : (two_keys read k next l path v >>= λ p. Ok (made p.0 p.1)) ≡ made_at
    made_is = made_within (object_at (k ∷ l ∷ []) path v) (key_of read path k) (key_of next path l)

    pub made_read : (a : A) (b : B) → two_keys read k next l path v ≡ Ok (a, b) → made_at ≡ Ok (made a b)
    made_read a b h = sym made_is ∙ ap (λ r. r >>= λ p. Ok (made p.0 p.1)) h

    pub made_faulty : (f : FileFault) → IsTextFault f (two_keys read k next l path v) → IsTextFault f made_at
    made_faulty f h = subst (IsTextFault f) made_is (fault_stays f (two_keys read k next l path v) (λ p. Ok (made p.0 p.1)) h)
