-- A move of slots changes one index.
use Rattle.std.proofs.Common.{◌≡◌, ◌≢◌, inl, inr, ℕ, ◌+◌, ◌<◌, ◌≤◌, Bool, true, false, ◌||◌, nat_eq, nat_lt, List, [], ◌∷◌, ◌++◌, length, set, Some, Ok, if◌then◌else◌, refl, sym, ap, ◌∙◌, arith, length-append, length-set, get_or-set_other, slice_get}
use Rattle.std.specs.List.{list_any}
use Rattle.std.proofs.lemmas.Bool.{ltb-true, ltb-false, eq-eqb, ne_eqb}
use Rattle.std.proofs.Math.Bool.{or-false, or-true}
use Rattle.std.proofs.lemmas.List.{get_or_append_left}
use Rattle.std.proofs.lemmas.List.Folds.{list_any-append}
use Rattle.std.proofs.lemmas.Option.{slice_get-get_or, slice_get_past}
use Rattle.scene_kinds.specs.declared.entity.Entity.{Entity}
use Rattle.scene_alloc.specs.Ends.{last, front}
use Rattle.scene_alloc.specs.Slots.{SlotState, SameElsewhere, IsUnused, retires, take_of, untake_of, release_of, unrelease_of}
use Rattle.scene_alloc.proofs.Ends.{push-last}
use Rattle.scene_alloc.proofs.Moves.{take_cases, freed, fresh_last, fresh_length}
use Rattle.scene_alloc.proofs.SlotParts.{CanUntake, CanUnrelease}

-- a number that isn't the one pushed is in the list as before
any_push : (xs : List ℕ) (x i : ℕ) → i ≢ x → list_any (nat_eq i) (xs ++ x ∷ []) ≡ list_any (nat_eq i) xs
any_push xs x i n = list_any-append (nat_eq i) xs (x ∷ []) ∙ (ap (λ b. list_any (nat_eq i) xs || (b || false)) (ne_eqb i x n) ∙ or-false (list_any (nat_eq i) xs))

-- or the one that was last
any_front : (xs : List ℕ) (x i : ℕ) → last xs ≡ Some x → i ≢ x → list_any (nat_eq i) (front xs) ≡ list_any (nat_eq i) xs
any_front xs x i q n = sym (any_push (front xs) x i n) ∙ ap (list_any (nat_eq i)) (push-last xs x q)

-- the last of a list is in it
any_last : (xs : List ℕ) (x : ℕ) → last xs ≡ Some x → list_any (nat_eq x) xs ≡ true
any_last xs x q = ap (list_any (nat_eq x)) (sym (push-last xs x q)) ∙ (list_any-append (nat_eq x) (front xs) (x ∷ []) ∙ (ap (λ b. list_any (nat_eq x) (front xs) || (b || false)) (eq-eqb x x refl) ∙ or-true (list_any (nat_eq x) (front xs))))

-- two lists of one length are read alike where their elements are equal, and past the end
read_alike : (xs ys : List ℕ) (i : ℕ) → (i < length xs → slice_get ys i ≡ slice_get xs i) → (length xs ≤ i → length ys ≤ i) → slice_get ys i ≡ slice_get xs i
read_alike xs ys i within past = elim (nat_lt i (length xs)) as (λ b. nat_lt i (length xs) ≡ b → slice_get ys i ≡ slice_get xs i) [
  | true ↦ λ p. within (ltb-true _ _ p)
  | false ↦ λ p. slice_get_past ys i (past (ltb-false _ _ p)) ∙ sym (slice_get_past xs i (ltb-false _ _ p))
] refl

get_push : (xs : List ℕ) (x i : ℕ) → i ≢ length xs → slice_get (xs ++ x ∷ []) i ≡ slice_get xs i
get_push xs x i n =
    let m = length-append xs (x ∷ []) in
    read_alike xs (xs ++ x ∷ []) i
    (λ l. slice_get-get_or (xs ++ x ∷ []) i 0 (omega arith) ∙ (ap Some (get_or_append_left xs (x ∷ []) 0 i l) ∙ sym (slice_get-get_or xs i 0 l)))
    (λ l. omega arith)

get_set : (xs : List ℕ) (k x i : ℕ) → i ≢ k → slice_get (set xs k x) i ≡ slice_get xs i
get_set xs k x i n =
    let m = length-set xs k x in
    read_alike xs (set xs k x) i
    (λ l. slice_get-get_or (set xs k x) i 0 (omega arith) ∙ (ap Some (get_or-set_other xs k i x 0 n) ∙ sym (slice_get-get_or xs i 0 l)))
    (λ l. omega arith)

pub IsUnused-take : (s t : SlotState) (e : Entity) → take_of s ≡ Ok (e, t) → IsUnused s e.index
IsUnused-take s t e h = take_cases s (λ e _. IsUnused s e.index)
    (λ i q. inl (any_last s.free i q))
    (λ none l. inr (slice_get_past s.generations (length s.generations) (omega arith)))
    e t h

pub SameElsewhere-take : (s t : SlotState) (e : Entity) → take_of s ≡ Ok (e, t) → SameElsewhere s t e.index
SameElsewhere-take s t e h = take_cases s (λ e t. SameElsewhere s t e.index)
    (λ i q. record { generations = λ _ _. refl; free = λ k n. any_front s.free i k q n })
    (λ none l. record { generations = λ k n. get_push s.generations 1 k n; free = λ _ _. refl })
    e t h

pub SameElsewhere-untake : (s : SlotState) (e : Entity) (fresh : Bool) → CanUntake s e fresh → SameElsewhere s (untake_of s e fresh) e.index
SameElsewhere-untake s e true c =
    let f = c.newest refl in
    let m = fresh_length s e c in
    record {
      generations = λ k n. let apart : k ≢ length (front s.generations) = λ q. n (let r = f.last_slot in omega arith) in
          sym (get_push (front s.generations) 1 k apart) ∙ ap (λ g. slice_get g k) (fresh_last s e c);
      free = λ _ _. refl;
    }
SameElsewhere-untake s e false c = record { generations = λ _ _. refl; free = λ k n. any_push s.free e.index k n }

pub SameElsewhere-release : (s : SlotState) (e : Entity) → SameElsewhere s (release_of s e) e.index
SameElsewhere-release s e = elim (retires e) as (λ b. SameElsewhere s (if b then s else freed s e) e.index) [
  | true ↦ record { generations = λ _ _. refl; free = λ _ _. refl }
  | false ↦ record {
    generations = λ k n. get_set s.generations e.index (e.generation + 1) k n;
    free = λ k n. any_push s.free e.index k n;
  }
]

pub SameElsewhere-unrelease : (s : SlotState) (e : Entity) (retired : Bool) → CanUnrelease s e retired → SameElsewhere s (unrelease_of s e retired) e.index
SameElsewhere-unrelease s e true c = record { generations = λ _ _. refl; free = λ _ _. refl }
SameElsewhere-unrelease s e false c = record {
  generations = λ k n. get_set s.generations e.index e.generation k n;
  free = λ k n. any_front s.free e.index k (c.raised refl).last_free n;
}
