-- What a take of a slot leaves, as a world sees it.
use Rattle.std.proofs.Common.{◌≡◌, ℕ, ◌<◌, Bool, true, false, ◌||◌, nat_eq, List, [], ◌∷◌, ◌++◌, length, refl, ap, sym, ◌∙◌, arith, Some, None, Ok, length-append, slice_get, ◌⊎◌, inl, inr}
use Rattle.std.specs.List.{list_any}
use Rattle.std.proofs.lemmas.Bool.{or_parts, or_right, eq-eqb, ne_eqb}
use Rattle.std.proofs.lemmas.List.Folds.{list_any-append}
use Rattle.std.proofs.lemmas.Option.{slice_get_past}
use Rattle.std.proofs.Math.Bool.{or-false}
use Rattle.scene_kinds.specs.declared.entity.Entity.{Entity}
use Rattle.scene_alloc.specs.Ends.{last, front}
use Rattle.scene_alloc.specs.Slots.{SlotState, IsSlots, is_free, take_of}
use Rattle.scene_alloc.proofs.SlotLaws.{push-last, take_cases, IsSlots-take, CanUntake-take}
use Rattle.scene_kinds.proofs.Elements.{pushed_stays}

pub record IsTaken (s t : SlotState) (e : Entity) : Type 0 where
  pub sound : IsSlots t
  -- the entity has its slot's generation, and isn't free
  pub current : slice_get t.generations e.index ≡ Some e.generation
  pub busy : is_free t e.index ≡ false
  -- other slots stay
  pub kept : (i g : ℕ) → slice_get s.generations i ≡ Some g → slice_get t.generations i ≡ Some g
  pub older : (i : ℕ) → i < length t.generations → (i ≡ e.index → ⊥) → i < length s.generations
  -- an index that wasn't free isn't, and a free one stays free, but for the entity's
  pub fewer : (i : ℕ) → is_free s i ≡ false → is_free t i ≡ false
  pub others : (i : ℕ) → (i ≡ e.index → ⊥) → is_free s i ≡ true → is_free t i ≡ true
  -- the entity's index was free, or no slot yet
  pub unused : (is_free s e.index ≡ true) ⊎ (slice_get s.generations e.index ≡ None)

-- a number among a list with one more
pub any_pushed : (xs : List ℕ) (x i : ℕ) → list_any (nat_eq i) (xs ++ x ∷ []) ≡ (list_any (nat_eq i) xs || nat_eq i x)
any_pushed xs x i = list_any-append (nat_eq i) xs (x ∷ []) ∙ ap (λ b. list_any (nat_eq i) xs || b) (or-false (nat_eq i x))

or_else : (a b : Bool) → (a || b) ≡ true → b ≡ false → a ≡ true
or_else a b h e = sym (or-false a) ∙ ap (λ c. a || c) (sym e) ∙ h

free_before : (s : SlotState) (i k : ℕ) → last s.free ≡ Some i → is_free s k ≡ (list_any (nat_eq k) (front s.free) || nat_eq k i)
free_before s i k q = ap (λ f. list_any (nat_eq k) f) (sym (push-last s.free i q)) ∙ any_pushed (front s.free) i k

pub taken : (s t : SlotState) (e : Entity) → IsSlots s → take_of s ≡ Ok (e, t) → IsTaken s t e
taken s t e v h =
    let u = CanUntake-take s t e v h in
    let rest = take_cases s (λ (e : Entity) (t : SlotState). ((i g : ℕ) → slice_get s.generations i ≡ Some g → slice_get t.generations i ≡ Some g)
    × ((i : ℕ) → i < length t.generations → (i ≡ e.index → ⊥) → i < length s.generations)
    × ((i : ℕ) → is_free s i ≡ false → is_free t i ≡ false)
    × ((i : ℕ) → (i ≡ e.index → ⊥) → is_free s i ≡ true → is_free t i ≡ true)
    × ((is_free s e.index ≡ true) ⊎ (slice_get s.generations e.index ≡ None)))
    (λ i q. (
      (λ k g f. f),
      (λ k l ne. l),
      (λ k f. (or_parts (list_any (nat_eq k) (front s.free)) (nat_eq k i) (sym (free_before s i k q) ∙ f)).0),
      (λ k ne f. or_else (list_any (nat_eq k) (front s.free)) (nat_eq k i) (sym (free_before s i k q) ∙ f) (ne_eqb k i ne)),
      inl (free_before s i i q ∙ ap (λ b. list_any (nat_eq i) (front s.free) || b) (eq-eqb i i refl) ∙ or_right (list_any (nat_eq i) (front s.free)) true refl),
    ))
    (λ none l. (
      (λ k g f. pushed_stays s.generations 1 k g f),
      (λ k m ne. let n : k < length (s.generations ++ 1 ∷ []) = m in omega (arith, length-append s.generations (1 ∷ []))),
      (λ k f. f),
      (λ k ne f. f),
      inr (slice_get_past s.generations (length s.generations) (omega arith)),
    ))
    e t h in
    record {
      sound = IsSlots-take s t e v h;
      current = u.current;
      busy = u.not_free;
      kept = rest.0;
      older = rest.1;
      fewer = rest.2;
      others = rest.3;
      unused = rest.4;
    }
