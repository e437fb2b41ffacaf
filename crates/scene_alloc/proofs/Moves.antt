-- The four moves of slots, and their ways back.
use Rattle.std.proofs.Common.{◌≡◌, ℕ, ◌+◌, ◌<◌, ◌≤◌, Bool, true, false, nat_eq, nat_lt, IsOk, List, [], ◌∷◌, ◌++◌, length, get_or, set, Some, None, Ok, All, get_or-set_same, if◌then◌else◌, refl, sym, ap, ◌∙◌, subst, subst₂, arith, length-append, length-set, set-set, slice_get, slice_index}
use Rattle.std.specs.List.{list_any, IsDistinct}
use Rattle.std.proofs.lemmas.Bool.{ltb-true, lt-ltb, eqb-true}
use Rattle.std.proofs.lemmas.Bool.Decides.{nat_tests}
use Rattle.std.proofs.lemmas.Grind.{common_steps, elements}
use Rattle.std.proofs.lemmas.List.{set-get_or}
use Rattle.std.proofs.lemmas.List.Elements.{All-nil, All-pop, All-push, All-set}
use Rattle.std.proofs.lemmas.Option.{slice_get_within, slice_get-get_or, get_or_from_slice_get}
use Rattle.std.proofs.lemmas.Map.Keys.{IsDistinct-push, IsDistinct-from_apart}
use Rattle.std.proofs.lemmas.Map.Steps.{length-le_from_distinct_below}
use Rattle.std.specs.Cmp.{nat_eq_equiv}
use Rattle.std.proofs.lemmas.List.Folds.{Any-from_list_any}
use Rattle.scene_kinds.specs.declared.entity.Entity.{Entity}
use Rattle.scene_kinds.specs.Answers.{Outcome, refuse}
use Rattle.scene_kinds.specs.declared.fault.Fault.TheVariants.{EntitiesFull}
use Rattle.scene_alloc.specs.Ends.{last, front}
use Rattle.scene_alloc.specs.Slots.{SlotState, IsSlots, takes_new_slot, retires, highest, most_slots, new_slots, take_from, take_of, untake_of, release_of, unrelease_of}
use Rattle.scene_alloc.proofs.Ends.{last-push, front-push, push-last, last-None, distinct_before}
use Rattle.scene_alloc.proofs.SlotParts.{CanRelease, CanUntake, CanUnrelease, IsRaised}

-- the entity and the state of a take that reuses an index, and of one that makes a new slot
abbrev pub reused : SlotState → ℕ → Entity
reused s i = record { index = i; generation = slice_index s.generations i }

abbrev pub after_reuse : SlotState → SlotState
after_reuse s = record s { free = front s.free }

abbrev pub created : SlotState → Entity
created s = record { index = length s.generations; generation = 1 }

abbrev pub after_new : SlotState → SlotState
after_new s = record s { generations = s.generations ++ 1 ∷ [] }

-- an equation of two answers is one of their entities and states
same_answer : (P : Entity → SlotState → Type 0) (a e : Entity) (b t : SlotState) → ◌≡◌ {A = Outcome Entity SlotState} (Ok (a, b)) (Ok (e, t)) → P a b → P e t
same_answer P a e b t h p =
    let both : ◌≡◌ {A = Entity × SlotState} (a, b) (e, t) = cc in
    subst₂ P (ap (λ (x : Entity × SlotState). x.0) both) (ap (λ (x : Entity × SlotState). x.1) both) p

-- a take reuses the last free index, or, where none is free, makes a new slot below the limit
pub take_cases : (s : SlotState) (P : Entity → SlotState → Type 0) → ((i : ℕ) → last s.free ≡ Some i → P (reused s i) (after_reuse s)) → (s.free ≡ [] → length s.generations < s.limit → P (created s) (after_new s)) → (e : Entity) (t : SlotState) → take_of s ≡ Ok (e, t) → P e t
take_cases s P reuse new e t h =
    elim (last s.free) as (λ o. last s.free ≡ o → take_from s o ≡ Ok (e, t) → P e t) [
      | None ↦ λ q g. elim (nat_lt (length s.generations) s.limit) as (λ b. nat_lt (length s.generations) s.limit ≡ b → ◌≡◌ {A = Outcome Entity SlotState} (if b then Ok (created s, after_new s) else refuse EntitiesFull) (Ok (e, t)) → P e t) [
        | true ↦ λ p k. same_answer P (created s) e (after_new s) t k (new (last-None s.free q) (ltb-true _ _ p))
        | false ↦ λ p k. absurd (let r : ◌≡◌ {A = Outcome Entity SlotState} (refuse EntitiesFull) (Ok (e, t)) = k in cc)
      ] refl g
      | Some i ↦ λ q g. same_answer P (reused s i) e (after_reuse s) t g (reuse i q)
    ] refl h

-- a take is accepted where an index is free, or the slots are below the limit
pub accepted : (s : SlotState) → (takes_new_slot s ≡ true → length s.generations < s.limit) → IsOk (take_of s)
accepted s below = elim (last s.free) as (λ o. last s.free ≡ o → IsOk (take_from s o)) [
  | None ↦ λ q.
      let t : nat_lt (length s.generations) s.limit ≡ true = lt-ltb _ _ (below (ap (λ f. nat_eq (length f) 0) (last-None s.free q))) in
      subst (λ b. IsOk (if b then Ok (created s, after_new s) else refuse EntitiesFull)) (sym t) refl
  | Some i ↦ λ q. refl
] refl

-- two states are equal where their parts are
pub same_state : (s t : SlotState) → s.limit ≡ t.limit → s.generations ≡ t.generations → s.free ≡ t.free → s ≡ t
same_state s t l g f = λ i. record { limit = l i; generations = g i; free = f i }

-- no slot yet is sound
pub IsSlots-new : (limit : ℕ) → 1 ≤ limit → limit ≤ most_slots → IsSlots (new_slots limit)
IsSlots-new limit a b = record {
  some_limit = a;
  low_limit = b;
  few = omega arith;
  begun = All-nil (λ g. 1 ≤ g);
  low = All-nil (λ g. g ≤ highest);
  in_range = All-nil (λ i. i < 0);
  distinct = IsDistinct-from_apart nat_eq [] (λ i j d a b. absurd (omega arith));
}

-- slots with another free list are sound
refreed : (s : SlotState) (free : List ℕ) → IsSlots s → All (λ k. k < length s.generations) free → IsDistinct nat_eq free → IsSlots (record s { free = free })
refreed s free v in_range distinct = record {
  some_limit = v.some_limit;
  low_limit = v.low_limit;
  few = v.few;
  begun = v.begun;
  low = v.low;
  in_range = in_range;
  distinct = distinct;
}

-- slots of which one has another generation are sound
regenerated : (s : SlotState) (i g : ℕ) → IsSlots s → 1 ≤ g → g ≤ highest → IsSlots (record s { generations = set s.generations i g })
regenerated s i g v begun low =
    let n = length-set s.generations i g in
    record {
      some_limit = v.some_limit;
      low_limit = v.low_limit;
      few = omega (arith, v.few);
      begun = All-set (λ g. 1 ≤ g) s.generations i g begun v.begun;
      low = All-set (λ g. g ≤ highest) s.generations i g low v.low;
      in_range = subst (λ m. All (λ k. k < m) s.free) (sym n) v.in_range;
      distinct = v.distinct;
    }

-- slots with one more free index are sound
freed_last : (s : SlotState) (i g : ℕ) → IsSlots s → slice_get s.generations i ≡ Some g → list_any (nat_eq i) s.free ≡ false → IsSlots (record s { free = s.free ++ i ∷ [] })
freed_last s i g v there once = refreed s (s.free ++ i ∷ []) v
    (All-push (λ k. k < length s.generations) s.free i v.in_range (slice_get_within s.generations i g there))
    (IsDistinct-push nat_eq_equiv s.free i v.distinct once)

-- ---- a take and its way back

pub reuses-last : (s : SlotState) (i : ℕ) → last s.free ≡ Some i → takes_new_slot s ≡ false
reuses-last s i h = let e = push-last s.free i h in rw (sym e) (positive (front s.free))
  where
    positive : (xs : List ℕ) → nat_eq (length (xs ++ i ∷ [])) 0 ≡ false
    positive xs = grind (arith, nat_tests, common_steps)

pub untake-take : (s t : SlotState) (e : Entity) → take_of s ≡ Ok (e, t) → untake_of t e (takes_new_slot s) ≡ s
untake-take s t e h = take_cases s (λ e t. untake_of t e (takes_new_slot s) ≡ s)
    (λ i q. rw (reuses-last s i q) (same_state _ _ refl refl (push-last s.free i q)))
    (λ none l. subst (λ b. untake_of (after_new s) (created s) b ≡ s) (sym (ap (λ f. nat_eq (length f) 0) none)) (same_state _ _ refl (front-push s.generations 1) refl))
    e t h

-- what a pop of the free list leaves is a take
pub take-pop : (s : SlotState) (rest : List ℕ) (i g : ℕ) → s.free ≡ rest ++ i ∷ [] → g ≡ slice_index s.generations i → take_of s ≡ Ok (record { index = i; generation = g }, record s { free = rest })
take-pop s rest i g e is = ap (take_from s) (ap last e ∙ last-push rest i) ∙ (λ j. Ok (record { index = i; generation = sym is j }, record s { free = (ap front e ∙ front-push rest i) j }))

-- what a free index that is last says: it has a slot, and stands nowhere else in the list
pub record IsLastFree (s : SlotState) (i : ℕ) : Type 0 where
  pub within : i < length s.generations
  pub others_in_range : All (λ k. k < length s.generations) (front s.free)
  pub others_distinct : IsDistinct nat_eq (front s.free)
  pub once : list_any (nat_eq i) (front s.free) ≡ false

pub last_free : (s : SlotState) (i : ℕ) → IsSlots s → last s.free ≡ Some i → IsLastFree s i
last_free s i v q =
    let e = push-last s.free i q in
    let parts = All-pop (λ k. k < length s.generations) s.free (front s.free) (Some i) (sym e) v.in_range in
    let apart = distinct_before (front s.free) i (subst (IsDistinct nat_eq) (sym e) v.distinct) in
    record { within = parts.1; others_in_range = parts.0; others_distinct = apart.0; once = apart.1 }

pub IsSlots-take : (s t : SlotState) (e : Entity) → IsSlots s → take_of s ≡ Ok (e, t) → IsSlots t
IsSlots-take s t e v h = take_cases s (λ _ t. IsSlots t)
    (λ i q. let l = last_free s i v q in refreed s (front s.free) v l.others_in_range l.others_distinct)
    (λ none l. record {
      some_limit = v.some_limit;
      low_limit = v.low_limit;
      few = omega (arith, length-append s.generations (1 ∷ []));
      begun = All-push (λ g. 1 ≤ g) s.generations 1 v.begun (omega arith);
      low = All-push (λ g. g ≤ highest) s.generations 1 v.low (omega arith);
      in_range = λ k d w. absurd (let z : length s.free ≡ 0 = ap length none in omega arith);
      distinct = v.distinct;
    })
    e t h

pub after_pop : (s : SlotState) (rest : List ℕ) (i : ℕ) → IsSlots s → s.free ≡ rest ++ i ∷ [] → IsSlots (record s { free = rest })
after_pop s rest i v e = IsSlots-take s (record s { free = rest }) (reused s i) v (take-pop s rest i (slice_index s.generations i) e refl)

pub CanUntake-take : (s t : SlotState) (e : Entity) → IsSlots s → take_of s ≡ Ok (e, t) → CanUntake t e (takes_new_slot s)
CanUntake-take s t e v h = take_cases s (λ e t. CanUntake t e (takes_new_slot s))
    (λ i q. let l = last_free s i v q in record {
      current = slice_get-get_or s.generations i 0 l.within;
      not_free = l.once;
      newest = λ f. absurd (let r : false ≡ true = sym (reuses-last s i q) ∙ f in cc);
    })
    (λ none l. record {
      current = slice_get-get_or (s.generations ++ 1 ∷ []) (length s.generations) 0 (omega (arith, length-append s.generations (1 ∷ []))) ∙ ap Some (seam s.generations);
      not_free = ap (list_any (nat_eq (length s.generations))) none;
      newest = λ _. record { none_free = none; last_slot = sym (length-append s.generations (1 ∷ [])); first = refl };
    })
    e t h
  where
    seam : (xs : List ℕ) → get_or (xs ++ 1 ∷ []) (length xs) 0 ≡ 1
    seam xs = grind (arith, elements)

-- ---- an untake and its way back

-- an element at the last place is the last
last_at : (xs : List ℕ) (i x : ℕ) → i + 1 ≡ length xs → slice_get xs i ≡ Some x → last xs ≡ Some x
last_at xs i x n h = elim (last xs) as (λ o. last xs ≡ o → o ≡ Some x) [
  | None ↦ λ q. absurd (let z : length xs ≡ 0 = ap length (last-None xs q) in omega arith)
  | Some y ↦ λ q. ap Some (same y (push-last xs y q))
] refl
  where
    seam : (ys : List ℕ) (y j : ℕ) → j + 1 ≡ length (ys ++ y ∷ []) → get_or (ys ++ y ∷ []) j 0 ≡ y
    seam ys y j l = grind (arith, elements)

    same : (y : ℕ) → front xs ++ y ∷ [] ≡ xs → y ≡ x
    same y e = sym (seam (front xs) y i (n ∙ sym (ap length e))) ∙ (ap (λ t. get_or t i 0) e ∙ get_or_from_slice_get xs i x 0 h)

-- what a fresh entity says of the generations
pub fresh_last : (s : SlotState) (e : Entity) → CanUntake s e true → front s.generations ++ 1 ∷ [] ≡ s.generations
fresh_last s e c =
    let f = c.newest refl in
    push-last s.generations 1 (last_at s.generations e.index 1 f.last_slot (c.current ∙ ap Some f.first))

pub fresh_length : (s : SlotState) (e : Entity) → CanUntake s e true → length (front s.generations) + 1 ≡ length s.generations
fresh_length s e c = sym (length-append (front s.generations) (1 ∷ [])) ∙ ap length (fresh_last s e c)

pub take-untake : (s : SlotState) (e : Entity) (fresh : Bool) → IsSlots s → CanUntake s e fresh → take_of (untake_of s e fresh) ≡ Ok (e, s)
take-untake s e true v c =
    let f = c.newest refl in
    let n = fresh_length s e c in
    let t : nat_lt (length (front s.generations)) s.limit ≡ true = lt-ltb _ _ (omega (arith, v.few)) in
    let i : length (front s.generations) ≡ e.index = omega (arith, f.last_slot) in
    ap (λ o. take_from (untake_of s e true) (last o)) f.none_free ∙ (ap (λ b. if b then Ok (created (untake_of s e true), after_new (untake_of s e true)) else refuse EntitiesFull) t ∙ (λ j. Ok (record { index = i j; generation = sym f.first j }, record { limit = s.limit; generations = fresh_last s e c j; free = s.free })))
take-untake s e false v c =
    ap (take_from (untake_of s e false)) (last-push s.free e.index) ∙ (λ j. Ok (record { index = e.index; generation = get_or_from_slice_get s.generations e.index e.generation 0 c.current j }, record { limit = s.limit; generations = s.generations; free = front-push s.free e.index j }))

pub takes_new_slot-untake : (s : SlotState) (e : Entity) (fresh : Bool) → CanUntake s e fresh → takes_new_slot (untake_of s e fresh) ≡ fresh
takes_new_slot-untake s e true c = ap (λ f. nat_eq (length f) 0) (c.newest refl).none_free
takes_new_slot-untake s e false c = reuses-last (untake_of s e false) e.index (last-push s.free e.index)

pub IsSlots-untake : (s : SlotState) (e : Entity) (fresh : Bool) → IsSlots s → CanUntake s e fresh → IsSlots (untake_of s e fresh)
IsSlots-untake s e true v c =
    let f = c.newest refl in
    let n = fresh_length s e c in
    let p = sym (fresh_last s e c) in
    record {
      some_limit = v.some_limit;
      low_limit = v.low_limit;
      few = omega (arith, v.few);
      begun = (All-pop (λ g. 1 ≤ g) s.generations (front s.generations) (Some 1) p v.begun).0;
      low = (All-pop (λ g. g ≤ highest) s.generations (front s.generations) (Some 1) p v.low).0;
      in_range = λ k d w. absurd (let z : length s.free ≡ 0 = ap length f.none_free in omega arith);
      distinct = v.distinct;
    }
IsSlots-untake s e false v c = freed_last s e.index e.generation v c.current c.not_free

-- ---- a release and its way back

-- what is written and then written back
written_back : (xs : List ℕ) (i x y : ℕ) → slice_get xs i ≡ Some x → set (set xs i y) i x ≡ xs
written_back xs i x y h = set-set xs i y x ∙ subst (λ z. set xs i z ≡ xs) (get_or_from_slice_get xs i x 0 h) (set-get_or xs i 0)

-- what is read where it was written
slice_get-set : (xs : List ℕ) (i x y : ℕ) → slice_get xs i ≡ Some x → slice_get (set xs i y) i ≡ Some y
slice_get-set xs i x y h =
    let w = slice_get_within xs i x h in
    slice_get-get_or (set xs i y) i 0 (omega (arith, length-set xs i y)) ∙ ap Some (get_or-set_same xs i y 0 w)

-- a fact of each generation holds of the one that was read
read_fact : (P : ℕ → Type 0) (xs : List ℕ) (i x : ℕ) → All P xs → slice_get xs i ≡ Some x → P x
read_fact P xs i x a h = subst P (get_or_from_slice_get xs i x 0 h) (a i 0 (slice_get_within xs i x h))

-- the state after a release that retires nothing
abbrev pub freed : SlotState → Entity → SlotState
freed s e = record s { generations = set s.generations e.index (e.generation + 1); free = s.free ++ e.index ∷ [] }

pub unrelease-release : (s : SlotState) (e : Entity) → CanRelease s e → unrelease_of (release_of s e) e (retires e) ≡ s
unrelease-release s e c = elim (retires e) as (λ b. unrelease_of (if b then s else freed s e) e b ≡ s) [
  | true ↦ refl
  | false ↦ same_state _ _ refl (written_back s.generations e.index e.generation (e.generation + 1) c.current) (front-push s.free e.index)
]

pub CanUnrelease-release : (s : SlotState) (e : Entity) → IsSlots s → CanRelease s e → CanUnrelease (release_of s e) e (retires e)
CanUnrelease-release s e v c = record {
  begun = read_fact (λ g. 1 ≤ g) s.generations e.index e.generation v.begun c.current;
  flag = refl;
  kept = λ r. subst (λ b. CanRelease (if b then s else freed s e) e) (sym r) c;
  raised = λ r. subst (λ b. IsRaised (if b then s else freed s e) e) (sym r) (record {
    last_free = last-push s.free e.index;
    raised = slice_get-set s.generations e.index e.generation (e.generation + 1) c.current;
  });
}

-- one more generation, below the highest
raised_low : (g : ℕ) → g ≤ highest → nat_eq g highest ≡ false → g + 1 ≤ highest
raised_low g l t = grind (arith, nat_tests)

-- an entity below the highest generation isn't the last of its index
pub IsSlots-freed : (s : SlotState) (e : Entity) → IsSlots s → CanRelease s e → retires e ≡ false → IsSlots (freed s e)
IsSlots-freed s e v c r =
    let low = raised_low e.generation (read_fact (λ g. g ≤ highest) s.generations e.index e.generation v.low c.current) r in
    freed_last (record s { generations = set s.generations e.index (e.generation + 1) }) e.index (e.generation + 1) (regenerated s e.index (e.generation + 1) v (omega arith) low)
    (slice_get-set s.generations e.index e.generation (e.generation + 1) c.current) c.not_free

pub IsSlots-release : (s : SlotState) (e : Entity) → IsSlots s → CanRelease s e → IsSlots (release_of s e)
IsSlots-release s e v c = elim (retires e) as (λ b. retires e ≡ b → IsSlots (if b then s else freed s e)) [
  | true ↦ λ r. v
  | false ↦ λ r. IsSlots-freed s e v c r
] refl

-- ---- an unrelease and its way back

-- the state before a release that retired nothing
abbrev unfreed : SlotState → Entity → SlotState
unfreed s e = record s { generations = set s.generations e.index e.generation; free = front s.free }

pub release-unrelease : (s : SlotState) (e : Entity) (retired : Bool) → CanUnrelease s e retired → release_of (unrelease_of s e retired) e ≡ s
release-unrelease s e true c = ap (λ b. if b then s else freed s e) (sym c.flag)
release-unrelease s e false c =
    let r = c.raised refl in
    ap (λ b. if b then unfreed s e else freed (unfreed s e) e) (sym c.flag) ∙ same_state _ _ refl (written_back s.generations e.index (e.generation + 1) e.generation r.raised) (push-last s.free e.index r.last_free)

pub CanRelease-unrelease : (s : SlotState) (e : Entity) (retired : Bool) → IsSlots s → CanUnrelease s e retired → CanRelease (unrelease_of s e retired) e
CanRelease-unrelease s e true v c = c.kept refl
CanRelease-unrelease s e false v c =
    let r = c.raised refl in
    record {
      current = slice_get-set s.generations e.index (e.generation + 1) e.generation r.raised;
      not_free = (last_free s e.index v r.last_free).once;
    }

pub IsSlots-unrelease : (s : SlotState) (e : Entity) (retired : Bool) → IsSlots s → CanUnrelease s e retired → IsSlots (unrelease_of s e retired)
IsSlots-unrelease s e true v c = v
IsSlots-unrelease s e false v c =
    let r = c.raised refl in
    let l = last_free s e.index v r.last_free in
    let h = read_fact (λ g. g ≤ highest) s.generations e.index (e.generation + 1) v.low r.raised in
    regenerated (record s { free = front s.free }) e.index e.generation (refreed s (front s.free) v l.others_in_range l.others_distinct) c.begun (omega arith)

-- ---- the free list has room

-- distinct numbers below n are at most n
pub few_distinct : (n : ℕ) (xs : List ℕ) → IsDistinct nat_eq xs → All (λ i. i < n) xs → length xs ≤ n
few_distinct n xs d a = length-le_from_distinct_below xs n d (λ q h.
    let w = Any-from_list_any (nat_eq q) xs h in
    subst (λ x. x < n) (w.3 ∙ sym (eqb-true q w.1 w.4)) (a w.0 w.1 w.2))

-- free indices are no more than the slots
pub few_free : (s : SlotState) → IsSlots s → length s.free ≤ length s.generations
few_free s v = few_distinct (length s.generations) s.free v.distinct v.in_range

-- where a take may be taken back, the entity may be released
pub CanRelease-from_untake : (s : SlotState) (e : Entity) (fresh : Bool) → CanUntake s e fresh → CanRelease s e
CanRelease-from_untake s e fresh c = record { current = c.current; not_free = c.not_free }

-- where an entity may be released, some index isn't free
pub room_left : (s : SlotState) (e : Entity) → IsSlots s → CanRelease s e → length s.free < length s.generations
room_left s e v c =
    let d = IsDistinct-push nat_eq_equiv s.free e.index v.distinct c.not_free in
    let a = All-push (λ k. k < length s.generations) s.free e.index v.in_range (slice_get_within s.generations e.index e.generation c.current) in
    let l = few_distinct (length s.generations) (s.free ++ e.index ∷ []) d a in
    omega (arith, length-append s.free (e.index ∷ []))
