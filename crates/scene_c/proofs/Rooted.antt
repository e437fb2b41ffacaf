-- Entities of slots, one after another.
use Rattle.std.proofs.Common.{◌≡◌, ◌≤◌, ◌<◌, ◌+◌, ℕ, zero, suc, Bool, true, false, cond, List, [], ◌∷◌, ◌++◌, length, take, refl, ap, sym, subst, ◌∙◌, arith, Some, None}
use Rattle.std.specs.Prelude.{slice_get}
use Rattle.std.specs.List.{filter}
use Rattle.std.proofs.Math.ListN.{get_or}
use Rattle.std.proofs.lemmas.List.{append-nil, take_all}
use Rattle.std.proofs.lemmas.List.Elements.{filter_more}
use Rattle.std.proofs.lemmas.Option.{get_or_from_slice_get, slice_get-get_or}
use Rattle.scene_kinds.specs.declared.entity.Entity.{Entity}
use Rattle.scene_c.specs.Reads.{slot_entities}

pub slot_at : (i n : ℕ) (gens : List ℕ) (g : ℕ) → slice_get gens n ≡ Some g → slice_get (slot_entities i gens) n ≡ Some (record { index = i + n; generation = g })
slot_at i n [] g e = absurd (let w : None ≡ Some g = e in cc)
slot_at i zero (x ∷ gens) g e = let w : Some x ≡ Some g = e in let z : i ≡ i + 0 = omega arith in cc
slot_at i (suc n) (x ∷ gens) g e = slot_at (i + 1) n gens g e ∙ (let w : (i + 1) + n ≡ i + suc n = omega arith in ap (λ (k : ℕ). Some (record { index = k; generation = g })) w)

pub slot_count : (i : ℕ) (gens : List ℕ) → length (slot_entities i gens) ≡ length gens
slot_count i [] = refl
slot_count i (x ∷ gens) = ap suc (slot_count (i + 1) gens)

-- the entity of an index
abbrev pub entity_at : List ℕ → ℕ → Entity
entity_at gens i = record { index = i; generation = get_or gens i 0 }

at_entity : (gens : List ℕ) (i : ℕ) → i < length gens → get_or (slot_entities 0 gens) i (entity_at gens i) ≡ entity_at gens i
at_entity gens i low =
    let same : 0 + i ≡ i = omega arith in
    let found : slice_get (slot_entities 0 gens) i ≡ Some (entity_at gens i) =
    subst (λ k. slice_get (slot_entities 0 gens) i ≡ Some (record { index = k; generation = get_or gens i 0 })) same
    (slot_at 0 i gens (get_or gens i 0) (slice_get-get_or gens i 0 low)) in
    get_or_from_slice_get (slot_entities 0 gens) i (entity_at gens i) (entity_at gens i) found

more : (p : Entity → Bool) (gens : List ℕ) (i : ℕ) → i < length gens
    → filter p (take (i + 1) (slot_entities 0 gens)) ≡ filter p (take i (slot_entities 0 gens)) ++ cond (p (entity_at gens i)) (entity_at gens i ∷ []) []
more p gens i low =
    filter_more p (slot_entities 0 gens) i (entity_at gens i) (let w : i < length (slot_entities 0 gens) = omega (arith, low, slot_count 0 gens) in w)
    ∙ ap (λ e. filter p (take i (slot_entities 0 gens)) ++ cond (p e) (e ∷ []) []) (at_entity gens i low)

-- a root is the next one of those of one index more
pub root_in : (p : Entity → Bool) (gens : List ℕ) (i : ℕ) (roots now : List Entity) → i < length gens
    → roots ≡ filter p (take i (slot_entities 0 gens)) → p (entity_at gens i) ≡ true → now ≡ roots ++ entity_at gens i ∷ []
    → now ≡ filter p (take (i + 1) (slot_entities 0 gens))
root_in p gens i roots now low is alone e =
    e ∙ ap (λ es. es ++ entity_at gens i ∷ []) is
    ∙ ap (λ b. filter p (take i (slot_entities 0 gens)) ++ cond b (entity_at gens i ∷ []) []) (sym alone) ∙ sym (more p gens i low)

-- another one isn't
pub root_out : (p : Entity → Bool) (gens : List ℕ) (i : ℕ) (roots : List Entity) → i < length gens
    → roots ≡ filter p (take i (slot_entities 0 gens)) → p (entity_at gens i) ≡ false
    → roots ≡ filter p (take (i + 1) (slot_entities 0 gens))
root_out p gens i roots low is below =
    is ∙ sym (append-nil (filter p (take i (slot_entities 0 gens))))
    ∙ ap (λ b. filter p (take i (slot_entities 0 gens)) ++ cond b (entity_at gens i ∷ []) []) (sym below) ∙ sym (more p gens i low)

-- behind the last index
pub root_all : (p : Entity → Bool) (gens : List ℕ) (i : ℕ) (roots : List Entity) → length gens ≤ i
    → roots ≡ filter p (take i (slot_entities 0 gens)) → roots ≡ filter p (slot_entities 0 gens)
root_all p gens i roots high is = is ∙ ap (filter p) (take_all i (slot_entities 0 gens) (let w : length (slot_entities 0 gens) ≤ i = omega (arith, high, slot_count 0 gens) in w))
