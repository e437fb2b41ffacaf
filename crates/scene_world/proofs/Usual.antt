-- Components that ascend by kind: a spawn of them has no fault, and its cells stand in their order.
use Rattle.std.proofs.Common.{◌≡◌, ℕ, ◌+◌, ◌<◌, ◌≤◌, length, nat_lt, nat_eq, Bool, true, false, not, ◌&&◌, if◌then◌else◌, List, [], ◌∷◌, refl, ap, sym, ◌∙◌, arith, Some, None, map}
use Rattle.std.specs.Prelude.{◌||◌}
use Rattle.std.specs.List.{list_any}
use Rattle.std.specs.Ordering.{nat_cmp}
use Rattle.std.specs.declared.cmp.Ordering.TheVariants.{Less}
use Rattle.std.specs.FinMap.Entries.{put, by_order}
use Rattle.std.proofs.lemmas.Bool.{and_parts, not-false, lt-ltb}
use Rattle.std.proofs.lemmas.Bool.Decides.{nat_tests}
use Rattle.scene_kinds.specs.declared.cell.Cell.{Cell}
use Rattle.scene_kinds.specs.declared.value.Value.{Value}
use Rattle.scene_kinds.specs.declared.fault.Fault.{Fault}
use Rattle.scene_kinds.specs.declared.fault.Fault.TheVariants.{NoSuchKind, DuplicateKind, WrongShape}
use Rattle.scene_kinds.specs.Cells.{new_cell, with_cell}
use Rattle.scene_kinds.specs.Schema.{Kinds, fits_kind}
use Rattle.scene_model.specs.World.{is_unknown}
use Rattle.scene_model.specs.Commands.{any_twice, spawn_fault, new_cells}
use Rattle.scene_model.proofs.RowKinds.{fits_known}
use Rattle.scene_world.specs.Usual.{ascends_from, is_usual_from}

-- cells whose kinds ascend are put each before the others, so they stand as they were given
made_from : (tick n : ℕ) (cs : List (ℕ × Value)) → ascends_from n cs ≡ true → new_cells tick cs ≡ map (λ (c : ℕ × Value). (c.0, new_cell tick c.1)) cs
made_from tick n [] h = refl
made_from tick n (c ∷ []) h = refl
made_from tick n (c ∷ d ∷ ds) h =
    let rest = (and_parts (not (nat_lt c.0 n)) (ascends_from (c.0 + 1) (d ∷ ds)) h).1 in
    let above = (and_parts (not (nat_lt d.0 (c.0 + 1))) (ascends_from (d.0 + 1) ds) rest).0 in
    let less : nat_cmp c.0 d.0 ≡ Less = grind (arith, nat_tests) in
    let later : List (ℕ × Cell) = map (λ (c : ℕ × Value). (c.0, new_cell tick c.1)) ds in
    let e : ℕ × Cell = (c.0, new_cell tick c.1) in
    let f : ℕ × Cell = (d.0, new_cell tick d.1) in
    ap (λ (es : List (ℕ × Cell)). with_cell es c.0 (new_cell tick c.1)) (made_from tick (c.0 + 1) (d ∷ ds) rest)
    ∙ ap (λ o. by_order o (e ∷ f ∷ later) ((d.0, e.1) ∷ later) (f ∷ put nat_cmp c.0 e.1 later)) less

pub each_is_put : (tick : ℕ) (cs : List (ℕ × Value)) → ascends_from 0 cs ≡ true → new_cells tick cs ≡ map (λ (c : ℕ × Value). (c.0, new_cell tick c.1)) cs
each_is_put tick cs h = made_from tick 0 cs h

-- the first is high enough and fits, and the others are above it
usual_parts : (low bad rest : Bool) → (not (low || bad) && rest) ≡ true → (low ≡ false) × (bad ≡ false) × (rest ≡ true)
usual_parts true bad rest h = absurd (let k : false ≡ true = h in cc)
usual_parts false true rest h = absurd (let k : false ≡ true = h in cc)
usual_parts false false rest h = (refl, refl, h)

first_and_rest : (schema : Kinds) (n : ℕ) (c : ℕ × Value) (cs : List (ℕ × Value)) → is_usual_from schema n (c ∷ cs) ≡ true
    → (nat_lt c.0 n ≡ false) × (not (fits_kind schema c.1 c.0) ≡ false) × (is_usual_from schema (c.0 + 1) cs ≡ true)
first_and_rest schema n c cs h = usual_parts (nat_lt c.0 n) (not (fits_kind schema c.1 c.0)) (is_usual_from schema (c.0 + 1) cs) h

none_unknown : (schema : Kinds) (n : ℕ) (cs : List (ℕ × Value)) → is_usual_from schema n cs ≡ true → list_any (λ c. is_unknown schema c.0) cs ≡ false
none_unknown schema n [] h = refl
none_unknown schema n (c ∷ cs) h =
    let parts = first_and_rest schema n c cs h in
    let known = lt-ltb c.0 (length schema) (fits_known schema c.1 c.0 (not-false _ parts.1)) in
    ap (λ b. not b || list_any (λ (c : ℕ × Value). is_unknown schema c.0) cs) known ∙ none_unknown schema (c.0 + 1) cs parts.2

none_misfits : (schema : Kinds) (n : ℕ) (cs : List (ℕ × Value)) → is_usual_from schema n cs ≡ true → list_any (λ c. not (fits_kind schema c.1 c.0)) cs ≡ false
none_misfits schema n [] h = refl
none_misfits schema n (c ∷ cs) h =
    let parts = first_and_rest schema n c cs h in
    ap (λ b. b || list_any (λ (c : ℕ × Value). not (fits_kind schema c.1 c.0)) cs) parts.1 ∙ none_misfits schema (c.0 + 1) cs parts.2

-- a kind below all isn't among them
none_is : (schema : Kinds) (kind n : ℕ) (cs : List (ℕ × Value)) → is_usual_from schema n cs ≡ true → kind < n → list_any (λ d. nat_eq kind d.0) cs ≡ false
none_is schema kind n [] h low = refl
none_is schema kind n (c ∷ cs) h low =
    let parts = first_and_rest schema n c cs h in
    let high : n ≤ c.0 = grind (arith, nat_tests) in
    let other : nat_eq kind c.0 ≡ false = grind (arith, nat_tests) in
    ap (λ b. b || list_any (λ (d : ℕ × Value). nat_eq kind d.0) cs) other ∙ none_is schema kind (c.0 + 1) cs parts.2 (omega arith)

none_twice : (schema : Kinds) (n : ℕ) (cs : List (ℕ × Value)) → is_usual_from schema n cs ≡ true → any_twice cs ≡ false
none_twice schema n [] h = refl
none_twice schema n (c ∷ cs) h =
    let parts = first_and_rest schema n c cs h in
    ap (λ b. b || any_twice cs) (none_is schema c.0 (c.0 + 1) cs parts.2 (omega arith)) ∙ none_twice schema (c.0 + 1) cs parts.2

-- a choice by three tests of which none passes
none_of_three : (a b c : Bool) (x y z : Fault) → a ≡ false → b ≡ false → c ≡ false → None ≡ (if a then Some x else if b then Some y else if c then Some z else None)
none_of_three a b c x y z p q r = λ i. if sym p i then Some x else if sym q i then Some y else if sym r i then Some z else None

pub usual_is_faultless : (schema : Kinds) (cs : List (ℕ × Value)) → is_usual_from schema 0 cs ≡ true → None ≡ spawn_fault schema cs
usual_is_faultless schema cs h =
    none_of_three _ _ _ NoSuchKind DuplicateKind WrongShape (none_unknown schema 0 cs h) (none_twice schema 0 cs h) (none_misfits schema 0 cs h)
