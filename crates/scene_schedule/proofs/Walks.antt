-- Steps of the walks over steps, systems, phases and kinds.
use Rattle.std.proofs.Common.{◌≡◌, ◌<◌, ◌≤◌, ℕ, suc, ◌+◌, List, [], ◌∷◌, length, get_or, take, drop, ◌-◌, Bool, true, false, cond, ◌&&◌, refl, ap, sym, ◌∙◌, arith}
use Rattle.std.specs.Prelude.{Option, Some, None, nat_lt, not, slice_get, All}
use Rattle.std.specs.Option.{option_or}
use Rattle.std.specs.List.{list_any}
use Rattle.std.proofs.lemmas.Bool.{and_parts}
use Rattle.std.proofs.lemmas.Bool.Decides.{nat_tests}
use Rattle.std.proofs.lemmas.Grind.{common_steps}
use Rattle.std.proofs.lemmas.List.{drop_more}
use Rattle.std.proofs.lemmas.List.Elements.{All-cons, All-nil}
use Rattle.scene_kinds.specs.declared.fault.Fault.TheVariants.{BadRule, Conflict}
use Rattle.scene_kinds.specs.Schema.{Kinds}
use Rattle.scene_systems.specs.declared.step.Step.{Step}
use Rattle.scene_systems.specs.declared.system_rule.SystemRule.{SystemRule}
use Rattle.scene_schedule.specs.Schedule.{is_row, writes_first, is_good_rule, bad_in_phase, bad_from, clash, clash_among}

-- what is left of a list at a place that a walk has come to
pub at_place : {A : Type 0} (xs : List A) (i : ℕ) (x : A) → i < length xs → x ≡ get_or xs i x → drop i xs ≡ x ∷ drop (i + 1) xs
at_place xs i x h e = drop_more xs i x h ∙ ap (λ y. y ∷ drop (i + 1) xs) (sym e)

-- ---- steps

-- behind the first step that queues none may write
pub queue_found : (steps : List Step) (i : ℕ) (x : Step) → i < length steps → x ≡ get_or steps i x → is_row x ≡ false
    → writes_first (drop i steps) ≡ not (list_any is_row (drop (i + 1) steps))
queue_found steps i x h e q =
    ap writes_first (at_place steps i x h e)
    ∙ ap (λ b. cond b (writes_first (drop (i + 1) steps)) (not (list_any is_row (drop (i + 1) steps)))) q

-- a slice of a list from a place on
pub slice_from : (steps : List Step) (i : ℕ) → take (length steps - i) (drop i steps) ≡ drop i steps
slice_from steps i = grind (arith, common_steps)

-- ---- bad systems

-- the walk over a phase at a system that is bad
pub bad_found : (schema : Kinds) (phase i : ℕ) (rules : List SystemRule) (rule : SystemRule) → i < length rules → rule ≡ get_or rules i rule
    → (nat_lt i 64 && is_good_rule schema rule) ≡ false
    → bad_in_phase schema phase i (drop i rules) ≡ Some (BadRule phase i)
bad_found schema phase i rules rule h e q =
    ap (bad_in_phase schema phase i) (at_place rules i rule h e)
    ∙ ap (λ b. cond b (bad_in_phase schema phase (i + 1) (drop (i + 1) rules)) (Some (BadRule phase i))) q

-- and at one that is good
pub bad_passed : (schema : Kinds) (phase i : ℕ) (rules : List SystemRule) (rule : SystemRule) → i < length rules → rule ≡ get_or rules i rule
    → (nat_lt i 64 && is_good_rule schema rule) ≡ true
    → bad_in_phase schema phase i (drop i rules) ≡ bad_in_phase schema phase (i + 1) (drop (i + 1) rules)
bad_passed schema phase i rules rule h e q =
    ap (bad_in_phase schema phase i) (at_place rules i rule h e)
    ∙ ap (λ b. cond b (bad_in_phase schema phase (i + 1) (drop (i + 1) rules)) (Some (BadRule phase i))) q

-- a system that may stand at a place isn't past the last one
pub place_below : (i : ℕ) (good : Bool) → (nat_lt i 64 && good) ≡ true → i + 1 ≤ 64
place_below i good h = below i (and_parts (nat_lt i 64) good h).0
  where
    below : (i : ℕ) → nat_lt i 64 ≡ true → i + 1 ≤ 64
    below i t = grind (arith, nat_tests)

-- a 65th phase is bad
pub phase_past : (schema : Kinds) (i : ℕ) (phases : List (List SystemRule)) → i < length phases → 64 ≤ i
    → bad_from schema i (drop i phases) ≡ Some (BadRule 64 0)
phase_past schema i phases h past =
    let rest = drop (i + 1) phases in
    let first = get_or phases i [] in
    ap (bad_from schema i) (drop_more phases i [] h)
    ∙ ap (λ b. cond b (option_or (bad_in_phase schema i 0 first) (bad_from schema (i + 1) rest)) (Some (BadRule 64 0))) (above i past)
  where
    above : (i : ℕ) → 64 ≤ i → nat_lt i 64 ≡ false
    above i h = grind (arith, nat_tests)

-- a choice that is nothing where the test fails
pub chosen : {A : Type 0} (b : Bool) (r : Option A) (x : A) → cond b r (Some x) ≡ None → (b ≡ true) × (r ≡ None)
chosen true r x h = (refl, h)
chosen false r x h = absurd (cc)

pub neither : {A : Type 0} (a b : Option A) → option_or a b ≡ None → (a ≡ None) × (b ≡ None)
neither None b h = (refl, h)
neither (Some x) b h = absurd (cc)

-- a phase without a bad system has at most 64 systems
pub few_in_phase : (schema : Kinds) (phase i : ℕ) (rules : List SystemRule) → i ≤ 64 → bad_in_phase schema phase i rules ≡ None → i + length rules ≤ 64
few_in_phase schema phase i [] few h = omega (arith, few)
few_in_phase schema phase i (rule ∷ rules) few h =
    let c = chosen (nat_lt i 64 && is_good_rule schema rule) (bad_in_phase schema phase (i + 1) rules) (BadRule phase i) h in
    let l = few_in_phase schema phase (i + 1) rules (place_below i (is_good_rule schema rule) c.0) c.1 in
    omega (arith, l)

-- and so has each phase of phases without one
pub few_systems : (schema : Kinds) (i : ℕ) (phases : List (List SystemRule)) → bad_from schema i phases ≡ None
    → All (λ rules. length rules ≤ 64) phases
few_systems schema i [] h = All-nil (λ rules. length rules ≤ 64)
few_systems schema i (rules ∷ phases) h =
    let c = chosen (nat_lt i 64) (option_or (bad_in_phase schema i 0 rules) (bad_from schema (i + 1) phases)) (BadRule 64 0) h in
    let n = neither (bad_in_phase schema i 0 rules) (bad_from schema (i + 1) phases) c.1 in
    let few : length rules ≤ 64 = omega (arith, few_in_phase schema i 0 rules (omega arith) n.0) in
    All-cons (λ rules. length rules ≤ 64) rules phases few (few_systems schema (i + 1) phases n.1)

-- ---- conflicts

-- the walk over the later systems at one that clashes
pub clash_found : (phase first second : ℕ) (rule : SystemRule) (others : List SystemRule) (i : ℕ) (other : SystemRule)
    → i < length others → other ≡ get_or others i other → clash rule other ≡ true
    → clash_among phase first second rule (drop i others) ≡ Some (Conflict phase first second)
clash_found phase first second rule others i other h e q =
    ap (clash_among phase first second rule) (at_place others i other h e)
    ∙ ap (λ b. cond b (Some (Conflict phase first second)) (clash_among phase first (second + 1) rule (drop (i + 1) others))) q

-- and at one that doesn't
pub clash_passed : (phase first second : ℕ) (rule : SystemRule) (others : List SystemRule) (i : ℕ) (other : SystemRule)
    → i < length others → other ≡ get_or others i other → clash rule other ≡ false
    → clash_among phase first second rule (drop i others) ≡ clash_among phase first (second + 1) rule (drop (i + 1) others)
clash_passed phase first second rule others i other h e q =
    ap (clash_among phase first second rule) (at_place others i other h e)
    ∙ ap (λ b. cond b (Some (Conflict phase first second)) (clash_among phase first (second + 1) rule (drop (i + 1) others))) q

-- ---- kinds

-- lists that are the same at each place are the same
pub same_lists : {A : Type 0} (xs ys : List A) → length xs ≡ length ys → ((k : ℕ) → k < length xs → slice_get xs k ≡ slice_get ys k) → xs ≡ ys
same_lists [] [] l h = refl
same_lists [] (y ∷ ys) l h = absurd (omega (arith, l))
same_lists (x ∷ xs) [] l h = absurd (omega (arith, l))
same_lists (x ∷ xs) (y ∷ ys) l h =
    let head : Some x ≡ Some y = h 0 (omega arith) in
    let rest : xs ≡ ys = same_lists xs ys (omega (arith, l)) (λ k b. h (suc k) (omega (arith, b))) in
    cc
