-- Schedules are just the lists of phases that are sound.
use Rattle.std.proofs.Common.{◌≡◌, ◌<◌, ◌≤◌, ℕ, zero, suc, ◌+◌, List, [], ◌∷◌, length, Bool, true, false, cond, ◌&&◌, refl, ap, sym, ◌∙◌, arith}
use Rattle.std.specs.Prelude.{Option, Some, None, nat_lt, slice_get}
use Rattle.std.specs.Option.{option_or}
use Rattle.std.proofs.lemmas.Bool.{and_parts, and_from}
use Rattle.std.proofs.lemmas.Bool.Decides.{nat_tests}
use Rattle.scene_kinds.specs.declared.fault.Fault.TheVariants.{BadRule, Conflict}
use Rattle.scene_kinds.specs.Schema.{Kinds}
use Rattle.scene_systems.specs.declared.system_rule.SystemRule.{SystemRule}
use Rattle.scene_schedule.specs.Schedule.{ScheduleState, IsSchedule, is_good_rule, bad_in_phase, bad_from, clash, clash_among, clash_in_phase, clash_from}
use Rattle.scene_schedule.specs.Sound.{IsSound}
use Rattle.scene_schedule.proofs.Apart.{clear_apart, apart_clear}
use Rattle.scene_schedule.proofs.Walks.{chosen, neither, place_below, few_in_phase}

-- ---- each system is good

goods_of : (schema : Kinds) (phase i : ℕ) (rules : List SystemRule) → bad_in_phase schema phase i rules ≡ None
    → (at : ℕ) (rule : SystemRule) → slice_get rules at ≡ Some rule → is_good_rule schema rule ≡ true
goods_of schema phase i [] h at rule there = absurd (cc)
goods_of schema phase i (r ∷ rules) h zero rule there =
    let c = chosen (nat_lt i 64 && is_good_rule schema r) (bad_in_phase schema phase (i + 1) rules) (BadRule phase i) h in
    let same : r ≡ rule = cc in
    ap (is_good_rule schema) (sym same) ∙ (and_parts (nat_lt i 64) (is_good_rule schema r) c.0).1
goods_of schema phase i (r ∷ rules) h (suc at) rule there =
    let c = chosen (nat_lt i 64 && is_good_rule schema r) (bad_in_phase schema phase (i + 1) rules) (BadRule phase i) h in
    goods_of schema phase (i + 1) rules c.1 at rule there

below : (i : ℕ) → i < 64 → nat_lt i 64 ≡ true
below i h = grind (arith, nat_tests)

passed : {A : Type 0} (b : Bool) (r : Option A) (x : A) → b ≡ true → r ≡ None → cond b r (Some x) ≡ None
passed b r x p q = ap (λ c. cond c r (Some x)) p ∙ q

no_bad : (schema : Kinds) (phase i : ℕ) (rules : List SystemRule) → i + length rules ≤ 64
    → ((at : ℕ) (rule : SystemRule) → slice_get rules at ≡ Some rule → is_good_rule schema rule ≡ true)
    → bad_in_phase schema phase i rules ≡ None
no_bad schema phase i [] few h = refl
no_bad schema phase i (r ∷ rules) few h =
    passed (nat_lt i 64 && is_good_rule schema r) (bad_in_phase schema phase (i + 1) rules) (BadRule phase i)
    (and_from (nat_lt i 64) (is_good_rule schema r) (below i (omega (arith, few))) (h 0 r refl))
    (no_bad schema phase (i + 1) rules (omega (arith, few)) (λ at. h (suc at)))

phases_of : (schema : Kinds) (i : ℕ) (phases : List (List SystemRule)) → bad_from schema i phases ≡ None
    → (at : ℕ) (rules : List SystemRule) → slice_get phases at ≡ Some rules → (n : ℕ) × (bad_in_phase schema n 0 rules ≡ None)
phases_of schema i [] h at rules there = absurd (cc)
phases_of schema i (p ∷ phases) h zero rules there =
    let c = chosen (nat_lt i 64) (option_or (bad_in_phase schema i 0 p) (bad_from schema (i + 1) phases)) (BadRule 64 0) h in
    let n = neither (bad_in_phase schema i 0 p) (bad_from schema (i + 1) phases) c.1 in
    let same : p ≡ rules = cc in
    (i, ap (bad_in_phase schema i 0) (sym same) ∙ n.0)
phases_of schema i (p ∷ phases) h (suc at) rules there =
    let c = chosen (nat_lt i 64) (option_or (bad_in_phase schema i 0 p) (bad_from schema (i + 1) phases)) (BadRule 64 0) h in
    let n = neither (bad_in_phase schema i 0 p) (bad_from schema (i + 1) phases) c.1 in
    phases_of schema (i + 1) phases n.1 at rules there

few_phases : (schema : Kinds) (i : ℕ) (phases : List (List SystemRule)) → i ≤ 64 → bad_from schema i phases ≡ None → i + length phases ≤ 64
few_phases schema i [] few h = omega (arith, few)
few_phases schema i (p ∷ phases) few h =
    let c = chosen (nat_lt i 64) (option_or (bad_in_phase schema i 0 p) (bad_from schema (i + 1) phases)) (BadRule 64 0) h in
    let n = neither (bad_in_phase schema i 0 p) (bad_from schema (i + 1) phases) c.1 in
    let l = few_phases schema (i + 1) phases (place_below i true (and_from (nat_lt i 64) true c.0 refl)) n.1 in
    omega (arith, l)

nothing : {A : Type 0} (a b : Option A) → a ≡ None → b ≡ None → option_or a b ≡ None
nothing a b p q = ap (λ c. option_or c b) p ∙ q

no_bad_phase : (schema : Kinds) (i : ℕ) (phases : List (List SystemRule)) → i + length phases ≤ 64
    → ((at : ℕ) (rules : List SystemRule) → slice_get phases at ≡ Some rules → (n : ℕ) → bad_in_phase schema n 0 rules ≡ None)
    → bad_from schema i phases ≡ None
no_bad_phase schema i [] few h = refl
no_bad_phase schema i (p ∷ phases) few h =
    passed (nat_lt i 64) (option_or (bad_in_phase schema i 0 p) (bad_from schema (i + 1) phases)) (BadRule 64 0) (below i (omega (arith, few)))
    (nothing (bad_in_phase schema i 0 p) (bad_from schema (i + 1) phases) (h 0 p refl i)
    (no_bad_phase schema (i + 1) phases (omega (arith, few)) (λ at. h (suc at))))

-- ---- no two clash

-- a choice that is nothing where the test holds
unchosen : {A : Type 0} (b : Bool) (x : A) (r : Option A) → cond b (Some x) r ≡ None → (b ≡ false) × (r ≡ None)
unchosen true x r h = absurd (cc)
unchosen false x r h = (refl, h)

skipped : {A : Type 0} (b : Bool) (x : A) (r : Option A) → b ≡ false → r ≡ None → cond b (Some x) r ≡ None
skipped b x r p q = ap (λ c. cond c (Some x) r) p ∙ q

clears_of : (phase first second : ℕ) (rule : SystemRule) (others : List SystemRule) → clash_among phase first second rule others ≡ None
    → (at : ℕ) (b : SystemRule) → slice_get others at ≡ Some b → clash rule b ≡ false
clears_of phase first second rule [] h at b there = absurd (cc)
clears_of phase first second rule (o ∷ others) h zero b there =
    let u = unchosen (clash rule o) (Conflict phase first second) (clash_among phase first (second + 1) rule others) h in
    let same : o ≡ b = cc in
    ap (clash rule) (sym same) ∙ u.0
clears_of phase first second rule (o ∷ others) h (suc at) b there =
    let u = unchosen (clash rule o) (Conflict phase first second) (clash_among phase first (second + 1) rule others) h in
    clears_of phase first (second + 1) rule others u.1 at b there

no_clash : (phase first second : ℕ) (rule : SystemRule) (others : List SystemRule)
    → ((at : ℕ) (b : SystemRule) → slice_get others at ≡ Some b → clash rule b ≡ false)
    → clash_among phase first second rule others ≡ None
no_clash phase first second rule [] h = refl
no_clash phase first second rule (o ∷ others) h =
    skipped (clash rule o) (Conflict phase first second) (clash_among phase first (second + 1) rule others) (h 0 o refl)
    (no_clash phase first (second + 1) rule others (λ at. h (suc at)))

-- no two systems of a phase clash
abbrev EachClear : List SystemRule → Type 0
EachClear rules = (first second : ℕ) (a b : SystemRule) → first < second → slice_get rules first ≡ Some a → slice_get rules second ≡ Some b → clash a b ≡ false

each_clear : (phase i : ℕ) (rules : List SystemRule) → clash_in_phase phase i rules ≡ None → EachClear rules
each_clear phase i [] h first second a b less at_first at_second = absurd (cc)
each_clear phase i (r ∷ rules) h first zero a b less at_first at_second = absurd (omega (arith, less))
each_clear phase i (r ∷ rules) h zero (suc second) a b less at_first at_second =
    let n = neither (clash_among phase i (i + 1) r rules) (clash_in_phase phase (i + 1) rules) h in
    let same : r ≡ a = cc in
    ap (λ x. clash x b) (sym same) ∙ clears_of phase i (i + 1) r rules n.0 second b at_second
each_clear phase i (r ∷ rules) h (suc first) (suc second) a b less at_first at_second =
    let n = neither (clash_among phase i (i + 1) r rules) (clash_in_phase phase (i + 1) rules) h in
    each_clear phase (i + 1) rules n.1 first second a b (omega (arith, less)) at_first at_second

no_clash_in_phase : (phase i : ℕ) (rules : List SystemRule) → EachClear rules → clash_in_phase phase i rules ≡ None
no_clash_in_phase phase i [] h = refl
no_clash_in_phase phase i (r ∷ rules) h =
    nothing (clash_among phase i (i + 1) r rules) (clash_in_phase phase (i + 1) rules)
    (no_clash phase i (i + 1) r rules (λ at b there. h 0 (suc at) r b (omega arith) refl there))
    (no_clash_in_phase phase (i + 1) rules (λ first second a b less p q. h (suc first) (suc second) a b (omega (arith, less)) p q))

clear_phases : (i : ℕ) (phases : List (List SystemRule)) → clash_from i phases ≡ None
    → (at : ℕ) (rules : List SystemRule) → slice_get phases at ≡ Some rules → EachClear rules
clear_phases i [] h at rules there = absurd (cc)
clear_phases i (p ∷ phases) h zero rules there =
    let n = neither (clash_in_phase i 0 p) (clash_from (i + 1) phases) h in
    let same : p ≡ rules = cc in
    each_clear i 0 rules (ap (clash_in_phase i 0) (sym same) ∙ n.0)
clear_phases i (p ∷ phases) h (suc at) rules there =
    let n = neither (clash_in_phase i 0 p) (clash_from (i + 1) phases) h in
    clear_phases (i + 1) phases n.1 at rules there

no_clash_in : (i : ℕ) (phases : List (List SystemRule))
    → ((at : ℕ) (rules : List SystemRule) → slice_get phases at ≡ Some rules → EachClear rules)
    → clash_from i phases ≡ None
no_clash_in i [] h = refl
no_clash_in i (p ∷ phases) h =
    nothing (clash_in_phase i 0 p) (clash_from (i + 1) phases) (no_clash_in_phase i 0 p (h 0 p refl)) (no_clash_in (i + 1) phases (λ at. h (suc at)))

-- ---- both

pub schedules_sound : (s : ScheduleState) → IsSchedule s → IsSound s.schema s.phases
schedules_sound s h =
    let n = neither (bad_from s.schema 0 s.phases) (clash_from 0 s.phases) h in
    record {
      few = omega (arith, few_phases s.schema 0 s.phases (omega arith) n.0);
      each = λ at rules there.
          let b = phases_of s.schema 0 s.phases n.0 at rules there in
          record {
            few = omega (arith, few_in_phase s.schema b.0 0 rules (omega arith) b.1);
            good = goods_of s.schema b.0 0 rules b.1;
            apart = λ first second x y less p q. clear_apart x y (clear_phases 0 s.phases n.1 at rules there first second x y less p q);
          };
    }

pub sound_schedules : (s : ScheduleState) → IsSound s.schema s.phases → IsSchedule s
sound_schedules s h =
    nothing (bad_from s.schema 0 s.phases) (clash_from 0 s.phases)
    (no_bad_phase s.schema 0 s.phases (omega (arith, h.few))
    (λ at rules there n. let e = h.each at rules there in no_bad s.schema n 0 rules (omega (arith, e.few)) e.good))
    (no_clash_in 0 s.phases (λ at rules there first second a b less p q. apart_clear a b ((h.each at rules there).apart first second a b less p q)))
