-- The kinds of a table, and kinds that are added.
use Rattle.std.proofs.Common.{◌≡◌, ◌≢◌, ℕ, suc, zero, ◌+◌, ◌<◌, ◌≤◌, ◌^◌, true, List, [], ◌∷◌, length, get_or, take, Option, Some, None, Result, Ok, Err, sym, ap, subst, ◌∙◌, arith, nat_lt, map as each, option_and_then}
use Rattle.std.proofs.lemmas.List.{map-id}
use Rattle.std.proofs.lemmas.List.Sums.{sum_by-cons, sum_by_more_le}
use Rattle.std.proofs.Math.Nat.{pow-le-pow_right}
use Rattle.std.proofs.lemmas.Grind.{pow_more}
use Rattle.std.proofs.lemmas.Bool.Decides.{nat_tests}
use Rattle.serde_json.specs.Data.{Data, Members}
use Rattle.serde_json.specs.Find.{as_number, as_u64, get_member}
use Rattle.scene_kinds.specs.Answers.{refusal_of}
use Rattle.scene_kinds.specs.declared.fault.Fault.TheVariants.{NoMemory}
use Rattle.scene_kinds.specs.declared.refusal.Refusal.{Refusal}
use Rattle.scene_kinds.specs.Schema.{Kinds}
use Rattle.scene_json_forms.specs.declared.fault.FileFault.{FileFault}
use Rattle.scene_json_forms.specs.declared.fault.FileFault.TheVariants as file
use Rattle.scene_file.specs.TableKinds.{AreRising}
use Rattle.scene_json_forms.specs.Outcome.{IsTextFault, Means}
use Rattle.scene_json_forms.specs.Reading.{◌>>=◌, field, if_good, below, list_at, may_follow, rising_at, rising_of, key_of, place_in, under}
use Rattle.scene_file.specs.Walk.{added, set_of}
use Rattle.scene_json_forms.proofs.GoodSteps.{ok_after, ok_is, good_was}

-- ---- the kinds of a table rise

below_bound : (bound : ℕ) (path : List ℕ) (d : Data) (n : ℕ) → below bound path d ≡ Ok n → n < bound
below_bound bound path d n h =
    let p = ok_after (field path (option_and_then as_u64 (as_number d))) (λ m. if_good path (nat_lt m bound) m) n h in
    let g = good_was path (nat_lt p.0 bound) p.0 n p.2 in
    let t : nat_lt n bound ≡ true = ap (λ m. nat_lt m bound) (sym g.1) ∙ g.0 in
    grind (arith, nat_tests)

rising_rise : (bound : ℕ) (path : List ℕ) (i : ℕ) (before : Option ℕ) (ds : List Data) (ks : List ℕ)
    → rising_at (below bound) nat_lt path i before ds ≡ Ok ks → AreRising bound before ks
rising_rise bound path i before [] ks h = subst (AreRising bound before) (ok_is [] ks h) tt
rising_rise bound path i before (d ∷ ds) ks h =
    let p = ok_after (below bound (place_in path i) d)
    (λ a. if_good (place_in path i) (may_follow nat_lt before a) a >>= λ b. rising_at (below bound) nat_lt path (i + 1) (Some b) ds
    >>= λ rest. Ok (b ∷ rest)) ks h in
    let q = ok_after (if_good (place_in path i) (may_follow nat_lt before p.0) p.0)
    (λ b. rising_at (below bound) nat_lt path (i + 1) (Some b) ds >>= λ rest. Ok (b ∷ rest)) ks p.2 in
    let g = good_was (place_in path i) (may_follow nat_lt before p.0) p.0 q.0 q.1 in
    let r = ok_after (rising_at (below bound) nat_lt path (i + 1) (Some q.0) ds) (λ rest. Ok (q.0 ∷ rest)) ks q.2 in
    let small : q.0 < bound = subst (λ (n : ℕ). n < bound) g.1 (below_bound bound (place_in path i) d p.0 p.1) in
    let above : may_follow nat_lt before q.0 ≡ true = ap (may_follow nat_lt before) (sym g.1) ∙ g.0 in
    subst (AreRising bound before) (ok_is (q.0 ∷ r.0) ks r.2)
    (small, above, rising_rise bound path (i + 1) (Some q.0) ds r.0 r.1)

pub widened : (n m : ℕ) (before : Option ℕ) (ks : List ℕ) → n ≤ m → AreRising n before ks → AreRising m before ks
widened n m before [] l h = tt
widened n m before (k ∷ ks) l h = let s = h.0 in (omega (arith, s, l), h.1, widened n m (Some k) ks l h.2)

pub rising_in : (bound : ℕ) (path : List ℕ) (d : Data) (ks : List ℕ) → rising_of (below bound) nat_lt path d ≡ Ok ks → AreRising bound None ks
rising_in bound path d ks h =
    let q = ok_after (list_at path d) (λ ds. rising_at (below bound) nat_lt path 0 None ds) ks h in
    rising_rise bound path 0 None q.0 ks q.2

-- the kinds that a table says
pub kinds_in : (bound : ℕ) (path key : List ℕ) (ms : Members) (ks : List ℕ) → key_of (rising_of (below bound) nat_lt) path key ms ≡ Ok ks
    → AreRising bound None ks
kinds_in bound path key ms ks h =
    let p = ok_after (field (under path key) (get_member key ms)) (λ d. rising_of (below bound) nat_lt (under path key) d) ks h in
    rising_in bound (under path key) p.0 ks p.2

pub kinds_rise : (bound : ℕ) (path key : List ℕ) (ms : Members) (ks : List ℕ) → bound ≤ 64
    → key_of (rising_of (below bound) nat_lt) path key ms ≡ Ok (each (λ k. k) ks) → AreRising 64 None ks
kinds_rise bound path key ms ks few h =
    widened bound 64 None ks few (subst (AreRising bound None) (map-id ks) (kinds_in bound path key ms (each (λ k. k) ks) h))

-- ---- the kind set of kinds that rise

set-cons : (k : ℕ) (ks : List ℕ) → set_of (k ∷ ks) ≡ 2 ^ k + set_of ks
set-cons k ks = sum_by-cons (λ (k : ℕ). 2 ^ k) k ks

pow_mono : (i j : ℕ) → i ≤ j → 2 ^ i ≤ 2 ^ j
pow_mono i j h = pow-le-pow_right {n = 2} (omega arith) {i = i} {j = j} h

follows_is : (k l : ℕ) → may_follow nat_lt (Some k) l ≡ true → k + 1 ≤ l
follows_is k l h = let t : nat_lt k l ≡ true = h in grind (arith, nat_tests)

-- the bits from the first kind on are below the bound's
from_first : (bound : ℕ) (before : Option ℕ) (k : ℕ) (ks : List ℕ) → AreRising bound before (k ∷ ks) → set_of (k ∷ ks) + 2 ^ k ≤ 2 ^ bound
from_first bound before k [] h =
    let l : k + 1 ≤ bound = let s = h.0 in omega (arith, s) in
    omega (arith, set-cons k [], pow_mono (k + 1) bound l, pow_more 2 k)
from_first bound before k (m ∷ ms) h =
    omega (arith, set-cons k (m ∷ ms), from_first bound (Some k) m ms h.2, pow_mono (k + 1) m (follows_is k m h.2.1), pow_more 2 k)

set-below : (bound : ℕ) (ks : List ℕ) → AreRising bound None ks → set_of ks < 2 ^ bound
set-below bound [] h = omega (arith, pow_mono 0 bound (omega arith))
set-below bound (k ∷ ks) h = omega (arith, from_first bound None k ks h, pow_mono 0 k (omega arith))

-- each is below the bound
pub kind_small : (bound : ℕ) (before : Option ℕ) (ks : List ℕ) (i d : ℕ) → i < length ks → AreRising bound before ks → get_or ks i d < bound
kind_small bound before [] i d l h = absurd (omega (arith, l))
kind_small bound before (k ∷ ks) zero d l h = h.0
kind_small bound before (k ∷ ks) (suc i) d l h = kind_small bound (Some k) ks i d (omega (arith, l)) h.2

-- the set of the kinds so far and the bit of the next fit 64 bits
pub next_bit : (ks : List ℕ) (i d : ℕ) → i < length ks → AreRising 64 None ks → set_of (take i ks) + 2 ^ (get_or ks i d) < 2 ^ 64
next_bit ks i d within h = omega (arith, set-below 64 ks h, sum_by_more_le (λ (k : ℕ). 2 ^ k) ks i d within)

-- ---- a kind that is refused

refused : (path : List ℕ) (r : Refusal) (outcome : Result (ℕ × Kinds) Refusal) → outcome ≡ Err r → added path outcome ≡ Err (file.BadField path)
refused path r outcome e = ap (added path) e

pub kind_refused : (path : List ℕ) (r : Refusal) (f : FileFault) (outcome : Result (ℕ × Kinds) Refusal) → (r ≢ refusal_of NoMemory → outcome ≡ Err r)
    → Means f (file.BadField path)
    → (r ≡ refusal_of NoMemory → f ≡ file.NoMemory) → IsTextFault f (added path outcome)
kind_refused path r file.NoMemory outcome h m n = tt
kind_refused path r (file.BadWorld rule) outcome h m n = absurd (cc m)
kind_refused path r (file.BadRecord frame delta) outcome h m n = absurd (cc m)
kind_refused path r file.NotJson outcome h m n = absurd (cc m)
kind_refused path r (file.UnknownKey key) outcome h m n = absurd (cc m)
kind_refused path r (file.BadField field) outcome h m n =
    refused path r outcome (h (λ e. let k : file.BadField field ≡ file.NoMemory = n e in absurd (cc k))) ∙ ap Err m
kind_refused path r (file.BadVersion version) outcome h m n = absurd (cc m)
kind_refused path r file.ReadFault outcome h m n = m
kind_refused path r file.WriteFault outcome h m n = m
kind_refused path r file.TooLong outcome h m n = m

pub ruleset kinds = (kind_refused, kinds_rise, map-id)
