-- A tick that none of a list's is after: where the list changes, and what it says of a test.
use Rattle.std.proofs.Common.{◌≡◌, ℕ, suc, ◌+◌, ◌-◌, ◌<◌, ◌≤◌, false, List, [], ◌∷◌, ◌++◌, length, length-append, get_or, take, max, refl, arith, nat_lt}
use Rattle.std.specs.Prelude.{All, slice_range, slice_set}
use Rattle.std.specs.List.{list_any, swap, swap_remove}
use Rattle.std.proofs.lemmas.Bool.{le-ltb}
use Rattle.std.proofs.lemmas.List.Elements.{All-weaker, All-push, All-more, All-set, All-take, All-drop}
use Rattle.std.proofs.lemmas.List.Folds.{list_any_none}
use Rattle.std.proofs.lemmas.List.Sorted.{All-permutation, IsPermutation-swap, IsPermutation-swap_remove}

-- no tick is after a bound
abbrev pub AllUpTo : ℕ → List ℕ → Type 0
AllUpTo latest ticks = All (λ tick. tick ≤ latest) ticks

-- the later of a bound and a new tick bounds both
raised : (latest new : ℕ) (ticks : List ℕ) → AllUpTo latest ticks → AllUpTo (max latest new) ticks
raised latest new ticks h = All-weaker (λ tick. tick ≤ latest) (λ tick. tick ≤ max latest new) (λ tick l. omega (arith, l)) ticks h

-- a new tick is pushed, and changes places with another
pub up_to_put_back : (latest new i j : ℕ) (ticks : List ℕ) → i ≤ length ticks → j ≡ length ticks → AllUpTo latest ticks → AllUpTo (max latest new) (swap (ticks ++ new ∷ []) i j)
up_to_put_back latest new i j ticks within last h =
    let pushed = All-push (λ tick. tick ≤ max latest new) ticks new (raised latest new ticks h) (omega arith) in
    All-permutation (λ tick. tick ≤ max latest new) (ticks ++ new ∷ []) _ (IsPermutation-swap (ticks ++ new ∷ []) _ i j (omega (arith, length-append ticks (new ∷ []))) (omega (arith, length-append ticks (new ∷ []))) refl) pushed

-- a new tick takes the place of another
pub up_to_set : (latest new i : ℕ) (ticks : List ℕ) → AllUpTo latest ticks → AllUpTo (max latest new) (slice_set ticks i new)
up_to_set latest new i ticks h = All-set (λ tick. tick ≤ max latest new) ticks i new (omega arith) (raised latest new ticks h)

-- a tick leaves
pub up_to_taken : (latest i tick : ℕ) (ticks : List ℕ) → i < length ticks → tick ≡ get_or ticks i tick → AllUpTo latest ticks → AllUpTo latest (swap_remove ticks i tick)
up_to_taken latest i tick ticks within is h k d l =
    All-permutation (λ t. t ≤ latest) ticks (tick ∷ swap_remove ticks i tick) (IsPermutation-swap_remove ticks i tick within is) h (suc k) d (omega (arith, l))

-- of the first ticks and one more, the later of a bound and that one is a bound
pub up_to_more : (latest new n d : ℕ) (ticks : List ℕ) → n < length ticks → new ≡ get_or ticks n d → AllUpTo latest (take n ticks) → AllUpTo (max latest new) (take (n + 1) ticks)
up_to_more latest new n d ticks within is h = All-more (λ tick. tick ≤ max latest new) ticks n d within (raised latest new (take n ticks) h) (omega (arith, is))

-- where the bound isn't after a tick, none of a part is
pub none_after : (latest tick : ℕ) (ticks : List ℕ) → AllUpTo latest ticks → latest ≤ tick → (from to : ℕ) → list_any (nat_lt tick) (slice_range ticks from to) ≡ false
none_after latest tick ticks h low from to =
    list_any_none (nat_lt tick) _ (All-take (λ t. nat_lt tick t ≡ false) (to - from) _ (All-drop (λ t. nat_lt tick t ≡ false) from ticks
    (All-weaker (λ t. t ≤ latest) (λ t. nat_lt tick t ≡ false) (λ t l. le-ltb tick t (omega (arith, l, low))) ticks h)))
