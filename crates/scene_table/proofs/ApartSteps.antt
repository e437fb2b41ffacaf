-- Steps of which each writes its own kind.
use Rattle.std.proofs.Common.{◌≡◌, ◌<◌, ◌+◌, ◌&&◌, cond, nat_lt, max, ℕ, zero, suc, List, [], ◌∷◌, ◌++◌, length, get_or, take, refl, ap, sym, ◌∙◌, arith, true, false, Bool, Some, None, nat_eq}
use Rattle.std.specs.Prelude.{slice_get, All, ◌||◌}
use Rattle.std.specs.List.{list_any}
use Rattle.std.specs.Prelude.{bit_or}
use Rattle.std.specs.Int.{bit_at}
use Rattle.std.proofs.lemmas.Nat.Bits.{bit_at_or, bit_at-lt}
use Rattle.std.proofs.lemmas.Bool.{eq-eqb}
use Rattle.std.proofs.lemmas.Option.{slice_get_within, slice_get-get_or}
use Rattle.std.specs.Ordering.{nat_cmp, eq_by_cmp}
use Rattle.std.proofs.lemmas.Bool.Decides.{nat_tests}
use Rattle.scene_kinds.specs.KindSet.{has_kind, set_with}
use Rattle.scene_kinds.proofs.KindSets.{has_kind-set_with}
use Rattle.scene_table.proofs.Walks.{take_more}
use Rattle.scene_table.specs.declared.row_step.RowStep.{RowStep}
use Rattle.scene_table.specs.RowStep.{is_written, target}
use Rattle.scene_table.specs.Runs.{AreApart, read_kinds}

pub or_true : (b : Bool) → (b || true) ≡ true
or_true true = refl
or_true false = refl

-- a kind that a step before a place writes
written_before : (steps : List RowStep) (i j : ℕ) (s : RowStep) (kind : ℕ) → i < j → slice_get steps i ≡ Some s → target s ≡ kind → is_written (take j steps) kind ≡ true
written_before [] i j s kind l is e = absurd (let g : None ≡ Some s = is in cc)
written_before (x ∷ steps) i zero s kind l is e = absurd (omega arith)
written_before (x ∷ steps) zero (suc j) s kind l is e = ap (λ b. b || is_written (take j steps) kind) (eq-eqb (target x) kind (ap target (let g : Some x ≡ Some s = is in let h : x ≡ s = cc in h) ∙ e))
written_before (x ∷ steps) (suc i) (suc j) s kind l is e = ap (λ b. nat_eq (target x) kind || b) (written_before steps i j s kind (omega arith) is e) ∙ or_true (nat_eq (target x) kind)

before : (steps : List RowStep) → ((j : ℕ) (t : RowStep) → slice_get steps j ≡ Some t → is_written (take j steps) (target t) ≡ false)
    → (i j : ℕ) (s t : RowStep) → slice_get steps i ≡ Some s → slice_get steps j ≡ Some t → target s ≡ target t → i < j → ⊥
before steps own i j s t is there e l = let g : true ≡ false = sym (written_before steps i j s (target t) l is e) ∙ own j t there in cc

-- steps of which none writes what one before it does, and none adds what one writes
pub apart_by_place : (n : ℕ) (steps : List RowStep) → length steps < n + 1 → ((j : ℕ) (t : RowStep) → j < n → slice_get steps j ≡ Some t → is_written (take j steps) (target t) ≡ false)
    → ((j : ℕ) (t : RowStep) → j < n → slice_get steps j ≡ Some t → All (λ (kind : ℕ). is_written steps kind ≡ false) (read_kinds t)) → AreApart steps
apart_by_place n steps l own unread = record {
  own = λ i j s t is there e. apart i j (λ h. before steps all i j s t is there e h) (λ h. before steps all j i t s there is (sym e) h);
  unread = λ k d h. unread k (get_or steps k d) (omega arith) (slice_get-get_or steps k d h);
}
  where
    all : (j : ℕ) (t : RowStep) → slice_get steps j ≡ Some t → is_written (take j steps) (target t) ≡ false
    all j t there = let w = slice_get_within steps j t there in own j t (omega arith) there

    apart : (a b : ℕ) → (a < b → ⊥) → (b < a → ⊥) → a ≡ b
    apart a b f g = grind arith

-- ---- the kinds of steps as a set

pub or_false : (b : Bool) → (b || false) ≡ b
or_false true = refl
or_false false = refl

pub same_test : (a b : ℕ) → nat_eq a b ≡ true → eq_by_cmp nat_cmp b a ≡ true
same_test a b h = grind (arith, nat_tests)

pub other_test : (a b : ℕ) → nat_eq a b ≡ false → eq_by_cmp nat_cmp b a ≡ false
other_test a b h = grind (arith, nat_tests)

low_test : (a b c : ℕ) → nat_eq a b ≡ true → a < c → nat_lt b c ≡ true
low_test a b c h l = grind (arith, nat_tests)

-- a set with a kind
pub kind_with : (set kind k : ℕ) → kind < 64 → has_kind (set_with set kind) k ≡ (has_kind set k || (nat_eq kind k && nat_lt k 64))
kind_with set kind k l =
    has_kind-set_with set kind k
    ∙ elim (nat_eq kind k) as (λ b. nat_eq kind k ≡ b → cond (eq_by_cmp nat_cmp k kind) true (has_kind set k) ≡ (has_kind set k || (b && nat_lt k 64))) [
      | true ↦ λ t. ap (λ b. cond b true (has_kind set k)) (same_test kind k t) ∙ sym (or_true (has_kind set k)) ∙ ap (λ b. has_kind set k || b) (sym (low_test kind k 64 t l))
      | false ↦ λ t. ap (λ b. cond b true (has_kind set k)) (other_test kind k t) ∙ sym (or_false (has_kind set k))
    ] refl

any_last : {X : Type 0} (p : X → Bool) (xs : List X) (x : X) → list_any p (xs ++ x ∷ []) ≡ (list_any p xs || p x)
any_last p [] x = or_false (p x)
any_last p (y ∷ xs) x = ap (λ b. p y || b) (any_last p xs x) ∙ regroup (p y) (list_any p xs) (p x)
  where
    regroup : (a b c : Bool) → (a || (b || c)) ≡ ((a || b) || c)
    regroup true b c = refl
    regroup false b c = refl

-- one more element may pass a test
pub any_more : {X : Type 0} (p : X → Bool) (xs : List X) (n : ℕ) (x : X) → slice_get xs n ≡ Some x → list_any p (take (n + 1) xs) ≡ (list_any p (take n xs) || p x)
any_more p xs n x is = ap (list_any p) (sym (take_more n xs x is)) ∙ any_last p (take n xs) x

-- one more kind below a bound
pub kinds_more : (a b l : Bool) → ((a && l) || (b && l)) ≡ ((a || b) && l)
kinds_more true true true = refl
kinds_more true true false = refl
kinds_more true false true = refl
kinds_more true false false = refl
kinds_more false b true = refl
kinds_more false true false = refl
kinds_more false false false = refl

pub no_more : (a b : Bool) → b ≡ false → a ≡ (a || b)
no_more a b e = sym (or_false a) ∙ ap (λ x. a || x) (sym e)

-- a kind of one of two sets
pub kind_of_either : (a b k : ℕ) → has_kind (bit_or a b) k ≡ (has_kind a k || has_kind b k)
kind_of_either a b k = ap (λ n. nat_eq n 1) (bit_at_or a b k) ∙ either (bit_at a k) (bit_at b k) (bit_at-lt a k) (bit_at-lt b k)
  where
    either : (m n : ℕ) → m < 2 → n < 2 → nat_eq (max m n) 1 ≡ (nat_eq m 1 || nat_eq n 1)
    either zero zero l h = refl
    either zero (suc zero) l h = refl
    either (suc zero) zero l h = refl
    either (suc zero) (suc zero) l h = refl
    either (suc (suc m)) n l h = absurd (omega arith)
    either m (suc (suc n)) l h = absurd (omega arith)
