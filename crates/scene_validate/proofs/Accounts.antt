-- A test of numbers in a row, one after another.
use Rattle.std.proofs.Common.{◌≡◌, ℕ, suc, ◌+◌, ◌-◌, ◌<◌, Bool, true, false, ap, sym, ◌∙◌, arith}
use Rattle.std.specs.Prelude.{◌&&◌}
use Rattle.std.specs.List.{list_all, range_with_len}

module _ (t : ℕ → Bool) (n : ℕ) where
  range_next : (i : ℕ) → i < n → list_all t (range_with_len i (n - i)) ≡ (t i && list_all t (range_with_len (i + 1) (n - (i + 1))))
  range_next i l = let e : n - i ≡ suc (n - (i + 1)) = omega arith in ap (λ m. list_all t (range_with_len i m)) e

  -- one that passes
  pub range_passes : (i : ℕ) (b all : Bool) → list_all t (range_with_len i (n - i)) ≡ all → i < n → b ≡ t i → b ≡ true → list_all t (range_with_len (i + 1) (n - (i + 1))) ≡ all
  range_passes i b all h l e p = ap (λ b. b && list_all t (range_with_len (i + 1) (n - (i + 1)))) (sym p ∙ e) ∙ sym (range_next i l) ∙ h

  -- one that fails
  pub range_fails : (i : ℕ) (b all : Bool) → list_all t (range_with_len i (n - i)) ≡ all → i < n → b ≡ t i → b ≡ false → false ≡ all
  range_fails i b all h l e p = ap (λ b. b && list_all t (range_with_len (i + 1) (n - (i + 1)))) (sym p ∙ e) ∙ sym (range_next i l) ∙ h
