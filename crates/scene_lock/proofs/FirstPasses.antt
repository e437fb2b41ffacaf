-- The passes of a new lock.
use Rattle.std.proofs.Common.{◌∷◌, [], ℕ, zero, suc, refl, arith}
use Rattle.std.specs.List.{All}
use Rattle.std.proofs.lemmas.List.Elements.{All-append, All-nil}
use Rattle.scene_lock.specs.Pass.{LockView, IsPassOf, first_pass, first_passes}

module _ {E O : Type 0} where
  alone : (lock : LockView O) (session : ℕ) → All (IsPassOf lock) (first_pass {E = E} lock session ∷ [])
  alone lock session zero d lt = (refl, refl)
  alone lock session (suc k) d lt = absurd (omega arith)

  pub each-first_passes : (lock : LockView O) (n : ℕ) → All (IsPassOf lock) (first_passes {E = E} lock n)
  each-first_passes lock zero = All-nil (IsPassOf lock)
  each-first_passes lock (suc n) = All-append (IsPassOf lock) (first_passes lock n) (first_pass lock n ∷ []) (each-first_passes lock n) (alone lock n)
