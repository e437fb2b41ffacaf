-- The bytes that C lends a call.
use Rattle.std.proofs.Common.{◌≡◌, ◌≢◌, arith, ℕ, ◌^◌, ◌+◌, List, [], ◌∷◌, refl}
use Rattle.std.specs.Prelude.{zero, suc}
use seplogic.Ra.Ura.{Ura}
use base.Fraction.{full_share}
use base.Logic.{ent, id⊢, mono_r}
use base.Fml.{feq, fsep, flt}
use types.Logic.{Logic, sem}
use types.SemTy.{cells}
use denote.Array.{Array}
use denote.Builtin.{u8}
use denote.Memory.{mem, part_at}
use denote.RawPtr.{Ptr, lies_at}
use denote.RawPtr.Bytes.{bytes}
use Rattle.scene_c.specs.Memory.{bytes_at, copied}

pub copied_none : (text : List ℕ) → copied text [] ≡ []
copied_none [] = refl
copied_none (c ∷ text) = refl

module _ {M : Type 1} {𝓤 : Ura M} (𝓛 : Logic 𝓤) where
  pub no_bytes : (p : Ptr) (n : ℕ) (xs : List ℕ) → n ≡ 0 → ent 𝓤 (sem 𝓛 (bytes_at p n xs)) (sem 𝓛 (feq (List ℕ) xs []))
  no_bytes p zero xs t = id⊢ 𝓤 _
  no_bytes p (suc n) xs t = let wrong : ⊥ = omega (arith, t) in absurd wrong

  pub no_bytes_left : (p : Ptr) (n : ℕ) (xs : List ℕ) → n ≡ 0 → ent 𝓤 (sem 𝓛 (feq (List ℕ) xs [])) (sem 𝓛 (bytes_at p n xs))
  no_bytes_left p zero xs t = id⊢ 𝓤 _
  no_bytes_left p (suc n) xs t = let wrong : ⊥ = omega (arith, t) in absurd wrong

  pub bytes_out : (p : Ptr) (n : ℕ) (xs : List ℕ) → n ≢ 0 → ent 𝓤 (sem 𝓛 (bytes_at p n xs)) (sem 𝓛 (fsep (flt n (2 ^ 63)) (lies_at (Array u8 n) full_share p xs)))
  bytes_out p zero xs t = absurd (t refl)
  bytes_out p (suc n) xs t = id⊢ 𝓤 _

  pub bytes_in : (p : Ptr) (n : ℕ) (xs : List ℕ) → n ≢ 0 → ent 𝓤 (sem 𝓛 (fsep (flt n (2 ^ 63)) (lies_at (Array u8 n) full_share p xs))) (sem 𝓛 (bytes_at p n xs))
  bytes_in p zero xs t = absurd (t refl)
  bytes_in p (suc n) xs t = id⊢ 𝓤 _

  pub to_cells : (xs : List ℕ) (b o : ℕ) → ent 𝓤 (sem 𝓛 (bytes full_share xs b o)) (sem 𝓛 (cells (mem u8) xs b o))
  to_cells [] b o = id⊢ 𝓤 _
  to_cells (x ∷ xs) b o = mono_r 𝓤 (sem 𝓛 (part_at u8 full_share x b o)) (to_cells xs b (o + 1))

  pub of_cells : (xs : List ℕ) (b o : ℕ) → ent 𝓤 (sem 𝓛 (cells (mem u8) xs b o)) (sem 𝓛 (bytes full_share xs b o))
  of_cells [] b o = id⊢ 𝓤 _
  of_cells (x ∷ xs) b o = mono_r 𝓤 (sem 𝓛 (part_at u8 full_share x b o)) (of_cells xs b (o + 1))
