-- Keys that ascend in their order, each above the one before.
use Rattle.std.proofs.Common.{◌≡◌, List, [], ◌∷◌, Option, Some, None}
use Rattle.std.specs.declared.cmp.Ordering.{Ordering}
use Rattle.std.specs.declared.cmp.Ordering.TheVariants.{Less}

module _ {K : Type 0} (R : K → K → Ordering) where
  -- a key is above the one before, where there is one
  abbrev pub IsAbove : Option K → K → Type 0
  IsAbove None k = Unit {0}
  IsAbove (Some before) k = R before k ≡ Less

  -- keys ascend, from above the one before on
  abbrev pub Ascend : Option K → List K → Type 0
  Ascend before [] = Unit {0}
  Ascend before (k ∷ ks) = IsAbove before k × Ascend (Some k) ks

  -- they do so too where nothing is before
  pub from_any : (before : Option K) (ks : List K) → Ascend before ks → Ascend None ks
  from_any before [] h = tt
  from_any before (k ∷ ks) h = (tt, h.1)
