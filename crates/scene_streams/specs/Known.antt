-- What is known of a reader or a writer after a refusal.
use Rattle.std.specs.Prelude.{ℕ, ◌≡◌, ◌++◌, List, Option, None, Some, ⊤}
use Rattle.std.specs.Io.KnownBytes.{Consumes}

-- known bytes grow by a front of bs
abbrev pub AppendsPrefix : Option (List ℕ) → Option (List ℕ) → List ℕ → Type 0
AppendsPrefix None new bs = ⊤
AppendsPrefix (Some xs) None bs = ⊥
AppendsPrefix (Some xs) (Some ys) bs = (front : List ℕ) × (back : List ℕ) × (bs ≡ front ++ back) × (ys ≡ xs ++ front)

-- known bytes lose some bytes at their front
abbrev pub ConsumesSome : Option (List ℕ) → Option (List ℕ) → Type 0
ConsumesSome old new = (front : List ℕ) × Consumes old new front
