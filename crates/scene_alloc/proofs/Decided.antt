-- What tests of several parts, of an option, of a list and by a flag decide.
use Rattle.std.proofs.Common.{◌≡◌, ℕ, ◌≤◌, Bool, true, false, not, T, List, [], ◌∷◌, length, Option, Some, None, is_none, unwrap_or, Decides, nat_eq, nat_le, refl, ap, leb-true, le-leb, arith}
use Rattle.std.specs.Prelude.{◌&&◌, ◌||◌, if◌then◌else◌}
use Rattle.std.specs.Cmp.{unsigned_Decides}
use Rattle.std.specs.Option.{option_eq}
use Rattle.std.proofs.lemmas.Bool.{not-true, not_from_false}
use Rattle.std.proofs.lemmas.Bool.Decides.{Decides-and}

-- both of two tests
pub both : {P Q : Type 0} {x y : Bool} → Decides x P → Decides y Q → Decides (x && y) (P × Q)
both {x = x} {y = y} p q = Decides-and x y p q

-- what says the same
pub as_parts : {P Q : Type 0} {x : Bool} → Decides x P → (P → Q) → (Q → P) → Decides x Q
as_parts p to from = (λ h. to (p.0 h), λ q. p.1 (from q))

-- a test as it stands, and one that fails
pub passes : (b : Bool) → Decides b (b ≡ true)
passes b = (λ h. h, λ h. h)

pub fails : (b : Bool) → Decides (not b) (b ≡ false)
fails b = (not-true b, not_from_false b)

pub holds : (b : Bool) → Decides b (T b)
holds true = (λ h. tt, λ t. refl)
holds false = (λ h. absurd (let g : false ≡ true = h in cc), λ t. absurd t)

-- a test that counts only under a flag, and one test or the other
pub where_flagged : {P : Type 0} {x : Bool} (b : Bool) → Decides x P → Decides (not b || x) (b ≡ true → P)
where_flagged true p = (λ h _. p.0 h, λ f. p.1 (f refl))
where_flagged false p = (λ h e. absurd (cc), λ f. refl)

pub by_flag : {P Q : Type 0} {x y : Bool} (b : Bool) → Decides x P → Decides y Q → Decides (if b then x else y) ((b ≡ true → P) × (b ≡ false → Q))
by_flag true p q = (λ h. (λ _. p.0 h, λ e. absurd (cc)), λ f. p.1 (f.0 refl))
by_flag false p q = (λ h. (λ e. absurd (cc), λ _. q.0 h), λ f. q.1 (f.1 refl))

-- numbers, options and lists
pub at_most : (m n : ℕ) → Decides (nat_le m n) (m ≤ n)
at_most m n = (leb-true m n, le-leb m n)

pub is_nothing : {X : Type 0} (o : Option X) → Decides (is_none o) (o ≡ None)
is_nothing None = (λ h. refl, λ e. refl)
is_nothing (Some x) = (λ h. absurd (let g : false ≡ true = h in cc), λ e. absurd (cc))

pub is_empty : {X : Type 0} (xs : List X) → Decides (nat_eq (length xs) 0) (xs ≡ [])
is_empty [] = (λ h. refl, λ e. refl)
is_empty (x ∷ xs) = (λ h. absurd (let e : length (x ∷ xs) ≡ 0 = (unsigned_Decides (length (x ∷ xs)) 0).0 h in omega (arith, e)), λ e. absurd (cc))

pub same_options : {K : Type 0} (E : K → K → Bool) → ((a b : K) → Decides (E a b) (a ≡ b)) → (a b : Option K) → Decides (option_eq E a b) (a ≡ b)
same_options E each None None = (λ h. refl, λ e. refl)
same_options E each None (Some y) = (λ h. absurd (let g : false ≡ true = h in cc), λ e. absurd (cc))
same_options E each (Some x) None = (λ h. absurd (let g : false ≡ true = h in cc), λ e. absurd (cc))
same_options E each (Some x) (Some y) = (λ h. ap Some ((each x y).0 h), λ e. (each x y).1 (ap (λ o. unwrap_or o x) e))

-- a test of what isn't so
pub refuted : {P : Type 0} {x : Bool} → Decides x P → (P → ⊥) → false ≡ x
refuted {x = true} p never = absurd (never (p.0 refl))
refuted {x = false} p never = refl
