-- What a test says that passes, or fails, and choices by tests.
use Rattle.std.proofs.Common.{◌≡◌, Bool, true, false, cond, not, ◌&&◌, T, refl, Option, Some, None, is_some}
use Rattle.std.specs.Ordering.{is_lt}
use Rattle.std.specs.declared.cmp.Ordering.{Ordering}
use Rattle.std.specs.declared.cmp.Ordering.TheVariants.{Less, Equal, Greater}

-- the two tests of one that passes
pub test_parts : (a b : Bool) → T (a && b) → T a × T b
test_parts true b h = (tt, h)
test_parts false b h = absurd h

-- what a test for less says
pub less : (o : Ordering) → T (is_lt o) → o ≡ Less
less Less h = refl
less Equal h = absurd h
less Greater h = absurd h

-- what is not there is none
pub none_of_false : {X : Type 0} (o : Option X) → is_some o ≡ false → o ≡ None
none_of_false None e = refl
none_of_false (Some x) e = absurd (let k : true ≡ false = e in cc)

-- a choice by a test that is turned round
pub turned : {A : Type 0} (b : Bool) (x y : A) → cond (not b) x y ≡ cond b y x
turned true x y = refl
turned false x y = refl

-- of two choices by one test the first decides
pub absorbed : {A : Type 0} (b : Bool) (x y z : A) → cond b x (cond b y z) ≡ cond b x z
absorbed true x y z = refl
absorbed false x y z = refl

-- choices by tests that never both pass may be made in either order
pub exchanged : {A : Type 0} (b c : Bool) (x y z : A) → (b ≡ true → c ≡ true → ⊥) → cond b x (cond c y z) ≡ cond c y (cond b x z)
exchanged true true x y z h = absurd (h refl refl)
exchanged true false x y z h = refl
exchanged false true x y z h = refl
exchanged false false x y z h = refl
