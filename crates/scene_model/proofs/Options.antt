-- What the value of an option meets.
use Rattle.std.proofs.Common.{◌≡◌, refl, subst, Option, Some, None}
use Rattle.std.specs.Prelude.{IfSome}

-- from a fact of the option
pub in_some : {X : Type 0} (P : X → Type 0) (o : Option X) (x : X) → IfSome o P → o ≡ Some x → P x
in_some P None x h e = absurd (let k : None ≡ Some x = e in cc)
in_some P (Some y) x h e = subst P (let k : y ≡ x = cc in k) h

-- and for one
pub if_some : {X : Type 0} (P : X → Type 0) (o : Option X) → ((x : X) → o ≡ Some x → P x) → IfSome o P
if_some P None h = tt
if_some P (Some x) h = h x refl
