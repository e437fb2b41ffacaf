-- What is known of each step of a walk that was good.
use Rattle.std.proofs.Common.{◌≡◌, ℕ, Bool, true, false, List, Option, Some, None, Result, Ok, Err, option_and_then, ◌&&◌, refl, ap}
use Rattle.scene_json_forms.specs.declared.fault.FileFault.{FileFault}
use Rattle.scene_json_forms.specs.declared.fault.FileFault.TheVariants.{BadField}
use Rattle.scene_json_forms.specs.Reading.{◌>>=◌, field, if_good}

pub ok_is : {A : Type 0} (a b : A) → ◌≡◌ {A = Result A FileFault} (Ok a) (Ok b) → a ≡ b
ok_is a b h = cc h

pub no_field : {A P : Type 0} (path : List ℕ) (a : A) → ◌≡◌ {A = Result A FileFault} (Err (BadField path)) (Ok a) → P
no_field path a h = absurd (cc h)

-- two tests that pass together
pub both_pass : (a b : Bool) → (a && b) ≡ true → (a ≡ true) × (b ≡ true)
both_pass true b h = (refl, h)
both_pass false b h = absurd (let k : false ≡ true = h in cc)

-- both steps were good
pub ok_after : {A B : Type 0} (x : Result A FileFault) (next : A → Result B FileFault) (b : B) → (x >>= next) ≡ Ok b
    → (a : A) × (x ≡ Ok a) × (next a ≡ Ok b)
ok_after (Ok a) next b h = (a, refl, h)
ok_after (Err f) next b h = absurd (cc h)

pub good_was : {A : Type 0} (path : List ℕ) (t : Bool) (a b : A) → if_good path t a ≡ Ok b → (t ≡ true) × (a ≡ b)
good_was path true a b h = (refl, ok_is a b h)
good_was path false a b h = no_field path b h

pub field_was : {A : Type 0} (path : List ℕ) (o : Option A) (a : A) → field path o ≡ Ok a → o ≡ Some a
field_was path None a h = no_field path a h
field_was path (Some b) a h = ap (λ x. Some x) (ok_is b a h)

pub then_was : {A B : Type 0} (f : A → Option B) (o : Option A) (b : B) → option_and_then f o ≡ Some b → (a : A) × (o ≡ Some a) × (f a ≡ Some b)
then_was f None b h = absurd (let k : None ≡ Some b = h in cc)
then_was f (Some a) b h = (a, refl, h)
