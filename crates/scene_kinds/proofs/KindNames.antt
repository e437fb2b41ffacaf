-- What holds of the kind that a name names.
use Rattle.std.proofs.Common.{◌≡◌, ℕ, ◌∙◌, List, Option, Some, None, refl, sym, ap, option_map}
use Rattle.std.specs.Prelude.{slice_get}
use Rattle.scene_kinds.specs.declared.shape.Shape.{Shape}
use Rattle.scene_kinds.specs.Schema.{Kinds, IsSchema, number_of, name_of}

-- a kind that has the name is the one that is found by it
named_here : (kinds : Kinds) (kind : ℕ) (known name : List ℕ) → IsSchema kinds → (o : Option (List ℕ × Shape)) → slice_get kinds kind ≡ o → Some known ≡ option_map (λ k. k.0) o → known ≡ name
    → Some kind ≡ number_of kinds name
named_here kinds kind known name sound None e h same = absurd (let none : Some known ≡ None = h in cc)
named_here kinds kind known name sound (Some k) e h same =
    let some : Some known ≡ Some k.0 = h in
    let is : known ≡ k.0 = cc in
    sym (sound.found kind k e) ∙ ap (number_of kinds) (sym is ∙ same)

-- a kind is found by its name
pub kind_here : (kinds : Kinds) (kind : ℕ) (known name : List ℕ) → IsSchema kinds → Some known ≡ name_of kinds kind → known ≡ name → Some kind ≡ number_of kinds name
kind_here kinds kind known name sound h same = named_here kinds kind known name sound (slice_get kinds kind) refl h same
