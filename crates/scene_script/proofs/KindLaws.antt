-- What holds of the kind that a name names.
use Rattle.std.proofs.Common.{◌≡◌, ℕ, ◌<◌, List, length, arith, Option, Some, None, Ok}
use Rattle.std.specs.Str.{bytes_eq}
use Rattle.scene_kinds.specs.declared.shape.Shape.{Shape}
use Rattle.scene_kinds.specs.Schema.{Kinds, IsSchema, number_of}
use Rattle.scene_kinds.proofs.Positions.{found}
use Rattle.scene_script.specs.declared.bad_line.BadLine.{BadLine}
use Rattle.scene_script.specs.declared.bad_line.BadLine.TheVariants as bad
use Rattle.scene_script.specs.Reading.{or_bad}
use Rattle.scene_script.specs.Cells.{kind_said}

-- the search for a name ends within the kinds
within : (kinds : Kinds) (name : List ℕ) (kind : ℕ) → number_of kinds name ≡ Some kind → kind < length kinds
within kinds name kind h = found (λ (k : List ℕ × Shape). bytes_eq name k.0) (λ ks n. n < length ks) (λ k ks t. omega arith)
    (λ k ks n t l. omega (arith, l)) kinds kind h

-- what is there is what was said
was_there : (reason : BadLine) (o : Option ℕ) (kind : ℕ) → or_bad reason o ≡ Ok kind → o ≡ Some kind
was_there reason None kind h = absurd (cc h)
was_there reason (Some k) kind h = cc h

-- the kind of a name is below 64
pub kind_below : (kinds : Kinds) (name : List ℕ) (kind : ℕ) → IsSchema kinds → kind_said kinds name ≡ Ok kind → kind < 64
kind_below kinds name kind sound said =
    let there = within kinds name kind (was_there (bad.UnknownKind name) (number_of kinds name) kind said) in
    omega (arith, there, sound.few)
