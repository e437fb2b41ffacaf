-- What holds of a kind that a name names.
use Rattle.std.proofs.Common.{◌≡◌, ℕ, ◌<◌, List, Option, Some, None, Result, Ok, Err, refl, ap, ◌∙◌}
use Rattle.serde_json.specs.Data.{Data}
use Rattle.scene_kinds.specs.declared.shape.Shape.{Shape}
use Rattle.scene_kinds.specs.Schema.{Kinds, IsSchema, number_of, shape_of}
use Rattle.scene_script.specs.declared.bad_line.BadLine.TheVariants as bad
use Rattle.scene_script.specs.Reading.{or_bad}
use Rattle.scene_script.proofs.KindLaws.{kind_below as named_below}
use Rattle.scene_json_forms.specs.declared.fault.FileFault.{FileFault}
use Rattle.scene_json_forms.specs.Reading.{◌>>=◌, field, string_at}
use Rattle.scene_requests.specs.Walk.{kind_at}

-- the step before one that was read
before : {A B : Type 0} (x : Result A FileFault) (next : A → Result B FileFault) (b : B) → x >>= next ≡ Ok b
    → (a : A) × (x ≡ Ok a) × (next a ≡ Ok b)
before (Ok a) next b h = (a, refl, h)
before (Err f) next b h = absurd (cc h)

there : {A : Type 0} (path : List ℕ) (o : Option A) (a : A) → field path o ≡ Ok a → o ≡ Some a
there path None a h = absurd (cc h)
there path (Some x) a h = cc h

-- it is below 64
pub kind_below : (kinds : Kinds) (path : List ℕ) (d : Data) (kind : ℕ) (shape : Shape) → IsSchema kinds → kind_at kinds path d ≡ Ok (kind, shape)
    → kind < 64
kind_below kinds path d kind shape sound h =
    let named = before (string_at path d) (λ name. field path (number_of kinds name) >>= λ k. field path (shape_of kinds k) >>= λ s. Ok (k, s)) (kind, shape) h in
    let numbered = before (field path (number_of kinds named.0)) (λ k. field path (shape_of kinds k) >>= λ s. Ok (k, s)) (kind, shape) named.2 in
    let shaped = before (field path (shape_of kinds numbered.0)) (λ s. Ok (numbered.0, s)) (kind, shape) numbered.2 in
    let is : numbered.0 ≡ kind = same shaped.2 in
    named_below kinds named.0 kind sound (ap (or_bad (bad.UnknownKind named.0)) (there path (number_of kinds named.0) numbered.0 numbered.1 ∙ ap Some is))
  where
    number : Result (ℕ × Shape) FileFault → ℕ
    number (Ok k) = k.0
    number (Err f) = 0

    same : {k l : ℕ} {s t : Shape} → ◌≡◌ {A = Result (ℕ × Shape) FileFault} (Ok (k, s)) (Ok (l, t)) → k ≡ l
    same e = ap number e
