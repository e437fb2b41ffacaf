-- What always holds of a schema, when a kind is added.
use Rattle.std.proofs.Common.{◌≡◌, ◌<◌, ℕ, true, false, List, [], ◌∷◌, ◌++◌, length, refl, ap, sym, ◌∙◌, arith, Some, None, is_some, length-append}
use Rattle.std.specs.Str.{bytes_eq}
use Rattle.std.proofs.lemmas.List.Elements.{All-push}
use Rattle.std.proofs.lemmas.Slice.Eq.{bytes_eq-Decides}
use Rattle.scene_kinds.specs.declared.shape.Shape.{Shape}
use Rattle.scene_kinds.specs.Schema.{Kinds, IsSchema, is_good_name, number_of}
use Rattle.scene_kinds.proofs.Elements.{pushed}
use Rattle.scene_kinds.proofs.Positions.{found_in_more, found_last}

-- no kinds are a schema
pub IsSchema-nil : IsSchema []
IsSchema-nil = record {
  few = omega arith;
  good = λ k d l. absurd (omega arith);
  found = λ kind k h. absurd (let g : None ≡ Some k = h in cc);
}

-- a schema with one more kind, of a good name that none has
pub IsSchema-push : (kinds : Kinds) (name : List ℕ) (shape : Shape) → IsSchema kinds → length kinds < 64 → is_good_name name ≡ true → is_some (number_of kinds name) ≡ false → IsSchema (kinds ++ (name, shape) ∷ [])
IsSchema-push kinds name shape h few good new = record {
  few = omega (arith, length-append kinds ((name, shape) ∷ []));
  good = All-push (λ (k : List ℕ × Shape). is_good_name k.0 ≡ true) kinds (name, shape) h.good good;
  found = λ kind k at. pushed (number_of (kinds ++ (name, shape) ∷ []) k.0 ≡ Some kind) kinds (name, shape) kind k at
      (λ old. found_in_more (λ (j : List ℕ × Shape). bytes_eq k.0 j.0) kinds ((name, shape) ∷ []) 0 kind (h.found kind k old))
      (λ last same. ap (λ (j : List ℕ × Shape). number_of (kinds ++ (name, shape) ∷ []) j.0) (sym same)
      ∙ found_last (λ (j : List ℕ × Shape). bytes_eq name j.0) kinds (name, shape) 0 new ((bytes_eq-Decides name name).1 refl) ∙ ap (λ (n : ℕ). Some n) (omega (arith, last)));
}
