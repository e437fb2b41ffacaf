-- Cells of kinds that are there, and lists of cells whose kinds ascend.
use Rattle.std.proofs.Common.{◌≡◌, ℕ, zero, suc, ◌<◌, true, false, T, List, [], ◌∷◌, length, refl, ap, sym, ◌∙◌, arith, Some, None}
use Rattle.std.specs.List.{AllByRecursion}
use Rattle.std.specs.Ordering.{nat_cmp, is_lt}
use Rattle.std.specs.declared.cmp.Ordering.TheVariants.{Less}
use Rattle.std.specs.FinMap.Entries.{below_all}
use Rattle.std.proofs.lemmas.Bool.Decides.{nat_tests}
use Rattle.scene_kinds.specs.declared.cell.Cell.{Cell}
use Rattle.scene_kinds.specs.declared.shape.Shape.{Shape}
use Rattle.scene_kinds.specs.declared.shape.Shape.TheVariants as shape
use Rattle.scene_kinds.specs.declared.value.Value.{Value}
use Rattle.scene_kinds.specs.Ranges.{is_in_range}
use Rattle.scene_kinds.specs.Schema.{Kinds, fits_kind, has_shape, shape_of}
use Rattle.scene_kinds.specs.Shape.{same_shape, shape_of_value}
use Rattle.scene_kinds.proofs.Choices.{test_parts, less}
use Rattle.scene_json_forms.proofs.GoodSteps.{both_pass}

same_shape_is : (a b : Shape) → same_shape a b ≡ true → a ≡ b
same_shape_is shape.Tag shape.Tag h = refl
same_shape_is shape.Int shape.Int h = refl
same_shape_is shape.Vec3 shape.Vec3 h = refl
same_shape_is shape.Text shape.Text h = refl
same_shape_is shape.Link shape.Link h = refl
same_shape_is a b h = absurd (let k : false ≡ true = h in cc)

-- a value that fits a kind
pub record Fits (schema : Kinds) (v : Value) (kind : ℕ) : Type 0 where
  pub shape : shape_of schema kind ≡ Some (shape_of_value v)
  pub range : is_in_range v ≡ true
  pub low : kind < length schema

low_kind : (schema : Kinds) (kind : ℕ) (s : Shape) → shape_of schema kind ≡ Some s → kind < length schema
low_kind [] kind s h = absurd (let k : None ≡ Some s = h in cc)
low_kind (k ∷ ks) zero s h = omega arith
low_kind (k ∷ ks) (suc kind) s h = let l = low_kind ks kind s h in omega (arith, l)

pub fits_is : (schema : Kinds) (v : Value) (kind : ℕ) → fits_kind schema v kind ≡ true → Fits schema v kind
fits_is schema v kind h = elim (shape_of schema kind) as (λ o. shape_of schema kind ≡ o → has_shape v o ≡ true → Fits schema v kind) [
  | None ↦ λ e k. absurd (let g : false ≡ true = k in cc)
  | Some s ↦ λ e k.
      let p = both_pass (is_in_range v) (same_shape (shape_of_value v) s) k in
      record { shape = e ∙ ap (λ x. Some x) (sym (same_shape_is (shape_of_value v) s p.1)); range = p.0; low = low_kind schema kind s e }
] refl h

-- ---- kinds that ascend

pub less_is : (a b : ℕ) → nat_cmp a b ≡ Less → a < b
less_is a b h = grind (arith, nat_tests)

pub all_above : (kind : ℕ) (cells : List (ℕ × Cell)) → T (below_all nat_cmp kind cells) → AllByRecursion (λ c. kind < c.0) cells
all_above kind [] h = tt
all_above kind (c ∷ cs) h = let p = test_parts (is_lt (nat_cmp kind c.0)) (below_all nat_cmp kind cs) h in
    (less_is kind c.0 (less (nat_cmp kind c.0) p.0), all_above kind cs p.1)
