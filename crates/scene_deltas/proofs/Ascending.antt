-- Cells whose kinds ascend, by comparing each kind with those after it.
use Rattle.std.proofs.Common.{◌≡◌, ℕ, true, false, cond, ◌&&◌, List, [], ◌∷◌, refl, nat_lt, nat_eq}
use Rattle.std.specs.List.{list_all}
use Rattle.std.specs.Ordering.{nat_cmp, is_lt}
use Rattle.std.specs.declared.cmp.Ordering.TheVariants.{Less, Equal, Greater}
use Rattle.std.specs.FinMap.Entries.{below_all, is_sorted}
use Rattle.scene_kinds.specs.declared.cell.Cell.{Cell}
use Rattle.scene_deltas.specs.Ascending.{kinds_ascend}

is_less : (m n : ℕ) → is_lt (nat_cmp m n) ≡ nat_lt m n
is_less m n =
    elim (nat_lt m n) as (λ b. is_lt (cond b Less (cond (nat_eq m n) Equal Greater)) ≡ b) [
      | true ↦ refl
      | false ↦ elim (nat_eq m n) as (λ e. is_lt (cond e Equal Greater) ≡ false) [
        | true ↦ refl
        | false ↦ refl
      ]
    ]

below_is : (kind : ℕ) (cs : List (ℕ × Cell)) → below_all nat_cmp kind cs ≡ list_all (λ d. nat_lt kind d.0) cs
below_is kind [] = refl
below_is kind (c ∷ cs) = λ i. is_less kind c.0 i && below_is kind cs i

pub ascend_is : (cs : List (ℕ × Cell)) → is_sorted nat_cmp cs ≡ kinds_ascend cs
ascend_is [] = refl
ascend_is (c ∷ cs) = λ i. below_is c.0 cs i && ascend_is cs i
