-- Copies of some of the deltas of a list, as the list is gone through.
use Rattle.std.proofs.Common.{◌≡◌, Bool, true, false, List, [], ◌∷◌, ◌++◌, reverse, cond, refl, ◌∙◌}
use Rattle.std.specs.List.{filter}
use Rattle.std.proofs.lemmas.List.{append_cancel_right, append-nil, reverse-append}
use Rattle.std.proofs.lemmas.List.Elements.{filter-append}
use Rattle.scene_deltas.specs.declared.delta.Delta.{Delta}
use Rattle.scene_deltas.specs.Copies.{with_copy}

-- which copies were there before one was taken is known from what is left
pub same_others : (b : Bool) (d : Delta) (xs ys : List Delta) → with_copy b d xs ≡ with_copy b d ys → xs ≡ ys
same_others true d xs ys same = append_cancel_right xs ys (d ∷ []) same
same_others false d xs ys same = same

module _ (p : Delta → Bool) where
  pub last_kept : (b : Bool) (d : Delta) (kept : List Delta) → kept ++ cond b (d ∷ []) [] ≡ with_copy b d kept
  last_kept true d kept = refl
  last_kept false d kept = append-nil kept

  -- those of a list with one more delta behind it
  pub kept_behind : (ds : List Delta) (d : Delta) → filter p (ds ++ d ∷ []) ≡ with_copy (p d) d (filter p ds)
  kept_behind ds d = filter-append p ds (d ∷ []) ∙ last_kept (p d) d (filter p ds)

  pub first_turned : (b : Bool) (d : Delta) (kept : List Delta) → reverse (cond b (d ∷ kept) kept) ≡ with_copy b d (reverse kept)
  first_turned true d kept = reverse-append (d ∷ []) kept
  first_turned false d kept = refl

  -- those of a list with one more before it, turned
  pub turned_before : (ds : List Delta) (d : Delta) → reverse (filter p (d ∷ ds)) ≡ with_copy (p d) d (reverse (filter p ds))
  turned_before ds d = first_turned (p d) d (filter p ds)
