use Rattle.std.proofs.Common.{rules, ◌∙◌, ℕ, List, slice_index_or, w64, FitsSigned, pos}
use Rattle.std.specs.Prelude.{ℤ}
use Rattle.std.proofs.lemmas.Int.{to_z-of_z}
use Rattle.scene_pass.specs.Changes.{sum}
use Rattle.scene_pass.specs.InPlace.{three}
use Rattle.scene_pass.proofs.VectorSums.{three_sums}
use Rattle.scene_pass.proofs.sums.sums.Goals as goal

pub returns : goal.returns
returns c =
    let xs = c.args.vector.now in
    let ys = c.args.by.now in
    let at : List ℤ → ℕ → ℤ = λ zs k. slice_index_or zs k (pos 0) in
    let x : FitsSigned w64 (at xs 0) = search rules in
    let y : FitsSigned w64 (at xs 1) = search rules in
    let z : FitsSigned w64 (at xs 2) = search rules in
    let by_x : FitsSigned w64 (at ys 0) = search rules in
    let by_y : FitsSigned w64 (at ys 1) = search rules in
    let by_z : FitsSigned w64 (at ys 2) = search rules in
    c.three.ensures ∙ (λ i. three (c.sum.ensures i) (c.sum-2.ensures i) (c.sum-3.ensures i))
    ∙ (λ i. three (sum (to_z-of_z w64 (at xs 0) x i) (to_z-of_z w64 (at ys 0) by_x i)) (sum (to_z-of_z w64 (at xs 1) y i) (to_z-of_z w64 (at ys 1) by_y i)) (sum (to_z-of_z w64 (at xs 2) z i) (to_z-of_z w64 (at ys 2) by_z i)))
    ∙ three_sums xs ys c.told-vector c.told-by
