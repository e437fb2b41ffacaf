use Rattle.std.proofs.Common.{◌≡◌, ◌∙◌, pos, arith, rules, length, get_or, [], ◌∷◌, FitsSigned, w64}
use Rattle.std.proofs.lemmas.Int.{to_z-of_z}
use Rattle.scene_table.specs.Runs.{number_after}
use Rattle.scene_table.proofs.Fits.{part_fits, three_zipped}
use Rattle.scene_table.proofs.series.vector_after.Goals as goal

pub number_after-requires : goal.number_after-requires
number_after-requires c =
    let l : length c.args.base ≡ 3 = search rules in
    let m : length c.args.by ≡ 3 = search rules in
    let b : FitsSigned w64 (get_or c.args.base 0 (pos 0)) = search rules in
    let d : FitsSigned w64 (get_or c.args.by 0 (pos 0)) = search rules in
    part_fits c.args.base c.args.by c.args.turns _ _ _ 0 (omega arith) (omega arith) (to_z-of_z w64 _ b) (to_z-of_z w64 _ d) (to_z-of_z w64 _ c.ranges.turns) c.requires

pub number_after-requires-2 : goal.number_after-requires-2
number_after-requires-2 c =
    let l : length c.args.base ≡ 3 = search rules in
    let m : length c.args.by ≡ 3 = search rules in
    let b : FitsSigned w64 (get_or c.args.base 1 (pos 0)) = search rules in
    let d : FitsSigned w64 (get_or c.args.by 1 (pos 0)) = search rules in
    part_fits c.args.base c.args.by c.args.turns _ _ _ 1 (omega arith) (omega arith) (to_z-of_z w64 _ b) (to_z-of_z w64 _ d) (to_z-of_z w64 _ c.ranges.turns) c.requires

pub number_after-requires-3 : goal.number_after-requires-3
number_after-requires-3 c =
    let l : length c.args.base ≡ 3 = search rules in
    let m : length c.args.by ≡ 3 = search rules in
    let b : FitsSigned w64 (get_or c.args.base 2 (pos 0)) = search rules in
    let d : FitsSigned w64 (get_or c.args.by 2 (pos 0)) = search rules in
    part_fits c.args.base c.args.by c.args.turns _ _ _ 2 (omega arith) (omega arith) (to_z-of_z w64 _ b) (to_z-of_z w64 _ d) (to_z-of_z w64 _ c.ranges.turns) c.requires

pub returns : goal.returns
returns c =
    let l : length c.args.base ≡ 3 = search rules in
    let m : length c.args.by ≡ 3 = search rules in
    let b0 : FitsSigned w64 (get_or c.args.base 0 (pos 0)) = search rules in
    let d0 : FitsSigned w64 (get_or c.args.by 0 (pos 0)) = search rules in
    let b1 : FitsSigned w64 (get_or c.args.base 1 (pos 0)) = search rules in
    let d1 : FitsSigned w64 (get_or c.args.by 1 (pos 0)) = search rules in
    let b2 : FitsSigned w64 (get_or c.args.base 2 (pos 0)) = search rules in
    let d2 : FitsSigned w64 (get_or c.args.by 2 (pos 0)) = search rules in
    let x0 = to_z-of_z w64 c.number_after.result (record { sfits = c.number_after.type_inv }) ∙ c.number_after.ensures ∙ (λ i. number_after (to_z-of_z w64 _ b0 i) (to_z-of_z w64 _ d0 i) (to_z-of_z w64 _ c.ranges.turns i)) in
    let x1 = to_z-of_z w64 c.number_after-2.result (record { sfits = c.number_after-2.type_inv }) ∙ c.number_after-2.ensures ∙ (λ i. number_after (to_z-of_z w64 _ b1 i) (to_z-of_z w64 _ d1 i) (to_z-of_z w64 _ c.ranges.turns i)) in
    let x2 = to_z-of_z w64 c.number_after-3.result (record { sfits = c.number_after-3.type_inv }) ∙ c.number_after-3.ensures ∙ (λ i. number_after (to_z-of_z w64 _ b2 i) (to_z-of_z w64 _ d2 i) (to_z-of_z w64 _ c.ranges.turns i)) in
    (λ i. x0 i ∷ x1 i ∷ x2 i ∷ []) ∙ three_zipped (λ b d. number_after b d c.args.turns) c.args.base c.args.by (pos 0) (pos 0) l m
