use Rattle.std.proofs.Common.{◌≡◌, ◌∙◌, ◌+ℤ◌, pos, sym, rules, length, get_or, true, FitsSigned, w64}
use Rattle.std.proofs.lemmas.Int.{to_z-of_z}
use Rattle.scene_kinds.specs.Ranges.{is_i64}
use Rattle.scene_table.proofs.FirstSums.{parts_fit}
use Rattle.scene_table.proofs.Walks.{and_true}
use Rattle.scene_table.proofs.sums.vectors_fit.Goals as goal

pub returns : goal.returns
returns c =
    let l : length c.args.vector ≡ 3 = search rules in
    let m : length c.args.by ≡ 3 = search rules in
    let b0 : FitsSigned w64 (get_or c.args.vector 0 (pos 0)) = search rules in
    let d0 : FitsSigned w64 (get_or c.args.by 0 (pos 0)) = search rules in
    let x0 = c.fits.ensures ∙ (λ i. is_i64 (to_z-of_z w64 _ b0 i +ℤ to_z-of_z w64 _ d0 i)) in
    let b1 : FitsSigned w64 (get_or c.args.vector 1 (pos 0)) = search rules in
    let d1 : FitsSigned w64 (get_or c.args.by 1 (pos 0)) = search rules in
    let x1 = c.fits-2.ensures ∙ (λ i. is_i64 (to_z-of_z w64 _ b1 i +ℤ to_z-of_z w64 _ d1 i)) in
    let b2 : FitsSigned w64 (get_or c.args.vector 2 (pos 0)) = search rules in
    let d2 : FitsSigned w64 (get_or c.args.by 2 (pos 0)) = search rules in
    let x2 = c.fits-3.ensures ∙ (λ i. is_i64 (to_z-of_z w64 _ b2 i +ℤ to_z-of_z w64 _ d2 i)) in
    and_true c.fits-3.result ∙ parts_fit c.args.vector c.args.by true true c.fits-3.result l m (sym c.if-not-fits.false ∙ x0) (sym c.if-not-fits-2.false ∙ x1) x2
