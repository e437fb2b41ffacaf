use Rattle.std.proofs.Common.{◌≡◌, ◌∙◌, ap, sym, nat_eq}
use Rattle.std.specs.Bool.{Decides}
use Rattle.std.specs.Ordering.{int_eq}
use Rattle.std.proofs.lemmas.Bool.{eqb-true, eq-eqb, and_from}
use Rattle.std.proofs.lemmas.Bool.Decides.{Decides-int_eq}
use Rattle.scene_table.proofs.Walks.{and_left, and_right}
use Rattle.std.proofs.lemmas.Slice.Eq.{slice_eq-Decides}
use Rattle.scene_table.specs.declared.row_step.RowStep.{RowStep}
use Rattle.scene_table.specs.declared.row_step.RowStep.TheVariants.{AddVec, AddInt}
use Rattle.scene_table.specs.contracts.row_step.RowStepPartialEq.TheImpl as equality
use Rattle.scene_table.proofs.run.Run.is_of.Goals as goal

decides : (a b : RowStep) → Decides ((equality.eq-value).it a b) (a ≡ b)
decides (AddVec a b) (AddVec c d) = (
  λ e. λ i. AddVec (eqb-true a c (and_left (nat_eq a c) (nat_eq b d) e) i) (eqb-true b d (and_right (nat_eq a c) (nat_eq b d) e) i),
  λ e. let f : a ≡ c = cc in let g : b ≡ d = cc in and_from (nat_eq a c) (nat_eq b d) (eq-eqb a c f) (eq-eqb b d g),
)
decides (AddVec a b) (AddInt c d) = (λ e. absurd (cc), λ e. absurd (cc))
decides (AddInt a b) (AddVec c d) = (λ e. absurd (cc), λ e. absurd (cc))
decides (AddInt a b) (AddInt c d) = (
  λ e. λ i. AddInt (eqb-true a c (and_left (nat_eq a c) (int_eq b d) e) i) ((Decides-int_eq b d).0 (and_right (nat_eq a c) (int_eq b d) e) i),
  λ e. let f : a ≡ c = cc in let g : b ≡ d = cc in and_from (nat_eq a c) (int_eq b d) (eq-eqb a c f) ((Decides-int_eq b d).1 g),
)

pub returns-then-self-mask : goal.returns-then-self-mask
returns-then-self-mask c =
    let steps = c.as_slice.ensures.value ∙ ap (λ r. r.steps) c.self.view_is in
    let same = slice_eq-Decides decides _ _ _ c.eq.ensures in
    (λ t. (ap (λ r. r.mask) (sym c.self.view_is) ∙ c.if-self-mask.true, sym steps ∙ same.0 t), λ both. same.1 (steps ∙ both.1))
