use Rattle.std.proofs.Common.{◌∙◌, ap, sym, get_or, nat_eq, nat_lt, take, Bool, ℕ}
use Rattle.std.specs.Prelude.{◌||◌, ◌&&◌}
use Rattle.std.specs.List.{list_any}
use Rattle.std.proofs.lemmas.Option.{slice_get-get_or}
use Rattle.scene_kinds.specs.KindSet.{has_kind}
use Rattle.scene_table.specs.declared.row_step.RowStep.{RowStep}
use Rattle.scene_table.specs.declared.row_step.RowStep.TheVariants.{AddVec}
use Rattle.scene_table.specs.Runs.{is_read, read_kinds}
use Rattle.scene_table.proofs.ApartSteps.{any_more, kinds_more, or_false, no_more}
use Rattle.scene_table.proofs.run.read_by.Goals as goal
use Rattle.scene_table.proofs.run.read_by.Goals.{in-AddVec, in-AddInt}

pub loop-step-preserved : goal.loop-step-preserved
loop-step-preserved c k =
    let steps = c.args.steps.now in
    let at = c.loop-step.step-index in
    let step = get_or steps at (AddVec 0 0) in
    let reads : RowStep → Bool = λ s. list_any (λ (kind : ℕ). nat_eq kind k) (read_kinds s) in
    let more = any_more reads steps at step (slice_get-get_or steps at (AddVec 0 0) c.loop-step-test.true) in
    elim c.match-step.branch [
      | in-AddVec w ↦
          ap (λ set. has_kind set k) w.kinds-is
          ∙ w.with_kind-kinds.ensures k
          ∙ (λ i. c.loop-step.invariant k i || (nat_eq w.in-AddVec.by k && nat_lt k 64))
          ∙ kinds_more (is_read (take at steps) k) (nat_eq w.in-AddVec.by k) (nat_lt k 64)
          ∙ ap (λ b. (is_read (take at steps) k || b) && nat_lt k 64) (sym (or_false (nat_eq w.in-AddVec.by k)) ∙ ap reads (sym w.in-AddVec.is))
          ∙ ap (λ b. b && nat_lt k 64) (sym more)
      | in-AddInt w ↦
          ap (λ set. has_kind set k) w.kinds-is
          ∙ c.loop-step.invariant k
          ∙ ap (λ b. b && nat_lt k 64) (no_more (is_read (take at steps) k) (reads step) (ap reads w.in-AddInt.is) ∙ sym more)
    ]
