use Rattle.std.proofs.Common.{◌∙◌, ap, nat_lt}
use Rattle.std.specs.Prelude.{◌||◌, ◌&&◌}
use Rattle.scene_table.specs.RowStep.{is_written}
use Rattle.scene_table.specs.Runs.{is_read}
use Rattle.scene_table.proofs.ApartSteps.{kinds_more, kind_of_either}
use Rattle.scene_table.proofs.run.Run.touched.Goals as goal

pub returns : goal.returns
returns c k =
    let steps = c.as_slice-steps.ensures.value ∙ ap (λ r. r.steps) c.self.view_is in
    kind_of_either c.written_by.result c.read_by.result k
    ∙ (λ i. c.written_by.ensures k i || c.read_by.ensures k i)
    ∙ kinds_more (is_written c.as_slice-steps.result.now k) (is_read c.as_slice-steps.result.now k) (nat_lt k 64)
    ∙ (λ i. (is_written (steps i) k || is_read (steps i) k) && nat_lt k 64)
