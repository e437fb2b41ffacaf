use Rattle.scene_world.specs.Stage.{act}
use Rattle.scene_deltas.specs.Notes.{deltas_of}
use Rattle.scene_schedule.specs.Systems.{advance_of}
use Rattle.scene_undo.specs.Editor.{IsRecordOf}
use Rattle.scene_undo.specs.Size.{advance_size}
use Rattle.scene_undo.proofs.Sizes.{advances_make_few, found_within}
use Rattle.scene_undo.proofs.editor.Editor.advance.Goals as goal

pub returns-clause-few : goal.returns-clause-few
returns-clause-few g c =
    let schedule = c.args.schedule.now in
    let w = c.args.self.now.world in
    let v = c.run.new.self.world in
    found_within (advance_size schedule w) c.args.self.now.depth c.run.result (λ m r. IsRecordOf (advance_of (act deltas_of) (λ t. t.world) schedule) w v m.entities.items r)
    c.run.new.self.past c.args.self.now.past c.run.new.self.future (λ m r. advances_make_few schedule w v m.entities.items r) c.run.ensures.records
