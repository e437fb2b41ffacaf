use Rattle.scene_queue.specs.Frames.{frame_of}
use Rattle.scene_journal.specs.Frames.{frame_record, size}
use Rattle.scene_journal.proofs.FrameLaws.{frames_make_few}
use Rattle.scene_undo.proofs.Sizes.{kept_within}
use Rattle.scene_undo.proofs.WholeFrames.{record_kept}
use Rattle.scene_undo.proofs.editor.Editor.submit.Goals as goal

pub returns-clause-records : goal.returns-clause-records
returns-clause-records c =
    record_kept (frame_of c.args.queues.now) c.args.self.now.world c.run.new.self.world c.args.self.now.depth c.run.new.self.past c.args.self.now.past c.run.new.self.future
    c.run.result c.run.ensures.records

pub returns-clause-few : goal.returns-clause-few
returns-clause-few c =
    let queues = frame_of c.args.queues.now in
    let w = c.args.self.now.world in
    kept_within (size queues w) c.args.self.now.depth c.run.result (frame_record queues w) c.run.new.self.past c.args.self.now.past c.run.new.self.future (frames_make_few queues w)
    (record_kept queues w c.run.new.self.world c.args.self.now.depth c.run.new.self.past c.args.self.now.past c.run.new.self.future c.run.result c.run.ensures.records)
