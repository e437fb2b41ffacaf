use Rattle.std.proofs.Common.{Result, Ok}
use Rattle.scene_kinds.specs.declared.refusal.Refusal.{Refusal}
use Rattle.scene_queue.specs.Frames.{frame_of, lone_frame}
use Rattle.scene_journal.specs.Frames.{frame_record, size}
use Rattle.scene_journal.proofs.FrameLaws.{frames_make_few}
use Rattle.scene_undo.specs.declared.made.Made.{Made}
use Rattle.scene_undo.proofs.Sizes.{kept_within}
use Rattle.scene_undo.proofs.WholeFrames.{record_kept}
use Rattle.scene_undo.proofs.editor.Editor.submit_one.Goals as goal

pub returns-in-Ok-clause-records : goal.returns-in-Ok-clause-records
returns-in-Ok-clause-records c =
    record_kept (frame_of (lone_frame c.args.command)) c.args.self.now.world c.run_once.new.self.world c.args.self.now.depth c.run_once.new.self.past c.args.self.now.past
    c.run_once.new.self.future (Ok c.in-Ok.made) c.in-Ok.ensures.records

pub returns-in-Ok-clause-few : goal.returns-in-Ok-clause-few
returns-in-Ok-clause-few c =
    let queues = frame_of (lone_frame c.args.command) in
    let w = c.args.self.now.world in
    let made : Result Made Refusal = Ok c.in-Ok.made in
    kept_within (size queues w) c.args.self.now.depth made (frame_record queues w) c.run_once.new.self.past c.args.self.now.past c.run_once.new.self.future (frames_make_few queues w)
    (record_kept queues w c.run_once.new.self.world c.args.self.now.depth c.run_once.new.self.past c.args.self.now.past c.run_once.new.self.future made c.in-Ok.ensures.records)
