use Rattle.std.proofs.Common.{refl, sym, subst}
use Rattle.scene_world.specs.Room.{IsWider}
use Rattle.scene_world.proofs.Room.{wider_wider}
use Rattle.scene_undo.proofs.WholeFrames.{cancels, done_with, kept_can, kept_is, kept_undoes}
use Rattle.scene_undo.proofs.editor.frame.Goals as goal

pub cancel-requires : goal.cancel-requires
cancel-requires g c =
    cancels c.args.recorder.now.world c.begin.new.self c.apply.new.recorder c.world_is_sound.ensures.valid c.in_default.ensures.answer c.in_default.ensures.frame c.apply.ensures.opening

pub returns-in-Ok-clause-done : goal.returns-in-Ok-clause-done
returns-in-Ok-clause-done g c =
    done_with (g.F.FrameOnce.does c.args.asked) c.args.recorder.now.world c.begin.new.self.world c.in_default.ensures.answer
    c.in-Ok.made.entities.items c.apply.new.recorder.world c.apply.new.recorder.world refl c.in-Ok.ensures.world

pub returns-in-Ok-clause-noted : goal.returns-in-Ok-clause-noted
returns-in-Ok-clause-noted g c =
    let v = c.apply.new.recorder in
    kept_is c.args.recorder.now.world c.begin.new.self v c.world_is_sound.ensures.valid c.in_default.ensures.answer c.in_default.ensures.frame c.apply.ensures.opening
    v.frame v.world refl refl
    (g.F.FrameOnce.plays c.args.asked) c.in-Ok.made.entities.items c.in-Ok.ensures.noted

pub returns-in-Ok-clause-can : goal.returns-in-Ok-clause-can
returns-in-Ok-clause-can g c =
    let v = c.apply.new.recorder in
    kept_can c.args.recorder.now.world c.begin.new.self v c.world_is_sound.ensures.valid c.in_default.ensures.answer c.in_default.ensures.frame c.apply.ensures.opening
    v.frame v.world refl refl

pub returns-in-Ok-clause-back : goal.returns-in-Ok-clause-back
returns-in-Ok-clause-back g c =
    let v = c.apply.new.recorder in
    kept_undoes c.args.recorder.now.world c.begin.new.self v c.world_is_sound.ensures.valid c.in_default.ensures.answer c.in_default.ensures.frame c.apply.ensures.opening
    v.frame v.world refl refl

pub returns-in-Ok-clause-wide : goal.returns-in-Ok-clause-wide
returns-in-Ok-clause-wide g c =
    wider_wider c.args.recorder.now.room c.begin.new.self.room c.apply.new.recorder.room c.begin.ensures.wide c.apply.ensures.wide

pub returns-in-Err-apply-clause-wide : goal.returns-in-Err-apply-clause-wide
returns-in-Err-apply-clause-wide g c =
    subst (IsWider c.args.recorder.now.room) (sym c.cancel.ensures.room)
    (wider_wider c.args.recorder.now.room c.begin.new.self.room c.apply.new.recorder.room c.begin.ensures.wide c.apply.ensures.wide)
