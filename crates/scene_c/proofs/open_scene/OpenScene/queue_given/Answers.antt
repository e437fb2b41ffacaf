use Rattle.std.proofs.Common.{ap, arith, refl, subst}
use Rattle.scene_interpreter.specs.Interpreter.{interpreter_of}
use Rattle.scene_interpreter.specs.WholeFrame.{IsSpawnQueued}
use Rattle.scene_c.proofs.QueuedLaws.{queued_played, refused_played}
use Rattle.scene_c.proofs.open_scene.OpenScene.queue_given.Goals as goal

pub returns-in-Some-Ok-clause-played : goal.returns-in-Some-Ok-clause-played
returns-in-Some-Ok-clause-played c =
    queued_played c.args.self.now _ c.args.components c.in-Some-Ok.target
    (subst (λ r. IsSpawnQueued (interpreter_of c.args.self.now.interpreter) (interpreter_of c.queue_spawn.new.self) c.args.components r)
    c.in-Some-Ok.field-0-is c.in-Some-Ok.ensures.some)
    refl c.clear.ensures.bytes

pub returns-in_default : goal.returns-in_default
returns-in_default c = record {
  played = refused_played c.args.self.now _ c.args.components c.in-Some-Err.refusal
      (subst (λ r. IsSpawnQueued (interpreter_of c.args.self.now.interpreter) (interpreter_of c.queue_spawn.new.self) c.args.components r)
      c.in-Some-Err.field-0-is c.in-Some-Err.ensures.some)
      (λ is. c.in_default.not-NoMemory (ap (λ r. r.fault) is)) refl c.clear-in_default.ensures.bytes;
  told = λ is. omega (arith, is);
  cells = refl;
  spawned = refl;
}
