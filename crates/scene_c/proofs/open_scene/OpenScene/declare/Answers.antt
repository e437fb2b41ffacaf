use Rattle.std.proofs.Common.{ap, arith, refl}
use Rattle.std.specs.Prelude.{string_bytes}
use Rattle.scene_c.proofs.KindLaws.{declared_played, refused_played, wanting_played}
use Rattle.scene_c.proofs.open_scene.OpenScene.declare.Goals as goal

pub returns-in-Ok-clause-played : goal.returns-in-Ok-clause-played
returns-in-Ok-clause-played c =
    declared_played (string_bytes c.args.name, c.args.shape) c.args.self.now _ c.in-Ok.number c.in-Ok.ensures refl c.clear.ensures.bytes

pub returns-in-NoMemory-clause-played : goal.returns-in-NoMemory-clause-played
returns-in-NoMemory-clause-played c =
    wanting_played (string_bytes c.args.name, c.args.shape) c.args.self.now _ c.in-Err.ensures.0 (refl, refl)

pub returns-in_default : goal.returns-in_default
returns-in_default c = record {
  played = refused_played (string_bytes c.args.name, c.args.shape) c.args.self.now _ c.in-Err.refusal c.in-Err.ensures
      (λ is. c.in_default.not-NoMemory (ap (λ r. r.fault) is)) refl c.clear-in_default.ensures.bytes;
  told = λ is. omega (arith, is);
  cells = refl;
  number = refl;
}
