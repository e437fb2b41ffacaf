-- Several undos, or redos, by one call.
use Rattle.std.specs.Prelude.{◌≢◌, ℕ, Option}
use Rattle.scene_session.specs.declared.way.Way.{Way}
use Rattle.scene_interpreter.specs.Turns.{turn_said}
use Rattle.scene_c.specs.Calls.{Plays, untold}
use Rattle.scene_c.specs.declared.held_scene.HeldScene.{HeldScene}

-- so many frames along a way, all or none, without a text of the answer: so it isn't done but untold
abbrev pub Turns : Way → ℕ → Option HeldScene → Option HeldScene → ℕ → Type 0
Turns way count old new code = Plays (λ p. turn_said p way count) untold old new code × (code ≢ 5)
