use Rattle.std.proofs.Common.{All}
use Rattle.std.specs.Prelude.{IfSome, vec_len}
use Rattle.scene_editor.specs.Passes.{IsPassOf}
use Rattle.shared_scene.proofs.show_all_seen.Given as goal

abbrev pub invariant-loop-pass : goal.invariant-loop-pass
invariant-loop-pass g l = All (IsPassOf l.lock) l.passes.items × IfSome l.shown (IsPassOf l.lock)

abbrev pub decreases-loop-pass : goal.decreases-loop-pass
decreases-loop-pass g l = vec_len l.passes
