use Rattle.std.proofs.Common.{refl, arith}
use Rattle.scene_kept_lines.proofs.Played.{played_more}
use Rattle.scene_kept_lines.proofs.play_again.play_noted.Goals as goal

pub lines-preserved : goal.lines-preserved
lines-preserved g c = (
  played_more _ _ _ _ _ _ _ _ _ c.lines.invariant.0 c.first_line.ensures.first refl c.in-Ok.ensures,
  omega (arith, c.lines.invariant.1, c.first_line.ensures.shorter),
)
