use Rattle.std.proofs.Common.{length}
use Rattle.scene_deltas.proofs.delta_list.DeltasDebug.fmt.Given as goal

abbrev pub decreases-loop-delta : goal.decreases-loop-delta
decreases-loop-delta g l = length l.left
