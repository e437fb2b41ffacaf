use Rattle.scene_table.proofs.LiveRuns.{others_stay_live, turn_leaves_live}
use Rattle.scene_table.proofs.run_laws.runs_stay_live.Goals as goal

pub returns-clause-own : goal.returns-clause-own
returns-clause-own c = turn_leaves_live

pub returns-clause-others : goal.returns-clause-others
returns-clause-others c = others_stay_live
