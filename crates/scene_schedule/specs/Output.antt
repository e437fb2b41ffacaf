-- What a phase made, and its rows once they are written.
use Rattle.std.specs.Prelude.{◌≡◌, List, Ok, map}
use Rattle.scene_kinds.specs.declared.entity.Entity.{Entity}
use Rattle.scene_model.specs.World.{World}
use Rattle.scene_model.specs.Perform.{perform}
use Rattle.scene_machine.specs.Frame.{queues_from}
use Rattle.scene_world.specs.Stage.{Staged, Note, act}
use Rattle.scene_systems.specs.declared.system_rule.SystemRule.{SystemRule}
use Rattle.scene_pass.specs.declared.row_change.RowChange.{RowChange}
use Rattle.scene_schedule.specs.Systems.{SystemOutput, systems_from, writes_of}
use Rattle.scene_schedule.specs.declared.output.PhaseOutput.{PhaseOutput}

-- the rows and the queues of the systems, which run one after another on a world and are all accepted
pub record IsOutputOf (output : PhaseOutput) (w : World) (rules : List SystemRule) : Type 0 where
  pub outs : List SystemOutput
  pub after : World
  pub ran : systems_from perform (λ v. v) 0 rules w ≡ Ok (outs, after)
  pub rows : output.rows.items ≡ map (λ out. out.rows) outs
  pub queues : map (λ q. q.commands) output.queues.items ≡ map (λ out. out.commands) outs

-- the cells of the rows are written on a stage, system by system
pub record AreWritten {N : Type 0} (note : Note N) (rows : List (List RowChange)) (old new : Staged N) : Type 0 where
  pub spawned : List Entity
  pub wrote : queues_from (act note) 0 (map writes_of rows) old ≡ Ok (spawned, new)
