-- Closures that run phases.
use Rattle.std.specs.Prelude.{◌≡◌, ◌≢◌, List, Result, Err, IfOk, IfErr}
use denote.Ref.{Bor}
use denote.Param.Members.{Shared}
use Rattle.std.specs.Fn.{FnReturns}
use Rattle.scene_kinds.specs.Answers.{refusal_of}
use Rattle.scene_kinds.specs.declared.fault.Fault.TheVariants.{NoMemory}
use Rattle.scene_kinds.specs.declared.refusal.Refusal.{Refusal}
use Rattle.scene_model.specs.World.{World}
use Rattle.scene_model.specs.Perform.{perform}
use Rattle.scene_world.specs.Room.{Housed}
use Rattle.scene_systems.specs.declared.system_rule.SystemRule.{SystemRule}
use Rattle.scene_schedule.specs.declared.output.PhaseOutput.{PhaseOutput}
use Rattle.scene_schedule.specs.Output.{IsOutputOf}
use Rattle.scene_schedule.specs.Sound.{IsSoundPhase}
use Rattle.scene_schedule.specs.Systems.{systems_from}

-- what a call answered is what the systems make of the world, or their refusal, or no memory was found
pub record IsRunOf (w : World) (rules : List SystemRule) (r : Result PhaseOutput Refusal) : Type 0 where
  pub output : IfOk r (λ output. IsOutputOf output w rules)
  pub refused : IfErr r (λ r. r ≢ refusal_of NoMemory → systems_from perform (λ v. v) 0 rules w ≡ Err r)

-- a closure may be called with a world and the systems of a sound phase, and answers so
pub record RunsPhases {F : Type 0} (g : Shared F (Bor Housed × (Bor (List SystemRule) × Unit {0})) (Result PhaseOutput Refusal)) (f : F) : Type 0 where
  pub ready : (world : Bor Housed) (rules : Bor (List SystemRule)) → IsSoundPhase world.now.world.schema rules.now → g.pre f (world, (rules, tt))
  pub gives : (world : Bor Housed) (rules : Bor (List SystemRule)) (r : Result PhaseOutput Refusal) → IsSoundPhase world.now.world.schema rules.now
      → FnReturns g f (world, (rules, tt)) r → IsRunOf world.now.world rules.now r
