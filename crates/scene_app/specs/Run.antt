-- How a run ends.
use Rattle.std.specs.Prelude.{ℕ, ◌≡◌, List, length, take, Option, IfSome}
use Rattle.scene_session.specs.Owner.{OwnerState}
use Rattle.scene_session.specs.Passes.{AreOf}
use Rattle.scene_app.specs.declared.run.RunEnd.{RunEnd}
use Rattle.scene_interpreter.specs.Printed.{bad_lines, owner_after}

-- a run of a script ends so, where the script is known
pub record IsEndOf (script : Option (List ℕ)) (end : RunEnd) : Type 0 where
  -- its bad lines are counted
  pub bad : IfSome script (λ s. end.bad_lines ≡ length (bad_lines s))
  -- the first ten of them are told
  pub reports : IfSome script (λ s. end.reports.items ≡ take 10 (bad_lines s))
  -- the lock and the passes are those of the owner that it leaves
  pub passes : IfSome script (λ s. AreOf end.lock end.passes.items (owner_after s))
  -- and of some owner, whatever the script was
  pub eight : (owner : OwnerState) × AreOf end.lock end.passes.items owner
