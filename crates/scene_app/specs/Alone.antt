-- How a run without a lock ends.
use Rattle.std.specs.Prelude.{ℕ, ◌≡◌, List, length, take, Option, IfSome}
use Rattle.scene_app.specs.declared.alone.AloneEnd.{AloneEnd}
use Rattle.scene_interpreter.specs.Printed.{bad_lines, owner_after}

-- a run of a script ends so, where the script is known
pub record IsAloneEndOf (script : Option (List ℕ)) (end : AloneEnd) : Type 0 where
  -- its bad lines are counted
  pub count : IfSome script (λ s. end.bad.count ≡ length (bad_lines s))
  -- the first ten of them are told
  pub first : IfSome script (λ s. end.bad.first.items ≡ take 10 (bad_lines s))
  -- the sessions are those that it leaves
  pub owner : IfSome script (λ s. end.owner ≡ owner_after s)
