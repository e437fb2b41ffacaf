use Rattle.std.proofs.Common.{◌≡◌, drop}
use Rattle.scene_pass.specs.Changes.{first_fault}
use Rattle.scene_pass.proofs.fault.first_fault.Given as goal

abbrev pub invariant-changes : goal.invariant-changes
invariant-changes l = first_fault l.changes ≡ first_fault (drop l.change-index l.changes)
