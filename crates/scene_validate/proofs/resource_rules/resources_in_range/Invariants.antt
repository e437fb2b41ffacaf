use Rattle.std.proofs.Common.{◌≡◌, true, take}
use Rattle.std.specs.List.{list_all}
use Rattle.scene_kinds.specs.Ranges.{is_in_range}
use Rattle.scene_validate.specs.Seen.{named_seen}
use Rattle.scene_validate.proofs.resource_rules.resources_in_range.Given as goal

abbrev pub invariant-loop-resource : goal.invariant-loop-resource
invariant-loop-resource l = list_all (λ r. is_in_range r.1.value) (named_seen (take l.resource-index l.resources)) ≡ true
