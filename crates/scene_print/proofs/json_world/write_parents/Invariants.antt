use Rattle.std.proofs.Common.{◌≡◌, ◌++◌, drop, string_bytes}
use Rattle.std.specs.Prelude.{false}
use Rattle.scene_print.specs.JsonSteps.{left_text}
use Rattle.scene_print.specs.JsonShown.{children_member}
use Rattle.scene_print.proofs.json_world.write_parents.Given as goal

abbrev pub invariant-parents : goal.invariant-parents
invariant-parents l = string_bytes l.out ++ left_text l.later (children_member l.links.forest) (drop l.parent-index l.parents)
    ≡ string_bytes l.initial.out ++ left_text false (children_member l.links.forest) l.parents
