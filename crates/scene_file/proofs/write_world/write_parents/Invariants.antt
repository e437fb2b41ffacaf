use Rattle.std.proofs.Common.{◌≡◌, ◌++◌, drop, string_bytes}
use Rattle.std.specs.Prelude.{false}
use Rattle.scene_links.specs.Forest.{children_of}
use Rattle.scene_file.specs.Text.{children_text}
use Rattle.scene_json_forms.specs.Printing.{rest_text}
use Rattle.scene_file.proofs.write_world.write_parents.Given as goal

abbrev pub invariant-parents : goal.invariant-parents
invariant-parents l = string_bytes l.out ++ rest_text l.later (λ p. children_text (p, children_of l.links.forest p))
    (drop l.parent-index l.parents) ≡ string_bytes l.initial.out ++ rest_text false (λ p. children_text (p, children_of l.links.forest p))
    l.parents
