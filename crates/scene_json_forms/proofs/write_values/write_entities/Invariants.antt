use Rattle.std.proofs.Common.{◌≡◌, ◌++◌, drop, string_bytes}
use Rattle.std.specs.Prelude.{false}
use Rattle.scene_json_forms.specs.Text.{entity_json}
use Rattle.scene_json_forms.specs.Printing.{rest_text}
use Rattle.scene_json_forms.proofs.write_values.write_entities.Given as goal

abbrev pub invariant-entities : goal.invariant-entities
invariant-entities l = string_bytes l.out ++ rest_text l.later entity_json (drop l.entity-index l.entities)
    ≡ string_bytes l.initial.out ++ rest_text false entity_json l.entities
