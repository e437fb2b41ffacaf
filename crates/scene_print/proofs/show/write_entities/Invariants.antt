use Rattle.std.proofs.Common.{◌≡◌, ◌++◌, drop, string_bytes}
use Rattle.scene_print.specs.Shown.{entities_text}
use Rattle.scene_print.proofs.show.write_entities.Given as goal

abbrev pub invariant-entities : goal.invariant-entities
invariant-entities l = string_bytes l.out ++ entities_text (drop l.entity-index l.entities) ≡ string_bytes l.initial.out ++ entities_text l.entities
