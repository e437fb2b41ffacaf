use Rattle.std.proofs.Common.{◌≡◌, ◌++◌, drop, string_bytes}
use Rattle.std.specs.Prelude.{false}
use Rattle.scene_json_forms.specs.Printing.{rest_text}
use Rattle.scene_file.specs.Text.{kind_text}
use Rattle.scene_file.proofs.write_world.write_kinds.Given as goal

abbrev pub invariant-kinds : goal.invariant-kinds
invariant-kinds l = string_bytes l.out ++ rest_text l.later kind_text (drop l.kind l.schema)
    ≡ string_bytes l.initial.out ++ rest_text false kind_text l.schema
