use Rattle.std.proofs.Common.{◌≡◌, ◌++◌, drop, string_bytes}
use Rattle.std.specs.Prelude.{false}
use Rattle.scene_json_forms.specs.Text.{count_text}
use Rattle.scene_json_forms.specs.Printing.{rest_text}
use Rattle.scene_json_forms.proofs.write_values.write_counts.Given as goal

abbrev pub invariant-numbers : goal.invariant-numbers
invariant-numbers l = string_bytes l.out ++ rest_text l.later count_text (drop l.n-index l.numbers)
    ≡ string_bytes l.initial.out ++ rest_text false count_text l.numbers
