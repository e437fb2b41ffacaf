use Rattle.std.proofs.Common.{◌≡◌, ◌++◌, string_bytes}
use Rattle.std.specs.Prelude.{false}
use Rattle.scene_kinds.specs.KindSet.{kinds_in, kinds_left}
use Rattle.scene_json_forms.specs.Text.{count_text}
use Rattle.scene_json_forms.specs.Printing.{rest_text}
use Rattle.scene_file.proofs.write_rows.write_kind_set.Given as goal

abbrev pub invariant-numbers : goal.invariant-numbers
invariant-numbers l = string_bytes l.out ++ rest_text l.later count_text (kinds_left l.kind-iterator)
    ≡ string_bytes l.initial.out ++ rest_text false count_text (kinds_in l.mask)
