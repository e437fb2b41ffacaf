use Rattle.std.proofs.Common.{◌≡◌, ◌++◌, string_bytes}
use Rattle.std.specs.Prelude.{false}
use Rattle.scene_json_forms.specs.Printing.{rest_text}
use Rattle.scene_kinds.specs.KindSet.{kinds_in, kinds_left}
use Rattle.scene_print.specs.JsonShown.{kind_json}
use Rattle.scene_print.proofs.json_rows.write_kinds.Given as goal

abbrev pub invariant-kinds : goal.invariant-kinds
invariant-kinds l = string_bytes l.out ++ rest_text l.later (kind_json l.schema) (kinds_left l.kind-iterator)
    ≡ string_bytes l.initial.out ++ rest_text false (kind_json l.schema) (kinds_in l.mask)
