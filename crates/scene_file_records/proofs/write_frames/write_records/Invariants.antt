use Rattle.std.proofs.Common.{◌≡◌, ◌++◌, drop, string_bytes}
use Rattle.std.specs.Prelude.{false}
use Rattle.scene_json_forms.specs.Printing.{rest_text}
use Rattle.scene_file_records.specs.Text.{record_text}
use Rattle.scene_file_records.proofs.write_frames.write_records.Given as goal

abbrev pub invariant-records : goal.invariant-records
invariant-records l = string_bytes l.out ++ rest_text l.later record_text (drop l.frame-index l.records)
    ≡ string_bytes l.initial.out ++ rest_text false record_text l.records
