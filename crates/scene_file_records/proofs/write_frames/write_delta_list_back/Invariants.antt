use Rattle.std.proofs.Common.{◌≡◌, ◌++◌, length, reverse, string_bytes}
use Rattle.std.specs.Prelude.{false}
use Rattle.scene_json_forms.specs.Printing.{rest_text}
use Rattle.scene_file_records.specs.Text.{delta_text}
use Rattle.scene_file_records.proofs.write_frames.write_delta_list_back.Given as goal

abbrev pub invariant-deltas : goal.invariant-deltas
invariant-deltas l = string_bytes l.out ++ rest_text l.later delta_text (reverse l.left)
    ≡ string_bytes l.initial.out ++ rest_text false delta_text (reverse l.deltas.items)

abbrev pub decreases-deltas : goal.decreases-deltas
decreases-deltas l = length l.left
