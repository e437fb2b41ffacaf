use Rattle.std.proofs.Common.{◌≡◌, ◌++◌, drop, string_bytes}
use Rattle.std.specs.Prelude.{false}
use Rattle.scene_json_forms.specs.Printing.{rest_text}
use Rattle.scene_print.specs.JsonAsked.{table_head}
use Rattle.scene_print.proofs.json_asked.write_table_heads.Given as goal

abbrev pub invariant-masks : goal.invariant-masks
invariant-masks l = string_bytes l.out ++ rest_text l.later (table_head l.world.world) (drop l.mask-index l.masks)
    ≡ string_bytes l.initial.out ++ rest_text false (table_head l.world.world) l.masks
