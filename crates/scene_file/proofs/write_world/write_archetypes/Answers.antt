use Rattle.std.proofs.Common.{ap, ◌∙◌, ◌++◌, string_bytes}
use Rattle.serde_json.specs.Written.{compact_text}
use Rattle.scene_json_forms.specs.Text.{list_text}
use Rattle.scene_file.specs.Printing.{table_json}
use Rattle.scene_json_forms.proofs.ListsWritten.{so}
use Rattle.scene_file.proofs.Found.{tables_found}
use Rattle.scene_file.proofs.write_world.write_archetypes.Goals as goal

pub returns : goal.returns
returns c = so c.write_tables.result c.write_tables.ensures (λ h.
    h ∙ ap (λ ts. string_bytes c.args.out.now ++ compact_text (list_text (λ t. table_json (t.now.mask, t.now.rows)) ts)) c.as_slice.ensures.value
    ∙ ap (λ t. string_bytes c.args.out.now ++ compact_text t)
    (tables_found (λ t. t.now.mask) (λ t. t.now.rows) c.in_ok-tables.tables.items c.args.world.now.world.tables c.in_ok-tables.ensures.masks
    c.in_ok-tables.ensures.rows))
