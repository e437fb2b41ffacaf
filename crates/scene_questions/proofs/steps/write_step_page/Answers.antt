use Rattle.std.proofs.Common.{List, string_bytes}
use Rattle.std.proofs.lemmas.List.{drop-take}
use Rattle.serde_json.specs.Written.{compact_text}
use Rattle.scene_journal.specs.Records.{Record}
use Rattle.scene_json_forms.specs.Text.{list_text}
use Rattle.scene_json_forms.proofs.ListsWritten.{seen_as, so}
use Rattle.scene_questions.specs.Steps.{records_of, step_head}
use Rattle.scene_questions.proofs.steps.write_step_page.Goals as goal

pub returns : goal.returns
returns c = so c.write_step_heads.result c.write_step_heads.ensures (λ wrote.
    seen_as (λ (rs : List Record). compact_text (list_text step_head rs)) (string_bytes c.args.out.now) _ wrote
    (drop-take c.args.page.from c.args.page.count (records_of c.args.side c.args.editor.now)))
