use Rattle.std.proofs.Common.{sym, ◌∙◌}
use Rattle.scene_json_tokens.proofs.CellsTaken.{entity_taken, if_said}
use Rattle.scene_json_tokens.proofs.values.take_entity.Goals as goal

pub returns : goal.returns
returns c =
    if_said c.read_entity.result (λ e said. entity_taken c.args.reader.now c.take_string.new.reader c.in_ok-text.text.now e c.in_ok-text.ensures
    (sym c.read_entity.ensures ∙ said))
