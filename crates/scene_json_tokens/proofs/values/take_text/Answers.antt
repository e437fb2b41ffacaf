use Rattle.std.proofs.Common.{◌≡◌, subst, rules}
use Rattle.scene_kinds.specs.declared.shape.Shape.TheVariants as shape
use Rattle.scene_kinds.specs.declared.value.Value.TheVariants as value
use Rattle.scene_json_forms.specs.Walk.{value_at}
use Rattle.scene_json_tokens.specs.Taken.{IsTaken}
use Rattle.scene_json_tokens.proofs.CellsTaken.{text_taken}
use Rattle.scene_json_tokens.proofs.values.take_text.Goals as goal

pub returns : goal.returns
returns c =
    let same : c.in_ok-text.text.now ≡ c.from.result = search rules in
    subst (λ s. IsTaken (value_at shape.Text) 1 c.args.reader.now c.take_string.new.reader (value.Text s)) same
    (text_taken c.args.reader.now c.take_string.new.reader c.in_ok-text.text.now c.in_ok-text.ensures)
