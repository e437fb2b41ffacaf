use Rattle.std.proofs.Common.{sym, ◌∙◌}
use Rattle.scene_kinds.proofs.EntityReading.{says_entity}
use Rattle.scene_kinds.proofs.entity.EntityFromStr.from_str.Goals as goal

pub returns : goal.returns
returns c = says_entity c.args.text.now _ (sym c.ok_or.ensures.ok_part ∙ c.read_entity.ensures)
