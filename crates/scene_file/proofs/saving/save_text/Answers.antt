use Rattle.std.proofs.Common.{string_bytes}
use Rattle.scene_file.proofs.SavedBack.{text_loads}
use Rattle.scene_file.proofs.saving.save_text.Goals as goal

pub returns-clause-loads : goal.returns-clause-loads
returns-clause-loads c = text_loads string_bytes c.args.world.now.world c.tick-tick.ensures.valid c.short_text.result c.short_text.ensures.text
