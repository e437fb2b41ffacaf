use Rattle.std.proofs.Common.{◌≡◌, length}
use Rattle.scene_print.specs.KindTexts.{AreTextsOf}
use Rattle.scene_print.proofs.kind_texts.KindTexts.all.Given as goal

abbrev pub invariant-kinds : goal.invariant-kinds
invariant-kinds l = record { count : length l.texts.items ≡ l.kind; texts : AreTextsOf l.schema l.texts.items }
