use Rattle.std.proofs.Common.{length, map, take}
use Rattle.scene_c.specs.OpenScene.{text_in}
use Rattle.scene_c.proofs.JoinedLaws.{AreWritten}
use Rattle.scene_c.proofs.text_columns.fill_texts.Given as goal

abbrev pub invariant-texts : goal.invariant-texts
invariant-texts l = AreWritten l.at l.size (take (length l.fn.ends) (map text_in l.fn.values)) l.fn.ends l.ends l.fn.bytes l.bytes
