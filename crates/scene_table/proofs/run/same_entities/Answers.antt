use Rattle.std.proofs.lemmas.Slice.Eq.{slice_eq-Decides}
use Rattle.scene_table.proofs.EntityTests.{entity_decides}
use Rattle.scene_table.proofs.run.same_entities.Goals as goal

pub returns : goal.returns
returns c = slice_eq-Decides entity_decides _ _ _ c.eq.ensures
