use Rattle.std.proofs.Common.{refl}
use Rattle.serde_json.proofs.OnLiterals.{serde_json_on_literals}
use Rattle.scene_json.specs.NodeData.{seen}
use Rattle.scene_json.proofs.examples.worked_texts.Goals as goal

pub returns-clause-lists : goal.returns-clause-lists
unfolding serde_json_on_literals seen
returns-clause-lists c = (refl, refl, refl, refl)

pub returns-clause-objects : goal.returns-clause-objects
unfolding serde_json_on_literals
returns-clause-objects c = (refl, refl, refl, refl, refl)

pub returns-clause-refused : goal.returns-clause-refused
unfolding serde_json_on_literals
returns-clause-refused c = (refl, refl, refl, refl, refl)
