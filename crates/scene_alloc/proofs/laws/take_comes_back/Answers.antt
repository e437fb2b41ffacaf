use Rattle.scene_alloc.proofs.Moves.{untake-take, CanUntake-take, IsSlots-take}
use Rattle.scene_alloc.proofs.SlotParts.{untake}
use Rattle.scene_alloc.proofs.laws.take_comes_back.Goals as goal

pub returns-clause-state : goal.returns-clause-state
returns-clause-state c = untake-take

pub returns-clause-condition : goal.returns-clause-condition
returns-clause-condition c = λ s t e v is. (untake t e _).1 (CanUntake-take s t e v is)

pub returns-clause-sound : goal.returns-clause-sound
returns-clause-sound c = IsSlots-take
