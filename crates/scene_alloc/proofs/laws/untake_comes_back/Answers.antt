use Rattle.scene_alloc.proofs.Moves.{take-untake, takes_new_slot-untake, IsSlots-untake}
use Rattle.scene_alloc.proofs.SlotParts.{untake}
use Rattle.scene_alloc.proofs.laws.untake_comes_back.Goals as goal

pub returns-clause-state : goal.returns-clause-state
returns-clause-state c = λ s e fresh v can. take-untake s e fresh v ((untake s e fresh).0 can)

pub returns-clause-fresh : goal.returns-clause-fresh
returns-clause-fresh c = λ s e fresh can. takes_new_slot-untake s e fresh ((untake s e fresh).0 can)

pub returns-clause-sound : goal.returns-clause-sound
returns-clause-sound c = λ s e fresh v can. IsSlots-untake s e fresh v ((untake s e fresh).0 can)
