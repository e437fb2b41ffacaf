use Rattle.scene_alloc.proofs.Elsewhere.{IsUnused-take, SameElsewhere-take, SameElsewhere-untake, SameElsewhere-release, SameElsewhere-unrelease}
use Rattle.scene_alloc.proofs.SlotParts.{untake, unrelease}
use Rattle.scene_alloc.proofs.laws.moves_change_one_index.Goals as goal

pub returns-clause-unused : goal.returns-clause-unused
returns-clause-unused c = IsUnused-take

pub returns-clause-take : goal.returns-clause-take
returns-clause-take c = SameElsewhere-take

pub returns-clause-untake : goal.returns-clause-untake
returns-clause-untake c = λ s e fresh can. SameElsewhere-untake s e fresh ((untake s e fresh).0 can)

pub returns-clause-release : goal.returns-clause-release
returns-clause-release c = SameElsewhere-release

pub returns-clause-unrelease : goal.returns-clause-unrelease
returns-clause-unrelease c = λ s e retired can. SameElsewhere-unrelease s e retired ((unrelease s e retired).0 can)
