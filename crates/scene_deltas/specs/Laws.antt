-- Laws of deltas: where one fits on a valid world, the world after it is valid, it fits back there, and taking it back
-- gives the very world from before; and the other way round.
use Rattle.scene_model.specs.RawLaws.{TakeEachOtherBack}
use Rattle.scene_model.specs.RawLists.{ListsComeBack}
use Rattle.scene_deltas.specs.declared.delta.Delta.{Delta}
use Rattle.scene_deltas.specs.Deltas.{fwd, back, FitsOn, FitsBack}

-- a delta comes back
abbrev pub DeltasComeBack : Type 0
DeltasComeBack = (d : Delta) → TakeEachOtherBack (FitsOn d) (fwd d) (FitsBack d) (back d)

-- deltas one after another come back
abbrev pub DeltaListsComeBack : Type 0
DeltaListsComeBack = ListsComeBack FitsOn fwd FitsBack back
