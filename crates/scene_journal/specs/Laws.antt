-- A law of records: where one fits on a valid world, the world after it is valid, it fits back there, and taking it
-- back gives the very world from before; and the other way round.
use Rattle.scene_model.specs.RawLaws.{TakeEachOtherBack}
use Rattle.scene_journal.specs.Records.{Record, redone, undone, RecordFitsOn, RecordFitsBack}

-- a record comes back, tick included
abbrev pub RecordsComeBack : Type 0
RecordsComeBack = (r : Record) → TakeEachOtherBack (RecordFitsOn r) (redone r) (RecordFitsBack r) (undone r)
