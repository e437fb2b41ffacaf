use Rattle.std.proofs.Common.{◌<◌, length, arith}
use Rattle.scene_streams.proofs.Turns.{turn_gives}
use Rattle.scene_streams.proofs.source.Source.turn.Goals as goal

pub returns-clause-bytes : goal.returns-clause-bytes
returns-clause-bytes g c =
    let place : 0 < length c.read.new.buf = grind (arith, c.requires.place, c.read.auto.buf) in
    turn_gives _ _ _ _ _ _ _ _ place c.read.ensures.bound c.read.ensures.bytes
    c.turn_of-turn.ensures.end c.turn_of-turn.ensures.bytes c.turn_of-turn.ensures.long c.turn_of-turn.ensures.failed
