use Rattle.std.proofs.Common.{rules}
use Rattle.scene_streams.proofs.Turns.{some_given, more_given}
use Rattle.scene_streams.proofs.source.Source.read_all.Goals as goal

pub returns-in_err-turn-clause-some : goal.returns-in_err-turn-clause-some
returns-in_err-turn-clause-some g c =
    let some = some_given _ _ _ _ _ _ _ c.turns.invariant.given c.in_err-turn.ensures.bytes in
    search (rules, some)

pub returns-in_err-extend_from_slice-in-Bytes-clause-some :
    goal.returns-in_err-extend_from_slice-in-Bytes-clause-some
returns-in_err-extend_from_slice-in-Bytes-clause-some g c =
    let some = more_given _ _ _ _ _ _ _ c.turns.invariant.given c.in_ok-turn.ensures.bytes c.in-Bytes.is in
    search (rules, some)
