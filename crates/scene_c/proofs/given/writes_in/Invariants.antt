use Rattle.std.proofs.Common.{◌≡◌, drop}
use Rattle.scene_queue.specs.Queue.{usual_limit}
use Rattle.scene_c.specs.Given.{writes_in}
use Rattle.scene_c.proofs.GivenLaws.{with_before}
use Rattle.scene_c.proofs.given.writes_in.Given as goal

abbrev pub invariant-writes : goal.invariant-writes
invariant-writes l = (writes_in l.fn.bytes l.fn.entities l.fn.cells
    ≡ with_before l.queue.commands (writes_in l.fn.bytes (drop l.at l.fn.entities) (drop l.at l.fn.cells))) × (l.queue.limit ≡ usual_limit)
