use Rattle.std.proofs.Common.{rules, ap}
use Rattle.scene_lock.specs.Shared.{shared_good, shared_entries}
use Rattle.scene_lock.proofs.Keeps.{parting}
use Rattle.scene_lock.proofs.lock.WordLock.part.Goals as goal

pub split_seat-others-requires : goal.split_seat-others-requires
split_seat-others-requires g c = let k = g.S.Kept in
    (search rules, search rules, parting (shared_good k.good k.opening) (shared_entries k.entries) k.legal k.session _ _ c.args.seat.me.0 (ap (λ m. m.0.holding) c.requires.some.1))
