use Rattle.std.proofs.Common.{◌≡◌, ◌-◌, ◌≤◌, []}
use Rattle.std.specs.Prelude.{vec_len, vec_capacity}
use Rattle.scene_lock.specs.Pass.{first_passes}
use Rattle.scene_lock.specs.Members.{new_seat}
use Rattle.scene_lock.proofs.lock.WordLock.deal.Given as goal

abbrev pub invariant-loop-number : goal.invariant-loop-number
invariant-loop-number g l = (l.rest.table_id ≡ l.self.id) × (l.rest.me ≡ (new_seat l.self.terms (l.passes - l.number) l.number, []))
    × (l.dealt.items ≡ first_passes l.self l.number) × (vec_len l.dealt ≡ l.number) × (l.passes ≤ vec_capacity l.dealt)
