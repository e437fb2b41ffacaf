use Rattle.std.proofs.Common.{refl, arith}
use Rattle.scene_journal.proofs.examples.worked_records_hold.Goals as goal

pub returns-clause-frames : goal.returns-clause-frames
returns-clause-frames c = (refl, refl, refl, refl, refl, refl)

pub returns-clause-refusals : goal.returns-clause-refusals
returns-clause-refusals c = (
  refl,
  refl,
  record { tick = refl; deltas = (tt, refl); timely = refl },
  λ h. let tick = h.tick in omega (arith, tick),
  λ h. let tick = h.tick in omega (arith, tick),
  refl,
  refl,
)
