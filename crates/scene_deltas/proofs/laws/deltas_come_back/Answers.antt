use Rattle.scene_deltas.proofs.ComeBack.{deltas_come_back, delta_lists_come_back}
use Rattle.scene_deltas.proofs.laws.deltas_come_back.Goals as goal

pub returns : goal.returns
returns c = record { each = deltas_come_back; lists = delta_lists_come_back }
