use Rattle.scene_deltas.proofs.FurtherKind.{all_fit_back_also, all_fit_on_also, back_all_also, fwd_all_also}
use Rattle.scene_deltas.proofs.laws.declared_kinds_change_no_deltas.Goals as goal

pub returns : goal.returns
returns c = λ ds name shape w. record {
  made = fwd_all_also name shape ds w;
  taken_back = back_all_also name shape ds w;
  fit = all_fit_on_also name shape ds w;
  fit_back = all_fit_back_also name shape ds w;
}
