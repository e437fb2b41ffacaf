use Rattle.scene_journal.proofs.FurtherKind.{record_fits_back_also, record_fits_on_also, redone_also, undone_also}
use Rattle.scene_journal.proofs.laws.declared_kinds_change_no_record.Goals as goal

pub returns : goal.returns
returns c = λ r name shape w. record {
  made = redone_also name shape r w;
  taken_back = undone_also name shape r w;
  fit = record_fits_on_also name shape r w;
  fit_back = record_fits_back_also name shape r w;
}
