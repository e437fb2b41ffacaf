use Rattle.std.proofs.Common.{subst, sym}
use Rattle.std.proofs.lemmas.List.{reverse-reverse}
use Rattle.scene_model.specs.Valid.{IsValid}
use Rattle.scene_journal.specs.FirstFaults.{PastFits}
use Rattle.scene_file.proofs.saving_editor.records_fit.Goals as goal

pub returns : goal.returns
returns c =
    let e = c.args.editor.now in
    record {
      valid = subst IsValid c.world.ensures c.tick-tick.ensures.valid;
      back = subst (λ rs. PastFits rs e.world) (sym (reverse-reverse e.past)) c.records-records.ensures.fit_back;
      on = c.records-records.ensures.fit_on;
    }
