use Rattle.std.proofs.Common.{subst}
use Rattle.std.specs.Io.Buffered.{reader_remaining}
use Rattle.scene_kept_lines.specs.declared.dated_store.DatedStore.{DatedStore}
use Rattle.scene_kept_lines.specs.Dated.{KeepsDated}
use Rattle.scene_kept_lines.specs.StoreShell.{StoreBeginning, StoreMeaning}
use Rattle.scene_kept_lines.proofs.StoreLaws.{ended_so}
use Rattle.scene_kept_lines.proofs.store_shell.run_store_shell.Goals as goal

pub returns-in-Ok-close : goal.returns-in-Ok-close
returns-in-Ok-close g c =
    (c.go_on-ended.new.both.store, subst g.S.StorePlace.closes c.into_inner.ensures c.in-Ok-close.ensures, c.in-Ok-ended.ensures)

pub returns-in-Err-ended : goal.returns-in-Err-ended
returns-in-Err-ended g c =
    let m : StoreMeaning (DatedStore g.row.S-Store.Denot g.row.C.Denot) g.row.W.Denot =
    record {
      is_store = λ store. g.S.Store.KeptLines.is_store store.store;
      keeps = KeepsDated {C = g.row.C.Denot} g.S.Store.Keep.keeps;
      plays = g.S.Store.KeptLines.plays;
      contents = g.W.Write.contents;
    } in
    let shell : StoreBeginning g.row.W.Denot =
    record { style = c.args.style; start = c.args.writer; script = reader_remaining g.R.Read.remaining c.args.reader.now } in
    ended_so m (λ store. g.S.StorePlace.closes store.store) shell c.go_on-ended.new.both (reader_remaining g.R.Read.remaining c.go_on-ended.new.reader)
    c.in-Err-ended.fault c.in-Err-ended.ensures
