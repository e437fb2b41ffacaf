use Rattle.std.proofs.Common.{refl}
use Rattle.std.proofs.lemmas.Result.{IfOk-weaker}
use Rattle.sqlite_wal.specs.Recovery.{Image}
use Rattle.scene_store.proofs.FileLemmas.{clean_files, reads_known}
use Rattle.scene_store.proofs.snapshot.Snapshot.lines.Goals as goal

pub returns-in-Ok-clause-found : goal.returns-in-Ok-clause-found
returns-in-Ok-clause-found c =
    let image : Image = record { log = c.args.self.now.log.items; db = c.args.self.now.db.items } in
    let conn = c.in-Ok.conn in
    IfOk-weaker c.lines_over.result _ _ (λ found is text held.
    is text (λ schema. reads_known conn image c.in-Ok.ensures.clean c.in-Ok.ensures.opened c.in-Ok.ensures.found (record { conn = conn }) schema refl text held))
    (c.lines_over.ensures.found (λ store. clean_files (λ _. refl) store.conn))

pub returns-in-Ok-clause-head : goal.returns-in-Ok-clause-head
returns-in-Ok-clause-head c = c.lines_over.ensures.head
