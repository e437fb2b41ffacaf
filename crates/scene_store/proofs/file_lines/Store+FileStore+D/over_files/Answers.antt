use Rattle.std.proofs.Common.{sym}
use Rattle.scene_store.proofs.FileLemmas.{opens_over}
use Rattle.scene_store.proofs.file_lines.Store+FileStore+D.over_files.Goals as goal

pub returns-in-Ok-clause-store : goal.returns-in-Ok-clause-store
returns-in-Ok-clause-store g c as_opened =
    let is_opened = rw c.in-Ok.is at as_opened in
    c.over_as.ensures.store (λ clean. let opened = is_opened clean in (sym opened.0.clean, opened.0.autocommit))

pub returns-in-Ok-clause-found : goal.returns-in-Ok-clause-found
returns-in-Ok-clause-found g c image as_opened finds =
    opens_over c.in-Ok.conn image c.over_as.result (rw c.in-Ok.is at as_opened) (rw c.in-Ok.is at finds) c.over_as.ensures.known c.over_as.ensures.clean c.over_as.ensures.made c.over_as.ensures.there
