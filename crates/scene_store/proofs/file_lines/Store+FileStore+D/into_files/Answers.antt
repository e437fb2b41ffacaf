use Rattle.std.proofs.Common.{subst}
use Rattle.sqlite.specs.Closing.{IsCopied}
use Rattle.scene_store.proofs.FileLemmas.{closes}
use Rattle.scene_store.proofs.file_lines.Store+FileStore+D.into_files.Goals as goal

pub returns-in-Ok : goal.returns-in-Ok
returns-in-Ok g c = closes c.args.self c.in-Ok.files c.into_connection-conn.ensures.live
    (λ clean. subst (λ conn. IsCopied {g = g.D.Disk} conn c.in-Ok.files) c.into_connection-conn.ensures.same (c.in-Ok.ensures.copied clean))
