use Rattle.sqlite.specs.WalFiles.{image_at}
use Rattle.scene_store.proofs.file_lines.FileLines+S.open.Goals as goal

pub returns-in-Ok-clause-store : goal.returns-in-Ok-clause-store
returns-in-Ok-clause-store g c = c.over_files.ensures.store c.connection.ensures.opened

pub returns-in-Ok-clause-found : goal.returns-in-Ok-clause-found
returns-in-Ok-clause-found g c = c.over_files.ensures.found (image_at g.S.Start) c.connection.ensures.opened c.connection.ensures.found
