use Rattle.sqlite.specs.WalFiles.{image_at}
use Rattle.scene_store.proofs.file_lines.FileLines+S.open_there.Goals as goal

pub returns-clause-store : goal.returns-clause-store
returns-clause-store g c = c.over_files.ensures.store c.connection.ensures.opened

pub returns-clause-found : goal.returns-clause-found
returns-clause-found g c = c.over_files.ensures.found (image_at g.S.Start) c.connection.ensures.opened c.connection.ensures.found
