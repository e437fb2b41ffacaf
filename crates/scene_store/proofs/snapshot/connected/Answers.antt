use Rattle.std.proofs.Common.{refl, ap₂, subst, ◌∙◌}
use Rattle.sqlite_wal.specs.Recovery.{Image}
use Rattle.sqlite.specs.Files.{file_state}
use Rattle.sqlite.specs.Start.{FindsIn}
use Rattle.scene_store.proofs.FileLemmas.{clean_files}
use Rattle.scene_store.proofs.snapshot.connected.Goals as goal

pub returns-in-Ok-clause-clean : goal.returns-in-Ok-clause-clean
returns-in-Ok-clause-clean c = clean_files (λ _. refl) c.in-Ok.conn

pub returns-in-Ok-clause-opened : goal.returns-in-Ok-clause-opened
returns-in-Ok-clause-opened c = c.in-Ok.ensures.opened (clean_files (λ _. refl) c.in-Ok.conn)

pub returns-in-Ok-clause-found : goal.returns-in-Ok-clause-found
returns-in-Ok-clause-found c =
    let found = c.in-Ok.ensures.found (clean_files (λ _. refl) c.in-Ok.conn) in
    let image : Image = record { log = c.args.snapshot.now.log.items; db = c.args.snapshot.now.db.items } in
    let same = ap₂ (λ a b. let i : Image = record { log = a; db = b } in i) (c.in_ok-log.ensures.bytes ∙ c.as_slice.ensures.value) (c.in_ok-db.ensures.bytes ∙ c.as_slice-2.ensures.value) in
    subst (λ i. FindsIn i (file_state c.in-Ok.conn)) same (record { holds = found.holds; reads = found.reads })
