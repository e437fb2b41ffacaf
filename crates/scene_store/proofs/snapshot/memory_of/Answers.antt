use Rattle.std.proofs.Common.{rules, ◌<◌, length, ap, arith}
use Rattle.sqlite_disk.specs.Memory.{memory_bytes}
use Rattle.scene_store.proofs.FileLemmas.{written}
use Rattle.scene_store.proofs.snapshot.memory_of.Goals as goal

pub returns-in-Ok-clause-bytes : goal.returns-in-Ok-clause-bytes
returns-in-Ok-clause-bytes c =
    let some : 0 < length c.args.bytes.now = search rules in
    let was = ap length c.new-file.ensures.empty in
    written (memory_bytes c.write_at.new.self) c.args.bytes.now (c.in-Ok.ensures.written some) (omega (arith, c.write_at.ensures.others.no_longer, was))
