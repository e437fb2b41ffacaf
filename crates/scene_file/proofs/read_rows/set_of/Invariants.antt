use Rattle.std.proofs.Common.{◌≡◌, take}
use Rattle.scene_file.specs.Walk.{set_of}
use Rattle.scene_file.proofs.read_rows.set_of.Given as goal

abbrev pub invariant-loop-kind : goal.invariant-loop-kind
invariant-loop-kind l = l.set ≡ set_of (take l.kind-index l.kinds)
