use Rattle.std.proofs.Common.{◌≡◌, ◌++◌, map, string_bytes}
use Rattle.scene_resources.specs.Resources.{names_of}
use Rattle.scene_resources.proofs.Names.{filled}
use Rattle.scene_resources.proofs.resources.Resources.names.Given as goal

abbrev pub invariant-loop-name : goal.invariant-loop-name
invariant-loop-name l = map (λ name. string_bytes name) l.names.items ++ map (λ e. e.0) (filled l.name-iterator) ≡ names_of l.fn.self.cells
