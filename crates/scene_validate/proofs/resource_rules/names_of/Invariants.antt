use Rattle.std.proofs.Common.{◌≡◌, take, map, Bor, List, ℕ, String}
use Rattle.std.specs.Prelude.{string_bytes}
use Rattle.std.specs.declared.alloc.Global.{Global}
use Rattle.scene_kinds.specs.declared.cell.Cell.{Cell}
use Rattle.scene_validate.proofs.resource_rules.names_of.Given as goal

abbrev pub invariant-loop-resource : goal.invariant-loop-resource
invariant-loop-resource l = map (λ (n : Bor (List ℕ)). n.now) l.names.items ≡ map (λ (r : String Global × Cell). string_bytes r.0) (take l.resource-index l.resources)
