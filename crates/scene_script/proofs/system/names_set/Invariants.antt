use Rattle.std.proofs.Common.{◌≡◌, drop, map}
use Rattle.scene_script.specs.Systems.{with_names}
use Rattle.scene_script.proofs.system.names_set.Given as goal

abbrev pub invariant-loop-name : goal.invariant-loop-name
invariant-loop-name l =
    with_names l.schema l.set (map (λ n. n.now) (drop l.name-index l.names)) ≡ with_names l.schema 0 (map (λ n. n.now) l.names)
