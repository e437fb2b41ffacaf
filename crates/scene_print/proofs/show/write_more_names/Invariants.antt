use Rattle.std.proofs.Common.{◌≡◌, ◌++◌, drop, map, string_bytes}
use Rattle.scene_print.specs.Shown.{more_names}
use Rattle.scene_print.proofs.show.write_more_names.Given as goal

abbrev pub invariant-names : goal.invariant-names
invariant-names l = string_bytes l.out ++ more_names (map (λ n. n.now) (drop l.name-index l.names)) ≡ string_bytes l.initial.out ++ more_names (map (λ n. n.now) l.names)
