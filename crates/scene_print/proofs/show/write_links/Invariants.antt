use Rattle.std.proofs.Common.{◌≡◌, ◌++◌, drop, string_bytes}
use Rattle.scene_print.specs.Shown.{links_text}
use Rattle.scene_print.proofs.show.write_links.Given as goal

abbrev pub invariant-parents : goal.invariant-parents
invariant-parents l = string_bytes l.out ++ links_text l.links.forest (drop l.parent-index l.parents) ≡ string_bytes l.initial.out ++ links_text l.links.forest l.parents
