use Rattle.std.proofs.Common.{◌≡◌, take}
use Rattle.scene_links.specs.Forest.{with_children}
use Rattle.scene_world.proofs.built.add_children.Given as goal

abbrev pub invariant-loop-child : goal.invariant-loop-child
invariant-loop-child l = record {
  at : l.place ≡ l.child-index;
  forest : l.links.forest ≡ with_children l.fn.links.forest l.parent (take l.child-index l.list);
}
