use Rattle.std.proofs.Common.{◌≡◌, [], rules}
use Rattle.std.proofs.lemmas.List.{nil_from_length}
use Rattle.scene_validate.specs.Seen.{lists_seen}
use Rattle.scene_world.proofs.BuiltLinks.{hung_can, hung_more, none_hung, all_hung}
use Rattle.scene_world.proofs.built.build_links.Goals as goal

pub loop-parent-init : goal.loop-parent-init
loop-parent-init c = none_hung (lists_seen c.args.children.items) _ c.new-built.ensures.empty

pub add_children-requires : goal.add_children-requires
add_children-requires c = hung_can (lists_seen c.args.children.items) c.requires _ _ c.in-Some.parent c.in-Some.list c.in-Some.ensures.items _ c.loop-parent.invariant _ c.as_slice.ensures.value

pub loop-parent-preserved : goal.loop-parent-preserved
loop-parent-preserved c = hung_more (lists_seen c.args.children.items) c.requires _ _ c.in-Some.parent c.in-Some.list c.in-Some.ensures.items _ c.loop-parent.invariant _ c.as_slice.ensures.value _ c.in_ok-add_children.ensures

pub returns : goal.returns
returns c = let none : c.loop-parent.children.items ≡ [] = nil_from_length _ (search rules) in all_hung (lists_seen c.args.children.items) _ _ c.loop-parent.invariant none
