use Rattle.std.proofs.Common.{string_bytes}
use Rattle.serde_json.specs.Written.{compact_text}
use Rattle.scene_links.specs.Forest.{Forest, parents}
use Rattle.scene_resources.specs.Resources.{NamedCells}
use Rattle.scene_json_forms.proofs.ListsWritten.{chain, seen_as, so}
use Rattle.scene_print.specs.JsonObjects.{object_by}
use Rattle.scene_print.specs.JsonShown.{children_member, resource_member}
use Rattle.scene_print.proofs.json_world.write_last_members.Goals as goal

pub returns : goal.returns
returns c =
    let children = λ (f : Forest). compact_text (object_by (children_member f) (parents f)) in
    let cells = λ (r : NamedCells). compact_text (object_by resource_member r.entries) in
    so c.write_resources.result c.write_resources.ensures (λ last.
    chain (string_bytes c.args.out.now) _ _ _ _ c.in_ok-push_str.ensures.bytes
    (chain (string_bytes c.push_str.new.self) _ _ _ _ c.in_ok-write_archetypes.ensures
    (chain (string_bytes c.write_archetypes.new.out) _ _ _ _ c.in_ok-push_str-2.ensures.bytes
    (chain (string_bytes c.push_str-2.new.self) _ _ _ _ (seen_as children (string_bytes c.push_str-2.new.self) _ c.in_ok-write_links.ensures c.links.ensures)
    (chain (string_bytes c.write_links.new.out) _ _ _ _ c.in_ok-push_str-3.ensures.bytes
    (seen_as cells (string_bytes c.push_str-3.new.self) _ last c.resources.ensures))))))
