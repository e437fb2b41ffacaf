use Rattle.std.proofs.Common.{ℕ, ◌++◌, string_bytes}
use Rattle.std.specs.Prelude.{codes, decimal}
use Rattle.serde_json.specs.Written.{compact_text}
use Rattle.scene_resources.specs.Resources.{NamedCells}
use Rattle.scene_json_forms.specs.Text.{list_text}
use Rattle.scene_file.specs.Text.{resource_text}
use Rattle.scene_json_forms.proofs.ListsWritten.{chain, seen_as}
use Rattle.scene_file.proofs.Objects.{three}
use Rattle.scene_file.proofs.write_world.write_last_members.Goals as goal

pub returns : goal.returns
returns c =
    let cells = λ (r : NamedCells). compact_text (list_text resource_text r.entries) in
    let tick = λ (n : ℕ). codes ",\"tick\":" ++ decimal n in
    chain (string_bytes c.args.out.now) _ _ _ _ c.in_ok-push_str.ensures.bytes
    (chain (string_bytes c.push_str.new.self) _ _ _ _
    (seen_as cells (string_bytes c.push_str.new.self) _ c.in_ok-write_resources.ensures c.resources.ensures)
    (three (string_bytes c.write_resources.new.out) (codes ",\"scene\":") (decimal c.args.version) (codes ",\"tables\":") _ _ _
    c.in_ok-write.ensures.bytes
    (chain (string_bytes c.write.new.self) _ _ _ _ c.in_ok-write_archetypes.ensures
    (seen_as tick (string_bytes c.write_archetypes.new.out) _ c.in_ok-write-2.ensures.bytes c.tick.ensures.tick))))
