use Rattle.std.proofs.Common.{ℕ, List, ap, ◌∙◌, ◌++◌, string_bytes}
use Rattle.std.specs.Prelude.{codes, decimal}
use Rattle.serde_json.specs.Written.{compact_text}
use Rattle.scene_kinds.specs.Schema.{Kinds}
use Rattle.scene_links.specs.Forest.{Forest}
use Rattle.scene_validate.specs.Parts.{lists_of}
use Rattle.scene_json_forms.specs.Text.{list_text, count_text}
use Rattle.scene_file.specs.Text.{kind_text, children_text}
use Rattle.scene_json_forms.proofs.ListsWritten.{chain, seen_as}
use Rattle.scene_file.proofs.write_world.write_first_members.Goals as goal

pub returns : goal.returns
returns c =
    let links = λ (f : Forest). compact_text (list_text children_text (lists_of f)) in
    let counts = λ (ns : List ℕ). compact_text (list_text count_text ns) in
    let kinds = λ (ks : Kinds). compact_text (list_text kind_text ks) in
    let limit = λ (n : ℕ). codes ",\"limit\":" ++ decimal n in
    chain (string_bytes c.args.out.now) _ _ _ _ c.in_ok-push_str.ensures.bytes
    (chain (string_bytes c.push_str.new.self) _ _ _ _
    (seen_as links (string_bytes c.push_str.new.self) _ c.in_ok-write_links.ensures c.links.ensures)
    (chain (string_bytes c.write_links.new.out) _ _ _ _ c.in_ok-push_str-2.ensures.bytes
    (chain (string_bytes c.push_str-2.new.self) _ _ _ _
    (seen_as counts (string_bytes c.push_str-2.new.self) _ c.in_ok-write_counts.ensures (c.free.ensures ∙ ap (λ s. s.free) c.slots.ensures))
    (chain (string_bytes c.write_counts.new.out) _ _ _ _ c.in_ok-push_str-3.ensures.bytes
    (chain (string_bytes c.push_str-3.new.self) _ _ _ _
    (seen_as counts (string_bytes c.push_str-3.new.self) _ c.in_ok-write_counts-2.ensures
    (c.generations.ensures ∙ ap (λ s. s.generations) c.slots-2.ensures))
    (chain (string_bytes c.write_counts-2.new.out) _ _ _ _ c.in_ok-push_str-4.ensures.bytes
    (chain (string_bytes c.push_str-4.new.self) _ _ _ _
    (seen_as kinds (string_bytes c.push_str-4.new.self) _ c.in_ok-write_kinds.ensures c.schema.ensures)
    (seen_as limit (string_bytes c.write_kinds.new.out) _ c.in_ok-write.ensures.bytes (c.limit.ensures.limit ∙ ap (λ s. s.limit) c.slots-3.ensures)))))))))
