use Rattle.std.proofs.Common.{ℕ, List, ap, ◌∙◌, ◌++◌, string_bytes}
use Rattle.std.specs.Prelude.{codes, decimal}
use Rattle.serde_json.specs.Written.{compact_text}
use Rattle.scene_json_forms.specs.Text.{list_text, count_text}
use Rattle.scene_json_forms.proofs.ListsWritten.{chain, seen_as, so}
use Rattle.scene_print.proofs.JsonObjects.{three}
use Rattle.scene_print.proofs.json_world.write_first_members.Goals as goal

pub returns : goal.returns
returns c =
    let counts = λ (ns : List ℕ). compact_text (list_text count_text ns) in
    let lead = codes "{\"answer\":\"world\",\"tick\":" in
    let next = codes ",\"generations\":" in
    let old = string_bytes c.args.out.now in
    let counted = string_bytes c.write_counts.new.out in
    so c.write_counts-2.result c.write_counts-2.ensures (λ last.
    three old lead (decimal c.args.world.now.world.tick) next _ _ _
    (seen_as (λ (tick : ℕ). lead ++ (decimal tick ++ next)) old _ c.in_ok-write.ensures.bytes c.tick.ensures.tick)
    (chain (string_bytes c.write.new.self) _ _ counted _
    (seen_as counts (string_bytes c.write.new.self) _ c.in_ok-write_counts.ensures (c.generations.ensures ∙ ap (λ s. s.generations) c.slots.ensures))
    (chain counted _ _ _ _ c.in_ok-push_str.ensures.bytes
    (seen_as counts (string_bytes c.push_str.new.self) _ last (c.free.ensures ∙ ap (λ s. s.free) c.slots-2.ensures)))))
