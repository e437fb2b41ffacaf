use Rattle.std.proofs.Common.{◌∙◌, ◌++◌, string_bytes, w64}
use Rattle.std.specs.Prelude.{codes}
use Rattle.std.proofs.lemmas.Int.{to_z-of_z}
use Rattle.scene_json_forms.specs.Printing.{three_text}
use Rattle.scene_json_forms.proofs.ListsWritten.{accepted, as_text, chain}
use Rattle.scene_json_forms.proofs.Quoted.{three_listed}
use Rattle.scene_json_forms.proofs.write_values.write_three_listed.Goals as goal

pub returns : goal.returns
returns c = accepted c.push_str-2.result _ _ _ c.push_str-2.ensures.bytes (λ last.
    let old = string_bytes c.args.out.now in
    let opened = string_bytes c.push_str.new.self in
    let numbers = three_text c.args.x c.args.y c.args.z in
    as_text old _ _ _ (three_listed c.args.x c.args.y c.args.z)
    (chain old (codes "[") (numbers ++ codes "]") opened (string_bytes c.push_str-2.new.self) c.in_ok-push_str.ensures.bytes
    (chain opened numbers (codes "]") (string_bytes c.write_three.new.out) (string_bytes c.push_str-2.new.self)
    (c.in_ok-write_three.ensures ∙ (λ i. opened ++ three_text (to_z-of_z w64 c.args.x c.ranges.x i) (to_z-of_z w64 c.args.y c.ranges.y i) (to_z-of_z w64 c.args.z c.ranges.z i)))
    last)))
