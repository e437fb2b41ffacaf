use Rattle.std.proofs.Common.{refl, string_bytes, w64}
use Rattle.std.specs.Prelude.{codes}
use Rattle.std.specs.Fmt.{signed_decimal}
use Rattle.std.proofs.lemmas.Int.{to_z-of_z}
use Rattle.scene_json_forms.specs.Printing.{three_text}
use Rattle.scene_json_forms.proofs.ListsWritten.{five, seen_as, so}
use Rattle.scene_json_forms.proofs.write_values.write_three.Goals as goal

pub returns : goal.returns
returns c = so c.write_int-3.result c.write_int-3.ensures (λ last.
    let x = c.args.x in
    let y = c.args.y in
    let z = c.args.z in
    let old = string_bytes c.args.out.now in
    let first = string_bytes c.push_str.new.self in
    let second = string_bytes c.push_str-2.new.self in
    five old (signed_decimal x) (codes ",") (signed_decimal y) (codes ",") (signed_decimal z)
    (string_bytes c.write_int.new.out) first (string_bytes c.write_int-2.new.out) second (string_bytes c.write_int-3.new.out)
    (three_text x y z) refl
    (seen_as signed_decimal old _ c.in_ok-write_int.ensures (to_z-of_z w64 x c.ranges.x)) c.in_ok-push_str.ensures.bytes
    (seen_as signed_decimal first _ c.in_ok-write_int-2.ensures (to_z-of_z w64 y c.ranges.y)) c.in_ok-push_str-2.ensures.bytes
    (seen_as signed_decimal second _ last (to_z-of_z w64 z c.ranges.z)))
