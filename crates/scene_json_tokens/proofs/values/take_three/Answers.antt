use Rattle.std.proofs.Common.{◌≡◌, [], ◌∷◌, w64, to_z, of_z, subst, sym, rules}
use Rattle.scene_kinds.specs.declared.shape.Shape.TheVariants as shape
use Rattle.scene_kinds.specs.declared.value.Value.TheVariants as value
use Rattle.scene_json_forms.specs.Walk.{value_at}
use Rattle.scene_json_tokens.specs.Taken.{IsTaken}
use Rattle.scene_json_tokens.proofs.CellsTaken.{three_taken}
use Rattle.scene_json_tokens.proofs.values.take_three.Goals as goal

pub returns : goal.returns
returns c =
    let x0 = c.in_ok-x.x in
    let y0 = c.in_ok-y.y in
    let z0 = c.in_ok-z.z in
    let x : to_z w64 (of_z w64 x0) ≡ x0 = search rules in
    let y : to_z w64 (of_z w64 y0) ≡ y0 = search rules in
    let z : to_z w64 (of_z w64 z0) ≡ z0 = search rules in
    let same : x0 ∷ y0 ∷ z0 ∷ [] ≡ to_z w64 (of_z w64 x0) ∷ to_z w64 (of_z w64 y0) ∷ to_z w64 (of_z w64 z0) ∷ [] = λ i. sym x i ∷ sym y i ∷ sym z i ∷ [] in
    subst (λ v. IsTaken (value_at shape.Vec3) 1 c.args.reader.now c.take_list_end.new.reader (value.Vec3 v)) same
    (three_taken c.args.reader.now c.take_list.new.reader c.take_int.new.reader c.take_int-2.new.reader c.take_int-3.new.reader c.take_list_end.new.reader
    x0 y0 z0 c.in_ok-take_list.ensures c.in_ok-x.ensures c.in_ok-y.ensures c.in_ok-z.ensures c.in_ok-take_list_end.ensures)
