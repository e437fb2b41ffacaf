use Rattle.std.proofs.Common.{◌≡◌, w64, to_z, of_z, subst, sym, rules}
use Rattle.scene_kinds.specs.declared.shape.Shape.{Shape}
use Rattle.scene_kinds.specs.declared.shape.Shape.TheVariants as shape
use Rattle.scene_kinds.specs.declared.value.Value.TheVariants as value
use Rattle.scene_json_forms.specs.Walk.{value_at}
use Rattle.scene_json_tokens.specs.Taken.{IsTaken}
use Rattle.scene_json_tokens.proofs.CellsTaken.{int_value_taken, link_taken}
use Rattle.scene_json_tokens.proofs.values.take_value.Goals as goal

pub returns-in_ok-number-in-Int : goal.returns-in_ok-number-in-Int
returns-in_ok-number-in-Int c =
    let n : to_z w64 (of_z w64 c.in_ok-number-in-Int.number) ≡ c.in_ok-number-in-Int.number = search rules in
    let is : shape.Int ≡ c.args.shape = search rules in
    subst (λ (s : Shape). IsTaken (value_at s) 1 c.args.reader.now c.take_int.new.reader
    (value.Int (to_z w64 (of_z w64 c.in_ok-number-in-Int.number)))) is
    (subst (λ m. IsTaken (value_at shape.Int) 1 c.args.reader.now c.take_int.new.reader (value.Int m)) (sym n)
    (int_value_taken c.args.reader.now c.take_int.new.reader c.in_ok-number-in-Int.number c.in_ok-number-in-Int.ensures))

pub returns-in_ok-entity-in-Link : goal.returns-in_ok-entity-in-Link
returns-in_ok-entity-in-Link c =
    let is : shape.Link ≡ c.args.shape = search rules in
    subst (λ (s : Shape). IsTaken (value_at s) 1 c.args.reader.now c.take_entity.new.reader (value.Link c.in_ok-entity-in-Link.entity)) is
    (link_taken c.args.reader.now c.take_entity.new.reader c.in_ok-entity-in-Link.entity c.in_ok-entity-in-Link.ensures)
