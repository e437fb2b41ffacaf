use Rattle.std.proofs.Common.{List, ℕ, length, subst, sym, ap, arith}
use Rattle.scene_alloc.specs.Slots.{SlotState}
use Rattle.scene_model.specs.Valid.{IsValid}
use Rattle.scene_validate.specs.Seen.{lists_seen, seen}
use Rattle.scene_world.specs.Built.{AreStorable}
use Rattle.scene_world.proofs.BuiltWorlds.{storable, linkable, seen_world}
use Rattle.scene_world.proofs.world.from_parts.build.Goals as goal

pub build_tables-requires : goal.build_tables-requires
build_tables-requires c = subst (λ (g : List ℕ). AreStorable (length g) (lists_seen c.args.parts.tables.items)) (sym c.as_slice-count.ensures.value) (storable (seen c.args.parts) c.are_in_range.ensures c.requires)

pub build_links-requires : goal.build_links-requires
build_links-requires c = linkable (seen c.args.parts) c.are_in_range.ensures c.requires

pub from_lists-requires : goal.from_lists-requires
from_lists-requires c = (c.unbroken_parts_are_those_of_valid_worlds.ensures.sound (seen c.args.parts) c.are_in_range.ensures c.requires).0.slots

pub invariant_of-result : goal.invariant_of-result
invariant_of-result c = record {
  valid = subst IsValid (sym (seen_world (seen c.args.parts) c.in-Ok-Ok-Ok-Ok.slots _ _ c.in-Ok-Ok-Ok-Ok.resources c.in-Ok-Ok-Ok-Ok.ensures''' c.in-Ok-Ok-Ok-Ok.ensures.tables c.in-Ok-Ok-Ok-Ok.ensures' c.in-Ok-Ok-Ok-Ok.ensures''))
      (c.unbroken_parts_are_those_of_valid_worlds.ensures.sound (seen c.args.parts) c.are_in_range.ensures c.requires).0;
  homes = omega (arith, c.in-Ok-Ok-Ok-Ok.ensures.homes, ap (λ (s : SlotState). length s.generations) c.in-Ok-Ok-Ok-Ok.ensures''', ap (λ (g : List ℕ). length g) c.as_slice-count.ensures.value);
}
