use Rattle.std.proofs.Common.{◌∙◌, ◌-◌, length, ap, sym, Some, slice_get, slice_index}
use Rattle.scene_kinds.specs.declared.entity.Entity.{Entity}
use Rattle.scene_world.proofs.LastFree.{reused}
use Rattle.scene_world.proofs.world.spawn.next_entity.Goals as goal

pub returns-in-Some : goal.returns-in-Some
returns-in-Some c =
    let s = c.args.slots.now.state in
    ap (λ g. let e : Entity = record { index = c.in-Some.index; generation = slice_index g c.in-Some.index } in Some e) c.generations.ensures
    ∙ sym (reused s c.in-Some.index (ap (λ xs. slice_get xs (length xs - 1)) (sym c.free.ensures) ∙ sym c.last.ensures.value ∙ sym c.copied.ensures ∙ c.in-Some.is))
