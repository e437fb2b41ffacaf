-- An accepted command on links or resources, and raising the tick, are raw changes that may be made.
use Rattle.std.proofs.Common.{◌≡◌, ℕ, ◌+◌, true, cond, ◌&&◌, List, length, refl, ap, sym, ◌∙◌, arith, Option, Some, None, Ok, nat_eq}
use Rattle.std.proofs.lemmas.Bool.{and_parts}
use Rattle.scene_kinds.specs.declared.entity.Entity.{Entity}
use Rattle.scene_kinds.specs.declared.cell.Cell.{Cell}
use Rattle.scene_kinds.specs.declared.fault.Fault.TheVariants.{TickFull}
use Rattle.scene_kinds.specs.Cells.{put_over}
use Rattle.scene_kinds.specs.Entity.{is_same}
use Rattle.scene_kinds.specs.Schema.{is_good_name}
use Rattle.scene_kinds.proofs.Maps.{ties_itself}
use Rattle.scene_links.specs.Forest.{Forest, holds, ancestors, children_of, parent_of, cut, cut_from, link_in, joined, joined_at, with_children as with_list_of, link_of, unlinked, unlink_of}
use Rattle.scene_links.proofs.LinkLaws.{none_or, put_at_last}
use Rattle.scene_resources.specs.Resources.{NamedCells, name_cmp_total, cell_of, restore_of, taken, take_of}
use Rattle.scene_resources.proofs.ResourceLaws.{restored_cells}
use Rattle.scene_model.specs.World.{World, is_live}
use Rattle.scene_model.specs.Commands.{highest_tick, in_world, with_children, with_resources}
use Rattle.scene_model.specs.CommandRaw.{last_link, SetParentSetsLink, RemoveParentSetsLink, PutSetsResource, RemoveSetsResource, RaiseSetsTick}
use Rattle.scene_model.specs.Valid.{IsValid}
use Rattle.scene_model.specs.Raw.{set_resource, set_tick}
use Rattle.scene_model.proofs.CanParts.{CanSetTick, set_link as link_decides, set_resource as resource_decides, set_tick as tick_decides}
use Rattle.scene_model.proofs.MoveKeeps.{raised_valid}
use Rattle.scene_model.proofs.Outcomes.{not_ok, same_world}
use Rattle.scene_model.proofs.Parts.{asked, allowed, lifted_part, done_part}
use Rattle.scene_model.proofs.ResourceKeeps.{put_valid}

-- ---- links

-- last in a list is a place of it
joined_last : (f : Forest) (c p : Entity) → joined_at f c p (length (children_of f p)) ≡ joined f c p
joined_last f c p = ap (with_list_of f p) (put_at_last c (children_of f p))

pub set_parent_sets_link : SetParentSetsLink
set_parent_sets_link w v c p valid is =
    let f = w.children in
    let live = allowed (is_live w c && is_live w p) _ _ (tt, v) is in
    let both = and_parts (is_live w c) (is_live w p) live.0 in
    let made = lifted_part (link_of f c p) (with_children w) tt v live.1 in
    let other = asked (is_same c p) _ _ (tt, made.0) made.1.0 in
    let above = asked (holds c (ancestors f p)) _ _ (tt, made.0) other.1 in (
      (link_decides w c (link_in f c) (Some (last_link f c p))).1 (record {
        live = both.0;
        now = refl;
        good = record { room = record { live = both.1; within = omega arith }; other = other.0; not_above = above.0 };
      }),
      sym (ap (with_children w) (joined_last (cut f c) c p ∙ (same_world tt tt (joined (cut f c) c p) made.0 above.1).1) ∙ made.1.1),
    )

-- a child that was unlinked is cut
unlinked_is_cut : (f : Forest) (c : Entity) (a : Entity × ℕ) (g : Forest) → unlink_of f c ≡ Ok (a, g) → cut f c ≡ g
unlinked_is_cut f c a g h = none_or (parent_of f c) (cut f c ≡ g)
    (λ n. absurd (not_ok (a, g) _ (sym (ap (unlinked f c) n) ∙ h)))
    (λ p n. ap (cut_from f c) n ∙ (same_world _ a (cut_from f c (Some p)) g (sym (ap (unlinked f c) n) ∙ h)).1)

pub remove_parent_sets_link : RemoveParentSetsLink
remove_parent_sets_link w v c valid is =
    let live = allowed (is_live w c) _ _ (tt, v) is in
    let told = done_part (in_world (unlink_of w.children c) (with_children w)) v live.1 in
    let made = lifted_part (unlink_of w.children c) (with_children w) told.0 v told.1 in
    ((link_decides w c (link_in w.children c) None).1 (record { live = live.0; now = refl; good = tt }), sym (ap (with_children w) (unlinked_is_cut w.children c told.0 made.0 made.1.0) ∙ made.1.1))

-- ---- resources

pub put_sets_resource : PutSetsResource
put_sets_resource w v name value valid held is =
    let cell = put_over (cell_of w.resources name) value w.tick in
    let good = allowed (is_good_name name) _ _ (tt, v) is in
    let there : cell_of (restore_of w.resources name (Some cell)) name ≡ Some cell =
    restored_cells w.resources name (Some cell) name ∙ ap (λ b. cond b (Some cell) (cell_of w.resources name)) (ties_itself name_cmp_total name) in
    let sound = (put_valid w name value valid good.0 held).resources name cell there in (
      (resource_decides w name (cell_of w.resources name) (Some cell)).1 (record { named = good.0; now = refl; good = record { in_range = sound.in_range; timely = sound.timely } }),
      sym (same_world tt tt (set_resource w name (Some cell)) v good.1).1,
    )

-- a resource that was taken was there
taken_was : (w : World) (name : List ℕ) (c : Cell) (r : NamedCells) (o : Option Cell) → cell_of w.resources name ≡ o → IsValid w → taken w.resources name o ≡ Ok (c, r) → (is_good_name name ≡ true) × (restore_of w.resources name None ≡ r)
taken_was w name c r None is valid h = absurd (not_ok (c, r) _ h)
taken_was w name c r (Some x) is valid h = ((valid.resources name x is).good, (same_world x c (restore_of w.resources name None) r h).1)

pub remove_sets_resource : RemoveSetsResource
remove_sets_resource w v name valid is =
    let told = done_part (in_world (take_of w.resources name) (with_resources w)) v is in
    let made = lifted_part (take_of w.resources name) (with_resources w) told.0 v told.1 in
    let was = taken_was w name told.0 made.0 (cell_of w.resources name) refl valid made.1.0 in
    ((resource_decides w name (cell_of w.resources name) None).1 (record { named = was.0; now = refl; good = tt }), sym (ap (with_resources w) was.1 ∙ made.1.1))

-- ---- the tick

-- where a tick leaves a valid world it may be set
can_set_tick : (w : World) (tick : ℕ) → IsValid (set_tick w tick) → CanSetTick w tick
can_set_tick w tick v = record {
  low = v.tick;
  rows = λ h r at. (v.rows.each h r at).timely;
  resources = λ name cell at. (v.resources name cell at).timely;
}

pub raise_sets_tick : RaiseSetsTick
raise_sets_tick w v valid is =
    let low = asked (nat_eq w.tick highest_tick) TickFull (Ok (tt, set_tick w (w.tick + 1))) (tt, v) is in
    ((tick_decides w (w.tick + 1)).1 (can_set_tick w (w.tick + 1) (raised_valid w valid low.0)), sym (same_world tt tt (set_tick w (w.tick + 1)) v low.1).1)
