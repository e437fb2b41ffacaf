-- Where a link comes to an entity, the forest is one into which it may come.
use Rattle.std.proofs.Common.{◌≡◌, ℕ, ◌∙◌, ap, sym, true, List, Bool, Option, Some}
use Rattle.scene_kinds.specs.declared.entity.Entity.{Entity}
use Rattle.scene_kinds.specs.declared.cell.Cell.{Cell}
use Rattle.scene_links.specs.Forest.{cut}
use Rattle.scene_links.specs.Room.{CanRelink}
use Rattle.scene_links.proofs.LinkLaws.{above-cut, linked-cut, parent_gone, not_same, held_childless}
use Rattle.scene_table.proofs.Homes.{here_live}
use Rattle.scene_model.specs.World.{World, is_live}
use Rattle.scene_model.specs.Valid.{IsValid}
use Rattle.scene_model.proofs.CanParts.{CanHaveLink, CanUncut, IsPlaceIn}
use Rattle.scene_model.proofs.LinkKeeps.{live_alone, one_live}
use Rattle.scene_model.proofs.CutBack.{index_unused, uncut_nowhere, uncut_alone, uncut_other}
use Rattle.scene_model.proofs.Options.{in_some}

-- a live entity that left its list may come into another
pub live_relinks : (w : World) (e : Entity) (l : Entity × ℕ) → IsValid w → is_live w e ≡ true → CanHaveLink w e l → CanRelink (cut w.children e) e l.0 l.1
live_relinks w e l v live can =
    let f = w.children in
    let alone = live_alone w e l.0 v live can.room.live in
    record {
      link = record {
        other = can.other;
        above = above-cut f e l.0 v.links.forest can.other can.not_above;
        alone = record {
          child = linked-cut (λ x. x.index ≡ e.index → x ≡ e) f e alone.child;
          parent = linked-cut (λ x. x.index ≡ l.0.index → x ≡ l.0) f e alone.parent;
          each = alone.each;
        };
      };
      free = parent_gone f e v.links.forest;
      within = can.room.within;
    }

-- so may one that comes back
pub back_relinks : (w : World) (e : Entity) (place : ℕ) (cells : List (ℕ × Cell)) (link : Option (Entity × ℕ)) (retired : Bool) (l : Entity × ℕ) → IsValid w → CanUncut w e place cells link retired → link ≡ Some l → CanRelink w.children e l.0 l.1
back_relinks w e place cells link retired l v can is =
    let room = in_some (IsPlaceIn w w.children) link l can.room is in
    let other = uncut_other w e place cells link retired v can l is in
    let nowhere = uncut_nowhere w e place cells link retired v can in
    let unused : (x : Entity) → is_live w x ≡ true → x.index ≡ e.index → ⊥ =
    λ x live same. let h = here_live w.tables x live in index_unused w e retired v nowhere can.slot h.0 h.1.row h.1.there (ap (λ (y : Entity). y.index) h.1.same ∙ same) in
    record {
      link = record {
        other = not_same e l.0 other;
        above = held_childless w.children e l.0 (uncut_alone w e place cells link retired v can).1;
        alone = record {
          child = λ q x k. let both = v.links.live q x k in ((λ s. absurd (unused q both.0 s)), (λ s. absurd (unused x both.1 s)));
          parent = λ q x k. let both = v.links.live q x k in (one_live w q l.0 v both.0 room.live, one_live w x l.0 v both.1 room.live);
          each = λ s. absurd (unused l.0 room.live (sym s));
        };
      };
      free = (uncut_alone w e place cells link retired v can).0;
      within = room.within;
    }
