-- A row that is cut with its slot and its link, and one that comes back to its place, keep a valid world valid and come
-- back.
use Rattle.std.proofs.Common.{◌≡◌, ℕ, ◌≤◌, Bool, true, false, ◌||◌, List, [], length, refl, ap, subst, sym, ◌∙◌, Option, Some, None, slice_get, nat_eq}
use Rattle.std.specs.Prelude.{◌==◌, is_some, option_map}
use Rattle.std.specs.Cmp.{nat_cmp_total}
use Rattle.std.specs.List.{list_any}
use Rattle.std.proofs.lemmas.Bool.{or_right, eq-eqb}
use Rattle.std.proofs.lemmas.Option.{slice_get_within}
use Rattle.scene_kinds.specs.declared.entity.Entity.{Entity}
use Rattle.scene_kinds.specs.declared.cell.Cell.{Cell}
use Rattle.scene_kinds.specs.declared.cells.Row.{Row}
use Rattle.scene_kinds.specs.Cells.{mask_of}
use Rattle.scene_kinds.specs.Entity.{entity_cmp_total, entity_cmp_exact}
use Rattle.scene_kinds.proofs.Lists.{list_at_same, list_at_apart}
use Rattle.scene_alloc.specs.Ends.{front}
use Rattle.scene_alloc.specs.Slots.{SlotState, is_free, release_of, unrelease_of}
use Rattle.scene_alloc.proofs.SlotLaws.{SameElsewhere-unrelease, push-last, CanRelease-unrelease, CanUnrelease-release, IsSlots-unrelease, release-unrelease, unrelease-release}
use Rattle.scene_alloc.proofs.SlotParts.{CanRelease, CanUnrelease}
use Rattle.scene_links.specs.Forest.{Forest, IsForest, holds, without, put_at, place_among, children_of, parent_of, cut, link_in, with_link}
use Rattle.scene_links.proofs.LinkLaws.{held_childless, children-cut, cut_none, not_same, parent_holds, link_restored}
use Rattle.scene_table.specs.Rows.{swap_out}
use Rattle.scene_table.proofs.Swaps.{swap_out_place}
use Rattle.scene_table.specs.declared.home.Home.{Home}
use Rattle.scene_model.specs.World.{World, row_of, is_live}
use Rattle.scene_table.specs.Tables.{Tables, rows_at, row_at, lives, without_row, row_for, home_for, with_row_back}
use Rattle.scene_model.specs.Commands.{after_despawn}
use Rattle.scene_model.specs.Valid.{IsValid, IsSoundRow, is_live_index, is_retired}
use Rattle.scene_model.specs.Raw.{cut_row, uncut_row}
use Rattle.scene_model.specs.RawLaws.{CutRowsComeBack}
use Rattle.scene_model.proofs.CanParts.{IsPlaceIn, CanCut, CanUncut, cut_out, uncut, each_tested}
use Rattle.scene_model.proofs.DespawnKeeps.{can_release, childless, gone_valid}
use Rattle.scene_model.proofs.GivenLinks.{link_given, linked_parent, linked_place, linked_with_link, with_link_forest}
use Rattle.scene_model.proofs.GoodCells.{good_cells, row_of_good}
use Rattle.scene_table.proofs.Homes.{home_none, live_here}
use Rattle.scene_table.proofs.Lives.{lives_removed}
use Rattle.scene_model.proofs.Choices.{read, first_of_three}
use Rattle.scene_model.proofs.OneSlot.{IsOneChange, changed_valid, parts_back, sound_elsewhere}
use Rattle.scene_model.proofs.Options.{in_some, if_some}
use Rattle.scene_model.proofs.PutBack.{nowhere_unlinked}
use Rattle.scene_table.proofs.ReturnedRows.{row_back, row_out_again, returned_there, each_returned, once_returned, lives_returned}
use Rattle.scene_model.proofs.RowOf.{made_by_row, row_stands, row_there}
use Rattle.scene_table.proofs.Standing.{StandsNowhere, removed_nowhere}
use Rattle.scene_model.proofs.TakenSlots.{any_pushed}

-- ---- cut

module _ (w : World) (e : Entity) (place : ℕ) (cells : List (ℕ × Cell)) (link : Option (Entity × ℕ)) (retired : Bool) (v : IsValid w) (can : CanCut w e place cells link retired) where
  abbrev home : Home
  home = home_for cells place

  abbrev gone : World
  gone = after_despawn w home e

  cut_is : cut_row w e ≡ gone
  cut_is = made_by_row w e home (row_for e cells) (λ h row. after_despawn w h e) can.row

  cut_there : row_at w.tables home ≡ Some (row_for e cells)
  cut_there = (row_there w e home (row_for e cells) can.row).0

  cut_release : CanRelease w.slots e
  cut_release = can_release w home (row_for e cells) v cut_there

  cut_keeps : IsValid gone
  cut_keeps = gone_valid w home (row_for e cells) v cut_there (childless w.children e (ap (λ xs. length xs == 0) can.childless))

  -- the parent that it had lives, with a place for it
  cut_room : (l : Entity × ℕ) → link_in w.children e ≡ Some l → IsPlaceIn gone gone.children l
  cut_room l is =
      let held = parent_holds w.children e l.0 (linked_parent w.children e l is).0 in
      record {
        live = lives_removed w.tables home (row_for e cells) l.0 cut_there
            (λ s. let no : false ≡ true = sym (ap (holds e) (ap (children_of w.children) (sym s) ∙ can.childless)) ∙ held in absurd cc) (v.links.live l.0 e held).0;
        within = linked_place w.children e l v.links.forest is;
      }

  cut_can_come_back : CanUncut gone e place cells link retired
  cut_can_come_back =
      let rows = rows_at w.tables (mask_of cells) in
      let good = good_cells w w.slots home.mask (row_for e cells) (v.rows.each home (row_for e cells) cut_there) in
      record {
        slot = subst (CanUnrelease (release_of w.slots e) e) (sym can.retires) (CanUnrelease-release w.slots e v.slots cut_release);
        dead = ap is_some (home_none (without_row w.tables home) e (removed_nowhere w.tables home (row_for e cells) cut_there v.rows.once));
        within = subst (λ (rs : List Row). place ≤ length rs) (sym (list_at_same nat_cmp_total w.tables (mask_of cells) (swap_out rows place)))
            (swap_out_place rows place (slice_get_within rows place (row_for e cells) cut_there));
        good = record { ascending = good.ascending; fit = good.fit; timely = good.timely };
        room = if_some (IsPlaceIn gone gone.children) link (λ l s. cut_room l (can.linked ∙ s));
      }

  cut_comes_back : uncut_row gone e place cells link retired ≡ w
  cut_comes_back = parts_back w _ _ _
      (ap (unrelease_of (release_of w.slots e) e) can.retires ∙ unrelease-release w.slots e cut_release)
      (row_back w.tables place (row_for e cells) cut_there)
      (ap (with_link (cut w.children e) e) (sym can.linked) ∙ link_restored w.children e None v.links.forest)

-- ---- uncut

-- no row has the index of a slot that comes back
pub index_unused : (w : World) (e : Entity) (retired : Bool) → IsValid w → StandsNowhere e w.tables → CanUnrelease w.slots e retired → (g : Home) (r : Row) → row_at w.tables g ≡ Some r → r.entity.index ≡ e.index → ⊥
index_unused w e true v nowhere slot g r at same =
    let k : Some r.entity.generation ≡ Some e.generation = sym (v.rows.each g r at).current ∙ ap (slice_get w.slots.generations) same ∙ (slot.kept refl).current in
    let f : r.entity.generation ≡ e.generation = cc in
    nowhere g r at (λ i. record { index = same i; generation = f i })
index_unused w e false v nowhere slot g r at same =
    let free = w.slots.free in
    let there : is_free w.slots e.index ≡ true = ap (list_any (nat_eq e.index)) (sym (push-last free e.index (slot.raised refl).last_free)) ∙ any_pushed (front free) e.index e.index
    ∙ ap (λ b. list_any (nat_eq e.index) (front free) || b) (eq-eqb e.index e.index refl) ∙ or_right (list_any (nat_eq e.index) (front free)) true refl in
    let no : false ≡ true = sym (v.rows.each g r at).busy ∙ ap (is_free w.slots) same ∙ there in absurd cc

-- who had no children has none with a link to somebody else
children_given : (f : Forest) (e : Entity) (link : Option (Entity × ℕ)) → IsForest f → children_of f e ≡ [] → ((l : Entity × ℕ) → link ≡ Some l → e ≡ l.0 → ⊥) → children_of (with_link f e link) e ≡ []
children_given f e None v none other = children-cut f e v e ∙ ap (without e) none
children_given f e (Some l) v none other =
    list_at_apart entity_cmp_total entity_cmp_exact (cut f e) l.0 e (put_at (children_of (cut f e) l.0) l.1 e) (other l refl) ∙ children-cut f e v e ∙ ap (without e) none

module _ (w : World) (e : Entity) (place : ℕ) (cells : List (ℕ × Cell)) (link : Option (Entity × ℕ)) (retired : Bool) (v : IsValid w) (can : CanUncut w e place cells link retired) where
  abbrev slots_back : SlotState
  slots_back = unrelease_of w.slots e retired

  abbrev tables_back : Tables
  tables_back = with_row_back w.tables place (row_for e cells)

  pub uncut_nowhere : StandsNowhere e w.tables
  uncut_nowhere h r at same = let no : true ≡ false = sym (live_here w.tables e h r at same) ∙ can.dead in absurd cc

  pub uncut_alone : (parent_of w.children e ≡ None) × (children_of w.children e ≡ [])
  uncut_alone = nowhere_unlinked w e v uncut_nowhere

  uncut_release : CanRelease slots_back e
  uncut_release = CanRelease-unrelease w.slots e retired v.slots can.slot

  uncut_there : row_at tables_back (home_for cells place) ≡ Some (row_for e cells)
  uncut_there = returned_there w.tables place (row_for e cells) can.within

  uncut_lives : lives tables_back e ≡ true
  uncut_lives = live_here tables_back e (home_for cells place) (row_for e cells) uncut_there refl

  -- a parent that lives isn't the entity
  pub uncut_other : (l : Entity × ℕ) → link ≡ Some l → e ≡ l.0 → ⊥
  uncut_other l s same = let no : true ≡ false = sym (in_some (IsPlaceIn w w.children) link l can.room s).live ∙ ap (is_live w) (sym same) ∙ can.dead in absurd cc

  uncut_one : IsOneChange w e slots_back tables_back (with_link w.children e link)
  uncut_one =
      let elsewhere = SameElsewhere-unrelease w.slots e retired can.slot in
      let row = row_for e cells in
      record {
        slots = IsSlots-unrelease w.slots e retired v.slots can.slot;
        elsewhere = elsewhere;
        rows = record {
          each = each_returned (IsSoundRow w.schema slots_back w.tick) w.tables place row can.within
              (λ g r at. sound_elsewhere w slots_back e.index g.mask r elsewhere (index_unused w e retired v uncut_nowhere can.slot g r at) (v.rows.each g r at))
              (record { current = uncut_release.current; busy = uncut_release.not_free; fits = row_of_good w e cells can.good; timely = can.good.timely });
          once = once_returned w.tables place row can.within v.rows.once uncut_nowhere;
        };
        others = λ x ne l. lives_returned w.tables place row x l;
        here = λ l. first_of_three (is_live_index slots_back tables_back e.index) (is_free slots_back e.index) (is_retired slots_back e.index)
            (ap (λ (g : ℕ). lives tables_back (record { index = e.index; generation = g })) (read slots_back.generations e.index e.generation uncut_release.current) ∙ uncut_lives);
        links = record {
          live = linked_with_link (λ x. lives tables_back x ≡ true) w.children e link v.links.forest
              (λ p c k. (lives_returned w.tables place row p (v.links.live p c k).0, lives_returned w.tables place row c (v.links.live p c k).1))
              (λ l s. (uncut_lives, lives_returned w.tables place row l.0 (in_some (IsPlaceIn w w.children) link l can.room s).live));
          forest = with_link_forest w.children e link v.links.forest (λ l s. (not_same e l.0 (uncut_other l s), held_childless w.children e l.0 uncut_alone.1));
        };
      }

  uncut_keeps : IsValid (uncut_row w e place cells link retired)
  uncut_keeps = changed_valid w e slots_back tables_back (with_link w.children e link) v uncut_one

  uncut_stands : row_of (uncut_row w e place cells link retired) e ≡ Some (home_for cells place, row_for e cells)
  uncut_stands = row_stands (uncut_row w e place cells link retired) e (home_for cells place) (row_for e cells) uncut_keeps.rows.once uncut_there refl

  uncut_can_come_back : CanCut (uncut_row w e place cells link retired) e place cells link retired
  uncut_can_come_back = record {
    row = uncut_stands;
    childless = children_given w.children e link v.links.forest uncut_alone.1 uncut_other;
    linked = link_given w.children e link v.links.forest (if_some (λ l. l.1 ≤ length (children_of (cut w.children e) l.0)) link
        (λ l s. subst (λ (f : Forest). l.1 ≤ length (children_of f l.0)) (sym (cut_none w.children e uncut_alone.0)) (in_some (IsPlaceIn w w.children) link l can.room s).within));
    retires = can.slot.flag;
  }

  uncut_comes_back : cut_row (uncut_row w e place cells link retired) e ≡ w
  uncut_comes_back =
      let linkless : link_in w.children e ≡ None = ap (option_map (λ p. (p, place_among e (children_of w.children p)))) uncut_alone.0 in
      made_by_row (uncut_row w e place cells link retired) e (home_for cells place) (row_for e cells) (λ h row. after_despawn (uncut_row w e place cells link retired) h e) uncut_stands
      ∙ parts_back w _ _ _
      (release-unrelease w.slots e retired can.slot)
      (row_out_again w.tables place (row_for e cells) can.within)
      (ap (with_link (with_link w.children e link) e) (sym linkless) ∙ link_restored w.children e link v.links.forest)

pub cut_rows_come_back : CutRowsComeBack
cut_rows_come_back e place cells link retired = each_tested (λ w. cut_out w e place cells link retired) (λ w. uncut w e place cells link retired) (
  record {
    keeps = λ w v can. subst IsValid (sym (cut_is w e place cells link retired v can)) (cut_keeps w e place cells link retired v can);
    can_come_back = λ w v can. subst (λ u. CanUncut u e place cells link retired) (sym (cut_is w e place cells link retired v can)) (cut_can_come_back w e place cells link retired v can);
    comes_back = λ w v can. ap (λ u. uncut_row u e place cells link retired) (cut_is w e place cells link retired v can) ∙ cut_comes_back w e place cells link retired v can;
  },
  record {
    keeps = λ w v can. uncut_keeps w e place cells link retired v can;
    can_come_back = λ w v can. uncut_can_come_back w e place cells link retired v can;
    comes_back = λ w v can. uncut_comes_back w e place cells link retired v can;
  },
)
