-- A row that is put with its slot, and one that is dropped, keep a valid world valid and come back.
use Rattle.std.proofs.Common.{◌≡◌, ℕ, ◌<◌, Bool, true, false, ◌||◌, List, [], ◌∷◌, ◌++◌, length, refl, ap, subst, sym, ◌∙◌, arith, Some, None, Ok, slice_get, nat_eq}
use Rattle.std.specs.Prelude.{Err}
use Rattle.std.specs.Cmp.{nat_cmp_total}
use Rattle.std.specs.List.{list_any}
use Rattle.std.proofs.lemmas.Bool.{or_right, eq-eqb}
use Rattle.scene_kinds.specs.declared.entity.Entity.{Entity}
use Rattle.scene_kinds.specs.declared.cell.Cell.{Cell}
use Rattle.scene_kinds.specs.declared.cells.Row.{Row}
use Rattle.scene_kinds.specs.Cells.{mask_of}
use Rattle.scene_kinds.proofs.Lists.{list_at_same}
use Rattle.scene_alloc.specs.Ends.{last}
use Rattle.scene_alloc.specs.Slots.{SlotState, is_free, take_of, untake_of}
use Rattle.scene_alloc.proofs.SlotLaws.{SameElsewhere-untake, last-push, CanUntake-take, IsSlots-untake, fresh_length, takes_new_slot-untake, take-untake, untake-take}
use Rattle.scene_alloc.proofs.SlotParts.{CanUntake}
use Rattle.scene_links.specs.Forest.{holds, children_of, parent_of}
use Rattle.scene_links.proofs.LinkLaws.{nobody, none_holds, none_or, parent_holds}
use Rattle.scene_table.specs.declared.home.Home.{Home}
use Rattle.scene_model.specs.World.{World, row_of}
use Rattle.scene_table.specs.Tables.{rows_at, row_at, lives, with_row, without_row, row_for}
use Rattle.scene_model.specs.Valid.{IsValid, IsSoundRow, is_live_index, is_retired}
use Rattle.scene_model.specs.Raw.{taken_entity, taken_slots, put_row, drop_last}
use Rattle.scene_model.specs.RawLaws.{RowsComeBack}
use Rattle.scene_model.proofs.CanParts.{CanPut, CanDrop, put, drop, each_tested}
use Rattle.scene_model.proofs.GoodCells.{good_cells, row_of_good}
use Rattle.scene_table.proofs.Homes.{here_live}
use Rattle.scene_table.proofs.Lives.{lives_removed}
use Rattle.scene_model.proofs.Choices.{second_of_three}
use Rattle.scene_model.proofs.OneSlot.{with_parts, IsOneChange, changed_valid, parts_back, sound_elsewhere}
use Rattle.scene_model.proofs.LastRows.{pushed_row_out, next_home, last_home, last_row_there, last_row_again}
use Rattle.scene_model.proofs.RowOf.{made_by_row, row_stands}
use Rattle.scene_table.proofs.Standing.{StandsNowhere, added_there, each_removed, once_removed, removed_nowhere}
use Rattle.scene_model.proofs.SpawnKeeps.{grown_valid, taken_nowhere}
use Rattle.scene_model.proofs.TakenSlots.{any_pushed, taken}

-- ---- put

-- the take that gave an entity
pub took : (s : SlotState) (e : Entity) → taken_entity (take_of s) ≡ Some e → take_of s ≡ Ok (e, taken_slots s (take_of s))
took s e h = elim (take_of s) as (λ o. taken_entity o ≡ Some e → o ≡ Ok (e, taken_slots s o)) [
  | Ok p ↦ λ k. let same : p.0 ≡ e = cc in λ i. Ok (same i, p.1)
  | Err r ↦ λ k. absurd (let no : None ≡ Some e = k in cc)
] h

-- an entity that stands nowhere has no parent, and no children
pub nowhere_unlinked : (w : World) (e : Entity) → IsValid w → StandsNowhere e w.tables → (parent_of w.children e ≡ None) × (children_of w.children e ≡ [])
nowhere_unlinked w e v nowhere = (
  none_or (parent_of w.children e) (parent_of w.children e ≡ None) (λ n. n) (λ p n. absurd (dead (v.links.live p e (parent_holds w.children e p n)).1)),
  nobody (children_of w.children e) (λ c h. dead (v.links.live e c h).0),
)
  where
    dead : lives w.tables e ≡ true → ⊥
    dead l = let h = here_live w.tables e l in nowhere h.0 h.1.row h.1.there h.1.same

module _ (w : World) (e : Entity) (cells : List (ℕ × Cell)) (fresh : Bool) (v : IsValid w) (can : CanPut w e cells fresh) where
  abbrev new_slots : SlotState
  new_slots = taken_slots w.slots (take_of w.slots)

  put_took : take_of w.slots ≡ Ok (e, new_slots)
  put_took = took w.slots e can.next

  put_keeps : IsValid (put_row w e cells)
  put_keeps = grown_valid w new_slots (row_for e cells) v (taken w.slots new_slots e v.slots put_took) (row_of_good w e cells can.good) can.good.timely

  put_stands : row_of (put_row w e cells) e ≡ Some (next_home w.tables (row_for e cells), row_for e cells)
  put_stands = row_stands (put_row w e cells) e (next_home w.tables (row_for e cells)) (row_for e cells) put_keeps.rows.once (added_there w.tables (row_for e cells)) refl

  put_can_come_back : CanDrop (put_row w e cells) e cells fresh
  put_can_come_back =
      let rows = rows_at w.tables (mask_of cells) in
      let alone = nowhere_unlinked w e v (taken_nowhere w new_slots e v (taken w.slots new_slots e v.slots put_took)) in
      record {
        row = ap last (list_at_same nat_cmp_total w.tables (mask_of cells) (rows ++ row_for e cells ∷ [])) ∙ last-push rows (row_for e cells);
        parentless = alone.0;
        childless = alone.1;
        newest = λ f. (CanUntake-take w.slots new_slots e v.slots put_took).newest (sym can.slot ∙ f);
      }

  put_comes_back : drop_last (put_row w e cells) e fresh ≡ w
  put_comes_back =
      made_by_row (put_row w e cells) e (next_home w.tables (row_for e cells)) (row_for e cells)
      (λ h row. with_parts w (untake_of new_slots e fresh) (without_row (with_row w.tables (row_for e cells)) h) w.children) put_stands
      ∙ parts_back w _ _ _ (ap (untake_of new_slots e) can.slot ∙ untake-take w.slots new_slots e put_took) (pushed_row_out w.tables (row_for e cells)) refl

-- ---- drop

-- after an untake the entity's index is free, or no slot
untaken_here : (s : SlotState) (e : Entity) (fresh : Bool) → CanUntake s e fresh → (let t = untake_of s e fresh in e.index < length t.generations) → is_free (untake_of s e fresh) e.index ≡ true
untaken_here s e true c l = let n = fresh_length s e c in let m = (c.newest refl).last_slot in absurd (omega (arith, n, m, l))
untaken_here s e false c l = any_pushed s.free e.index e.index ∙ ap (λ b. list_any (nat_eq e.index) s.free || b) (eq-eqb e.index e.index refl) ∙ or_right (list_any (nat_eq e.index) s.free) true refl

module _ (w : World) (e : Entity) (cells : List (ℕ × Cell)) (fresh : Bool) (v : IsValid w) (can : CanDrop w e cells fresh) where
  abbrev home : Home
  home = last_home w.tables (row_for e cells)

  abbrev left : World
  left = with_parts w (untake_of w.slots e fresh) (without_row w.tables home) w.children

  pub drop_there : row_at w.tables home ≡ Some (row_for e cells)
  drop_there = last_row_there w.tables (row_for e cells) can.row

  pub drop_is : drop_last w e fresh ≡ left
  drop_is = made_by_row w e home (row_for e cells) (λ h row. with_parts w (untake_of w.slots e fresh) (without_row w.tables h) w.children)
      (row_stands w e home (row_for e cells) v.rows.once drop_there refl)

  pub drop_untakes : CanUntake w.slots e fresh
  drop_untakes = let old = v.rows.each home (row_for e cells) drop_there in record { current = old.current; not_free = old.busy; newest = can.newest }

  -- no row that is left has its index
  drop_apart : (g : Home) (r : Row) → row_at (without_row w.tables home) g ≡ Some r → r.entity.index ≡ e.index → ⊥
  drop_apart g r is same =
      let mine = each_removed (IsSoundRow w.schema w.slots w.tick) w.tables home (row_for e cells) drop_there v.rows.each g r is in
      let k : Some r.entity.generation ≡ Some e.generation = sym mine.current ∙ ap (slice_get w.slots.generations) same ∙ drop_untakes.current in
      let f : r.entity.generation ≡ e.generation = cc in
      removed_nowhere w.tables home (row_for e cells) drop_there v.rows.once g r is (λ i. record { index = same i; generation = f i })

  drop_one : IsOneChange w e (untake_of w.slots e fresh) (without_row w.tables home) w.children
  drop_one =
      let elsewhere = SameElsewhere-untake w.slots e fresh drop_untakes in
      let row = row_for e cells in
      record {
        slots = IsSlots-untake w.slots e fresh v.slots drop_untakes;
        elsewhere = elsewhere;
        rows = record {
          each = λ g r is. sound_elsewhere w (untake_of w.slots e fresh) e.index g.mask r elsewhere (drop_apart g r is)
              (each_removed (IsSoundRow w.schema w.slots w.tick) w.tables home row drop_there v.rows.each g r is);
          once = once_removed w.tables home row drop_there v.rows.once;
        };
        others = λ x ne l. lives_removed w.tables home row x drop_there (λ s. ne (sym (ap (λ (y : Entity). y.index) s))) l;
        here = λ l. second_of_three (is_live_index (untake_of w.slots e fresh) (without_row w.tables home) e.index) (is_free (untake_of w.slots e fresh) e.index) (is_retired (untake_of w.slots e fresh) e.index)
            (untaken_here w.slots e fresh drop_untakes l);
        links = record {
          live = λ p c k. (
            lives_removed w.tables home row p drop_there (λ s. let no : false ≡ true = sym (ap (holds c) (ap (children_of w.children) (sym s) ∙ can.childless)) ∙ k in absurd cc) (v.links.live p c k).0,
            lives_removed w.tables home row c drop_there (λ s. none_holds w.children e p v.links.forest can.parentless (subst (λ x. holds x (children_of w.children p) ≡ true) (sym s) k)) (v.links.live p c k).1,
          );
          forest = v.links.forest;
        };
      }

  drop_keeps : IsValid left
  drop_keeps = changed_valid w e (untake_of w.slots e fresh) (without_row w.tables home) w.children v drop_one

  drop_can_come_back : CanPut left e cells fresh
  drop_can_come_back =
      let good = good_cells w w.slots home.mask (row_for e cells) (v.rows.each home (row_for e cells) drop_there) in
      record {
        next = ap taken_entity (take-untake w.slots e fresh v.slots drop_untakes);
        slot = sym (takes_new_slot-untake w.slots e fresh drop_untakes);
        good = record { ascending = good.ascending; fit = good.fit; timely = good.timely };
      }

  drop_comes_back : put_row left e cells ≡ w
  drop_comes_back = parts_back w _ _ _ (ap (taken_slots left.slots) (take-untake w.slots e fresh v.slots drop_untakes)) (last_row_again w.tables (row_for e cells) can.row) refl

pub rows_come_back : RowsComeBack
rows_come_back e cells fresh = each_tested (λ w. put w e cells fresh) (λ w. drop w e cells fresh) (
  record {
    keeps = λ w v can. put_keeps w e cells fresh v can;
    can_come_back = λ w v can. put_can_come_back w e cells fresh v can;
    comes_back = λ w v can. put_comes_back w e cells fresh v can;
  },
  record {
    keeps = λ w v can. subst IsValid (sym (drop_is w e cells fresh v can)) (drop_keeps w e cells fresh v can);
    can_come_back = λ w v can. subst (λ u. CanPut u e cells fresh) (sym (drop_is w e cells fresh v can)) (drop_can_come_back w e cells fresh v can);
    comes_back = λ w v can. ap (λ u. put_row u e cells) (drop_is w e cells fresh v can) ∙ drop_comes_back w e cells fresh v can;
  },
)
