-- Deltas that fit on a valid world, or fit back there, can be written: their parts are in the ranges of their types.
use Rattle.std.proofs.Common.{◌≡◌, ℕ, suc, cond, ◌^◌, ◌<◌, ◌≤◌, Bool, true, false, List, [], ◌∷◌, length, subst, arith, Option, Some, None}
use Rattle.std.specs.Prelude.{IfSome, nat_le}
use Rattle.std.specs.List.{AllByRecursion}
use Rattle.std.proofs.lemmas.Bool.{leb-true}
use Rattle.scene_kinds.specs.declared.entity.Entity.{Entity}
use Rattle.scene_kinds.specs.declared.cell.Cell.{Cell}
use Rattle.scene_kinds.specs.declared.cells.Row.{Row}
use Rattle.scene_kinds.specs.Cells.{cell_of}
use Rattle.scene_kinds.specs.Entity.{is_same}
use Rattle.scene_kinds.specs.Ranges.{is_entity}
use Rattle.scene_kinds.specs.Schema.{Kinds}
use Rattle.scene_table.specs.declared.home.Home.{Home}
use Rattle.scene_table.specs.Tables.{row_at, row_for, home_for}
use Rattle.scene_table.proofs.Homes.{here_live}
use Rattle.scene_links.specs.Forest.{children_of, link_in, place_among}
use Rattle.scene_links.proofs.Held.{parent_holds}
use Rattle.scene_resources.specs.Resources.{cell_of as resource_of}
use Rattle.scene_model.specs.World.{World, is_live}
use Rattle.scene_model.specs.Valid.{IsValid, is_timely}
use Rattle.scene_model.specs.Raw.{cells_of, put_row}
use Rattle.scene_model.specs.Can.{can_put}
use Rattle.scene_model.proofs.Bounds.{place_low}
use Rattle.scene_model.proofs.CanParts.{AreGoodCells, IsGoodCell, IsGoodResource, CanHaveLink, CanMove, CanCut, CanShift, CanSetCell, CanSetLink, CanSetResource}
use Rattle.scene_model.proofs.CanParts.{put, drop, cut_out, shift, set_cell, set_link, set_resource}
use Rattle.scene_model.proofs.GivenLinks.{linked_parent}
use Rattle.scene_model.proofs.GoodCells.{found_good, good_cells}
use Rattle.scene_model.proofs.LastRows.{last_home, last_row_there}
use Rattle.scene_model.proofs.PutBack.{rows_come_back}
use Rattle.scene_model.proofs.RowOf.{row_there, has_cell}
use Rattle.scene_deltas.specs.declared.delta.Delta.{Delta}
use Rattle.scene_deltas.specs.declared.delta.Delta.TheVariants.{Spawned, Despawned, Shifted, CellSet, Linked, ResourceSet}
use Rattle.scene_deltas.specs.Deltas.{FitsOn}
use Rattle.scene_world.proofs.FewChildren.{children_few, last_low}
use Rattle.scene_validate.proofs.Tests.{and_is, all_is, all_with}
use Rattle.scene_file_records.specs.Writable.{AreCells, IsLink, IsResourceCell, IsWritableDelta}
use Rattle.scene_file.proofs.WorldBack.{slot_entity}

-- the ticks of a cell are in the range of their type
abbrev pub HasTicks : Cell → Type 0
HasTicks c = (c.added < 2 ^ 64) × (c.changed < 2 ^ 64)

-- those of all cells of a delta
abbrev pub DeltaHasTicks : Delta → Type 0
DeltaHasTicks (Spawned e cells fresh) = AllByRecursion (λ c. HasTicks c.1) cells
DeltaHasTicks (Despawned e place cells link retired) = AllByRecursion (λ c. HasTicks c.1) cells
DeltaHasTicks (Shifted e place kind cell inward) = HasTicks cell
DeltaHasTicks (CellSet e kind before after) = HasTicks before × HasTicks after
DeltaHasTicks (Linked e before after) = Unit {0}
DeltaHasTicks (ResourceSet name before after) = IfSome before HasTicks × IfSome after HasTicks

-- a delta can be written
pub record IsTold (schema : Kinds) (d : Delta) : Type 0 where
  pub writable : IsWritableDelta schema d
  pub ticks : DeltaHasTicks d

-- the place of an element is at most the length of its list
place_within : (e : Entity) (xs : List Entity) → place_among e xs ≤ length xs
place_within e [] = omega arith
place_within e (x ∷ xs) = elim (is_same e x) as (λ b. cond b 0 (suc (place_among e xs)) ≤ length (x ∷ xs)) [
  | true ↦ omega arith
  | false ↦ let rest = place_within e xs in omega (arith, rest)
]

module _ (w : World) (v : IsValid w) where
  -- ---- what a valid world has

  timely_ticks : (c : Cell) → is_timely w.tick c ≡ true → HasTicks c
  timely_ticks c h =
      let p = and_is (nat_le c.added c.changed) (nat_le c.changed w.tick) h in
      let a = leb-true c.added c.changed p.0 in
      let b = leb-true c.changed w.tick p.1 in
      let low = v.tick in (omega (arith, a, b, low), omega (arith, b, low))

  cells_ticks : (cells : List (ℕ × Cell)) → AreGoodCells w cells → AllByRecursion (λ c. HasTicks c.1) cells
  cells_ticks cells g = all_with (λ c. is_timely w.tick c.1 ≡ true) (λ c. HasTicks c.1) (λ c h. timely_ticks c.1 h) cells
      (all_is (λ c. is_timely w.tick c.1) cells g.timely)

  cells_told : (cells : List (ℕ × Cell)) → AreGoodCells w cells → AreCells w.schema cells
  cells_told cells g = record { fit = g.fit; ascending = g.ascending }

  -- the entity and the cells of a row
  entity_of_row : (h : Home) (r : Row) → row_at w.tables h ≡ Some r → is_entity r.entity ≡ true
  entity_of_row h r at = slot_entity w.slots v.slots r.entity (v.rows.each h r at).current

  cells_of_row : (h : Home) (r : Row) → row_at w.tables h ≡ Some r → AreGoodCells w r.cells
  cells_of_row h r at = good_cells w w.slots h.mask r (v.rows.each h r at)

  live_entity : (e : Entity) → is_live w e ≡ true → is_entity e ≡ true
  live_entity e live = let h = here_live w.tables e live in subst (λ x. is_entity x ≡ true) h.1.same (entity_of_row h.0 h.1.row h.1.there)

  -- a cell that an entity has
  cell_told : (e : Entity) (kind : ℕ) (c : Cell) → cell_of (cells_of w e) kind ≡ Some c → IsGoodCell w kind c × (is_entity e ≡ true)
  cell_told e kind c is = has_cell (IsGoodCell w kind c × (is_entity e ≡ true)) w e kind c is (λ h row found there.
      let at = row_there w e h row found in (
        found_good w row.cells kind c (cells_of_row h row at.0) there,
        subst (λ x. is_entity x ≡ true) at.1 (entity_of_row h row at.0),
      ))

  -- a link that an entity has
  parent_told : (e : Entity) (link : Entity × ℕ) → link_in w.children e ≡ Some link → IsLink link
  parent_told e link h =
      let p = linked_parent w.children e link h in
      let live = (v.links.live link.0 e (parent_holds w.children e link.0 p.0)).0 in
      let same = p.1 in
      let within = place_within e (children_of w.children link.0) in
      let few = children_few w v link.0 in
      let below : link.1 < 2 ^ 32 = omega (arith, same, within, few) in
      (live_entity link.0 live, below)

  link_told : (e : Entity) (link : Option (Entity × ℕ)) → link_in w.children e ≡ link → IfSome link IsLink
  link_told e None h = tt
  link_told e (Some link) h = parent_told e link h

  -- a link that an entity may get
  may_link_told : (e : Entity) (link : Option (Entity × ℕ)) → IfSome link (CanHaveLink w e) → IfSome link IsLink
  may_link_told e None h = tt
  may_link_told e (Some link) h =
      let within = h.room.within in
      let low = last_low w e link.0 v in (live_entity link.0 h.room.live, omega (arith, within, low))

  -- a resource that is there, and one that may come
  resource_told : (name : List ℕ) (cell : Option Cell) → resource_of w.resources name ≡ cell → IfSome cell IsResourceCell × IfSome cell HasTicks
  resource_told name None h = (tt, tt)
  resource_told name (Some c) h = let r = v.resources name c h in (r.in_range, timely_ticks c r.timely)

  may_resource_told : (cell : Option Cell) → IfSome cell (IsGoodResource w) → IfSome cell IsResourceCell × IfSome cell HasTicks
  may_resource_told None h = (tt, tt)
  may_resource_told (Some c) h = (h.in_range, timely_ticks c h.timely)

  -- ---- deltas that fit

  -- the next entity lives in the world after it was put
  next_entity : (e : Entity) (cells : List (ℕ × Cell)) (fresh : Bool) → can_put w e cells fresh ≡ true → is_entity e ≡ true
  next_entity e cells fresh f =
      let comes_back = (rows_come_back e cells fresh).0 in
      let after : World = put_row w e cells in
      let valid = comes_back.keeps w v f in
      let last = last_row_there after.tables (row_for e cells) ((drop after e cells fresh).0 (comes_back.can_come_back w v f)).row in
      slot_entity after.slots valid.slots e (valid.rows.each (last_home after.tables (row_for e cells)) (row_for e cells) last).current

  put_told : (e : Entity) (cells : List (ℕ × Cell)) (fresh : Bool) → can_put w e cells fresh ≡ true → IsTold w.schema (Spawned e cells fresh)
  put_told e cells fresh f =
      let good = ((put w e cells fresh).0 f).good in
      record { writable = (cells_told cells good, next_entity e cells fresh f); ticks = cells_ticks cells good }

  cut_told : (e : Entity) (place : ℕ) (cells : List (ℕ × Cell)) (link : Option (Entity × ℕ)) (retired : Bool) → CanCut w e place cells link retired
      → IsTold w.schema (Despawned e place cells link retired)
  cut_told e place cells link retired f =
      let at = row_there w e (home_for cells place) (row_for e cells) f.row in
      let good = cells_of_row (home_for cells place) (row_for e cells) at.0 in
      let low = place_low w v (home_for cells place) (row_for e cells) at.0 in
      record {
        writable = (
          cells_told cells good,
          entity_of_row (home_for cells place) (row_for e cells) at.0,
          link_told e link f.linked,
          omega (arith, low),
        );
        ticks = cells_ticks cells good;
      }

  moved_told : (e : Entity) (kind : ℕ) (c : Cell) (inward : Bool) → CanMove w (cells_of w e) kind c inward → IsGoodCell w kind c
  moved_told e kind c true h = h.good
  moved_told e kind c false h = (cell_told e kind c h).0

  shift_told : (e : Entity) (place kind : ℕ) (c : Cell) (inward : Bool) → CanShift w e place kind c inward
      → IsTold w.schema (Shifted e place kind c inward)
  shift_told e place kind c inward f =
      let home = home_for (cells_of w e) place in
      let row = row_for e (cells_of w e) in
      let at = row_there w e home row f.row in
      let low = place_low w v home row at.0 in
      let good = moved_told e kind c inward f.moves in
      record { writable = (good.fits, entity_of_row home row at.0, omega (arith, low)); ticks = timely_ticks c good.timely }

  set_cell_told : (e : Entity) (kind : ℕ) (before after : Cell) → CanSetCell w e kind before after → IsTold w.schema (CellSet e kind before after)
  set_cell_told e kind before after f =
      let old = cell_told e kind before f.now in
      record {
        writable = (f.good.fits, old.0.fits, old.1);
        ticks = (timely_ticks before old.0.timely, timely_ticks after f.good.timely);
      }

  set_link_told : (e : Entity) (before after : Option (Entity × ℕ)) → CanSetLink w e before after → IsTold w.schema (Linked e before after)
  set_link_told e before after f = record {
    writable = (may_link_told e after f.good, link_told e before f.now, live_entity e f.live);
    ticks = tt;
  }

  set_resource_told : (name : List ℕ) (before after : Option Cell) → CanSetResource w name before after
      → IsTold w.schema (ResourceSet name before after)
  set_resource_told name before after f =
      let old = resource_told name before f.now in
      let new = may_resource_told after f.good in
      record { writable = (new.0, old.0, f.named); ticks = (old.1, new.1) }

  -- a delta that fits can be written
  pub fitting_told : (d : Delta) → FitsOn d w → IsTold w.schema d
  fitting_told (Spawned e cells fresh) f = put_told e cells fresh f
  fitting_told (Despawned e place cells link retired) f = cut_told e place cells link retired ((cut_out w e place cells link retired).0 f)
  fitting_told (Shifted e place kind cell inward) f = shift_told e place kind cell inward ((shift w e place kind cell inward).0 f)
  fitting_told (CellSet e kind before after) f = set_cell_told e kind before after ((set_cell w e kind before after).0 f)
  fitting_told (Linked e before after) f = set_link_told e before after ((set_link w e before after).0 f)
  fitting_told (ResourceSet name before after) f = set_resource_told name before after ((set_resource w name before after).0 f)
