-- What each test of `Can` says, as a record of its parts, and that the test decides it: so lemmas take a test apart, or
-- put it together.
use Rattle.std.proofs.Common.{◌≡◌, ℕ, ◌≤◌, Bool, true, false, not, List, [], ◌∷◌, length, refl, Option, Some, None, Decides, IfSome}
use Rattle.std.specs.Prelude.{◌&&◌}
use Rattle.std.specs.Cmp.{booleans_Decides}
use Rattle.std.specs.List.{list_all}
use Rattle.std.proofs.lemmas.Bool.{and_parts, and_from}
use Rattle.scene_kinds.specs.declared.entity.Entity.{Entity}
use Rattle.scene_kinds.specs.declared.cell.Cell.{Cell}
use Rattle.scene_kinds.specs.Cells.{IsAscending, cell_of, mask_of}
use Rattle.scene_kinds.specs.Entity.{is_same}
use Rattle.scene_kinds.specs.Map as map
use Rattle.scene_kinds.specs.Ranges.{is_in_range}
use Rattle.scene_kinds.specs.Schema.{fits_kind, is_good_name}
use Rattle.scene_alloc.specs.Ends.{last}
use Rattle.scene_alloc.specs.Slots.{takes_new_slot, retires, take_of}
use Rattle.scene_alloc.proofs.Decided.{both, as_parts, passes, fails, holds, where_flagged, at_most, is_nothing, is_empty, same_options}
use Rattle.scene_alloc.proofs.SlotParts.{IsFresh, CanUnrelease, fresh_there, unrelease}
use Rattle.scene_links.specs.Forest.{Forest, children_of, parent_of, holds as is_held, ancestors, cut, link_in}
use Rattle.scene_resources.specs.Resources.{cell_of as resource_of}
use Rattle.scene_table.specs.Tables.{rows_at, EachRow, row_for, home_for}
use Rattle.scene_model.specs.World.{World, row_of, is_live}
use Rattle.scene_model.specs.Commands.{highest_tick}
use Rattle.scene_model.specs.Valid.{is_timely}
use Rattle.scene_model.specs.Raw.{cells_of, shifted, taken_entity}
use Rattle.scene_model.specs.Can as test
use Rattle.scene_model.specs.RawLaws.{IsTakenBack, TakeEachOtherBack}
use Rattle.scene_model.specs.Same.{same_cell, same_row, same_home, same_link}
use Rattle.scene_model.specs.Timely.{if_some}
use Rattle.scene_model.proofs.SameTests.{pair_decides, entity_decides, cell_decides, row_decides, home_decides, link_decides}
use Rattle.scene_model.proofs.TimelyTests.{rows_decide, resources_decide}

-- a test of what may be missing
if_some_decides : {X : Type 0} (P : X → Type 0) (p : X → Bool) → ((x : X) → Decides (p x) (P x)) → (o : Option X) → Decides (if_some o p) (IfSome o P)
if_some_decides P p each None = (λ h. tt, λ t. refl)
if_some_decides P p each (Some x) = each x

-- all elements pass both of two tests
all_both : {X : Type 0} (p q : X → Bool) (xs : List X) → Decides (list_all (λ x. p x && q x) xs) ((list_all p xs ≡ true) × (list_all q xs ≡ true))
all_both p q [] = (λ h. (refl, refl), λ b. refl)
all_both p q (x ∷ xs) = (
  λ h. let t = and_parts (p x && q x) (list_all (λ x. p x && q x) xs) h in let u = and_parts (p x) (q x) t.0 in let v = (all_both p q xs).0 t.1 in
      (and_from (p x) (list_all p xs) u.0 v.0, and_from (q x) (list_all q xs) u.1 v.1),
  λ b. let s = and_parts (p x) (list_all p xs) b.0 in let t = and_parts (q x) (list_all q xs) b.1 in
      and_from (p x && q x) (list_all (λ x. p x && q x) xs) (and_from (p x) (q x) s.0 t.0) ((all_both p q xs).1 (s.1, t.1)),
)

module _ (w : World) where
  -- ---- what the world has, and what may come

  abbrev pub HasRow : Entity → ℕ → List (ℕ × Cell) → Type 0
  HasRow e place cells = row_of w e ≡ Some (home_for cells place, row_for e cells)

  pub row_there : (e : Entity) (place : ℕ) (cells : List (ℕ × Cell)) → Decides (test.has_row w e place cells) (HasRow e place cells)
  row_there e place cells = same_options _ (pair_decides same_home same_row home_decides row_decides) _ _

  abbrev pub HasLastRow : Entity → List (ℕ × Cell) → Type 0
  HasLastRow e cells = last (rows_at w.tables (mask_of cells)) ≡ Some (row_for e cells)

  pub last_row_there : (e : Entity) (cells : List (ℕ × Cell)) → Decides (test.has_last_row w e cells) (HasLastRow e cells)
  last_row_there e cells = same_options same_row row_decides _ _

  pub cell_there : (cells : List (ℕ × Cell)) (kind : ℕ) (cell : Cell) → Decides (test.has_cell cells kind cell) (cell_of cells kind ≡ Some cell)
  cell_there cells kind cell = same_options same_cell cell_decides _ _

  pub link_there : (f : Forest) (e : Entity) (link : Option (Entity × ℕ)) → Decides (test.has_link f e link) (link_in f e ≡ link)
  link_there f e link = same_options same_link link_decides _ _

  pub record IsGoodCell (kind : ℕ) (cell : Cell) : Type 0 where
    pub fits : fits_kind w.schema cell.value kind ≡ true
    pub timely : is_timely w.tick cell ≡ true

  pub good_cell : (kind : ℕ) (cell : Cell) → Decides (test.is_good_cell w kind cell) (IsGoodCell kind cell)
  good_cell kind cell = as_parts (both (passes _) (passes _)) (λ p. record { fits = p.0; timely = p.1 }) (λ g. (g.fits, g.timely))

  pub record AreGoodCells (cells : List (ℕ × Cell)) : Type 0 where
    pub ascending : IsAscending cells
    pub fit : list_all (λ c. fits_kind w.schema c.1.value c.0) cells ≡ true
    pub timely : list_all (λ c. is_timely w.tick c.1) cells ≡ true

  pub cells_are_good : (cells : List (ℕ × Cell)) → Decides (test.are_good_cells w cells) (AreGoodCells cells)
  cells_are_good cells =
      as_parts (both (holds _) (all_both (λ c. fits_kind w.schema c.1.value c.0) (λ c. is_timely w.tick c.1) cells))
      (λ p. record { ascending = p.0; fit = p.1.0; timely = p.1.1 }) (λ g. (g.ascending, (g.fit, g.timely)))

  pub record IsGoodResource (cell : Cell) : Type 0 where
    pub in_range : is_in_range cell.value ≡ true
    pub timely : is_timely w.tick cell ≡ true

  pub good_resource : (cell : Cell) → Decides (test.is_good_resource w cell) (IsGoodResource cell)
  good_resource cell = as_parts (both (passes _) (passes _)) (λ p. record { in_range = p.0; timely = p.1 }) (λ g. (g.in_range, g.timely))

  pub record IsPlaceIn (children : Forest) (link : Entity × ℕ) : Type 0 where
    pub live : is_live w link.0 ≡ true
    pub within : link.1 ≤ length (children_of children link.0)

  pub place_in : (children : Forest) (link : Entity × ℕ) → Decides (test.is_place_in w children link) (IsPlaceIn children link)
  place_in children link = as_parts (both (passes _) (at_most _ _)) (λ p. record { live = p.0; within = p.1 }) (λ g. (g.live, g.within))

  pub record CanHaveLink (e : Entity) (link : Entity × ℕ) : Type 0 where
    pub room : IsPlaceIn (cut w.children e) link
    pub other : is_same e link.0 ≡ false
    pub not_above : is_held e (ancestors w.children link.0) ≡ false

  pub may_have_link : (e : Entity) (link : Entity × ℕ) → Decides (test.can_have_link w e link) (CanHaveLink e link)
  may_have_link e link =
      as_parts (both (both (fails _) (fails _)) (place_in (cut w.children e) link)) (λ p. record { room = p.1; other = p.0.0; not_above = p.0.1 })
      (λ g. ((g.other, g.not_above), g.room))

  pub record CanGain (cells : List (ℕ × Cell)) (kind : ℕ) (cell : Cell) : Type 0 where
    pub absent : cell_of cells kind ≡ None
    pub good : IsGoodCell kind cell

  abbrev pub CanMove : List (ℕ × Cell) → ℕ → Cell → Bool → Type 0
  CanMove cells kind cell true = CanGain cells kind cell
  CanMove cells kind cell false = cell_of cells kind ≡ Some cell

  pub move : (cells : List (ℕ × Cell)) (kind : ℕ) (cell : Cell) (inward : Bool) → Decides (test.can_move w cells kind cell inward) (CanMove cells kind cell inward)
  move cells kind cell true =
      as_parts (both (is_nothing _) (good_cell kind cell)) (λ p. record { absent = p.0; good = p.1 }) (λ g. (g.absent, g.good))
  move cells kind cell false = cell_there cells kind cell

  -- ---- rows that come and go

  pub record CanPut (e : Entity) (cells : List (ℕ × Cell)) (fresh : Bool) : Type 0 where
    pub next : taken_entity (take_of w.slots) ≡ Some e
    pub slot : fresh ≡ takes_new_slot w.slots
    pub good : AreGoodCells cells

  pub put : (e : Entity) (cells : List (ℕ × Cell)) (fresh : Bool) → Decides (test.can_put w e cells fresh) (CanPut e cells fresh)
  put e cells fresh =
      as_parts (both (both (same_options _ entity_decides _ _) (booleans_Decides fresh _)) (cells_are_good cells))
      (λ p. record { next = p.0.0; slot = p.0.1; good = p.1 }) (λ g. ((g.next, g.slot), g.good))

  pub record CanDrop (e : Entity) (cells : List (ℕ × Cell)) (fresh : Bool) : Type 0 where
    pub row : HasLastRow e cells
    pub parentless : parent_of w.children e ≡ None
    pub childless : children_of w.children e ≡ []
    pub newest : fresh ≡ true → IsFresh w.slots e

  pub drop : (e : Entity) (cells : List (ℕ × Cell)) (fresh : Bool) → Decides (test.can_drop w e cells fresh) (CanDrop e cells fresh)
  drop e cells fresh =
      as_parts (both (both (both (last_row_there e cells) (is_nothing _)) (is_empty _)) (where_flagged fresh (fresh_there w.slots e)))
      (λ p. record { row = p.0.0.0; parentless = p.0.0.1; childless = p.0.1; newest = p.1 })
      (λ g. (((g.row, g.parentless), g.childless), g.newest))

  pub record CanCut (e : Entity) (place : ℕ) (cells : List (ℕ × Cell)) (link : Option (Entity × ℕ)) (retired : Bool) : Type 0 where
    pub row : HasRow e place cells
    pub childless : children_of w.children e ≡ []
    pub linked : link_in w.children e ≡ link
    pub retires : retired ≡ retires e

  pub cut_out : (e : Entity) (place : ℕ) (cells : List (ℕ × Cell)) (link : Option (Entity × ℕ)) (retired : Bool)
      → Decides (test.can_cut w e place cells link retired) (CanCut e place cells link retired)
  cut_out e place cells link retired =
      as_parts (both (both (both (row_there e place cells) (is_empty _)) (link_there w.children e link)) (booleans_Decides retired _))
      (λ p. record { row = p.0.0.0; childless = p.0.0.1; linked = p.0.1; retires = p.1 })
      (λ g. (((g.row, g.childless), g.linked), g.retires))

  pub record CanUncut (e : Entity) (place : ℕ) (cells : List (ℕ × Cell)) (link : Option (Entity × ℕ)) (retired : Bool) : Type 0 where
    pub slot : CanUnrelease w.slots e retired
    pub dead : is_live w e ≡ false
    pub within : place ≤ length (rows_at w.tables (mask_of cells))
    pub good : AreGoodCells cells
    pub room : IfSome link (IsPlaceIn w.children)

  pub uncut : (e : Entity) (place : ℕ) (cells : List (ℕ × Cell)) (link : Option (Entity × ℕ)) (retired : Bool)
      → Decides (test.can_uncut w e place cells link retired) (CanUncut e place cells link retired)
  uncut e place cells link retired =
      as_parts (both (both (both (both (unrelease w.slots e retired) (fails _)) (cells_are_good cells)) (at_most _ _)) (if_some_decides _ _ (place_in w.children) link))
      (λ p. record { slot = p.0.0.0.0; dead = p.0.0.0.1; within = p.0.1; good = p.0.0.1; room = p.1 })
      (λ g. ((((g.slot, g.dead), g.good), g.within), g.room))

  -- ---- rows that move

  pub record CanShift (e : Entity) (place kind : ℕ) (cell : Cell) (inward : Bool) : Type 0 where
    pub row : HasRow e place (cells_of w e)
    pub moves : CanMove (cells_of w e) kind cell inward

  pub shift : (e : Entity) (place kind : ℕ) (cell : Cell) (inward : Bool) → Decides (test.can_shift w e place kind cell inward) (CanShift e place kind cell inward)
  shift e place kind cell inward =
      as_parts (both (row_there e place (cells_of w e)) (move (cells_of w e) kind cell inward)) (λ p. record { row = p.0; moves = p.1 }) (λ g. (g.row, g.moves))

  pub record CanUnshift (e : Entity) (place kind : ℕ) (cell : Cell) (inward : Bool) : Type 0 where
    pub row : HasLastRow e (cells_of w e)
    pub moves : CanMove (cells_of w e) kind cell (not inward)
    pub within : place ≤ length (rows_at w.tables (mask_of (shifted (cells_of w e) kind cell (not inward))))

  pub unshift : (e : Entity) (place kind : ℕ) (cell : Cell) (inward : Bool) → Decides (test.can_unshift w e place kind cell inward) (CanUnshift e place kind cell inward)
  unshift e place kind cell inward =
      as_parts (both (both (last_row_there e (cells_of w e)) (move (cells_of w e) kind cell (not inward))) (at_most _ _))
      (λ p. record { row = p.0.0; moves = p.0.1; within = p.1 }) (λ g. ((g.row, g.moves), g.within))

  -- ---- what is written in its place

  pub record CanSetCell (e : Entity) (kind : ℕ) (before after : Cell) : Type 0 where
    pub now : cell_of (cells_of w e) kind ≡ Some before
    pub good : IsGoodCell kind after

  pub set_cell : (e : Entity) (kind : ℕ) (before after : Cell) → Decides (test.can_set_cell w e kind before after) (CanSetCell e kind before after)
  set_cell e kind before after =
      as_parts (both (cell_there (cells_of w e) kind before) (good_cell kind after)) (λ p. record { now = p.0; good = p.1 }) (λ g. (g.now, g.good))

  pub record CanSetLink (e : Entity) (before after : Option (Entity × ℕ)) : Type 0 where
    pub live : is_live w e ≡ true
    pub now : link_in w.children e ≡ before
    pub good : IfSome after (CanHaveLink e)

  pub set_link : (e : Entity) (before after : Option (Entity × ℕ)) → Decides (test.can_set_link w e before after) (CanSetLink e before after)
  set_link e before after =
      as_parts (both (both (passes _) (link_there w.children e before)) (if_some_decides _ _ (may_have_link e) after))
      (λ p. record { live = p.0.0; now = p.0.1; good = p.1 }) (λ g. ((g.live, g.now), g.good))

  pub record CanSetResource (name : List ℕ) (before after : Option Cell) : Type 0 where
    pub named : is_good_name name ≡ true
    pub now : resource_of w.resources name ≡ before
    pub good : IfSome after IsGoodResource

  pub set_resource : (name : List ℕ) (before after : Option Cell) → Decides (test.can_set_resource w name before after) (CanSetResource name before after)
  set_resource name before after =
      as_parts (both (both (passes _) (same_options same_cell cell_decides _ _)) (if_some_decides _ _ good_resource after))
      (λ p. record { named = p.0.0; now = p.0.1; good = p.1 }) (λ g. ((g.named, g.now), g.good))

  pub record CanSetTick (tick : ℕ) : Type 0 where
    pub low : tick ≤ highest_tick
    pub rows : EachRow (λ mask row. list_all (λ c. is_timely tick c.1) row.cells ≡ true) w.tables
    pub resources : (name : List ℕ) (cell : Cell) → map.get w.resources name ≡ Some cell → is_timely tick cell ≡ true

  pub set_tick : (tick : ℕ) → Decides (test.can_set_tick w tick) (CanSetTick tick)
  set_tick tick =
      as_parts (both (both (at_most _ _) (rows_decide w.tables tick)) (resources_decide w.resources tick))
      (λ p. record { low = p.0.0; rows = p.0.1; resources = p.1 }) (λ g. ((g.low, g.rows), g.resources))

-- a change that is taken back where facts say that it may be made, is so where the tests that decide them pass
module _ {may may_undo : World → Type 0} {p q : World → Bool} {change undo : World → World}
    (may_tested : (w : World) → Decides (p w) (may w)) (undo_tested : (w : World) → Decides (q w) (may_undo w)) where
  pub tested : IsTakenBack may change may_undo undo → IsTakenBack (λ w. p w ≡ true) change (λ w. q w ≡ true) undo
  tested back = record {
    keeps = λ w v h. back.keeps w v ((may_tested w).0 h);
    can_come_back = λ w v h. (undo_tested (change w)).1 (back.can_come_back w v ((may_tested w).0 h));
    comes_back = λ w v h. back.comes_back w v ((may_tested w).0 h);
  }

-- and both ways
pub each_tested : {may may_undo : World → Type 0} {p q : World → Bool} {change undo : World → World} → ((w : World) → Decides (p w) (may w)) → ((w : World) → Decides (q w) (may_undo w))
    → TakeEachOtherBack may change may_undo undo → TakeEachOtherBack (λ w. p w ≡ true) change (λ w. q w ≡ true) undo
each_tested may_tested undo_tested back = (tested may_tested undo_tested back.0, tested undo_tested may_tested back.1)
