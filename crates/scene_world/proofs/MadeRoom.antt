-- Room that was made holds the world after a raw change; and room that holds that world was room for the change.
use Rattle.std.proofs.Common.{◌≡◌, ◌∙◌, ℕ, suc, ◌<◌, ◌≤◌, ◌+◌, nat_eq, ◌∷◌, [], List, Option, Bool, true, false, cond, length, length-append, refl, ap, sym, subst, arith, Some, None}
use Rattle.std.specs.Prelude.{Contains, IsSome, IfSome}
use Rattle.std.specs.Cmp.{nat_cmp_total}
use Rattle.std.specs.FinMap.{nat_cmp-IsAntisymmetric}
use Rattle.std.specs.Ordering.{nat_cmp, eq_by_cmp}
use Rattle.std.proofs.lemmas.Bool.{eqb-true}
use Rattle.std.proofs.lemmas.List.{length-set}
use Rattle.std.proofs.lemmas.Option.{slice_get_within}
use Rattle.scene_kinds.specs.declared.entity.Entity.{Entity}
use Rattle.scene_kinds.specs.declared.cell.Cell.{Cell}
use Rattle.scene_kinds.specs.declared.cells.Row.{Row}
use Rattle.scene_kinds.specs.Cells.{mask_of}
use Rattle.scene_kinds.proofs.Lists.{list_at_same, list_at_apart, list_at-with_list}
use Rattle.scene_kinds.proofs.Maps.{equal_keys, ties_itself}
use Rattle.scene_table.specs.Rows.{swap_out, put_back}
use Rattle.scene_table.specs.declared.home.Home.{Home}
use Rattle.scene_table.specs.Tables.{Tables, rows_at, row_at, with_rows, with_row, without_row, with_row_back, row_for, home_for}
use Rattle.scene_table.proofs.ReturnedRows.{back_last, each_returned, returned_there}
use Rattle.scene_table.proofs.Standing.{each_removed}
use Rattle.scene_table.proofs.Swaps.{length-put_back, length-swap_out}
use Rattle.scene_alloc.specs.Ends.{last}
use Rattle.scene_alloc.specs.Slots.{SlotState, take_of, unrelease_of, takes_new_slot}
use Rattle.scene_alloc.proofs.SlotLaws.{take_cases}
use Rattle.scene_archetypes.specs.KindTables.{Rooms, HoldRows, capacity_at}
use Rattle.scene_archetypes.specs.Archetypes.{ArchetypesState, HasRoomOf, HoldsRows}
use Rattle.scene_links.specs.Forest.{Forest, IsForest, cut, put_at, children_of, joined_at, with_link}
use Rattle.scene_links.specs.Room.{AreAlone, HasNode, Holds as HoldsLinks, HasRoom as HasRoomForChild, capacity_at as children_at}
use Rattle.scene_links.proofs.Held.{written}
use Rattle.scene_links.proofs.Linked.{leaving_fits}
use Rattle.scene_links.proofs.LinkLaws.{all_joined_at, cut_none, length-put_at, linked-cut, parent_gone, room_of_joined, room_wider}
use Rattle.scene_resources.specs.Resources.{NamedCells, Holds as HoldsNames, name_cmp_total, name_cmp_exact, cell_of, restore_of}
use Rattle.scene_resources.proofs.ResourceLaws.{is_name, restored_cells}
use Rattle.scene_model.specs.World.{World}
use Rattle.scene_model.specs.Raw.{put_row, uncut_row, taken_entity, taken_slots}
use Rattle.scene_model.proofs.CanParts.{CanPut}
use Rattle.scene_model.proofs.PutBack.{took}
use Rattle.scene_world.specs.Room.{Housed, Room, Holds, IsWider, stored_rows}

-- ---- rows

-- the state of rows that has this room
abbrev pub rows_with : Tables → Rooms → ℕ → ArchetypesState
rows_with t rooms count = record { tables = t; rooms = rooms; homes = count }

-- the rows of a kind set that has memory for them
rows_held : (rooms : Rooms) (t : Tables) (mask : ℕ) (rows : List Row) → HoldRows rooms t → length rows ≤ capacity_at rooms mask → HoldRows rooms (with_rows t mask rows)
rows_held rooms t mask rows old new = λ m.
    elim (eq_by_cmp nat_cmp m mask) as (λ b. eq_by_cmp nat_cmp m mask ≡ b → length (rows_at (with_rows t mask rows) m) ≤ capacity_at rooms m) [
      | true ↦ λ e. subst (λ k. length (rows_at (with_rows t mask rows) k) ≤ capacity_at rooms k) (sym (equal_keys nat_cmp-IsAntisymmetric m mask e))
          (omega (arith, ap length (list_at_same nat_cmp_total t mask rows), new))
      | false ↦ λ e. omega (arith, ap length (list_at-with_list nat_cmp_total t mask rows m), ap (λ b. length (cond b rows (rows_at t m))) e, old m)
    ] refl

-- a row that came to a place
pub returned_held : (rooms : Rooms) (count : ℕ) (t : Tables) (place : ℕ) (row : Row) → place ≤ length (rows_at t (mask_of row.cells)) → HoldsRows rooms count t
    → HasRoomOf (rows_with t rooms count) (mask_of row.cells) (suc row.entity.index) → HoldsRows rooms count (with_row_back t place row)
returned_held rooms count t place row l held room = record {
  rows = rows_held rooms t (mask_of row.cells) (put_back (rows_at t (mask_of row.cells)) place row) held.rows (omega (arith, room.row, length-put_back (rows_at t (mask_of row.cells)) place row));
  homes = each_returned (λ mask r. r.entity.index < count) t place row l held.homes (omega (arith, room.homes));
}

-- a row that went last
pub added_held : (rooms : Rooms) (count : ℕ) (t : Tables) (row : Row) → HoldsRows rooms count t
    → HasRoomOf (rows_with t rooms count) (mask_of row.cells) (suc row.entity.index) → HoldsRows rooms count (with_row t row)
added_held rooms count t row held room = subst (HoldsRows rooms count) (back_last t row (mask_of row.cells) (length (rows_at t (mask_of row.cells))) refl refl)
    (returned_held rooms count t (length (rows_at t (mask_of row.cells))) row (omega arith) held room)

-- a row that left
pub left_held : (rooms : Rooms) (count : ℕ) (t : Tables) (h : Home) (row : Row) → row_at t h ≡ Some row → HoldsRows rooms count t → HoldsRows rooms count (without_row t h)
left_held rooms count t h row at held = record {
  rows = rows_held rooms t h.mask (swap_out (rows_at t h.mask) h.place) held.rows
      (omega (arith, held.rows h.mask, length-swap_out (rows_at t h.mask) h.place (slice_get_within (rows_at t h.mask) h.place row at)));
  homes = each_removed (λ mask r. r.entity.index < count) t h row at held.homes;
}

-- where the row that came is held, there was room for it
pub room_of_returned : (rooms : Rooms) (count : ℕ) (t : Tables) (place : ℕ) (row : Row) → place ≤ length (rows_at t (mask_of row.cells)) → HoldsRows rooms count (with_row_back t place row)
    → HasRoomOf (rows_with t rooms count) (mask_of row.cells) (suc row.entity.index)
room_of_returned rooms count t place row l held =
    let m = mask_of row.cells in
    let after = put_back (rows_at t m) place row in
    let fits = held.rows m in
    let home = held.homes (home_for row.cells place) row (returned_there t place row l) in
    record { row = omega (arith, fits, ap length (list_at_same nat_cmp_total t m after), length-put_back (rows_at t m) place row); homes = omega (arith, home) }

pub room_of_added : (rooms : Rooms) (count : ℕ) (t : Tables) (row : Row) → HoldsRows rooms count (with_row t row) → HasRoomOf (rows_with t rooms count) (mask_of row.cells) (suc row.entity.index)
room_of_added rooms count t row held = room_of_returned rooms count t (length (rows_at t (mask_of row.cells))) row (omega arith)
    (subst (HoldsRows rooms count) (sym (back_last t row (mask_of row.cells) (length (rows_at t (mask_of row.cells))) refl refl)) held)

-- the rows of another kind set stay
left_apart : (t : Tables) (h : Home) (mask : ℕ) → (h.mask ≡ mask → ⊥) → length (rows_at (without_row t h) mask) ≡ length (rows_at t mask)
left_apart t h mask apart = ap length (list_at_apart nat_cmp_total nat_cmp-IsAntisymmetric t h.mask mask (swap_out (rows_at t h.mask) h.place) (λ same. apart (sym same)))

-- a row that left for a place of another table
module _ (rooms : Rooms) (count : ℕ) (t : Tables) (h : Home) (was row : Row) (place : ℕ) (at : row_at t h ≡ Some was) (apart : h.mask ≡ mask_of row.cells → ⊥) (within : place ≤ length (rows_at t (mask_of row.cells))) where
  place_then : place ≤ length (rows_at (without_row t h) (mask_of row.cells))
  place_then = omega (arith, left_apart t h (mask_of row.cells) apart)

  pub moved_held : HoldsRows rooms count t → HasRoomOf (rows_with t rooms count) (mask_of row.cells) (suc row.entity.index) → HoldsRows rooms count (with_row_back (without_row t h) place row)
  moved_held held room = returned_held rooms count (without_row t h) place row place_then (left_held rooms count t h was at held)
      (record { row = omega (arith, room.row, left_apart t h (mask_of row.cells) apart); homes = room.homes })

  pub room_of_moved : HoldsRows rooms count (with_row_back (without_row t h) place row) → HasRoomOf (rows_with t rooms count) (mask_of row.cells) (suc row.entity.index)
  room_of_moved held =
      let room = room_of_returned rooms count (without_row t h) place row place_then held in
      record { row = omega (arith, room.row, left_apart t h (mask_of row.cells) apart); homes = room.homes }

-- room that was there is there in a room that is wider, of the same world
pub rows_room_wider : (a b : Housed) (mask indices : ℕ) → b.world ≡ a.world → IsWider a.room b.room → HasRoomOf (stored_rows a) mask indices → HasRoomOf (stored_rows b) mask indices
rows_room_wider a b mask indices same wide room = record {
  row = omega (arith, room.row, wide.rows mask, ap (λ (w : World). length (rows_at w.tables mask)) same);
  homes = omega (arith, room.homes, wide.homes);
}

-- ---- slots

some_last : (xs : List ℕ) (i : ℕ) → last xs ≡ Some i → nat_eq (length xs) 0 ≡ true → ⊥
some_last [] i h none = let k : None ≡ Some i = h in cc
some_last (x ∷ xs) i h none = let k = eqb-true (length (x ∷ xs)) 0 none in omega arith

-- the slots after a take
slots_held : (s : SlotState) (e : Entity) (capacity : ℕ) → taken_entity (take_of s) ≡ Some e → length s.generations ≤ capacity → (takes_new_slot s ≡ true → length s.generations + 1 ≤ capacity)
    → length (taken_slots s (take_of s)).generations ≤ capacity
slots_held s e capacity next held new =
    take_cases s (λ x t. length t.generations ≤ capacity) (λ i q. held)
    (λ free few. omega (arith, new (ap (λ f. nat_eq (length f) 0) free), length-append s.generations (1 ∷ []))) e (taken_slots s (take_of s)) (took s e next)

room_of_slots : (s : SlotState) (e : Entity) (capacity : ℕ) → taken_entity (take_of s) ≡ Some e → length (taken_slots s (take_of s)).generations ≤ capacity → takes_new_slot s ≡ true
    → length s.generations + 1 ≤ capacity
room_of_slots s e capacity next =
    take_cases s (λ x t. length t.generations ≤ capacity → takes_new_slot s ≡ true → length s.generations + 1 ≤ capacity) (λ i q held new. absurd (some_last s.free i q new))
    (λ free few held new. omega (arith, held, length-append s.generations (1 ∷ []))) e (taken_slots s (take_of s)) (took s e next)

-- and after the way back of a release
unreleased_held : (s : SlotState) (e : Entity) (retired : Bool) (capacity : ℕ) → length s.generations ≤ capacity → length (unrelease_of s e retired).generations ≤ capacity
unreleased_held s e true capacity held = held
unreleased_held s e false capacity held = omega (arith, held, length-set s.generations e.index e.generation)

-- ---- a row that is put

module _ (room : Room) (w : World) (e : Entity) (cells : List (ℕ × Cell)) (fresh : Bool) (can : CanPut w e cells fresh) where
  pub put_held : Holds room w → (fresh ≡ true → length w.slots.generations + 1 ≤ room.slots) → HasRoomOf (rows_with w.tables room.rows room.homes) (mask_of cells) (suc e.index) → Holds room (put_row w e cells)
  put_held held slot row = record {
    slots = slots_held w.slots e room.slots can.next held.slots (λ new. slot (can.slot ∙ new));
    rows = added_held room.rows room.homes w.tables (row_for e cells) held.rows row;
    links = held.links;
    names = held.names;
  }

  pub room_of_put : Holds room (put_row w e cells) → (fresh ≡ true → length w.slots.generations + 1 ≤ room.slots) × HasRoomOf (rows_with w.tables room.rows room.homes) (mask_of cells) (suc e.index)
  room_of_put held = (
    (λ new. room_of_slots w.slots e room.slots can.next held.slots (sym can.slot ∙ new)),
    room_of_added room.rows room.homes w.tables (row_for e cells) held.rows,
  )

-- ---- links

-- a child that left its list
cut_held : (room : List ℕ) (f : Forest) (c : Entity) → IsForest f → HoldsLinks room f → HoldsLinks room (cut f c)
cut_held room f c v held = record {
  nodes = linked-cut (HasNode room) f c held.nodes;
  lists = λ q. let left = leaving_fits f c q (suc (children_at room q)) v (omega (arith, held.lists q)) in omega arith;
}

-- a child that left its list, and came to a place where there was room for it
joined_held : (room : List ℕ) (f : Forest) (c p : Entity) (n : ℕ) → IsForest f → HoldsLinks room f → HasRoomForChild room f c p → HoldsLinks room (joined_at (cut f c) c p n)
joined_held room f c p n v held fits =
    let left = cut_held room f c v held in
    let es = put_at (children_of (cut f c) p) n c in
    record {
      nodes = all_joined_at (HasNode room) (cut f c) c p n fits.child fits.parent left.nodes;
      lists = λ q. written (λ xs. length xs ≤ children_at room q) (cut f c) p es q
          (λ same. subst (λ x. length es ≤ children_at room x) (sym same) (omega (arith, length-put_at c (children_of (cut f c) p) n, fits.list)))
          (λ other. left.lists q);
    }

pub link_held : (room : List ℕ) (f : Forest) (c : Entity) (link : Option (Entity × ℕ)) → IsForest f → HoldsLinks room f → IfSome link (λ l. HasRoomForChild room f c l.0) → HoldsLinks room (with_link f c link)
link_held room f c None v held fits = cut_held room f c v held
link_held room f c (Some l) v held fits = joined_held room f c l.0 l.1 v held fits

-- where a link that came is held, there was room for it
pub room_of_link : (room : List ℕ) (f : Forest) (c : Entity) (l : Entity × ℕ) → IsForest f → HoldsLinks room (with_link f c (Some l)) → HasRoomForChild room f c l.0
room_of_link room f c l v held =
    let gone = parent_gone f c v in
    let fits = room_of_joined room (cut f c) c l.0 l.1 gone held in
    record { child = fits.child; parent = fits.parent; list = omega (arith, fits.list, ap (λ g. length (children_of g l.0)) (cut_none (cut f c) c gone)) }

-- it is what making room asks for
pub link_ready : (room : List ℕ) (f : Forest) (c : Entity) (link : Option (Entity × ℕ)) → IsForest f → ((l : Entity × ℕ) → link ≡ Some l → AreAlone f c l.0) → HoldsLinks room (with_link f c link)
    → IfSome link (λ l. AreAlone f c l.0 × HasRoomForChild room f c l.0)
link_ready room f c None v alone held = tt
link_ready room f c (Some l) v alone held = (alone l refl, room_of_link room f c l v held)

-- room that was there is there in a room that is wider, of the same world
pub link_room_wider : (a b : Housed) (e : Entity) (link : Option (Entity × ℕ)) → b.world ≡ a.world → IsWider a.room b.room → IfSome link (λ l. HasRoomForChild a.room.lists a.world.children e l.0)
    → IfSome link (λ l. HasRoomForChild b.room.lists b.world.children e l.0)
link_room_wider a b e None same wide room = tt
link_room_wider a b e (Some l) same wide room = subst (λ (w : World). HasRoomForChild b.room.lists w.children e l.0) (sym same) (room_wider a.room.lists b.room.lists a.world.children e l.0 wide.links room)

-- ---- resources

-- a name with another cell, or none
pub name_held : (kept : List (List ℕ)) (r : NamedCells) (name : List ℕ) (cell : Option Cell) → HoldsNames kept r → (IsSome cell → Contains kept name) → HoldsNames kept (restore_of r name cell)
name_held kept r name cell held new = record {
  each = λ q there. elim (is_name q name) as (λ b. is_name q name ≡ b → IsSome (cond b cell (cell_of r q)) → Contains kept q) [
    | true ↦ λ e some. subst (Contains kept) (sym (equal_keys name_cmp_exact q name e)) (new some)
    | false ↦ λ e some. held.each q some
  ] refl (subst (λ (o : Option Cell). IsSome o) (restored_cells r name cell q) there);
}

-- where a cell that came is held, its name was kept
pub room_of_name : (kept : List (List ℕ)) (r : NamedCells) (name : List ℕ) (cell : Option Cell) → HoldsNames kept (restore_of r name cell) → IsSome cell → Contains kept name
room_of_name kept r name cell held some =
    let is = restored_cells r name cell name ∙ ap (λ b. cond b cell (cell_of r name)) (ties_itself name_cmp_total name) in
    held.each name (subst (λ (o : Option Cell). IsSome o) (sym is) some)

-- ---- a row that comes back

pub uncut_held : (room : Room) (w : World) (e : Entity) (place : ℕ) (cells : List (ℕ × Cell)) (link : Option (Entity × ℕ)) (retired : Bool) → IsForest w.children → place ≤ length (rows_at w.tables (mask_of cells)) → Holds room w
    → HasRoomOf (rows_with w.tables room.rows room.homes) (mask_of cells) (suc e.index) → IfSome link (λ l. HasRoomForChild room.lists w.children e l.0) → Holds room (uncut_row w e place cells link retired)
uncut_held room w e place cells link retired v within held row fits = record {
  slots = unreleased_held w.slots e retired room.slots held.slots;
  rows = returned_held room.rows room.homes w.tables place (row_for e cells) within held.rows row;
  links = link_held room.lists w.children e link v held.links fits;
  names = held.names;
}
