-- A row that moves to the table with one kind more or less: where it may, and what room that takes.
use Rattle.std.proofs.Common.{◌≡◌, ◌∙◌, ◌<◌, ◌≤◌, ℕ, suc, List, Bool, true, false, not, length, refl, ap, sym, subst, arith, Some}
use Rattle.std.proofs.lemmas.Option.{same_Some}
use Rattle.scene_kinds.specs.declared.entity.Entity.{Entity}
use Rattle.scene_kinds.specs.declared.cell.Cell.{Cell}
use Rattle.scene_kinds.specs.declared.cells.Row.{Row}
use Rattle.scene_kinds.specs.Cells.{HasKinds, AreKindsBelow, mask_of}
use Rattle.scene_kinds.specs.KindSet.{set_with, set_without}
use Rattle.scene_kinds.proofs.KindSets.{mask_of-with_cell, mask_of-without_cell}
use Rattle.scene_table.specs.declared.home.Home.{Home}
use Rattle.scene_table.specs.Tables.{rows_at, row_at, row_for, without_row, with_row_back}
use Rattle.scene_table.proofs.ReturnedRows.{moved_last}
use Rattle.scene_table.proofs.Homes.{live_here}
use Rattle.scene_archetypes.specs.KindTables.{Rooms}
use Rattle.scene_archetypes.specs.Archetypes.{HasRoomOf}
use Rattle.scene_model.specs.World.{World, IsHomeOf, is_live}
use Rattle.scene_model.specs.Commands.{after_move}
use Rattle.scene_model.specs.Raw.{listed_cells, cells_of, shifted, shift_row, unshift_row}
use Rattle.scene_model.specs.Valid.{IsValid, IsRowOf}
use Rattle.scene_model.proofs.CanParts.{CanMove, CanUnshift, HasRow, HasLastRow, shift, unshift}
use Rattle.scene_model.proofs.LastRows.{last_home, last_row_there}
use Rattle.scene_model.proofs.MoveKeeps.{with_tables}
use Rattle.scene_model.proofs.RowKinds.{row_kinds_low}
use Rattle.scene_model.proofs.RowOf.{made_by_row}
use Rattle.scene_model.proofs.ShiftBack.{shifted_rows_come_back}
use Rattle.scene_model.proofs.ShiftedCells.{shifted_mask}
use Rattle.scene_world.specs.Moves.{IsCellToMove, MayMove, moved_mask}
use Rattle.scene_world.specs.Room.{Room, Holds}
use Rattle.scene_world.proofs.MadeRoom.{rows_with, moved_held, room_of_moved}

-- a cell that may move is to come or to go
pub cell_to_move : (w : World) (cells : List (ℕ × Cell)) (kind : ℕ) (cell : Cell) (inward : Bool) → CanMove w cells kind cell inward → IsCellToMove cells kind cell inward
cell_to_move w cells kind cell true can = can.absent
cell_to_move w cells kind cell false can = can

-- the kind set of the row then
pub mask_then : (mask : ℕ) (row : Row) (kind : ℕ) (cell : Cell) (inward : Bool) → HasKinds mask row → AreKindsBelow 64 row.cells → kind < 64 → moved_mask mask kind inward ≡ mask_of (shifted row.cells kind cell inward)
mask_then mask row kind cell true has below low = sym (mask_of-with_cell row.cells kind cell has.ascending ∙ ap (λ m. set_with m kind) has.kinds)
mask_then mask row kind cell false has below low = sym (mask_of-without_cell row.cells kind has.ascending below low ∙ ap (λ m. set_without m kind) has.kinds)

-- it is another one
pub mask_apart : (mask : ℕ) (row : Row) (kind : ℕ) (cell : Cell) (inward : Bool) → HasKinds mask row → IsCellToMove row.cells kind cell inward → mask ≡ mask_of (shifted row.cells kind cell inward) → ⊥
mask_apart mask row kind cell true has moves same = shifted_mask row.cells kind cell true has.ascending moves (sym same ∙ sym has.kinds)
mask_apart mask row kind cell false has moves same = shifted_mask row.cells kind cell false has.ascending moves (sym same ∙ sym has.kinds)

-- ---- the row of a live entity that moves

module _ (w : World) (e : Entity) (h : Home) (kind : ℕ) (cell : Cell) (inward : Bool) (v : IsValid w) (home : IsHomeOf w e h) (low : kind < 64) (can : CanMove w (cells_of w e) kind cell inward) where
  fits : IsRowOf w.schema h.mask home.row
  fits = (v.rows.each h home.row home.there).fits

  below : AreKindsBelow 64 home.row.cells
  below = row_kinds_low w.schema h.mask home.row fits v.schema.few

  to_move : IsCellToMove home.row.cells kind cell inward
  to_move = cell_to_move w home.row.cells kind cell inward (subst (λ cs. CanMove w cs kind cell inward) (ap listed_cells home.found) can)

  -- it with its cells then
  abbrev pub moved_row : Row
  moved_row = row_for home.row.entity (shifted home.row.cells kind cell inward)

  pub moved_target : moved_mask h.mask kind inward ≡ mask_of moved_row.cells
  moved_target = mask_then h.mask home.row kind cell inward fits.kinds below low

  pub moved_apart : h.mask ≡ mask_of moved_row.cells → ⊥
  moved_apart = mask_apart h.mask home.row kind cell inward fits.kinds to_move

  -- it may move to a place of its table then, where there is room
  pub may_move : (rooms : Rooms) (count place : ℕ) → place ≤ length (rows_at w.tables (mask_of moved_row.cells)) → HasRoomOf (rows_with w.tables rooms count) (mask_of moved_row.cells) (suc home.row.entity.index)
      → (r : Row) → row_at w.tables h ≡ Some r → MayMove (rows_with w.tables rooms count) h place kind cell inward r
  may_move rooms count place within room r at = subst (MayMove (rows_with w.tables rooms count) h place kind cell inward) (same_Some home.row r (sym home.there ∙ at))
      (record { kinds = fits.kinds; below = below; moves = to_move; within = within; room = room.row })

  -- ---- to the last place

  abbrev pub last_place : ℕ
  last_place = length (rows_at w.tables (mask_of moved_row.cells))

  pub shift_made : shift_row w e kind cell inward ≡ with_tables w (with_row_back (without_row w.tables h) last_place moved_row)
  shift_made = made_by_row w e h home.row (λ g r. with_tables w (after_move w.tables g r (shifted r.cells kind cell inward))) home.found
      ∙ ap (with_tables w) (sym (moved_last w.tables h moved_row (mask_of moved_row.cells) last_place refl moved_apart refl))

  pub shift_held : (room : Room) → Holds room w → HasRoomOf (rows_with w.tables room.rows room.homes) (mask_of moved_row.cells) (suc home.row.entity.index) → Holds room (shift_row w e kind cell inward)
  shift_held room held space = subst (Holds room) (sym shift_made) (record {
    slots = held.slots;
    rows = moved_held room.rows room.homes w.tables h home.row moved_row last_place home.there moved_apart (omega arith) held.rows space;
    links = held.links;
    names = held.names;
  })

  pub room_of_shift : (room : Room) → Holds room (shift_row w e kind cell inward) → HasRoomOf (rows_with w.tables room.rows room.homes) (mask_of moved_row.cells) (suc home.row.entity.index)
  room_of_shift room held = room_of_moved room.rows room.homes w.tables h home.row moved_row last_place home.there moved_apart (omega arith) (subst (Holds room) shift_made held).rows

  has_row : HasRow w e h.place (cells_of w e)
  has_row = subst (HasRow w e h.place) (sym (ap listed_cells home.found))
      (home.found ∙ (λ i. Some (record { mask = sym fits.kinds.kinds i; place = h.place }, record { entity = home.same i; cells = home.row.cells })))

  pub shift_valid : IsValid (shift_row w e kind cell inward)
  shift_valid = (shifted_rows_come_back e h.place kind cell inward).0.keeps w v ((shift w e h.place kind cell inward).1 (record { row = has_row; moves = can }))

-- ---- and back, to a place of the table from which it came

-- an entity whose row is the last of a table lives
pub last_lives : (w : World) (e : Entity) → HasLastRow w e (cells_of w e) → is_live w e ≡ true
last_lives w e last = let row = row_for e (cells_of w e) in live_here w.tables e (last_home w.tables row) row (last_row_there w.tables row last) refl

module _ (w : World) (e : Entity) (h : Home) (place kind : ℕ) (cell : Cell) (inward : Bool) (v : IsValid w) (home : IsHomeOf w e h) (low : kind < 64) (can : CanUnshift w e place kind cell inward) where
  abbrev pub back_row : Row
  back_row = row_for home.row.entity (shifted home.row.cells kind cell (not inward))

  pub back_within : place ≤ length (rows_at w.tables (mask_of back_row.cells))
  back_within = subst (λ (cs : List (ℕ × Cell)). place ≤ length (rows_at w.tables (mask_of (shifted cs kind cell (not inward))))) (ap listed_cells home.found) can.within

  back_apart : h.mask ≡ mask_of back_row.cells → ⊥
  back_apart = moved_apart w e h kind cell (not inward) v home low can.moves

  -- it may move there, where there is room
  pub may_return : (rooms : Rooms) (count : ℕ) → HasRoomOf (rows_with w.tables rooms count) (mask_of back_row.cells) (suc home.row.entity.index) → (r : Row) → row_at w.tables h ≡ Some r
      → MayMove (rows_with w.tables rooms count) h place kind cell (not inward) r
  may_return rooms count room r at = may_move w e h kind cell (not inward) v home low can.moves rooms count place back_within room r at

  pub unshift_valid : IsValid (unshift_row w e place kind cell inward)
  unshift_valid = (shifted_rows_come_back e place kind cell inward).1.keeps w v ((unshift w e place kind cell inward).1 can)

  pub unshift_made : unshift_row w e place kind cell inward ≡ with_tables w (with_row_back (without_row w.tables h) place back_row)
  unshift_made = made_by_row w e h home.row (λ g r. with_tables w (with_row_back (without_row w.tables g) place (row_for r.entity (shifted r.cells kind cell (not inward))))) home.found

  pub unshift_held : (room : Room) → Holds room w → HasRoomOf (rows_with w.tables room.rows room.homes) (mask_of back_row.cells) (suc home.row.entity.index) → Holds room (unshift_row w e place kind cell inward)
  unshift_held room held space = subst (Holds room) (sym unshift_made) (record {
    slots = held.slots;
    rows = moved_held room.rows room.homes w.tables h home.row back_row place home.there back_apart back_within held.rows space;
    links = held.links;
    names = held.names;
  })

  pub room_of_unshift : (room : Room) → Holds room (unshift_row w e place kind cell inward) → HasRoomOf (rows_with w.tables room.rows room.homes) (mask_of back_row.cells) (suc home.row.entity.index)
  room_of_unshift room held = room_of_moved room.rows room.homes w.tables h home.row back_row place home.there back_apart back_within (subst (Holds room) unshift_made held).rows
