-- An accepted command on a row is a raw change that may be made.
use Rattle.std.proofs.Common.{◌≡◌, ℕ, Bool, true, false, not, List, refl, ap, subst, sym, ◌∙◌, Option, Some, None, Ok, if◌then◌else◌}
use Rattle.std.specs.Prelude.{Err, is_some}
use Rattle.scene_kinds.specs.declared.entity.Entity.{Entity}
use Rattle.scene_kinds.specs.declared.cell.Cell.{Cell}
use Rattle.scene_kinds.specs.declared.cells.Row.{Row}
use Rattle.scene_kinds.specs.declared.fault.Fault.{Fault}
use Rattle.scene_kinds.specs.declared.value.Value.{Value}
use Rattle.scene_kinds.specs.Answers.{Outcome}
use Rattle.scene_kinds.specs.Cells.{new_cell, put_over, cell_of, without_cell}
use Rattle.scene_kinds.specs.Lists.{listed}
use Rattle.scene_kinds.specs.Map as map
use Rattle.scene_kinds.proofs.Choices.{none_of_false}
use Rattle.scene_alloc.specs.Slots.{SlotState, retires, take_of}
use Rattle.scene_links.specs.Forest.{link_in}
use Rattle.scene_table.specs.Table.{row_with_cell}
use Rattle.scene_table.specs.declared.home.Home.{Home}
use Rattle.scene_model.specs.World.{World, row_of, is_unknown}
use Rattle.scene_table.specs.Tables.{row_at, with_row, with_row_at, row_for}
use Rattle.scene_model.specs.Commands.{new_cells, spawn_fault, after_take, after_despawn, after_move, after_insert, insert_fault, remove_fault}
use Rattle.scene_model.specs.CommandRaw.{Inserts, SpawnPuts, DespawnCuts, InsertShiftsOrSets, RemoveShifts}
use Rattle.scene_model.specs.Valid.{IsValid}
use Rattle.scene_model.specs.Raw.{listed_cells, cells_of, shifted, taken_entity, taken_slots, cut_row, shift_row}
use Rattle.scene_model.specs.Can.{can_cut, can_shift}
use Rattle.scene_model.proofs.CanParts.{HasRow, AreGoodCells, put, cut_out, shift, set_cell as cell_decides}
use Rattle.scene_model.proofs.GoodCells.{found_good, good_cells}
use Rattle.scene_model.proofs.MoveKeeps.{with_tables}
use Rattle.scene_model.proofs.NewCells.{insert_tests, new_ascending, new_shapes, new_timely, spawn_tests, timely_new, timely_there}
use Rattle.scene_model.proofs.Outcomes.{no_fault, not_ok, same_world, with_row_of}
use Rattle.scene_model.proofs.Parts.{asked}
use Rattle.scene_model.proofs.RowOf.{made_by_row, row_stands}

-- ---- spawn

-- what an accepted take left
taken_parts : (w v : World) (cells : List (ℕ × Cell)) (e : Entity) (o : Outcome Entity SlotState) → after_take w cells o ≡ Ok (e, v)
    → (taken_entity o ≡ Some e) × (v ≡ record w { slots = taken_slots w.slots o; tables = with_row w.tables (row_for e cells) })
taken_parts w v cells e (Ok p) h =
    let k = same_world p.0 e (record w { slots = p.1; tables = with_row w.tables (row_for p.0 cells) }) v h in
    (ap (λ x. Some x) k.0, sym k.1 ∙ ap (λ x. record w { slots = p.1; tables = with_row w.tables (row_for x cells) }) k.0)
taken_parts w v cells e (Err r) h = absurd (not_ok (e, v) r h)

pub spawn_puts : SpawnPuts
spawn_puts w v given e valid is =
    let parts = no_fault (spawn_fault w.schema given) (after_take w (new_cells w.tick given) (take_of w.slots)) (e, v) is in
    let made = taken_parts w v (new_cells w.tick given) e (take_of w.slots) parts.1 in (
      (put w e _ _).1 (record {
        next = made.0;
        slot = refl;
        good = record { ascending = new_ascending w.tick given; fit = new_shapes w.schema w.tick given (spawn_tests w.schema given parts.0).2; timely = new_timely w.tick given };
      }),
      made.1,
    )

-- ---- the row of a live entity

module _ (w : World) (e : Entity) (h : Home) (r : Row) (valid : IsValid w) (at : row_at w.tables h ≡ Some r) (same : r.entity ≡ e) where
  stands : row_of w e ≡ Some (h, r)
  stands = row_stands w e h r valid.rows.once at same

  cells_are : cells_of w e ≡ r.cells
  cells_are = ap listed_cells stands

  has_row : HasRow w e h.place r.cells
  has_row = stands ∙ (λ i. Some (record { mask = sym (valid.rows.each h r at).fits.kinds.kinds i; place = h.place }, record { entity = same i; cells = r.cells }))

  has_row_of : HasRow w e h.place (cells_of w e)
  has_row_of = subst (HasRow w e h.place) (sym cells_are) has_row

  cells_good : AreGoodCells w r.cells
  cells_good = good_cells w w.slots h.mask r (valid.rows.each h r at)

pub despawn_cuts : DespawnCuts
despawn_cuts w v e valid is =
    with_row_of ((place : ℕ) × ((can_cut w e place (cells_of w e) (link_in w.children e) (retires e) ≡ true) × (v ≡ cut_row w e))) w e _ (tt, v) is (λ h r at same made.
    let parts = asked (is_some (map.get w.children e)) _ (Ok (tt, after_despawn w h e)) (tt, v) made in (
      h.place,
      (
        (cut_out w e h.place (cells_of w e) (link_in w.children e) (retires e)).1 (record {
          row = has_row_of w e h r valid at same;
          childless = ap listed (none_of_false (map.get w.children e) parts.0);
          linked = refl;
          retires = refl;
        }),
        sym (made_by_row w e h r (λ h row. after_despawn w h e) (stands w e h r valid at same) ∙ (same_world tt tt (after_despawn w h e) v parts.1).1),
      ),
    ))

-- ---- insert and remove

-- an insert, by the cell that was there
inserted : (w v : World) (e : Entity) (h : Home) (r : Row) (kind : ℕ) (value : Value) → IsValid w → row_at w.tables h ≡ Some r → r.entity ≡ e → insert_fault w.schema kind value ≡ None
    → (o : Option Cell) → cell_of r.cells kind ≡ o → with_tables w (after_insert w.tick w.tables h r kind value o) ≡ v → Inserts w v e kind value o
inserted w v e h r kind value valid at same fault None is made = (
  h.place,
  (
    (shift w e h.place kind (new_cell w.tick value) true).1 (record {
      row = has_row_of w e h r valid at same;
      moves = record {
        absent = ap (λ cs. cell_of cs kind) (cells_are w e h r valid at same) ∙ is;
        good = record { fits = (insert_tests w.schema kind value fault).1; timely = timely_new w.tick value };
      };
    }),
    sym (made_by_row w e h r (λ h row. with_tables w (after_move w.tables h row (shifted row.cells kind (new_cell w.tick value) true))) (stands w e h r valid at same) ∙ made),
  ),
)
inserted w v e h r kind value valid at same fault (Some c) is made = (
  (cell_decides w e kind c (put_over (Some c) value w.tick)).1 (record {
    now = ap (λ cs. cell_of cs kind) (cells_are w e h r valid at same) ∙ is;
    good = record {
      fits = (insert_tests w.schema kind value fault).1;
      timely = timely_there w.tick c value (found_good w r.cells kind c (cells_good w e h r valid at same) is).timely;
    };
  }),
  sym (made_by_row w e h r (λ h row. with_tables w (with_row_at w.tables h (row_with_cell row kind (put_over (Some c) value w.tick)))) (stands w e h r valid at same) ∙ made),
)

pub insert_shifts_or_sets : InsertShiftsOrSets
insert_shifts_or_sets w v e kind value valid is =
    with_row_of (Inserts w v e kind value (cell_of (cells_of w e) kind)) w e _ (tt, v) is (λ h r at same made.
    let parts = no_fault (insert_fault w.schema kind value) (Ok (tt, with_tables w (after_insert w.tick w.tables h r kind value (cell_of r.cells kind)))) (tt, v) made in
    let world = same_world tt tt (with_tables w (after_insert w.tick w.tables h r kind value (cell_of r.cells kind))) v parts.1 in
    subst (λ cs. Inserts w v e kind value (cell_of cs kind)) (sym (cells_are w e h r valid at same))
    (inserted w v e h r kind value valid at same parts.0 (cell_of r.cells kind) refl world.1))

-- a remove that isn't refused finds the cell
remove_finds : (a : Bool) (o : Option Cell) (x y : Fault) → (if a then Some x else if not (is_some o) then Some y else None) ≡ None → (c : Cell) × (o ≡ Some c)
remove_finds true o x y h = absurd (let k : Some x ≡ None = h in cc)
remove_finds false None x y h = absurd (let k : Some y ≡ None = h in cc)
remove_finds false (Some c) x y h = (c, refl)

pub remove_shifts : RemoveShifts
remove_shifts w v e kind valid is =
    with_row_of ((place : ℕ) × ((cell : Cell) × ((can_shift w e place kind cell false ≡ true) × (v ≡ shift_row w e kind cell false)))) w e _ (tt, v) is (λ h r at same made.
    let parts = no_fault (remove_fault w.schema r.cells kind) (Ok (tt, with_tables w (after_move w.tables h r (without_cell r.cells kind)))) (tt, v) made in
    let found = remove_finds (is_unknown w.schema kind) (cell_of r.cells kind) _ _ parts.0 in (
      h.place,
      (
        found.0,
        (
          (shift w e h.place kind found.0 false).1 (record {
            row = has_row_of w e h r valid at same;
            moves = ap (λ cs. cell_of cs kind) (cells_are w e h r valid at same) ∙ found.1;
          }),
          sym (made_by_row w e h r (λ h row. with_tables w (after_move w.tables h row (shifted row.cells kind found.0 false))) (stands w e h r valid at same)
              ∙ (same_world tt tt (with_tables w (after_move w.tables h r (without_cell r.cells kind))) v parts.1).1),
        ),
      ),
    ))
