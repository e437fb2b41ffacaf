-- Raising the tick, an accepted insert and an accepted remove keep a valid world valid.
use Rattle.std.proofs.Common.{◌≡◌, ℕ, ◌+◌, ◌≤◌, Bool, true, false, ◌&&◌, ◌||◌, nat_eq, List, [], ◌∷◌, refl, ap, subst, sym, ◌∙◌, arith, Option, Some, None, Ok, slice_index, if◌then◌else◌}
use Rattle.std.specs.Prelude.{nat_le}
use Rattle.std.specs.List.{list_all}
use Rattle.std.specs.Ordering.{nat_cmp, eq_by_cmp}
use Rattle.std.proofs.lemmas.Bool.{and_parts, or_right}
use Rattle.std.proofs.lemmas.Bool.Decides.{nat_tests}
use Rattle.scene_kinds.specs.declared.entity.Entity.{Entity}
use Rattle.scene_kinds.specs.declared.cell.Cell.{Cell}
use Rattle.scene_kinds.specs.declared.cells.Row.{Row}
use Rattle.scene_kinds.specs.declared.value.Value.{Value}
use Rattle.scene_kinds.specs.declared.fault.Fault.TheVariants.{TickFull}
use Rattle.scene_kinds.specs.Answers.{Outcome, refuse}
use Rattle.scene_kinds.specs.Cells.{new_cell, cell_of, with_cell, without_cell, mask_of}
use Rattle.scene_kinds.specs.Entity.{entity_cmp_exact, entity_cmp_total, is_same}
use Rattle.scene_kinds.specs.Schema.{fits_kind}
use Rattle.scene_kinds.proofs.Maps.{equal_keys, ties_itself}
use Rattle.scene_kinds.proofs.CellLaws.{ascending-with_cell, ascending-without_cell, all-with_cell, all-without_cell}
use Rattle.scene_kinds.proofs.Masks.{mask-with_cell_there}
use Rattle.scene_alloc.specs.Slots.{is_free}
use Rattle.scene_table.specs.Table.{row_with_cell}
use Rattle.scene_table.specs.declared.home.Home.{Home}
use Rattle.scene_model.specs.World.{World}
use Rattle.scene_table.specs.Tables.{Tables, row_at, lives, without_row, with_row_at}
use Rattle.scene_model.specs.Commands.{highest_tick, after_move, after_insert, insert, insert_fault, remove, remove_fault}
use Rattle.scene_model.specs.Valid.{IsValid, IsRowOf, IsSoundRow, RowsAreSound, IsCurrent, is_live_index, is_retired, is_timely}
use Rattle.scene_model.specs.Laws.{RaiseKeeps}
use Rattle.scene_model.proofs.Outcomes.{no_fault, not_ok, same_world, with_row_of}
use Rattle.scene_table.proofs.Homes.{live_here}
use Rattle.scene_table.proofs.Standing.{added_there, each_added, once_added, each_removed, once_removed, removed_nowhere, each_rewritten, once_rewritten}
use Rattle.scene_table.proofs.Lives.{lives_added, lives_removed, lives_rewritten}
use Rattle.scene_model.proofs.Choices.{one_of, first_of_three, second_of_three}
use Rattle.scene_model.proofs.NewCells.{timely_new, timely_there, insert_tests}

-- ---- other tables under the same slots, links and resources

abbrev pub with_tables : World → Tables → World
with_tables w t = record w { tables = t }

-- other tables keep a valid world valid, where they are sound and everybody lives on
pub tables_valid : (w : World) (t : Tables) → IsValid w → RowsAreSound w.schema w.slots w.tick t → ((e : Entity) → lives w.tables e ≡ true → lives t e ≡ true) → IsValid (with_tables w t)
tables_valid w t v sound alive = record {
  schema = v.schema;
  slots = v.slots;
  tick = v.tick;
  rows = sound;
  accounted = λ i l. one_of _ (is_live_index w.slots w.tables i) (is_free w.slots i) (is_retired w.slots i) (v.accounted i l)
      (λ a. first_of_three (is_live_index w.slots t i) (is_free w.slots i) (is_retired w.slots i) (alive (record { index = i; generation = slice_index w.slots.generations i }) a))
      (λ b. second_of_three (is_live_index w.slots t i) (is_free w.slots i) (is_retired w.slots i) b)
      (λ c. or_right (is_live_index w.slots t i || is_free w.slots i) (is_retired w.slots i) c);
  links = record { live = λ p c g. (alive p (v.links.live p c g).0, alive c (v.links.live p c g).1); forest = v.links.forest };
  resources = v.resources;
}

-- a row that moves: everybody lives on
lives_moved : (t : Tables) (h : Home) (row : Row) (cells : List (ℕ × Cell)) (e : Entity) → row_at t h ≡ Some row → lives t e ≡ true → lives (after_move t h row cells) e ≡ true
lives_moved t h row cells e at l =
    elim (is_same row.entity e) as (λ b. is_same row.entity e ≡ b → lives (after_move t h row cells) e ≡ true) [
      | true ↦ λ s. live_here (after_move t h row cells) e _ (record { entity = row.entity; cells = cells }) (added_there (without_row t h) (record { entity = row.entity; cells = cells })) (equal_keys entity_cmp_exact row.entity e s)
      | false ↦ λ s. lives_added (without_row t h) (record { entity = row.entity; cells = cells }) e
          (lives_removed t h row e at (λ u. let k : true ≡ false = sym (ap (λ x. is_same x e) u ∙ itself e) ∙ s in absurd (cc)) l)
    ] refl
  where
    itself : (e : Entity) → is_same e e ≡ true
    itself e = ties_itself entity_cmp_total e

pub moved_keeps : (w : World) (h : Home) (row : Row) (cells : List (ℕ × Cell)) → IsValid w → row_at w.tables h ≡ Some row
    → IsRowOf w.schema (mask_of cells) (record { entity = row.entity; cells = cells }) → list_all (λ (c : ℕ × Cell). is_timely w.tick c.1) cells ≡ true
    → IsValid (with_tables w (after_move w.tables h row cells))
moved_keeps w h row cells v at fits timely =
    let new : Row = record { entity = row.entity; cells = cells } in
    let old = v.rows.each h row at in
    let Sound = IsSoundRow w.schema w.slots w.tick in
    tables_valid w (after_move w.tables h row cells) v
    (record {
      each = each_added Sound (without_row w.tables h) new (each_removed Sound w.tables h row at v.rows.each) (record { current = old.current; busy = old.busy; fits = fits; timely = timely });
      once = once_added (without_row w.tables h) new (once_removed w.tables h row at v.rows.once) (removed_nowhere w.tables h row at v.rows.once);
    })
    (λ e l. lives_moved w.tables h row cells e at l)

-- a row that is written in its place
pub rewritten_keeps : (w : World) (h : Home) (row new : Row) → IsValid w → row_at w.tables h ≡ Some row → new.entity ≡ row.entity
    → IsRowOf w.schema h.mask new → list_all (λ (c : ℕ × Cell). is_timely w.tick c.1) new.cells ≡ true
    → IsValid (with_tables w (with_row_at w.tables h new))
rewritten_keeps w h row new v at same fits timely =
    let old = v.rows.each h row at in
    tables_valid w (with_row_at w.tables h new) v
    (record {
      each = each_rewritten (IsSoundRow w.schema w.slots w.tick) w.tables h new v.rows.each (record {
        current = subst (IsCurrent w.slots) (sym same) old.current;
        busy = subst (λ (e : Entity). is_free w.slots e.index ≡ false) (sym same) old.busy;
        fits = fits;
        timely = timely;
      });
      once = once_rewritten w.tables h row new at same v.rows.once;
    })
    (λ e l. lives_rewritten w.tables h row new e at same l)

-- ---- insert

-- a cell that is found passes what all cells pass
found_passes : (p : Cell → Bool) (cells : List (ℕ × Cell)) (kind : ℕ) (c : Cell) → list_all (λ (x : ℕ × Cell). p x.1) cells ≡ true → cell_of cells kind ≡ Some c → p c ≡ true
found_passes p [] kind c all there = absurd (let k : None ≡ Some c = there in cc)
found_passes p (e ∷ es) kind c all there =
    elim (eq_by_cmp nat_cmp kind e.0) as (λ b. (if b then Some e.1 else cell_of es kind) ≡ Some c → p c ≡ true) [
      | true ↦ λ g. ap p (sym (let k : e.1 ≡ c = cc in k)) ∙ (and_parts (p e.1) _ all).0
      | false ↦ λ g. found_passes p es kind c (and_parts (p e.1) _ all).1 g
    ] there

-- the world that an insert leaves
pub insert_made : (w : World) (h : Home) (row : Row) (kind : ℕ) (value : Value) (o : Option Cell) → cell_of row.cells kind ≡ o → IsValid w → row_at w.tables h ≡ Some row
    → fits_kind w.schema value kind ≡ true → IsValid (with_tables w (after_insert w.tick w.tables h row kind value o))
insert_made w h row kind value None e v at fits =
    let old = (v.rows.each h row at).fits in
    moved_keeps w h row (with_cell row.cells kind (new_cell w.tick value)) v at
    (record {
      kinds = record { ascending = ascending-with_cell row.cells kind (new_cell w.tick value) old.kinds.ascending; kinds = refl };
      shapes = all-with_cell (λ (c : ℕ × Cell). fits_kind w.schema c.1.value c.0) row.cells kind (new_cell w.tick value) old.shapes fits;
    })
    (all-with_cell (λ (c : ℕ × Cell). is_timely w.tick c.1) row.cells kind (new_cell w.tick value) (v.rows.each h row at).timely (timely_new w.tick value))
insert_made w h row kind value (Some c) e v at fits =
    let old = (v.rows.each h row at).fits in
    let new : Cell = record { value = value; added = c.added; changed = w.tick } in
    let was = found_passes (is_timely w.tick) row.cells kind c (v.rows.each h row at).timely e in
    rewritten_keeps w h row (row_with_cell row kind new) v at refl
    (record {
      kinds = record { ascending = ascending-with_cell row.cells kind new old.kinds.ascending; kinds = mask-with_cell_there row.cells kind c new old.kinds.ascending e ∙ old.kinds.kinds };
      shapes = all-with_cell (λ (c : ℕ × Cell). fits_kind w.schema c.1.value c.0) row.cells kind new old.shapes fits;
    })
    (all-with_cell (λ (c : ℕ × Cell). is_timely w.tick c.1) row.cells kind new (v.rows.each h row at).timely (timely_there w.tick c value was))

pub insert_keeps : (w v : World) (e : Entity) (kind : ℕ) (value : Value) → IsValid w → insert w e kind value ≡ Ok (tt, v) → IsValid v
insert_keeps w v e kind value valid is =
    with_row_of (IsValid v) w e _ (tt, v) is (λ h r at same made.
    let parts = no_fault (insert_fault w.schema kind value) _ (tt, v) made in
    let tests = insert_tests w.schema kind value parts.0 in
    let world = same_world tt tt _ v parts.1 in
    subst IsValid world.1 (insert_made w h r kind value (cell_of r.cells kind) refl valid at tests.1))

-- ---- remove

-- the world that a remove leaves
pub remove_made : (w : World) (h : Home) (row : Row) (kind : ℕ) → IsValid w → row_at w.tables h ≡ Some row → IsValid (with_tables w (after_move w.tables h row (without_cell row.cells kind)))
remove_made w h row kind v at =
    let old = (v.rows.each h row at).fits in
    moved_keeps w h row (without_cell row.cells kind) v at
    (record {
      kinds = record { ascending = ascending-without_cell row.cells kind old.kinds.ascending; kinds = refl };
      shapes = all-without_cell (λ (c : ℕ × Cell). fits_kind w.schema c.1.value c.0) row.cells kind old.shapes;
    })
    (all-without_cell (λ (c : ℕ × Cell). is_timely w.tick c.1) row.cells kind (v.rows.each h row at).timely)

pub remove_keeps : (w v : World) (e : Entity) (kind : ℕ) → IsValid w → remove w e kind ≡ Ok (tt, v) → IsValid v
remove_keeps w v e kind valid is =
    with_row_of (IsValid v) w e _ (tt, v) is (λ h r at same made.
    let parts = no_fault (remove_fault w.schema r.cells kind) _ (tt, v) made in
    let world = same_world tt tt _ v parts.1 in
    subst IsValid world.1 (remove_made w h r kind valid at))

-- ---- raising the tick

later : (tick : ℕ) (c : Cell) → is_timely tick c ≡ true → is_timely (tick + 1) c ≡ true
later tick c h = timely_later c.added c.changed tick h
  where
    timely_later : (a b t : ℕ) → (nat_le a b && nat_le b t) ≡ true → (nat_le a b && nat_le b (t + 1)) ≡ true
    timely_later a b t h = grind (arith, nat_tests)

all_later : (tick : ℕ) (cells : List (ℕ × Cell)) → list_all (λ (c : ℕ × Cell). is_timely tick c.1) cells ≡ true → list_all (λ (c : ℕ × Cell). is_timely (tick + 1) c.1) cells ≡ true
all_later tick [] h = refl
all_later tick (c ∷ cs) h =
    let k = and_parts (is_timely tick c.1) _ h in
    ap (λ b. b && list_all (λ (c : ℕ × Cell). is_timely (tick + 1) c.1) cs) (later tick c.1 k.0) ∙ all_later tick cs k.1

-- a later tick keeps a world valid
pub raised_valid : (w : World) → IsValid w → nat_eq w.tick highest_tick ≡ false → IsValid (record w { tick = w.tick + 1 })
raised_valid w v low = record {
  schema = v.schema;
  slots = v.slots;
  tick = still_low w.tick v.tick low;
  rows = record {
    each = λ h r at. let old = v.rows.each h r at in record { current = old.current; busy = old.busy; fits = old.fits; timely = all_later w.tick r.cells old.timely };
    once = v.rows.once;
  };
  accounted = v.accounted;
  links = v.links;
  resources = λ name cell at. let old = v.resources name cell at in record { good = old.good; in_range = old.in_range; timely = later w.tick cell old.timely };
}
  where
    still_low : (t : ℕ) → t ≤ highest_tick → nat_eq t highest_tick ≡ false → t + 1 ≤ highest_tick
    still_low t l n = grind (arith, nat_tests)

pub raise_keeps : RaiseKeeps
raise_keeps w v valid is =
    elim (nat_eq w.tick highest_tick) as (λ b. nat_eq w.tick highest_tick ≡ b → ◌≡◌ {A = Outcome (Unit {0}) World} (if b then refuse TickFull else Ok (tt, record w { tick = w.tick + 1 })) (Ok (tt, v)) → IsValid v) [
      | true ↦ λ e g. absurd (not_ok (tt, v) _ g)
      | false ↦ λ e g. subst IsValid (same_world tt tt (record w { tick = w.tick + 1 }) v g).1 (raised_valid w valid e)
    ] refl is
