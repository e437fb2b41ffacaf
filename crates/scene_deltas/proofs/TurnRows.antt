-- The cells of a turn, one after another, are its rows at once: what puts a run over the rows of its table takes the
-- turn's deltas back, or makes them again.
use Rattle.std.proofs.Common.{◌≡◌, ◌<◌, ℕ, zero, suc, List, [], ◌∷◌, ◌++◌, length, get_or, map, refl, ap, sym, subst, ◌∙◌, arith, Option, Some, None}
use Rattle.std.specs.Prelude.{All, Contains, option_map, slice_get, slice_set}
use Rattle.std.specs.Option.{unwrap_or}
use Rattle.std.specs.List.{AllByRecursion}
use Rattle.std.specs.Cmp.{nat_cmp_total}
use Rattle.std.specs.FinMap.{nat_cmp-IsAntisymmetric}
use Rattle.std.proofs.lemmas.List.{get_or-map, length-map}
use Rattle.std.proofs.lemmas.List.Elements.{All-contains_itself, recursion_from_All}
use Rattle.std.proofs.lemmas.Option.{slice_get-get_or}
use Rattle.scene_kinds.specs.declared.cell.Cell.{Cell}
use Rattle.scene_kinds.specs.declared.cells.Row.{Row}
use Rattle.scene_kinds.specs.declared.entity.Entity.{Entity}
use Rattle.scene_kinds.specs.Cells.{IsAscending}
use Rattle.scene_kinds.specs.KindSet.{KindSet}
use Rattle.scene_kinds.proofs.Lists.{list_at_same, with_list-list_at, with_list-with_list}
use Rattle.scene_table.specs.declared.home.Home.{Home}
use Rattle.scene_table.specs.CellWrites.{AreOnce, IsOver, rows_with_cell_of, set_cells_back, set_cells_of}
use Rattle.scene_table.specs.Runs.{AreLongFor, IsTurn, TurnState, cells_both, cells_of_turn, columns_after, rows_after_turn, rows_before_turn, rows_both, rows_with_rows}
use Rattle.scene_table.specs.Table.{row_with_cell, rows_with_cell}
use Rattle.scene_table.specs.Tables.{rows_at, row_place, with_row_at, with_rows}
use Rattle.scene_table.proofs.CellWrites.{entities_in, turn_is_cells, turn_is_taken_back}
use Rattle.scene_table.proofs.Homes.{HasAt, place_found, place_missed}
use Rattle.scene_table.proofs.TableRows.{entities_of}
use Rattle.scene_table.proofs.TurnCells.{columns_before_long}
use Rattle.scene_model.specs.Raw.{set_cell}
use Rattle.scene_model.specs.Valid.{IsValid}
use Rattle.scene_model.specs.World.{World}
use Rattle.scene_model.proofs.RowOf.{made_by_row, row_stands}
use Rattle.scene_deltas.specs.declared.delta.Delta.{Delta}
use Rattle.scene_deltas.specs.declared.delta.Delta.TheVariants.{CellSet}
use Rattle.scene_deltas.specs.Deltas.{back_all, fwd_all, AllFitBack, AllFitOn}
use Rattle.scene_deltas.specs.Segments.{IsOverTable, turn_deltas}
use Rattle.scene_deltas.proofs.ComeBack.{deltas_come_back, delta_lists_come_back}

abbrev pub Change : Type 0
Change = Entity × ℕ × Cell × Cell

-- the deltas of cells with what they were and what they become, and each of the two alone
abbrev pub deltas_for : List Change → List Delta
deltas_for cells = map (λ c. CellSet c.0 c.1 c.2 c.3) cells

abbrev pub were : List Change → List (Entity × ℕ × Cell)
were cells = map (λ c. (c.0, c.1, c.2)) cells

abbrev pub become : List Change → List (Entity × ℕ × Cell)
become cells = map (λ c. (c.0, c.1, c.3)) cells

-- each is of one of these entities
abbrev pub AreOf : List Entity → List Change → Type 0
AreOf es cells = AllByRecursion (λ (c : Change). Contains es c.0) cells

-- a world with other rows of a kind set
abbrev pub with_table : World → KindSet → List Row → World
with_table w mask rows = record w { tables = with_rows w.tables mask rows }

-- ---- the entities stay

set_entities : (rows : List Row) (i : ℕ) (r s : Row) → slice_get rows i ≡ Some r → s.entity ≡ r.entity → entities_in (slice_set rows i s) ≡ entities_in rows
set_entities [] i r s there same = refl
set_entities (x ∷ rows) zero r s there same = let is : x ≡ r = cc in ap (λ (e : Entity). e ∷ entities_in rows) (same ∙ ap (λ (y : Row). y.entity) (sym is))
set_entities (x ∷ rows) (suc i) r s there same = ap (λ (es : List Entity). x.entity ∷ es) (set_entities rows i r s there same)

pub cell_entities : (rows : List Row) (e : Entity) (kind : ℕ) (cell : Cell) → entities_in (rows_with_cell_of rows e kind cell) ≡ entities_in rows
cell_entities rows e kind cell = elim (row_place e rows) as (λ o. row_place e rows ≡ o → entities_in (unwrap_or (option_map (λ at. rows_with_cell rows at kind cell) o) rows) ≡ entities_in rows) [
  | None ↦ λ t. refl
  | Some i ↦ λ t.
      let h = place_found e rows i t in
      ap (λ (o : Option Row). entities_in (unwrap_or (option_map (λ (row : Row). slice_set rows i (row_with_cell row kind cell)) o) rows)) h.there
      ∙ set_entities rows i h.row (row_with_cell h.row kind cell) h.there refl
] refl

pub back_entities : (rows : List Row) (cells : List (Entity × ℕ × Cell)) → entities_in (set_cells_back rows cells) ≡ entities_in rows
back_entities rows [] = refl
back_entities rows (c ∷ cells) = cell_entities (set_cells_back rows cells) c.0 c.1 c.2 ∙ back_entities rows cells

-- ---- one cell of a row of a table

has_row : (rows : List Row) (e : Entity) → Contains (entities_in rows) e → (p : ℕ) × HasAt rows p e
has_row rows e c =
    let blank : Row = record { entity = e; cells = [] } in
    let low : c.0 < length rows = omega (arith, c.1, length-map rows (λ (row : Row). row.entity)) in
    (c.0, record { row = get_or rows c.0 blank; there = slice_get-get_or rows c.0 blank low; same = sym (get_or-map (λ (row : Row). row.entity) rows c.0 blank e low) ∙ c.2 })

module _ (w : World) (mask : KindSet) (rows : List Row) (v : IsValid (with_table w mask rows)) (e : Entity) (kind : ℕ) (cell : Cell) where
  table_is : rows_at (with_rows w.tables mask rows) mask ≡ rows
  table_is = list_at_same nat_cmp_total w.tables mask rows

  set_at : (i : ℕ) → HasAt rows i e → set_cell (with_table w mask rows) e kind cell ≡ with_table w mask (rows_with_cell rows i kind cell)
  set_at i h =
      let u = with_table w mask rows in
      let home : Home = record { mask = mask; place = i } in
      let new = row_with_cell h.row kind cell in
      made_by_row u e home h.row (λ g row. record u { tables = with_row_at u.tables g (row_with_cell row kind cell) })
      (row_stands u e home h.row v.rows.once (ap (λ (rs : List Row). slice_get rs i) table_is ∙ h.there) h.same)
      ∙ ap (λ (rs : List Row). record w { tables = with_rows (with_rows w.tables mask rows) mask (slice_set rs i new) }) table_is
      ∙ ap (λ t. record w { tables = t }) (with_list-with_list nat_cmp_total nat_cmp-IsAntisymmetric w.tables mask rows (slice_set rows i new))
      ∙ ap (λ (o : Option Row). with_table w mask (unwrap_or (option_map (λ (row : Row). slice_set rows i (row_with_cell row kind cell)) o) rows)) (sym h.there)

  pub one_set : Contains (entities_in rows) e → set_cell (with_table w mask rows) e kind cell ≡ with_table w mask (rows_with_cell_of rows e kind cell)
  one_set among = elim (row_place e rows) as (λ o. row_place e rows ≡ o → set_cell (with_table w mask rows) e kind cell ≡ with_table w mask (unwrap_or (option_map (λ at. rows_with_cell rows at kind cell) o) rows)) [
    | None ↦ λ t. let h = has_row rows e among in absurd (place_missed e rows t h.0 h.1)
    | Some i ↦ λ t. set_at i (place_found e rows i t)
  ] refl

-- ---- cells one after another

pub same_table : (w : World) (mask : KindSet) → w ≡ with_table w mask (rows_at w.tables mask)
same_table w mask = sym (ap (λ t. record w { tables = t }) (with_list-list_at nat_cmp_total nat_cmp-IsAntisymmetric w.tables mask))

pub cells_back : (w : World) (mask : KindSet) (cells : List Change) → IsValid w → AreOf (entities_in (rows_at w.tables mask)) cells → AllFitBack (deltas_for cells) w
    → back_all (deltas_for cells) w ≡ with_table w mask (set_cells_back (rows_at w.tables mask) (were cells))
cells_back w mask [] v among fit = same_table w mask
cells_back w mask (c ∷ cells) v among fit =
    let rows = set_cells_back (rows_at w.tables mask) (were cells) in
    let rest : back_all (deltas_for cells) w ≡ with_table w mask rows = cells_back w mask cells v among.1 fit.0 in
    let sound : IsValid (with_table w mask rows) = subst IsValid rest ((delta_lists_come_back (deltas_for cells)).1.keeps w v fit.0) in
    ap (λ u. set_cell u c.0 c.1 c.2) rest
    ∙ one_set w mask rows sound c.0 c.1 c.2 (subst (λ (es : List Entity). Contains es c.0) (sym (back_entities (rows_at w.tables mask) (were cells))) among.0)

-- the world after the first of them, and what still holds of the others
pub record IsNext (w : World) (mask : KindSet) (c : Change) (cells : List Change) (u : World) : Type 0 where
  pub first : set_cell w c.0 c.1 c.3 ≡ u
  pub sound : IsValid u
  pub there : rows_at u.tables mask ≡ rows_with_cell_of (rows_at w.tables mask) c.0 c.1 c.3
  pub still : AreOf (entities_in (rows_at u.tables mask)) cells
  pub fit : AllFitOn (deltas_for cells) u

abbrev pub next_world : World → KindSet → Change → World
next_world w mask c = with_table w mask (rows_with_cell_of (rows_at w.tables mask) c.0 c.1 c.3)

pub next_on : (w : World) (mask : KindSet) (c : Change) (cells : List Change) → IsValid w → AreOf (entities_in (rows_at w.tables mask)) (c ∷ cells) → AllFitOn (deltas_for (c ∷ cells)) w
    → IsNext w mask c cells (next_world w mask c)
next_on w mask c cells v among fit =
    let rows = rows_at w.tables mask in
    let new = rows_with_cell_of rows c.0 c.1 c.3 in
    let first : set_cell w c.0 c.1 c.3 ≡ with_table w mask new =
    ap (λ x. set_cell x c.0 c.1 c.3) (same_table w mask) ∙ one_set w mask rows (subst IsValid (same_table w mask) v) c.0 c.1 c.3 among.0 in
    let there : rows_at (with_table w mask new).tables mask ≡ new = list_at_same nat_cmp_total w.tables mask new in
    record {
      first = first;
      sound = subst IsValid first ((deltas_come_back (CellSet c.0 c.1 c.2 c.3)).0.keeps w v fit.0);
      there = there;
      still = subst (λ (es : List Entity). AreOf es cells) (sym (ap entities_in there ∙ cell_entities rows c.0 c.1 c.3)) among.1;
      fit = subst (AllFitOn (deltas_for cells)) first fit.1;
    }

pub cells_on : (w : World) (mask : KindSet) (cells : List Change) → IsValid w → AreOf (entities_in (rows_at w.tables mask)) cells → AllFitOn (deltas_for cells) w
    → fwd_all (deltas_for cells) w ≡ with_table w mask (set_cells_of (rows_at w.tables mask) (become cells))
cells_on w mask [] v among fit = same_table w mask
cells_on w mask (c ∷ cells) v among fit =
    let u = next_world w mask c in
    let new = rows_with_cell_of (rows_at w.tables mask) c.0 c.1 c.3 in
    let next = next_on w mask c cells v among fit in
    ap (fwd_all (deltas_for cells)) next.first
    ∙ cells_on u mask cells next.sound next.still next.fit
    ∙ ap (λ (rs : List Row). record w { tables = with_rows (with_rows w.tables mask new) mask (set_cells_of rs (become cells)) }) next.there
    ∙ ap (λ t. record w { tables = t }) (with_list-with_list nat_cmp_total nat_cmp-IsAntisymmetric w.tables mask new (set_cells_of new (become cells)))

-- ---- a turn

both_of : (es : List Entity) (e : Entity) (before after : List (ℕ × Cell)) (rest : List Change) → Contains es e → AreOf es rest → AreOf es (cells_both e before after ++ rest)
both_of es e [] after rest c h = h
both_of es e (b ∷ before) [] rest c h = h
both_of es e (b ∷ before) (a ∷ after) rest c h = (c, both_of es e before after rest c h)

rows_of_those : (es : List Entity) (before after : List Row) → AllByRecursion (Contains es) (entities_in before) → AreOf es (rows_both before after)
rows_of_those es [] after h = tt
rows_of_those es (b ∷ before) [] h = tt
rows_of_those es (b ∷ before) (a ∷ after) h = both_of es b.entity b.cells a.cells (rows_both before after) h.0 (rows_of_those es before after h.1)

turn_of_its_entities : (t : TurnState) → AreLongFor t.run.entities t.run.columns → IsTurn t → AreOf t.run.entities (cells_of_turn t)
turn_of_its_entities t long is =
    rows_of_those t.run.entities (rows_before_turn t) (rows_after_turn t)
    (subst (AllByRecursion (Contains t.run.entities)) (sym (entities_of t.run.entities (columns_after 0 t.run.columns t.turns t.before) (columns_before_long t long is)))
    (recursion_from_All (Contains t.run.entities) t.run.entities (All-contains_itself t.run.entities)))

entity_there : (rows : List Row) (i : ℕ) (e : Entity) → slice_get (entities_in rows) i ≡ Some e → HasAt rows i e
entity_there [] i e h = absurd (let k : None ≡ Some e = h in cc)
entity_there (r ∷ rows) zero e h = let is : r.entity ≡ e = cc in record { row = r; there = refl; same = is }
entity_there (r ∷ rows) (suc i) e h = let k = entity_there rows i e h in record { row = k.row; there = k.there; same = k.same }

module _ (w : World) (t : TurnState) (stands : IsOverTable w t) where
  pub stand_once : AreOnce t.run.entities
  stand_once i j e here there =
      let rows = rows_at w.tables t.run.mask in
      let a = entity_there rows i e (subst (λ (es : List Entity). slice_get es i ≡ Some e) stands.entities here) in
      let b = entity_there rows j e (subst (λ (es : List Entity). slice_get es j ≡ Some e) stands.entities there) in
      ap (λ (h : Home). h.place) (stands.valid.rows.once (record { mask = t.run.mask; place = i }) (record { mask = t.run.mask; place = j }) a.row b.row a.there b.there (a.same ∙ sym b.same))

  pub is_over : IsOver (rows_at w.tables t.run.mask) t
  is_over = record { is = stands.is; long = stands.long; entities = stands.entities; once = stand_once }

  pub are_theirs : AreOf (entities_in (rows_at w.tables t.run.mask)) (cells_of_turn t)
  are_theirs = subst (λ (es : List Entity). AreOf es (cells_of_turn t)) stands.entities (turn_of_its_entities t stands.long stands.is)

  pub ascend : All (λ (row : Row). IsAscending row.cells) (rows_at w.tables t.run.mask)
  ascend k d l =
      let rows = rows_at w.tables t.run.mask in
      (stands.valid.rows.each (record { mask = t.run.mask; place = k }) (get_or rows k d) (slice_get-get_or rows k d l)).fits.kinds.ascending

  -- a turn that is taken back cell by cell is what was there before it, put over the rows
  pub turn_back : AllFitBack (turn_deltas t) w → back_all (turn_deltas t) w ≡ with_table w t.run.mask (rows_with_rows (rows_at w.tables t.run.mask) (rows_before_turn t))
  turn_back fit =
      cells_back w t.run.mask (cells_of_turn t) stands.valid are_theirs fit
      ∙ ap (with_table w t.run.mask) (turn_is_taken_back (rows_at w.tables t.run.mask) t is_over stands.are ascend)

  -- and one that is made again is what it writes
  pub turn_on : AllFitOn (turn_deltas t) w → fwd_all (turn_deltas t) w ≡ with_table w t.run.mask (rows_with_rows (rows_at w.tables t.run.mask) (rows_after_turn t))
  turn_on fit =
      cells_on w t.run.mask (cells_of_turn t) stands.valid are_theirs fit
      ∙ ap (with_table w t.run.mask) (turn_is_cells (rows_at w.tables t.run.mask) t is_over)
