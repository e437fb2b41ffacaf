-- What the passes over a world list: the rows whose kind sets match, and their cells that pass a test.
use Rattle.std.proofs.Common.{◌≡◌, ◌<◌, ℕ, Bool, true, false, cond, List, [], ◌∷◌, length, refl, ap, subst, sym, ◌∙◌, nat_lt, Some, None, Ok, Err}
use Rattle.std.specs.Prelude.{slice_get, option_map, ◌↔◌, if◌then◌else◌}
use Rattle.std.specs.List.{Contains, filter}
use Rattle.std.specs.Ordering.{nat_cmp, eq_by_cmp}
use Rattle.std.specs.Cmp.{nat_cmp_total}
use Rattle.std.specs.FinMap.{nat_cmp-IsAntisymmetric}
use Rattle.std.proofs.lemmas.Bool.{not_from_true, ltb-true, lt-ltb}
use Rattle.scene_kinds.specs.declared.entity.Entity.{Entity}
use Rattle.scene_kinds.specs.declared.cell.Cell.{Cell}
use Rattle.scene_kinds.specs.declared.cells.Row.{Row}
use Rattle.scene_kinds.specs.declared.fault.Fault.TheVariants.{NoSuchKind}
use Rattle.scene_kinds.specs.Answers.{refusal_of}
use Rattle.scene_kinds.specs.Cells.{IsAscending, cell_of}
use Rattle.scene_kinds.specs.Lists.{listed}
use Rattle.scene_kinds.specs.Map as map_of
use Rattle.scene_kinds.specs.Schema.{Kinds, fits_kind}
use Rattle.scene_kinds.proofs.CellLaws.{first_below, rest_ascends, below_none}
use Rattle.scene_kinds.proofs.Maps.{equal_keys, ties_itself}
use Rattle.scene_table.specs.declared.home.Home.{Home}
use Rattle.scene_model.specs.World.{World, row_of, home_of, mask_at, component_of, component_in, is_unknown, kind_sets, present}
use Rattle.scene_table.specs.Tables.{rows_at, row_at}
use Rattle.scene_model.specs.Valid.{IsValid}
use Rattle.scene_table.proofs.Homes.{home_is}
use Rattle.scene_model.proofs.RowKinds.{fits_known}
use Rattle.scene_model.proofs.Found.{some_home}
use Rattle.scene_systems.specs.declared.filter.Filter.{Filter}
use Rattle.scene_pass.specs.declared.cell_name.CellName.{CellName}
use Rattle.scene_systems.specs.Filter.{is_match}
use Rattle.scene_pass.specs.Pass.{rows_in, matching_rows, matching, names_in, cells_where}
use Rattle.scene_pass.specs.Listed.{Matches, IsCellWhere}
use Rattle.scene_pass.proofs.Members.{none_in, in_cases, place_of, in_from_place, each_passes, in_filter, from_filter, passes, in_map, from_map, in_flat_map, from_flat_map, entry_in}

-- ---- rows

-- a kind set that has a row is among the kind sets
set_in : (w : World) (h : Home) (row : Row) → row_at w.tables h ≡ Some row → Contains (kind_sets w) h.mask
set_in w h row at = elim (map_of.get w.tables h.mask) as (λ o. map_of.get w.tables h.mask ≡ o → slice_get (listed o) h.place ≡ Some row → Contains (kind_sets w) h.mask) [
  | None ↦ λ e g. absurd (let wrong : None ≡ Some row = g in cc)
  | Some rows ↦ λ e g. in_map (λ t. t.0) w.tables.entries (h.mask, rows) h.mask (entry_in w.tables.entries h.mask rows e) refl
] refl at

-- a row of a matching kind set is listed
row_listed : (w : World) (f : Filter) (h : Home) (row : Row) → row_at w.tables h ≡ Some row → is_match f h.mask ≡ true → Contains (matching_rows w f) row
row_listed w f h row at is =
    in_flat_map (rows_in w f) (kind_sets w) h.mask row (set_in w h row at)
    (subst (λ b. Contains (if b then rows_at w.tables h.mask else []) row) (sym is) (in_from_place (rows_at w.tables h.mask) h.place row at))

-- and only such a row is
record IsMatchingRow (w : World) (f : Filter) (row : Row) : Type 0 where
  home : Home
  there : row_at w.tables home ≡ Some row
  matches : is_match f home.mask ≡ true

listed_row : (w : World) (f : Filter) (row : Row) → Contains (matching_rows w f) row → IsMatchingRow w f row
listed_row w f row h =
    let s = from_flat_map (rows_in w f) (kind_sets w) row h in
    elim (is_match f s.0) as (λ b. is_match f s.0 ≡ b → Contains (if b then rows_at w.tables s.0 else []) row → IsMatchingRow w f row) [
      | true ↦ λ t g.
          let p = place_of (rows_at w.tables s.0) row g in record { home = record { mask = s.0; place = p.0 }; there = p.1; matches = t }
      | false ↦ λ t g. none_in row g
    ] refl s.1.1

-- ---- entities

-- the entity of a row that stands somewhere
record HasRow (w : World) (row : Row) (h : Home) : Type 0 where
  mask : mask_at w row.entity ≡ Some h.mask
  found : row_of w row.entity ≡ Some (h, row)

row_found : (w : World) (h : Home) (row : Row) → IsValid w → row_at w.tables h ≡ Some row → HasRow w row h
row_found w h row valid at =
    let home : home_of w row.entity ≡ Some h = home_is w.tables row.entity h row valid.rows.once at refl in
    let k = some_home w row.entity (Some h) (sym home) in
    let rows : Some k.row ≡ Some row = sym k.there ∙ at in
    let same : k.row ≡ row = cc in record { mask = ap (option_map (λ g. g.mask)) home; found = k.found ∙ ap (λ r. Some (h, r)) same }

-- a live entity whose kind set matches has such a row
record IsMatchingHome (w : World) (f : Filter) (e : Entity) : Type 0 where
  home : Home
  row : Row
  there : row_at w.tables home ≡ Some row
  same : row.entity ≡ e
  found : row_of w e ≡ Some (home, row)
  matches : is_match f home.mask ≡ true

home_matches : (w : World) (f : Filter) (e : Entity) → Matches w f e → IsMatchingHome w f e
home_matches w f e m = elim (home_of w e) as (λ o. home_of w e ≡ o → option_map (λ g. g.mask) o ≡ Some m.0 → IsMatchingHome w f e) [
  | None ↦ λ t g. absurd (let wrong : None ≡ Some m.0 = g in cc)
  | Some h ↦ λ t g.
      let k = some_home w e (Some h) (sym t) in
      let mask : h.mask ≡ m.0 = cc in record { home = h; row = k.row; there = k.there; same = k.same; found = k.found; matches = ap (is_match f) mask ∙ m.1.1 }
] refl m.1.0

-- the entities of matching rows are those that are alive and whose kind set matches
pub matching_listed : (w : World) (f : Filter) (e : Entity) → IsValid w → Contains (matching w f) e ↔ Matches w f e
matching_listed w f e valid = (from, to)
  where
    from : Contains (matching w f) e → Matches w f e
    from h =
        let s = from_map (λ (row : Row). row.entity) (matching_rows w f) e h in
        let r = listed_row w f s.0 s.1.0 in (r.home.mask, (subst (λ x. mask_at w x ≡ Some r.home.mask) s.1.1 (row_found w r.home s.0 valid r.there).mask, r.matches))

    to : Matches w f e → Contains (matching w f) e
    to m = let k = home_matches w f e m in in_map (λ (row : Row). row.entity) (matching_rows w f) k.row e (row_listed w f k.home k.row k.there k.matches) k.same

-- ---- cells

-- among cells whose kinds ascend each is the one of its kind
cell_found : (cells : List (ℕ × Cell)) (kind : ℕ) (cell : Cell) → IsAscending cells → Contains cells (kind, cell) → cell_of cells kind ≡ Some cell
cell_found [] kind cell h g = none_in (kind, cell) g
cell_found (c ∷ cs) kind cell h g =
    in_cases c cs (kind, cell) g
    (λ e.
    let key : c.0 ≡ kind = ap (λ z. z.0) e in
    let test : eq_by_cmp nat_cmp kind c.0 ≡ true = ap (eq_by_cmp nat_cmp kind) key ∙ ties_itself nat_cmp_total kind in
    ap (λ b. cond b (Some c.1) (cell_of cs kind)) test ∙ ap (λ z. Some z.1) e)
    (λ r.
    let later = cell_found cs kind cell (rest_ascends c cs h) r in
    elim (eq_by_cmp nat_cmp kind c.0) as (λ b. eq_by_cmp nat_cmp kind c.0 ≡ b → cond b (Some c.1) (cell_of cs kind) ≡ Some cell) [
      | true ↦ λ t.
          let key = equal_keys nat_cmp-IsAntisymmetric kind c.0 t in
          absurd (let wrong : None ≡ Some cell = sym (below_none c.0 cs (first_below c cs h)) ∙ (ap (cell_of cs) (sym key) ∙ later) in cc)
      | false ↦ λ t. later
    ] refl)

-- the cell of a kind that is in the schema, as a reader finds it
cell_read : (schema : Kinds) (p : Home × Row) (kind : ℕ) (cell : Cell) → kind < length schema → cell_of p.1.cells kind ≡ Some cell → component_in schema kind (Some p) ≡ Ok cell
cell_read schema p kind cell low there =
    let known : is_unknown schema kind ≡ false = not_from_true _ (lt-ltb kind (length schema) low) in
    ap (λ b. if b then Err (refusal_of NoSuchKind) else present (cell_of p.1.cells kind)) known ∙ ap present there

read_cell : (schema : Kinds) (p : Home × Row) (kind : ℕ) (cell : Cell) → component_in schema kind (Some p) ≡ Ok cell → cell_of p.1.cells kind ≡ Some cell
read_cell schema p kind cell h = elim (is_unknown schema kind) as (λ b. (if b then Err (refusal_of NoSuchKind) else present (cell_of p.1.cells kind)) ≡ Ok cell → cell_of p.1.cells kind ≡ Some cell) [
  | true ↦ λ g. absurd (cc)
  | false ↦ λ g. elim (cell_of p.1.cells kind) as (λ o. present o ≡ Ok cell → o ≡ Some cell) [ None ↦ λ k. absurd (cc) | Some c ↦ λ k. cc ] g
] h

-- a cell of a row of a valid world, as a reader finds it
cell_seen : (w : World) (h : Home) (row : Row) (kind : ℕ) (cell : Cell) → IsValid w → row_at w.tables h ≡ Some row → Contains row.cells (kind, cell) → component_of w row.entity kind ≡ Ok cell
cell_seen w h row kind cell valid at g =
    let fits = (valid.rows.each h row at).fits in
    let low = fits_known w.schema cell.value kind (each_passes (λ (c : ℕ × Cell). fits_kind w.schema c.1.value c.0) row.cells (kind, cell) fits.shapes g) in
    ap (component_in w.schema kind) (row_found w h row valid at).found ∙ cell_read w.schema (h, row) kind cell low (cell_found row.cells kind cell fits.kinds.ascending g)

-- the cells that are listed are those of matching entities, where a test says what is asked of them
pub cells_listed : (test : Cell → Bool) (P : Cell → Type 0) → ((c : Cell) → (test c ≡ true) ↔ P c) → (w : World) (f : Filter) (n : CellName) → IsValid w → Contains (cells_where test w f) n ↔ IsCellWhere P w f n
cells_listed test P says w f n valid = (from, to)
  where
    of_row : (row : Row) (n : CellName) → IsMatchingRow w f row → (c : ℕ × Cell) → Contains row.cells c → test c.1 ≡ true → record { entity = row.entity; kind = c.0 } ≡ n → IsCellWhere P w f n
    of_row row n r c there passed is =
        subst (IsCellWhere P w f) is
        ((r.home.mask, ((row_found w r.home row valid r.there).mask, r.matches)), (c.1, (cell_seen w r.home row c.0 c.1 valid r.there there, (says c.1).0 passed)))

    from : Contains (cells_where test w f) n → IsCellWhere P w f n
    from h =
        let s = from_flat_map (names_in test) (matching_rows w f) n h in
        let c = from_map (λ (c : ℕ × Cell). record { entity = s.0.entity; kind = c.0 }) (filter (λ (c : ℕ × Cell). test c.1) s.0.cells) n s.1.1 in
        of_row s.0 n (listed_row w f s.0 s.1.0) c.0 (from_filter (λ (c : ℕ × Cell). test c.1) s.0.cells c.0 c.1.0) (passes (λ (c : ℕ × Cell). test c.1) s.0.cells c.0 c.1.0) c.1.1

    to : IsCellWhere P w f n → Contains (cells_where test w f) n
    to m =
        let k = home_matches w f n.entity m.0 in
        let cell = m.1.0 in
        let there : cell_of k.row.cells n.kind ≡ Some cell = read_cell w.schema (k.home, k.row) n.kind cell (sym (ap (component_in w.schema n.kind) k.found) ∙ m.1.1.0) in
        let kept = in_filter (λ (c : ℕ × Cell). test c.1) k.row.cells (n.kind, cell) (entry_in k.row.cells n.kind cell there) ((says cell).1 m.1.1.1) in
        let named : ◌≡◌ {A = CellName} (record { entity = k.row.entity; kind = n.kind }) n = ap (λ e. record { entity = e; kind = n.kind }) k.same in
        in_flat_map (names_in test) (matching_rows w f) k.row n (row_listed w f k.home k.row k.there k.matches)
        (in_map (λ (c : ℕ × Cell). record { entity = k.row.entity; kind = c.0 }) (filter (λ (c : ℕ × Cell). test c.1) k.row.cells) (n.kind, cell) n kept named)

-- what a test of order says
pub above : (a b : ℕ) → (nat_lt a b ≡ true) ↔ (a < b)
above a b = (ltb-true a b, lt-ltb a b)
