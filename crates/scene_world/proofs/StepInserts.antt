-- Inserts of what steps make of rows, one after another: each sets a cell that is there, and together they write the
-- rows at once.
use Rattle.std.proofs.Common.{◌≡◌, ℕ, true, false, cond, not, List, [], ◌∷◌, ◌++◌, append_assoc, length, map, refl, ap, sym, subst, ◌∙◌, Option, Some, None, Ok}
use Rattle.std.specs.Prelude.{Err, is_some, option_map, slice_get}
use Rattle.std.specs.Cmp.{nat_cmp_total}
use Rattle.std.specs.FinMap.{nat_cmp-IsAntisymmetric}
use Rattle.std.specs.List.{flat_map, list_all}
use Rattle.std.proofs.lemmas.Bool.{and_parts, and_from, lt-ltb}
use Rattle.std.proofs.lemmas.List.{append-nil}
use Rattle.scene_kinds.specs.Answers.{Outcome}
use Rattle.scene_kinds.specs.Cells.{cell_of, put_over}
use Rattle.scene_kinds.specs.Schema.{Kinds, fits_kind}
use Rattle.scene_kinds.specs.declared.entity.Entity.{Entity}
use Rattle.scene_kinds.specs.declared.cell.Cell.{Cell}
use Rattle.scene_kinds.specs.declared.cells.Row.{Row}
use Rattle.scene_kinds.specs.declared.fault.Fault.TheVariants.{NoSuchKind, WrongShape}
use Rattle.scene_kinds.specs.declared.value.Value.{Value}
use Rattle.scene_kinds.proofs.Lists.{list_at_same, with_list-with_list}
use Rattle.scene_table.specs.CellWrites.{with_values}
use Rattle.scene_table.specs.Runs.{written_values}
use Rattle.scene_table.specs.Steps.{Values}
use Rattle.scene_table.specs.Table.{row_with_cell}
use Rattle.scene_table.specs.Tables.{rows_at, with_rows}
use Rattle.scene_table.specs.declared.row_step.RowStep.{RowStep}
use Rattle.scene_model.specs.Can.{is_good_cell}
use Rattle.scene_model.specs.Commands.{after_insert, and_then, insert, insert_fault, unless, with_live}
use Rattle.scene_model.specs.Perform.{Act, Command, Insert, answering}
use Rattle.scene_model.specs.Raw.{cells_of, listed_cells, set_cell}
use Rattle.scene_model.specs.Valid.{IsValid, is_timely}
use Rattle.scene_model.specs.World.{World}
use Rattle.scene_model.proofs.GoodCells.{found_good, good_cells}
use Rattle.scene_model.proofs.MoveKeeps.{with_tables}
use Rattle.scene_model.proofs.NewCells.{timely_there}
use Rattle.scene_model.proofs.Outcomes.{not_ok, same_world}
use Rattle.scene_model.proofs.RowKinds.{fits_known}
use Rattle.scene_model.proofs.RowOf.{row_stands}
use Rattle.scene_model.proofs.RunCells.{has_each, one_done, one_written, same_written, set_at, still_each}
use Rattle.scene_world.specs.Stage.{Note, Staged, act, noting}
use Rattle.scene_world.specs.Written.{acted, inserts_of}

-- commands after others
acted_on : {S : Type 0} (does : Act S) (xs ys : List Command) (s t : S) → acted does xs s ≡ Ok (tt, t) → acted does (xs ++ ys) s ≡ acted does ys t
acted_on does [] ys s t h = ap (acted does ys) (same_world tt tt s t h).1
acted_on {S} does (x ∷ xs) ys s t h =
    elim (does s x) as (λ (o : Outcome (Option Entity) S). and_then o (λ e u. acted does xs u) ≡ Ok (tt, t) → and_then o (λ e u. acted does (xs ++ ys) u) ≡ acted does ys t) [
      | Ok p ↦ λ g. acted_on does xs ys p.1 t g
      | Err r ↦ λ g. absurd (not_ok (tt, t) r g)
    ] h

-- ---- one insert

no_fault_known : (schema : Kinds) (kind : ℕ) (value : Value) → fits_kind schema value kind ≡ true → insert_fault schema kind value ≡ None
no_fault_known schema kind value fits =
    ap (λ b. cond (not b) (Some NoSuchKind) (cond (not (fits_kind schema value kind)) (Some WrongShape) None)) (lt-ltb kind (length schema) (fits_known schema value kind fits))
    ∙ ap (λ b. cond (not b) (Some WrongShape) None) fits

-- an insert of a kind that the row has sets its cell
pub insert_sets : (w : World) (m at : ℕ) (r : Row) (kind : ℕ) (value : Value) (old : Cell) → IsValid w → slice_get (rows_at w.tables m) at ≡ Some r → cell_of r.cells kind ≡ Some old
    → fits_kind w.schema value kind ≡ true → insert w r.entity kind value ≡ Ok (tt, set_cell w r.entity kind (put_over (Some old) value w.tick))
insert_sets w m at r kind value old v there has fits =
    ap (λ o. with_live o (λ h row. unless (insert_fault w.schema kind value)
    (Ok (tt, with_tables w (after_insert w.tick w.tables h row kind value (cell_of row.cells kind)))))) (row_stands w r.entity (record { mask = m; place = at }) r v.rows.once there refl)
    ∙ ap (λ f. unless f (Ok (tt, with_tables w (after_insert w.tick w.tables (record { mask = m; place = at }) r kind value (cell_of r.cells kind))))) (no_fault_known w.schema kind value fits)
    ∙ ap (λ o. Ok (tt, with_tables w (after_insert w.tick w.tables (record { mask = m; place = at }) r kind value o))) has
    ∙ ap (λ u. Ok (tt, u)) (sym (set_at w m at r kind (put_over (Some old) value w.tick) v.rows.once there))

-- what is put over a cell of a valid world is good
pub put_good : (w : World) (m at : ℕ) (r : Row) (kind : ℕ) (value : Value) (old : Cell) → IsValid w → slice_get (rows_at w.tables m) at ≡ Some r → cell_of r.cells kind ≡ Some old
    → fits_kind w.schema value kind ≡ true → is_good_cell w kind (put_over (Some old) value w.tick) ≡ true
put_good w m at r kind value old v there has fits =
    let good = found_good w r.cells kind old (good_cells w w.slots m r (v.rows.each (record { mask = m; place = at }) r there)) has in
    and_from (fits_kind w.schema value kind) (is_timely w.tick (put_over (Some old) value w.tick)) fits (timely_there w.tick old value good.timely)

-- ---- those of a row, and of rows

-- values that may be put into a row: it has their kinds, and they fit these
abbrev pub CanInsert : Kinds → Row → Option Values → Type 0
CanInsert schema r None = Unit {0}
CanInsert schema r (Some values) = (has_each r.cells (map (λ v. v.0) values) ≡ true) × (list_all (λ v. fits_kind schema v.1 v.0) values ≡ true)

abbrev pub CanInsertAll : Kinds → List RowStep → List Row → Type 0
CanInsertAll schema steps [] = Unit {0}
CanInsertAll schema steps (r ∷ rows) = CanInsert schema r (written_values steps r) × CanInsertAll schema steps rows

abbrev pub staged : {N : Type 0} → World → List N → Staged N
staged w notes = record { world = w; notes = notes }

-- what is noted of a cell that is set: the old one and the new one
abbrev pub SetNote : Type 0 → Type 0
SetNote N = Entity → ℕ → Cell → Cell → List N

module _ (N : Type 0) (set_note : SetNote N) (tick : ℕ) where
  abbrev pub note_over : Entity → ℕ → Value → Option Cell → List N
  note_over e kind value None = []
  note_over e kind value (Some old) = set_note e kind old (put_over (Some old) value tick)

  -- what is noted of the values of a row, of what steps make of a row, and of rows
  abbrev pub row_notes : Row → Values → List N
  row_notes r [] = []
  row_notes r (v ∷ vs) = note_over r.entity v.0 v.1 (cell_of r.cells v.0) ++ row_notes (row_with_cell r v.0 (put_over (cell_of r.cells v.0) v.1 tick)) vs

  abbrev pub made_notes : Row → Option Values → List N
  made_notes r None = []
  made_notes r (Some values) = row_notes r values

  abbrev pub rows_notes : List RowStep → List Row → List N
  rows_notes steps [] = []
  rows_notes steps (r ∷ rows) = made_notes r (written_values steps r) ++ rows_notes steps rows

-- a stage notes of an insert of a kind that is there what it notes of a cell that is set
abbrev pub NotesSets : {N : Type 0} → Note N → SetNote N → Type 0
NotesSets note set_note = (w : World) (e : Entity) (kind : ℕ) (value : Value) (old : Cell) → IsValid w → cell_of (cells_of w e) kind ≡ Some old
    → note w (Insert e kind value) ≡ set_note e kind old (put_over (Some old) value w.tick)

module _ (N : Type 0) (note : Note N) (set_note : SetNote N) (notes_sets : NotesSets note set_note) where
  -- commands write the rows of a table of a valid world, with these notes
  record IsActed (w : World) (m : ℕ) (rows : List Row) (commands : List Command) (notes more : List N) : Type 0 where
    is : acted (act note) commands (staged w notes) ≡ Ok (tt, staged (with_tables w (with_rows w.tables m rows)) (notes ++ more))
    valid : IsValid (with_tables w (with_rows w.tables m rows))

  none_acted : (w : World) (m : ℕ) (rows : List Row) (notes : List N) → IsValid w → rows_at w.tables m ≡ rows → IsActed w m rows [] notes []
  none_acted w m rows notes v at =
      let same = same_written w m rows v at in
      record { is = λ i. Ok (tt, staged (same.is i) (sym (append-nil notes) i)); valid = subst IsValid same.is v }

  -- first these commands, and then those
  more_acted : (w : World) (m : ℕ) (rows all : List Row) (xs ys : List Command) (notes a b : List N) → IsActed w m rows xs notes a → IsActed (with_tables w (with_rows w.tables m rows)) m all ys (notes ++ a) b
      → IsActed w m all (xs ++ ys) notes (a ++ b)
  more_acted w m rows all xs ys notes a b one rest =
      let over = with_list-with_list nat_cmp_total nat_cmp-IsAntisymmetric w.tables m rows all in
      record {
        is = acted_on (act note) xs ys (staged w notes) (staged (with_tables w (with_rows w.tables m rows)) (notes ++ a)) one.is ∙ rest.is
            ∙ (λ i. Ok (tt, staged (with_tables w (over i)) (append_assoc notes a b i)));
        valid = subst (λ t. IsValid (with_tables w t)) over rest.valid;
      }

  one_acted : (w : World) (m : ℕ) (done : List Row) (r : Row) (rows : List Row) (kind : ℕ) (value : Value) (notes : List N) (o : Option Cell) → cell_of r.cells kind ≡ o → is_some o ≡ true → IsValid w
      → rows_at w.tables m ≡ done ++ r ∷ rows → fits_kind w.schema value kind ≡ true
      → IsActed w m (done ++ row_with_cell r kind (put_over o value w.tick) ∷ rows) (Insert r.entity kind value ∷ []) notes (note_over N set_note w.tick r.entity kind value o)
  one_acted w m done r rows kind value notes None has is v at fits = absurd (let k : false ≡ true = is in cc)
  one_acted w m done r rows kind value notes (Some old) has is v at fits =
      let cell = put_over (Some old) value w.tick in
      let place : slice_get (rows_at w.tables m) (length done) ≡ Some r = ap (λ rs. slice_get rs (length done)) at ∙ seam done in
      let one = one_written w m done r rows kind old cell v at has (put_good w m (length done) r kind value old v place has fits) in
      let own : cell_of (cells_of w r.entity) kind ≡ Some old =
      ap (λ o. cell_of (listed_cells o) kind) (row_stands w r.entity (record { mask = m; place = length done }) r v.rows.once place refl) ∙ has in
      record {
        is = ap (λ o. and_then (answering {A = Unit {0}} {B = Option Entity} (λ a. None) (noting (staged w notes) (note w (Insert r.entity kind value)) o)) (λ e t. Ok (tt, t)))
            (insert_sets w m (length done) r kind value old v place has fits)
            ∙ (λ i. Ok (tt, staged (one.is i) (notes ++ notes_sets w r.entity kind value old v own i)));
        valid = subst IsValid one.is one.valid;
      }
    where
      seam : (xs : List Row) → slice_get (xs ++ r ∷ rows) (length xs) ≡ Some r
      seam [] = refl
      seam (x ∷ xs) = seam xs

  values_acted : (w : World) (m : ℕ) (done : List Row) (r : Row) (rows : List Row) (values : Values) (notes : List N) → IsValid w → rows_at w.tables m ≡ done ++ r ∷ rows
      → has_each r.cells (map (λ v. v.0) values) ≡ true → list_all (λ v. fits_kind w.schema v.1 v.0) values ≡ true
      → IsActed w m (done ++ with_values w.tick r values ∷ rows) (map (λ v. Insert r.entity v.0 v.1) values) notes (row_notes N set_note w.tick r values)
  values_acted w m done r rows [] notes v at has fits = none_acted w m (done ++ r ∷ rows) notes v at
  values_acted w m done r rows (x ∷ values) notes v at has fits =
      let t = and_parts (is_some (cell_of r.cells x.0)) (has_each r.cells (map (λ v. v.0) values)) has in
      let g = and_parts (fits_kind w.schema x.1 x.0) (list_all (λ v. fits_kind w.schema v.1 v.0) values) fits in
      let cell = put_over (cell_of r.cells x.0) x.1 w.tick in
      let new = row_with_cell r x.0 cell in
      let next = with_tables w (with_rows w.tables m (done ++ new ∷ rows)) in
      let own = note_over N set_note w.tick r.entity x.0 x.1 (cell_of r.cells x.0) in
      let one = one_acted w m done r rows x.0 x.1 notes (cell_of r.cells x.0) refl t.0 v at g.0 in
      let rest = values_acted next m done new rows values (notes ++ own) one.valid (list_at_same nat_cmp_total w.tables m (done ++ new ∷ rows)) (still_each r.cells x.0 cell (map (λ v. v.0) values) t.1) g.1 in
      more_acted w m (done ++ new ∷ rows) (done ++ with_values w.tick new values ∷ rows) (Insert r.entity x.0 x.1 ∷ []) (map (λ v. Insert r.entity v.0 v.1) values) notes own (row_notes N set_note w.tick new values) one rest

  row_acted : (w : World) (m : ℕ) (done : List Row) (r z : Row) (rows : List Row) (o : Option Values) (notes : List N) → IsValid w → rows_at w.tables m ≡ done ++ r ∷ rows
      → Some z ≡ option_map (with_values w.tick r) o → CanInsert w.schema r o → IsActed w m (done ++ z ∷ rows) (inserts_of r.entity o) notes (made_notes N set_note w.tick r o)
  row_acted w m done r z rows None notes v at is can = absurd (let k : Some z ≡ None = is in cc)
  row_acted w m done r z rows (Some values) notes v at is can =
      let e : z ≡ with_values w.tick r values = cc in
      subst (λ y. IsActed w m (done ++ y ∷ rows) (inserts_of r.entity (Some values)) notes (row_notes N set_note w.tick r values)) (sym e) (values_acted w m done r rows values notes v at can.0 can.1)

  first_row : (a b : Option Row) (xs ys : List (Option Row)) → a ∷ xs ≡ b ∷ ys → a ≡ b
  first_row a b xs ys h = cc

  rest_rows : (a b : Option Row) (xs ys : List (Option Row)) → a ∷ xs ≡ b ∷ ys → xs ≡ ys
  rest_rows a b xs ys h = cc

  rows_acted : (w : World) (m : ℕ) (steps : List RowStep) (done rows made : List Row) (notes : List N) → IsValid w → rows_at w.tables m ≡ done ++ rows
      → map (λ row. Some row) made ≡ map (λ row. option_map (with_values w.tick row) (written_values steps row)) rows → CanInsertAll w.schema steps rows
      → IsActed w m (done ++ made) (flat_map (λ row. inserts_of row.entity (written_values steps row)) rows) notes (rows_notes N set_note w.tick steps rows)
  rows_acted w m steps done [] [] notes v at is can = none_acted w m (done ++ []) notes v at
  rows_acted w m steps done [] (z ∷ made) notes v at is can = absurd (let k : Some z ∷ map (λ row. Some row) made ≡ [] = is in cc)
  rows_acted w m steps done (r ∷ rows) [] notes v at is can =
      absurd (let k : [] ≡ option_map (with_values w.tick r) (written_values steps r) ∷ map (λ row. option_map (with_values w.tick row) (written_values steps row)) rows = is in cc)
  rows_acted w m steps done (r ∷ rows) (z ∷ made) notes v at is can =
      let others = map (λ row. option_map (with_values w.tick row) (written_values steps row)) rows in
      let own = made_notes N set_note w.tick r (written_values steps r) in
      let one = row_acted w m done r z rows (written_values steps r) notes v at
      (first_row (Some z) (option_map (with_values w.tick r) (written_values steps r)) (map (λ row. Some row) made) others is) can.0 in
      let next = with_tables w (with_rows w.tables m (done ++ z ∷ rows)) in
      let there : rows_at next.tables m ≡ (done ++ z ∷ []) ++ rows = list_at_same nat_cmp_total w.tables m (done ++ z ∷ rows) ∙ one_done done z rows in
      let rest = rows_acted next m steps (done ++ z ∷ []) rows made (notes ++ own) one.valid there
      (rest_rows (Some z) (option_map (with_values w.tick r) (written_values steps r)) (map (λ row. Some row) made) others is) can.1 in
      more_acted w m (done ++ z ∷ rows) (done ++ z ∷ made) (inserts_of r.entity (written_values steps r)) (flat_map (λ row. inserts_of row.entity (written_values steps row)) rows) notes own (rows_notes N set_note w.tick steps rows) one
      (subst (λ rs. IsActed next m rs (flat_map (λ row. inserts_of row.entity (written_values steps row)) rows) (notes ++ own) (rows_notes N set_note w.tick steps rows)) (sym (one_done done z made)) rest)

  -- from the first row on
  pub all_acted : (w : World) (m : ℕ) (steps : List RowStep) (made : List Row) (notes : List N) → IsValid w
      → map (λ row. Some row) made ≡ map (λ row. option_map (with_values w.tick row) (written_values steps row)) (rows_at w.tables m) → CanInsertAll w.schema steps (rows_at w.tables m)
      → acted (act note) (flat_map (λ row. inserts_of row.entity (written_values steps row)) (rows_at w.tables m)) (staged w notes)
      ≡ Ok (tt, staged (with_tables w (with_rows w.tables m made)) (notes ++ rows_notes N set_note w.tick steps (rows_at w.tables m)))
  all_acted w m steps made notes v is can = (rows_acted w m steps [] (rows_at w.tables m) made notes v refl is can).is

-- ---- a stage that notes nothing

module _ (N : Type 0) (tick : ℕ) where
  abbrev pub no_note : SetNote N
  no_note e kind before after = []

  none_over : (e : Entity) (kind : ℕ) (value : Value) (o : Option Cell) → note_over N no_note tick e kind value o ≡ []
  none_over e kind value None = refl
  none_over e kind value (Some c) = refl

  none_row : (r : Row) (values : Values) → row_notes N no_note tick r values ≡ []
  none_row r [] = refl
  none_row r (v ∷ vs) = λ i. none_over r.entity v.0 v.1 (cell_of r.cells v.0) i ++ none_row (row_with_cell r v.0 (put_over (cell_of r.cells v.0) v.1 tick)) vs i

  none_made : (r : Row) (o : Option Values) → made_notes N no_note tick r o ≡ []
  none_made r None = refl
  none_made r (Some values) = none_row r values

  pub none_all : (steps : List RowStep) (rows : List Row) → rows_notes N no_note tick steps rows ≡ []
  none_all steps [] = refl
  none_all steps (r ∷ rows) = λ i. none_made r (written_values steps r) i ++ none_all steps rows i
