-- A run that stands in the table of a valid world may be written there after more turns.
use Rattle.std.proofs.Common.{◌≡◌, ◌+◌, ℕ, zero, suc, ℤ, Bool, true, false, List, [], ◌∷◌, length, get_or, map, refl, ap, sym, subst, ◌∙◌, Option, Some, None}
use Rattle.std.specs.Prelude.{All, option_map, replicate, slice_get}
use Rattle.std.specs.List.{list_all}
use Rattle.std.proofs.lemmas.Bool.{and_parts, and_from}
use Rattle.std.proofs.lemmas.List.{length-replicate}
use Rattle.std.proofs.lemmas.Option.{get_or_from_slice_get, slice_get-get_or, slice_get_within}
use Rattle.scene_kinds.specs.declared.entity.Entity.{Entity}
use Rattle.scene_kinds.specs.declared.cell.Cell.{Cell}
use Rattle.scene_kinds.specs.declared.cells.Row.{Row}
use Rattle.scene_kinds.specs.declared.shape.Shape.{Shape}
use Rattle.scene_kinds.specs.declared.shape.Shape.TheVariants as shape
use Rattle.scene_kinds.specs.declared.value.Value.{Value}
use Rattle.scene_kinds.specs.declared.value.Value.TheVariants.{Vec3}
use Rattle.scene_kinds.specs.Cells.{cell_of}
use Rattle.scene_kinds.specs.Ranges.{is_in_range}
use Rattle.scene_kinds.specs.Schema.{Kinds, fits_kind, has_shape, shape_of}
use Rattle.scene_kinds.specs.Shape.{same_shape, shape_of_value}
use Rattle.scene_table.specs.declared.run.RunColumn.{RunColumn}
use Rattle.scene_table.specs.declared.series.Series.{Series}
use Rattle.scene_table.specs.declared.series.Series.TheVariants.{Ints, Vecs}
use Rattle.scene_table.specs.Columns.{ColumnState, cells_of, stamped, zip_with}
use Rattle.scene_table.specs.Runs.{AreInRange, Changed, HoldsAt, RunState, Same, Stands, StandsColumn, changed_of, columns_after, grown, ints_after, rows_after, vector_after}
use Rattle.scene_table.specs.Tables.{rows_at}
use Rattle.scene_table.proofs.CellsOfTurn.{same_tick}
use Rattle.scene_table.proofs.RunFacts.{stands_added}
use Rattle.scene_table.proofs.TableRows.{row_parts}
use Rattle.scene_model.specs.World.{World}
use Rattle.scene_model.specs.Can.{is_good_cell}
use Rattle.scene_model.specs.Valid.{IsValid, is_timely}
use Rattle.scene_model.specs.RunRaw.{CanPutRun, StandingRunsCanBePut, are_good}
use Rattle.scene_model.proofs.GoodCells.{found_good, good_cells}
use Rattle.scene_model.proofs.NewCells.{timely_there}

-- ---- lists, place by place

pub first_same : {Z : Type 0} (a b : Z) (xs ys : List Z) → a ∷ xs ≡ b ∷ ys → a ≡ b
first_same a b xs ys h = cc

pub rest_same : {Z : Type 0} (a b : Z) (xs ys : List Z) → a ∷ xs ≡ b ∷ ys → xs ≡ ys
rest_same a b xs ys h = cc

-- what stands at a place in a list that is the same, mapped
pub same_at : {X Y Z : Type 0} (f : X → Z) (g : Y → Z) (xs : List X) (ys : List Y) (i : ℕ) (x : X) → map f xs ≡ map g ys → slice_get xs i ≡ Some x → (y : Y) × ((slice_get ys i ≡ Some y) × (g y ≡ f x))
same_at f g [] ys i x e h = absurd (let k : None ≡ Some x = h in cc)
same_at f g (z ∷ xs) [] i x e h = absurd (let k : f z ∷ map f xs ≡ [] = e in cc)
same_at f g (z ∷ xs) (y ∷ ys) zero x e h =
    let own : z ≡ x = (let k : Some z ≡ Some x = h in cc) in
    (y, (refl, sym (first_same (f z) (g y) (map f xs) (map g ys) e) ∙ ap f own))
same_at f g (z ∷ xs) (y ∷ ys) (suc i) x e h = same_at f g xs ys i x (rest_same (f z) (g y) (map f xs) (map g ys) e) h

pub all_at : {X : Type 0} (p : X → Bool) (xs : List X) (i : ℕ) (x : X) → list_all p xs ≡ true → slice_get xs i ≡ Some x → p x ≡ true
all_at p [] i x all h = absurd (let k : None ≡ Some x = h in cc)
all_at p (y ∷ xs) zero x all h = let e : y ≡ x = (let k : Some y ≡ Some x = h in cc) in ap p (sym e) ∙ (and_parts (p y) (list_all p xs) all).0
all_at p (y ∷ xs) (suc i) x all h = all_at p xs i x (and_parts (p y) (list_all p xs) all).1 h

pub each_at : {X : Type 0} (P : X → Type 0) (xs : List X) (i : ℕ) (x : X) → All P xs → slice_get xs i ≡ Some x → P x
each_at P xs i x all h = subst P (get_or_from_slice_get xs i x x h) (all i x (slice_get_within xs i x h))

pub same_some : {X : Type 0} (x y : X) (o : Option X) → o ≡ Some x → o ≡ Some y → x ≡ y
same_some x y o g h = let k : Some x ≡ Some y = sym g ∙ h in cc

-- ---- values and shapes

pub same_shape_is : (a b : Shape) → same_shape a b ≡ true → a ≡ b
same_shape_is shape.Tag shape.Tag h = refl
same_shape_is shape.Int shape.Int h = refl
same_shape_is shape.Vec3 shape.Vec3 h = refl
same_shape_is shape.Text shape.Text h = refl
same_shape_is shape.Link shape.Link h = refl
same_shape_is a b h = absurd (let k : false ≡ true = h in cc)

-- another value of the same shape fits a kind too
like_fits : (schema : Kinds) (kind : ℕ) (x y : Value) → shape_of_value x ≡ shape_of_value y → fits_kind schema x kind ≡ true → is_in_range y ≡ true → fits_kind schema y kind ≡ true
like_fits schema kind x y like fits range = elim (shape_of schema kind) as (λ o. has_shape x o ≡ true → has_shape y o ≡ true) [
  | None ↦ λ h. h
  | Some s ↦ λ h.
      and_from (is_in_range y) (same_shape (shape_of_value y) s) range
      (ap (λ t. same_shape t s) (sym like) ∙ (and_parts (is_in_range x) (same_shape (shape_of_value x) s) h).1)
] fits

int_shape : (base : List ℤ) (by t : ℤ) (i : ℕ) (x : Value) → slice_get (ints_after base by t) i ≡ Some x → shape_of_value x ≡ shape.Int
int_shape [] by t i x h = absurd (let k : None ≡ Some x = h in cc)
int_shape (b ∷ base) by t zero x h = ap (λ (o : Option Value). shape_or o) (sym h)
  where
    shape_or : Option Value → Shape
    shape_or None = shape.Int
    shape_or (Some v) = shape_of_value v
int_shape (b ∷ base) by t (suc i) x h = int_shape base by t i x h

vec_shape : (base by : List (List ℤ)) (t : ℤ) (i : ℕ) (x : Value) → slice_get (zip_with (λ (b d : List ℤ). Vec3 (vector_after b d t)) base by) i ≡ Some x → shape_of_value x ≡ shape.Vec3
vec_shape [] by t i x h = absurd (let k : None ≡ Some x = h in cc)
vec_shape (b ∷ base) [] t i x h = absurd (let k : None ≡ Some x = h in cc)
vec_shape (b ∷ base) (d ∷ by) t zero x h = ap (λ (o : Option Value). shape_or o) (sym h)
  where
    shape_or : Option Value → Shape
    shape_or None = shape.Vec3
    shape_or (Some v) = shape_of_value v
vec_shape (b ∷ base) (d ∷ by) t (suc i) x h = vec_shape base by t i x h

-- turns keep the shapes of values
pub same_shapes : (s : Series) (t u : ℤ) (i : ℕ) (x y : Value) → slice_get (grown s t) i ≡ Some x → slice_get (grown s u) i ≡ Some y → shape_of_value x ≡ shape_of_value y
same_shapes (Ints base by) t u i x y g h = int_shape base.items by t i x g ∙ sym (int_shape base.items by u i y h)
same_shapes (Vecs base by) t u i x y g h = vec_shape base.items by.items t i x g ∙ sym (vec_shape base.items by.items u i y h)

-- ---- the cells of a column, and of a row

pub cell_parts : (values : List Value) (added changed : List ℕ) (i : ℕ) (cell : Cell) → slice_get (cells_of values added changed) i ≡ Some cell
    → (slice_get values i ≡ Some cell.value) × (slice_get added i ≡ Some cell.added) × (slice_get changed i ≡ Some cell.changed)
cell_parts [] added changed i cell h = absurd (let k : None ≡ Some cell = h in cc)
cell_parts (v ∷ values) [] changed i cell h = absurd (let k : None ≡ Some cell = h in cc)
cell_parts (v ∷ values) (a ∷ added) [] i cell h = absurd (let k : None ≡ Some cell = h in cc)
cell_parts (v ∷ values) (a ∷ added) (t ∷ changed) zero cell h =
    let e : stamped v (a, t) ≡ cell = (let k : Some (stamped v (a, t)) ≡ Some cell = h in cc) in
    (ap (λ (x : Cell). Some x.value) e, ap (λ (x : Cell). Some x.added) e, ap (λ (x : Cell). Some x.changed) e)
cell_parts (v ∷ values) (a ∷ added) (t ∷ changed) (suc i) cell h = cell_parts values added changed i cell h

-- what the cells of a run's columns at a place pass, the row's cells pass
module _ (p : ℕ → Cell → Bool) (turns : ℤ) (changed : Changed) (i : ℕ) where
  abbrev Passes : RunColumn → Type 0
  Passes c = (number : ℕ) (cell : Cell) → slice_get (cells_of (grown c.series turns) c.added.items (changed_of changed number (length c.added.items))) i ≡ Some cell → p c.kind cell ≡ true

  kept_kind : (kind : ℕ) (o : Option Cell) (x : ℕ × Cell) → option_map (λ (cell : Cell). (kind, cell)) o ≡ Some x → ((cell : Cell) → o ≡ Some cell → p kind cell ≡ true) → p x.0 x.1 ≡ true
  kept_kind kind None x h pass = absurd (let k : None ≡ Some x = h in cc)
  kept_kind kind (Some cell) x h pass =
      let e : (kind, cell) ≡ x = (let k : Some (kind, cell) ≡ Some x = h in cc) in
      ap (λ (y : ℕ × Cell). p y.0 y.1) (sym e) ∙ pass cell refl

  cells_pass : (from : ℕ) (columns : List RunColumn) (cells : List (ℕ × Cell)) → ((n : ℕ) (c : RunColumn) → slice_get columns n ≡ Some c → Passes c)
      → map (λ (column : ColumnState). option_map (λ (cell : Cell). (column.kind, cell)) (slice_get column.cells i)) (columns_after from columns turns changed) ≡ map (λ (x : ℕ × Cell). Some x) cells
      → list_all (λ (x : ℕ × Cell). p x.0 x.1) cells ≡ true
  cells_pass from columns [] pass e = refl
  cells_pass from [] (x ∷ cells) pass e = absurd (let k : [] ≡ Some x ∷ map (λ (x : ℕ × Cell). Some x) cells = e in cc)
  cells_pass from (c ∷ columns) (x ∷ cells) pass e =
      let own = slice_get (cells_of (grown c.series turns) c.added.items (changed_of changed from (length c.added.items))) i in
      let at = λ (column : ColumnState). option_map (λ (cell : Cell). (column.kind, cell)) (slice_get column.cells i) in
      and_from (p x.0 x.1) (list_all (λ (x : ℕ × Cell). p x.0 x.1) cells)
      (kept_kind c.kind own x (first_same (option_map (λ (cell : Cell). (c.kind, cell)) own) (Some x) (map at (columns_after (from + 1) columns turns changed)) (map (λ (x : ℕ × Cell). Some x) cells) e)
      (pass 0 c refl from))
      (cells_pass (from + 1) columns cells (λ n d h. pass (suc n) d h)
      (rest_same (option_map (λ (cell : Cell). (c.kind, cell)) own) (Some x) (map at (columns_after (from + 1) columns turns changed)) (map (λ (x : ℕ × Cell). Some x) cells) e))

-- ---- a run that stands

record HasOld (row : Row) (kind : ℕ) (value : Value) (added : ℕ) : Type 0 where
  old : Cell
  is : cell_of row.cells kind ≡ Some old
  same_value : old.value ≡ value
  same_added : old.added ≡ added

has_old : (row : Row) (kind : ℕ) (value : Value) (added : ℕ) (o : Option Cell) → cell_of row.cells kind ≡ o → option_map (λ (c : Cell). c.value) o ≡ Some value → option_map (λ (c : Cell). c.added) o ≡ Some added
    → HasOld row kind value added
has_old row kind value added None is v a = absurd (let k : None ≡ Some value = v in cc)
has_old row kind value added (Some c) is v a = record {
  old = c;
  is = is;
  same_value = (let k : Some c.value ≡ Some value = v in cc);
  same_added = (let k : Some c.added ≡ Some added = a in cc);
}

module _ (w : World) (run : RunState) (before turns : ℤ) (v : IsValid w) (stands : Stands (rows_at w.tables run.mask) run before) (fits : HoldsAt run turns) where
  abbrev rows : List Row
  rows = rows_at w.tables run.mask

  module _ (i : ℕ) (row : Row) (there : slice_get rows i ≡ Some row) (n : ℕ) (c : RunColumn) (at : slice_get run.columns n ≡ Some c) where
    column : StandsColumn rows before c
    column = each_at (StandsColumn rows before) run.columns n c stands.columns at

    old_value : (x : Value) × ((slice_get (grown c.series before) i ≡ Some x) × (Some x ≡ option_map (λ (cell : Cell). cell.value) (cell_of row.cells c.kind)))
    old_value = same_at (λ (r : Row). option_map (λ (cell : Cell). cell.value) (cell_of r.cells c.kind)) (λ (x : Value). Some x) rows (grown c.series before) i row column.values there

    old_added : (a : ℕ) × ((slice_get c.added.items i ≡ Some a) × (Some a ≡ option_map (λ (cell : Cell). cell.added) (cell_of row.cells c.kind)))
    old_added = same_at (λ (r : Row). option_map (λ (cell : Cell). cell.added) (cell_of r.cells c.kind)) (λ (x : ℕ). Some x) rows c.added.items i row column.added there

    has : HasOld row c.kind old_value.0 old_added.0
    has = has_old row c.kind old_value.0 old_added.0 (cell_of row.cells c.kind) refl (sym old_value.1.1) (sym old_added.1.1)

    -- the value after the turns fits the kind
    value_fits : (value : Value) → slice_get (grown c.series turns) i ≡ Some value → fits_kind w.schema value c.kind ≡ true
    value_fits value is =
        let good = found_good w row.cells c.kind has.old (good_cells w w.slots run.mask row (v.rows.each (record { mask = run.mask; place = i }) row there)) has.is in
        like_fits w.schema c.kind has.old.value value (ap shape_of_value has.same_value ∙ same_shapes c.series before turns i old_value.0 value old_value.1.0 is) good.fits
        (all_at is_in_range (grown c.series turns) i value (each_at (λ (x : RunColumn). AreInRange (grown x.series turns)) run.columns n c fits at) is)

    -- the cell that is written at the world's tick may stand in the row
    cell_good : (cell : Cell) → slice_get (cells_of (grown c.series turns) c.added.items (replicate (length c.added.items) w.tick)) i ≡ Some cell → is_good_cell w c.kind cell ≡ true
    cell_good cell is =
        let parts = cell_parts (grown c.series turns) c.added.items (replicate (length c.added.items) w.tick) i cell is in
        let good = found_good w row.cells c.kind has.old (good_cells w w.slots run.mask row (v.rows.each (record { mask = run.mask; place = i }) row there)) has.is in
        let own : has.old.added ≡ cell.added = has.same_added ∙ same_some old_added.0 cell.added (slice_get c.added.items i) old_added.1.0 parts.1 in
        let now : w.tick ≡ cell.changed = same_some w.tick cell.changed (slice_get (replicate (length c.added.items) w.tick) i) (same_tick (length c.added.items) i w.tick (slice_get_within c.added.items i cell.added parts.1)) parts.2 in
        and_from (fits_kind w.schema cell.value c.kind) (is_timely w.tick cell) (value_fits cell.value parts.0)
        (subst (λ (x : Cell). is_timely w.tick x ≡ true) (λ j. record { value = cell.value; added = own j; changed = now j }) (timely_there w.tick has.old cell.value good.timely))

  -- the row of a place of the table, by the entity of the run there
  own_row : (i : ℕ) (e : Entity) → slice_get run.entities i ≡ Some e → (row : Row) × (slice_get rows i ≡ Some row)
  own_row i e h =
      let p = same_at (λ (x : Entity). x) (λ (r : Row). r.entity) run.entities rows i e (itself run.entities ∙ stands.entities) h in (p.0, p.1.0)
    where
      itself : (es : List Entity) → map (λ (x : Entity). x) es ≡ es
      itself [] = refl
      itself (e ∷ es) = ap (λ t. e ∷ t) (itself es)

  rows_good : All (λ (x : Row). are_good w x.cells ≡ true) (rows_after run turns (Same w.tick))
  rows_good i d l =
      let columns = columns_after 0 run.columns turns (Same w.tick) in
      let x = get_or (rows_after run turns (Same w.tick)) i d in
      let parts = row_parts run.entities columns i x (slice_get-get_or (rows_after run turns (Same w.tick)) i d l) in
      let row = own_row i x.entity parts.0 in
      cells_pass (is_good_cell w) turns (Same w.tick) i 0 run.columns x.cells (λ n c at number cell is. cell_good i row.0 row.1 n c at cell is) parts.1

  standing : CanPutRun w run turns (Same w.tick)
  standing = record {
    rows = stands.entities;
    added = stands_added rows run before stands;
    holds = fits;
    ticks = λ number c there. length-replicate (length run.entities) w.tick;
    good = rows_good;
  }

  -- the values of a row of the run fit its kinds, whichever the changed ticks
  pub values_fit : (changed : Changed) (i : ℕ) (x : Row) → slice_get (rows_after run turns changed) i ≡ Some x → list_all (λ (c : ℕ × Cell). fits_kind w.schema c.1.value c.0) x.cells ≡ true
  values_fit changed i x there =
      let columns = columns_after 0 run.columns turns changed in
      let parts = row_parts run.entities columns i x there in
      let row = own_row i x.entity parts.0 in
      cells_pass (λ kind cell. fits_kind w.schema cell.value kind) turns changed i 0 run.columns x.cells
      (λ n c at number cell is. value_fits i row.0 row.1 n c at cell.value (cell_parts (grown c.series turns) c.added.items (changed_of changed number (length c.added.items)) i cell is).0) parts.1

pub standing_runs_can_be_put : StandingRunsCanBePut
standing_runs_can_be_put w run before turns v stands fits = standing w run before turns v stands fits
