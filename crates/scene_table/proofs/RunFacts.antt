-- What is read of the cells of a kind, and which sums of a series fit.
use Rattle.std.proofs.Common.{◌≡◌, ◌<◌, ◌≤◌, ◌+◌, ◌*◌, ℕ, zero, suc, ℤ, pos, List, [], ◌∷◌, length, get_or, map, refl, ap, sym, subst, ◌∙◌, arith, true, false, Option, Some, None, nat_lt, nat_eq}
use Rattle.std.specs.Prelude.{All, unsigned_abs, slice_get, Result, Ok, Err, IfOk, IfNone, IfSome}
use Rattle.std.specs.List.{list_all}
use Rattle.std.specs.Option.{option_map}
use Rattle.std.proofs.Math.Nat.{mul-le-mul_left}
use Rattle.std.proofs.lemmas.Bool.{and_from, eq-eqb}
use Rattle.std.proofs.lemmas.Bool.Decides.{nat_tests}
use Rattle.std.proofs.lemmas.Option.{slice_get_read, get_or_from_slice_get}
use Rattle.scene_kinds.specs.Cells.{cell_of}
use Rattle.scene_kinds.specs.Ranges.{is_i64, is_in_range}
use Rattle.scene_kinds.specs.declared.cell.Cell.{Cell}
use Rattle.scene_kinds.specs.declared.cells.Row.{Row}
use Rattle.scene_kinds.specs.declared.value.Value.{Value}
use Rattle.scene_kinds.specs.declared.value.Value.TheVariants.{Vec3}
use Rattle.scene_table.specs.Columns.{cells_of}
use Rattle.scene_table.specs.Table.{cells_of_kind}
use Rattle.scene_table.specs.declared.reach.Reach.{Reach}
use Rattle.scene_table.specs.declared.row_step.RowStep.{RowStep}
use Rattle.scene_table.specs.declared.run.RunColumn.{RunColumn}
use Rattle.scene_table.specs.Table.{TableState}
use Rattle.scene_kinds.specs.declared.entity.Entity.{Entity}
use Rattle.scene_kinds.specs.KindSet.{has_kind}
use Rattle.scene_table.specs.declared.series.Series.{Series}
use Rattle.scene_table.specs.declared.series.Series.TheVariants.{Ints, Vecs}
use Rattle.scene_table.specs.Runs.{AreColumnsFor, AreInRange, AreNear, Changed, HasTicks, IsFirstColumn, IsRun, RunState, Stands, changed_of, IsBound, IsNear, added_in, grown, ints_after, number_after, values_in, vecs_after, vector_after}
use Rattle.scene_table.proofs.ColumnCells.{added_of}
use Rattle.scene_table.proofs.Fits.{number_fits}
use Rattle.scene_table.proofs.Zips.{zip-length}

-- ---- cells of a kind

pub of_kind : {Y : Type 0} (f : Cell → Y) (rows : List Row) (kind : ℕ) → map (λ (row : Row). option_map f (cell_of row.cells kind)) rows ≡ map (option_map f) (cells_of_kind rows kind)
of_kind f [] kind = refl
of_kind f (r ∷ rows) kind = ap (λ t. option_map f (cell_of r.cells kind) ∷ t) (of_kind f rows kind)

of_cells : {Y : Type 0} (f : Cell → Y) (cells : List Cell) → map (option_map f) (map (λ (cell : Cell). Some cell) cells) ≡ map (λ (y : Y). Some y) (map f cells)
of_cells f [] = refl
of_cells f (c ∷ cells) = ap (λ t. Some (f c) ∷ t) (of_cells f cells)

-- what a function reads of the cells of a kind
pub read_of_kind : {Y : Type 0} (f : Cell → Y) (rows : List Row) (kind : ℕ) (cells : List Cell) → map (λ (cell : Cell). Some cell) cells ≡ cells_of_kind rows kind
    → map (λ (row : Row). option_map f (cell_of row.cells kind)) rows ≡ map (λ (y : Y). Some y) (map f cells)
read_of_kind f rows kind cells is = of_kind f rows kind ∙ ap (map (option_map f)) (sym is) ∙ of_cells f cells

values_of_cells : (values : List Value) (added changed : List ℕ) → length added ≡ length values → length changed ≡ length values → map (λ (cell : Cell). cell.value) (cells_of values added changed) ≡ values
values_of_cells [] added changed e f = refl
values_of_cells (v ∷ values) [] changed e f = absurd (omega (arith, e))
values_of_cells (v ∷ values) (a ∷ added) [] e f = absurd (omega (arith, f))
values_of_cells (v ∷ values) (a ∷ added) (c ∷ changed) e f = ap (λ t. v ∷ t) (values_of_cells values added changed (omega (arith, e)) (omega (arith, f)))

changed_of_cells : (values : List Value) (added changed : List ℕ) → length added ≡ length values → length changed ≡ length values → map (λ (cell : Cell). cell.changed) (cells_of values added changed) ≡ changed
changed_of_cells [] added [] e f = refl
changed_of_cells [] added (c ∷ changed) e f = absurd (omega (arith, f))
changed_of_cells (v ∷ values) [] changed e f = absurd (omega (arith, e))
changed_of_cells (v ∷ values) (a ∷ added) [] e f = absurd (omega (arith, f))
changed_of_cells (v ∷ values) (a ∷ added) (c ∷ changed) e f = ap (λ t. c ∷ t) (changed_of_cells values added changed (omega (arith, e)) (omega (arith, f)))

module _ (rows : List Row) (kind : ℕ) (values : List Value) (added changed : List ℕ) (is : map (λ (cell : Cell). Some cell) (cells_of values added changed) ≡ cells_of_kind rows kind)
    (e : length added ≡ length values) (f : length changed ≡ length values) where
  -- the lists of a column that is lent are those of its kind in the rows
  pub values_lent : values_in rows kind ≡ map (λ (v : Value). Some v) values
  values_lent = read_of_kind (λ (cell : Cell). cell.value) rows kind (cells_of values added changed) is ∙ ap (map (λ (v : Value). Some v)) (values_of_cells values added changed e f)

  pub added_lent : added_in rows kind ≡ map (λ (tick : ℕ). Some tick) added
  added_lent = read_of_kind (λ (cell : Cell). cell.added) rows kind (cells_of values added changed) is ∙ ap (map (λ (tick : ℕ). Some tick)) (added_of values added changed e f)

  pub changed_lent : map (λ (row : Row). option_map (λ (cell : Cell). cell.changed) (cell_of row.cells kind)) rows ≡ map (λ (tick : ℕ). Some tick) changed
  changed_lent = read_of_kind (λ (cell : Cell). cell.changed) rows kind (cells_of values added changed) is ∙ ap (map (λ (tick : ℕ). Some tick)) (changed_of_cells values added changed e f)

pub some_vectors : (by : List (List ℤ)) → map (λ (v : Value). Some v) (map Vec3 by) ≡ map (λ vector. Some (Vec3 vector)) by
some_vectors [] = refl
some_vectors (v ∷ by) = ap (λ t. Some (Vec3 v) ∷ t) (some_vectors by)

-- ---- lists of which one more is known

pub first_or_last : (k i : ℕ) (P : Type 0) → k < i + 1 → (k < i → P) → (k ≡ i → P) → P
first_or_last k i P l low last =
    elim (nat_lt k i) as (λ b. nat_lt k i ≡ b → P) [
      | true ↦ λ t. low (below k i t)
      | false ↦ λ t. last (same k i t l)
    ] refl
  where
    below : (a b : ℕ) → nat_lt a b ≡ true → a < b
    below a b h = grind (arith, nat_tests)

    same : (a b : ℕ) → nat_lt a b ≡ false → a < b + 1 → a ≡ b
    same a b h m = grind (arith, nat_tests)

pub each_more : {X : Type 0} (P : X → Type 0) (xs : List X) (i : ℕ) (x : X) → ((k : ℕ) (d : X) → k < i → P (get_or xs k d)) → i < length xs → x ≡ get_or xs i x → P x
    → (k : ℕ) (d : X) → k < i + 1 → P (get_or xs k d)
each_more {X} P xs i x all within is one k d l =
    first_or_last k i (P (get_or xs k d)) l (λ h. all k d h)
    (λ e. subst (λ (n : ℕ). P (get_or xs n d)) (sym e) (subst P (sym (get_or_from_slice_get xs i x d (slice_get_read xs (length xs) i x refl within is))) one))

-- ---- bounds

pub first_near : {X : Type 0} (P : X → Type 0) (x : X) (xs : List X) → All P (x ∷ xs) → P x
first_near P x xs all = all 0 x (omega arith)

pub rest_near : {X : Type 0} (P : X → Type 0) (x : X) (xs : List X) → All P (x ∷ xs) → All P xs
rest_near P x xs all k d l = all (suc k) d (omega arith)

near_ints : (base : List ℤ) (by t : ℤ) (before each : ℕ) → AreNear before base → unsigned_abs by ≤ each → before + each * unsigned_abs t < 9223372036854775808 → AreInRange (ints_after base by t)
near_ints [] by t before each near l h = refl
near_ints (b ∷ base) by t before each near l h =
    and_from (is_i64 (number_after b by t)) (list_all is_in_range (ints_after base by t)) (number_fits b by t before each (first_near (λ (n : ℤ). unsigned_abs n ≤ before) b base near) l h)
    (near_ints base by t before each (rest_near (λ (n : ℤ). unsigned_abs n ≤ before) b base near) l h)

near_parts : (b d : List ℤ) (t : ℤ) (before each : ℕ) → AreNear before b → AreNear each d → before + each * unsigned_abs t < 9223372036854775808 → list_all is_i64 (vector_after b d t) ≡ true
near_parts [] d t before each near by h = refl
near_parts (x ∷ b) [] t before each near by h = refl
near_parts (x ∷ b) (y ∷ d) t before each near by h =
    and_from (is_i64 (number_after x y t)) (list_all is_i64 (vector_after b d t))
    (number_fits x y t before each (first_near (λ (n : ℤ). unsigned_abs n ≤ before) x b near) (first_near (λ (n : ℤ). unsigned_abs n ≤ each) y d by) h)
    (near_parts b d t before each (rest_near (λ (n : ℤ). unsigned_abs n ≤ before) x b near) (rest_near (λ (n : ℤ). unsigned_abs n ≤ each) y d by) h)

near_vector : (b d : List ℤ) (t : ℤ) (before each : ℕ) → IsNear before b → IsNear each d → before + each * unsigned_abs t < 9223372036854775808 → is_in_range (Vec3 (vector_after b d t)) ≡ true
near_vector b d t before each near by h =
    and_from (nat_eq (length (vector_after b d t)) 3) (list_all is_i64 (vector_after b d t))
    (eq-eqb (length (vector_after b d t)) 3 (zip-length (λ (x y : ℤ). number_after x y t) b d (near.0 ∙ sym by.0) ∙ near.0))
    (near_parts b d t before each near.1 by.1 h)

near_vecs : (base by : List (List ℤ)) (t : ℤ) (before each : ℕ) → All (IsNear before) base → All (IsNear each) by → before + each * unsigned_abs t < 9223372036854775808 → AreInRange (vecs_after base by t)
near_vecs [] by t before each near l h = refl
near_vecs (b ∷ base) [] t before each near l h = refl
near_vecs (b ∷ base) (d ∷ by) t before each near l h =
    and_from (is_in_range (Vec3 (vector_after b d t))) (list_all is_in_range (vecs_after base by t))
    (near_vector b d t before each (first_near (IsNear before) b base near) (first_near (IsNear each) d by l) h)
    (near_vecs base by t before each (rest_near (IsNear before) b base near) (rest_near (IsNear each) d by l) h)

-- the sums of a series fit where its bounds say so
pub reach_fits : (reach : Reach) (s : Series) (t : ℤ) → IsBound reach s → reach.before + reach.each * unsigned_abs t < 9223372036854775808 → AreInRange (grown s t)
reach_fits reach (Ints base by) t bound h = near_ints base.items by t reach.before reach.each bound.0 bound.1 h
reach_fits reach (Vecs base by) t bound h = near_vecs base.items by.items t reach.before reach.each bound.0 bound.1 h

-- and at any turn that is no farther
pub reach_nearer : (reach : Reach) (s : Series) (t u : ℤ) → IsBound reach s → unsigned_abs t ≤ unsigned_abs u → reach.before + reach.each * unsigned_abs u < 9223372036854775808 → AreInRange (grown s t)
reach_nearer reach s t u bound l h = reach_fits reach s t bound (omega (arith, h, mul-le-mul_left reach.each l))

-- ---- answers that say less

pub if_ok_less : {X E : Type 0} (r : Result X E) (P Q : X → Type 0) → ((x : X) → P x → Q x) → IfOk r P → IfOk r Q
if_ok_less (Ok x) P Q f h = f x h
if_ok_less (Err e) P Q f h = h

pub if_none_less : {X E : Type 0} (r : Result (Option X) E) (P Q : Type 0) → (P → Q) → IfOk r (λ made. IfNone made P) → IfOk r (λ made. IfNone made Q)
if_none_less (Ok None) P Q f h = f h
if_none_less (Ok (Some x)) P Q f h = h
if_none_less (Err e) P Q f h = h

pub if_some_less : {X E : Type 0} (r : Result (Option X) E) (P Q : X → Type 0) → ((x : X) → P x → Q x) → IfOk r (λ made. IfSome made P) → IfOk r (λ made. IfSome made Q)
if_some_less (Ok None) P Q f h = h
if_some_less (Ok (Some x)) P Q f h = f x h
if_some_less (Err e) P Q f h = h

-- as many cells as rows
pub same_count : {X Y Z : Type 0} (f : X → Option Z) (g : Y → Option Z) (xs : List X) (ys : List Y) → map f xs ≡ map g ys → length xs ≡ length ys
same_count f g [] [] e = refl
same_count f g [] (y ∷ ys) e = absurd (let h : [] ≡ g y ∷ map g ys = e in cc)
same_count f g (x ∷ xs) [] e = absurd (let h : f x ∷ map f xs ≡ [] = e in cc)
same_count f g (x ∷ xs) (y ∷ ys) e = ap (λ n. suc n) (same_count f g xs ys (let h : f x ∷ map f xs ≡ g y ∷ map g ys = e in cc))

pub length-mapped : {X Y : Type 0} (f : X → Y) (xs : List X) → length (map f xs) ≡ length xs
length-mapped f [] = refl
length-mapped f (x ∷ xs) = ap (λ n. suc n) (length-mapped f xs)

-- one of the lists that a function gives
pub each_mapped : {X Y : Type 0} (f : X → Y) (xs : List X) (n : ℕ) (d : Y) (Q : Y → Type 0) → n < length xs → ((v : X) → Q (f (get_or xs n v))) → Q (get_or (map f xs) n d)
each_mapped f [] n d Q l h = absurd (omega arith)
each_mapped f (x ∷ xs) zero d Q l h = h x
each_mapped f (x ∷ xs) (suc n) d Q l h = each_mapped f xs n d Q (omega arith) h

-- the columns of a run that is made
pub run_of_columns : (t : TableState) (steps : List RowStep) (columns : List RunColumn) (entities : List Entity) (mask : ℕ) → mask ≡ t.mask → entities ≡ map (λ (row : Row). row.entity) t.rows → AreColumnsFor steps columns → All (IsFirstColumn t) columns → IsRun mask steps entities columns
run_of_columns t steps columns entities mask m e of are = record {
  are = of;
  kinds = λ k d l. ap (λ n. has_kind n (get_or columns k d).kind) m ∙ (are k d l).has;
  long = λ k d l.
      let stands = (are k d l).stands in
      let count = ap length e ∙ length-mapped (λ (row : Row). row.entity) t.rows in (
        sym (count ∙ same_count _ (λ (tick : ℕ). Some tick) t.rows (get_or columns k d).added.items stands.added),
        sym (count ∙ same_count _ (λ (v : Value). Some v) t.rows (grown (get_or columns k d).series (pos 0)) stands.values),
      );
  bounded = λ k d l. (are k d l).bound;
}

-- ---- what a table that stands at a turn gives to those who write it

-- the added ticks of the run are those of the rows
pub stands_added : (rows : List Row) (run : RunState) (turns : ℤ) → Stands rows run turns → All (λ (c : RunColumn). added_in rows c.kind ≡ map (λ (tick : ℕ). Some tick) c.added.items) run.columns
stands_added rows run turns is k d l = (is.columns k d l).added

-- the changed ticks are as many as the rows
pub ticks_long : (rows : List Row) (run : RunState) (before : Changed) → HasTicks rows run before → (number : ℕ) (c : RunColumn) → slice_get run.columns number ≡ Some c → length (changed_of before number (length rows)) ≡ length rows
ticks_long rows run before has number c there = same_count (λ (tick : ℕ). Some tick) _ (changed_of before number (length rows)) rows (has number c there)
