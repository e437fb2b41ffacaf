-- The cells that a turn of a run writes, by the place of their row and the number of their column.
use Rattle.std.proofs.Common.{◌≡◌, ◌<◌, ◌+◌, ◌*◌, ◌/◌, ◌%◌, ℕ, zero, suc, ℤ, pos, negsuc, ◌+ℤ◌, ◌<ℤ◌, ◌^◌, FitsSigned, w64, List, [], ◌∷◌, ◌++◌, length, get_or, map, refl, ap, sym, subst, ◌∙◌, arith, Some, None}
use Rattle.std.specs.Prelude.{slice_get, replicate}
use Rattle.std.proofs.Math.Nat.{div-lt_iff_lt-mul, div-mul-le_self, mod-eq-sub-div-mul}
use Rattle.std.proofs.lemmas.Int.{ints}
use Rattle.std.proofs.lemmas.List.{get_or-replicate, length-replicate}
use Rattle.std.proofs.lemmas.Option.{slice_get-get_or}
use Rattle.scene_kinds.specs.declared.cell.Cell.{Cell}
use Rattle.scene_kinds.specs.declared.cells.Row.{Row}
use Rattle.scene_kinds.specs.declared.entity.Entity.{Entity}
use Rattle.scene_table.specs.declared.run.RunColumn.{RunColumn}
use Rattle.scene_table.specs.Columns.{ColumnState, cells_of, kinds_of, rows_of}
use Rattle.scene_table.specs.Runs.{AreLongFor, Changed, IsTurn, Same, Each, TurnState, cells_both, cells_of_turn, changed_of, columns_after, grown, rows_after_turn, rows_before_turn, rows_both}
use Rattle.scene_table.proofs.TableFacts.{cell_numbered}
use Rattle.scene_table.proofs.TableRows.{row_parts}
use Rattle.scene_table.proofs.TurnCells.{both_long, rows_after_long, rows_before_long, rows_wide}

-- one turn more can be counted
pub next_fits : (t : ℤ) → FitsSigned w64 t → (t +ℤ pos 1) <ℤ pos (2 ^ 63) → FitsSigned w64 (t +ℤ pos 1)
next_fits (pos n) fits l = record { sfits = omega (arith, ints, l) }
next_fits (negsuc zero) fits l = record { sfits = omega arith }
next_fits (negsuc (suc n)) fits l =
    let up : negsuc n ≡ negsuc (suc n) +ℤ pos 1 = omega (arith, ints) in
    let low : suc n < 2 ^ 63 = fits.sfits in
    subst (FitsSigned w64) up (record { sfits = omega arith })

-- ---- a cell of a run

-- a column is as long as the entities
pub run_long : (entities : List Entity) (columns : List RunColumn) (n : ℕ) (c : RunColumn) → AreLongFor entities columns → n < length columns → c ≡ get_or columns n c
    → (length c.added.items ≡ length entities) × (length (grown c.series (pos 0)) ≡ length entities)
run_long entities columns n c long l is = subst (λ (x : RunColumn). (length x.added.items ≡ length entities) × (length (grown x.series (pos 0)) ≡ length entities)) (sym is) (long n c l)

pub same_tick : (count place tick : ℕ) → place < count → slice_get (replicate count tick) place ≡ Some tick
same_tick count place tick l =
    slice_get-get_or (replicate count tick) place tick (omega (arith, length-replicate count tick)) ∙ ap (λ (t : ℕ). Some t) (get_or-replicate count place tick tick l)

-- the tick at a place doesn't hang on how many places there are
pub tick_there : (changed : Changed) (number place count tick : ℕ) → slice_get (changed_of changed number (place + 1)) place ≡ Some tick → place < count → slice_get (changed_of changed number count) place ≡ Some tick
tick_there (Same t) number place count tick is l = same_tick count place t l ∙ sym (same_tick (place + 1) place t (omega arith)) ∙ is
tick_there (Each columns) number place count tick is l = is

column_of_run : (from : ℕ) (columns : List RunColumn) (turns : ℤ) (changed : Changed) (n : ℕ) (d : ColumnState) (c : RunColumn) → n < length columns → c ≡ get_or columns n c
    → get_or (columns_after from columns turns changed) n d ≡ record { kind = c.kind; cells = cells_of (grown c.series turns) c.added.items (changed_of changed (from + n) (length c.added.items)); capacity = 0 }
column_of_run from [] turns changed n d c l is = absurd (omega arith)
column_of_run from (x ∷ columns) turns changed zero d c l is =
    let start : from ≡ from + 0 = omega arith in
    λ i. record { kind = (sym is i).kind; cells = cells_of (grown (sym is i).series turns) (sym is i).added.items (changed_of changed (start i) (length (sym is i).added.items)); capacity = 0 }
column_of_run from (x ∷ columns) turns changed (suc n) d c l is =
    let later : from + 1 + n ≡ from + suc n = omega arith in
    column_of_run (from + 1) columns turns changed n d c (omega arith) is
    ∙ ap (λ m. record { kind = c.kind; cells = cells_of (grown c.series turns) c.added.items (changed_of changed m (length c.added.items)); capacity = 0 }) later

columns_count : (from : ℕ) (columns : List RunColumn) (turns : ℤ) (changed : Changed) → length (columns_after from columns turns changed) ≡ length columns
columns_count from [] turns changed = refl
columns_count from (c ∷ columns) turns changed = ap (λ n. suc n) (columns_count (from + 1) columns turns changed)

-- the kinds of a run's columns stay
pub kinds_run : (from : ℕ) (columns : List RunColumn) (turns : ℤ) (changed : Changed) → kinds_of (columns_after from columns turns changed) ≡ map (λ (c : RunColumn). c.kind) columns
kinds_run from [] turns changed = refl
kinds_run from (c ∷ columns) turns changed = ap (λ ks. c.kind ∷ ks) (kinds_run (from + 1) columns turns changed)

-- the cell of a row of a run in the column of a number, and the row's entity
pub cell_of_run : (entities : List Entity) (columns : List RunColumn) (turns : ℤ) (changed : Changed) (place n : ℕ) (c : RunColumn) (cell : Cell) (row : Row) → n < length columns → c ≡ get_or columns n c
    → slice_get (cells_of (grown c.series turns) c.added.items (changed_of changed n (length c.added.items))) place ≡ Some cell → slice_get (rows_of entities (columns_after 0 columns turns changed)) place ≡ Some row
    → (slice_get entities place ≡ Some row.entity) × (slice_get row.cells n ≡ Some (c.kind, cell))
cell_of_run entities columns turns changed place n c cell row l is there at =
    let all = columns_after 0 columns turns changed in
    let parts = row_parts entities all place row at in
    let d : ColumnState = record { kind = 0; cells = []; capacity = 0 } in
    let start : 0 + n ≡ n = omega arith in
    let column : get_or all n d ≡ record { kind = c.kind; cells = cells_of (grown c.series turns) c.added.items (changed_of changed n (length c.added.items)); capacity = 0 } =
    column_of_run 0 columns turns changed n d c l is ∙ ap (λ m. record { kind = c.kind; cells = cells_of (grown c.series turns) c.added.items (changed_of changed m (length c.added.items)); capacity = 0 }) start in (
      parts.0,
      cell_numbered all place row.cells n d cell parts.1 (omega (arith, columns_count 0 columns turns changed)) (ap (λ (x : ColumnState). slice_get x.cells place) column ∙ there)
          ∙ ap (λ (x : ColumnState). Some (x.kind, cell)) column,
    )

-- ---- all cells, row by row

get_left : {X : Type 0} (xs ys : List X) (n : ℕ) → n < length xs → slice_get (xs ++ ys) n ≡ slice_get xs n
get_left [] ys n l = absurd (omega arith)
get_left (x ∷ xs) ys zero l = refl
get_left (x ∷ xs) ys (suc n) l = get_left xs ys n (omega arith)

get_right : {X : Type 0} (xs ys : List X) (n : ℕ) → slice_get (xs ++ ys) (length xs + n) ≡ slice_get ys n
get_right [] ys n = let start : 0 + n ≡ n = omega arith in ap (slice_get ys) start
get_right (x ∷ xs) ys n = let later : suc (length xs) + n ≡ suc (length xs + n) = omega arith in ap (slice_get (x ∷ (xs ++ ys))) later ∙ get_right xs ys n

both_at : (e : Entity) (before after : List (ℕ × Cell)) (n kind : ℕ) (b a : Cell) → slice_get before n ≡ Some (kind, b) → slice_get after n ≡ Some (kind, a) → slice_get (cells_both e before after) n ≡ Some (e, kind, b, a)
both_at e [] after n kind b a p q = absurd (let g : None ≡ Some (kind, b) = p in cc)
both_at e (x ∷ before) [] n kind b a p q = absurd (let g : None ≡ Some (kind, a) = q in cc)
both_at e (x ∷ before) (y ∷ after) zero kind b a p q =
    let f : x ≡ (kind, b) = cc in
    let g : y ≡ (kind, a) = cc in
    λ i. Some (e, (f i).0, (f i).1, (g i).1)
both_at e (x ∷ before) (y ∷ after) (suc n) kind b a p q = both_at e before after n kind b a p q

-- where all rows have so many cells, the cell of a place and a number stands at their product and sum
pub cell_both : (width : ℕ) (before after : List Row) (place n kind : ℕ) (old new : Row) (b a : Cell) → ((k : ℕ) (d : Row) → k < length before → length (get_or before k d).cells ≡ width)
    → ((k : ℕ) (d : Row) → k < length after → length (get_or after k d).cells ≡ width) → slice_get before place ≡ Some old → slice_get after place ≡ Some new → n < width
    → slice_get old.cells n ≡ Some (kind, b) → slice_get new.cells n ≡ Some (kind, a) → slice_get (rows_both before after) (place * width + n) ≡ Some (old.entity, kind, b, a)
cell_both width [] after place n kind old new b a wide also p q l h k = absurd (let g : None ≡ Some old = p in cc)
cell_both width (x ∷ before) [] place n kind old new b a wide also p q l h k = absurd (let g : None ≡ Some new = q in cc)
cell_both width (x ∷ before) (y ∷ after) zero n kind old new b a wide also p q l h k =
    let f : x ≡ old = cc in
    let g : y ≡ new = cc in
    let start : 0 * width + n ≡ n = omega arith in
    let count = both_long x.entity x.cells y.cells (wide 0 x (omega arith) ∙ sym (also 0 y (omega arith))) in
    ap (slice_get (rows_both (x ∷ before) (y ∷ after))) start
    ∙ get_left (cells_both x.entity x.cells y.cells) (rows_both before after) n (omega (arith, count, wide 0 x (omega arith)))
    ∙ both_at x.entity x.cells y.cells n kind b a (ap (λ (r : Row). slice_get r.cells n) f ∙ h) (ap (λ (r : Row). slice_get r.cells n) g ∙ k)
    ∙ ap (λ (r : Row). Some (r.entity, kind, b, a)) f
cell_both width (x ∷ before) (y ∷ after) (suc place) n kind old new b a wide also p q l h k =
    let count = both_long x.entity x.cells y.cells (wide 0 x (omega arith) ∙ sym (also 0 y (omega arith))) ∙ wide 0 x (omega arith) in
    let later : suc place * width + n ≡ length (cells_both x.entity x.cells y.cells) + (place * width + n) = omega (arith, count) in
    ap (slice_get (rows_both (x ∷ before) (y ∷ after))) later
    ∙ get_right (cells_both x.entity x.cells y.cells) (rows_both before after) (place * width + n)
    ∙ cell_both width before after place n kind old new b a (λ j d m. wide (suc j) d (omega arith)) (λ j d m. also (suc j) d (omega arith)) p q l h k

-- what stands in the rows of a turn, before it and after it, is one of its cells
pub cell_of_turn : (t : TurnState) (place n kind : ℕ) (e : Entity) (b a : Cell) → AreLongFor t.run.entities t.run.columns → IsTurn t → place < length t.run.entities → n < length t.run.columns
    → ((row : Row) → slice_get (rows_before_turn t) place ≡ Some row → (row.entity ≡ e) × (slice_get row.cells n ≡ Some (kind, b))) → ((row : Row) → slice_get (rows_after_turn t) place ≡ Some row → slice_get row.cells n ≡ Some (kind, a))
    → slice_get (cells_of_turn t) (place * length t.run.columns + n) ≡ Some (e, kind, b, a)
cell_of_turn t place n kind e b a long is within there h k =
    let blank : Row = record { entity = e; cells = [] } in
    let old = get_or (rows_before_turn t) place blank in
    let new = get_or (rows_after_turn t) place blank in
    let before = slice_get-get_or (rows_before_turn t) place blank (omega (arith, within, rows_before_long t long is)) in
    let after = slice_get-get_or (rows_after_turn t) place blank (omega (arith, within, rows_after_long t long)) in
    cell_both (length t.run.columns) (rows_before_turn t) (rows_after_turn t) place n kind old new b a (rows_wide 0 t.run.columns t.run.entities t.turns t.before) (rows_wide 0 t.run.columns t.run.entities (t.turns +ℤ pos 1) (Same t.tick))
    before after there (h old before).1 (k new after)
    ∙ ap (λ (x : Entity). Some (x, kind, b, a)) (h old before).0

-- a number below a product, by one of its factors
pub record IsSplit (number count width : ℕ) : Type 0 where
  pub some : 0 < width
  pub place : number / width < count
  pub rest : number % width < width
  pub whole : number ≡ number / width * width + number % width

pub by_width : (number count width : ℕ) → number < count * width → IsSplit number count width
by_width number count zero l = absurd (omega arith)
by_width number count (suc width) l = record { some = omega arith; place = (div-lt_iff_lt-mul (omega arith)).1 l; rest = omega arith; whole = omega (arith, mod-eq-sub-div-mul number (suc width), div-mul-le_self number (suc width)) }
