-- The cells that a turn of a run writes.
use Rattle.std.proofs.Common.{◌≡◌, ◌<◌, ◌+◌, ◌*◌, ℕ, zero, suc, ℤ, pos, ◌+ℤ◌, List, [], ◌∷◌, length, get_or, refl, ap, sym, ◌∙◌, arith, Some}
use Rattle.std.specs.Prelude.{slice_get}
use Rattle.std.proofs.lemmas.List.{length-append, length-replicate}
use Rattle.scene_kinds.specs.declared.cell.Cell.{Cell}
use Rattle.scene_kinds.specs.declared.cells.Row.{Row}
use Rattle.scene_kinds.specs.declared.entity.Entity.{Entity}
use Rattle.scene_kinds.specs.declared.value.Value.TheVariants.{Vec3}
use Rattle.scene_table.specs.declared.run.RunColumn.{RunColumn}
use Rattle.scene_table.specs.declared.series.Series.{Series}
use Rattle.scene_table.specs.declared.series.Series.TheVariants.{Ints, Vecs}
use Rattle.scene_table.specs.Columns.{AreLong, kinds_in, kinds_of, rows_of, zip_with}
use Rattle.scene_table.specs.Runs.{AreLongFor, Changed, IsTurn, Same, TurnState, cells_both, cells_of_turn, changed_of, columns_after, grown, rows_after_turn, rows_before_turn, rows_both, vector_after}
use Rattle.scene_table.proofs.ColumnCells.{length-cells_of}
use Rattle.scene_table.proofs.Fits.{length-ints_after}
use Rattle.scene_table.proofs.TableRows.{length-rows_of, row_kinds}

-- a column is as long after turns as before
vecs_long : (base by : List (List ℤ)) (a b : ℤ) → length (zip_with (λ (x y : List ℤ). Vec3 (vector_after x y a)) base by) ≡ length (zip_with (λ (x y : List ℤ). Vec3 (vector_after x y b)) base by)
vecs_long [] by a b = refl
vecs_long (x ∷ base) [] a b = refl
vecs_long (x ∷ base) (y ∷ by) a b = ap (λ n. suc n) (vecs_long base by a b)

pub length-grown : (s : Series) (a b : ℤ) → length (grown s a) ≡ length (grown s b)
length-grown (Ints base by) a b = length-ints_after base.items by a ∙ sym (length-ints_after base.items by b)
length-grown (Vecs base by) a b = vecs_long base.items by.items a b

pub columns_long : (number : ℕ) (columns : List RunColumn) (entities : List Entity) (turns : ℤ) (changed : Changed) → AreLongFor entities columns
    → ((k : ℕ) (c : RunColumn) → slice_get columns k ≡ Some c → length (changed_of changed (number + k) (length entities)) ≡ length entities) → AreLong (length entities) (columns_after number columns turns changed)
columns_long number [] entities turns changed long ticks k d l = absurd (omega arith)
columns_long number (c ∷ columns) entities turns changed long ticks zero d l =
    let one = long 0 c (omega arith) in
    let count : length (grown c.series turns) ≡ length entities = length-grown c.series turns (pos 0) ∙ one.1 in
    let same = ticks 0 c refl in
    length-cells_of (grown c.series turns) c.added.items (changed_of changed number (length c.added.items)) (record {
      ticks_added = one.0 ∙ sym count;
      ticks_changed = ap (λ n. length (changed_of changed number n)) one.0 ∙ (ap (λ n. length (changed_of changed n (length entities))) (omega arith) ∙ same) ∙ sym count;
    }) ∙ count
columns_long number (c ∷ columns) entities turns changed long ticks (suc k) d l =
    columns_long (number + 1) columns entities turns changed (λ j e m. long (suc j) e (omega arith))
    (λ j e there. ap (λ n. length (changed_of changed n (length entities))) (omega arith) ∙ ticks (suc j) e there) k d (omega arith)

columns_count : (number : ℕ) (columns : List RunColumn) (turns : ℤ) (changed : Changed) → length (kinds_of (columns_after number columns turns changed)) ≡ length columns
columns_count number [] turns changed = refl
columns_count number (c ∷ columns) turns changed = ap (λ n. suc n) (columns_count (number + 1) columns turns changed)

kinds_count : (cells : List (ℕ × Cell)) → length (kinds_in cells) ≡ length cells
kinds_count [] = refl
kinds_count (c ∷ cells) = ap (λ n. suc n) (kinds_count cells)

-- each row of a run has a cell of each column
pub rows_wide : (number : ℕ) (columns : List RunColumn) (entities : List Entity) (turns : ℤ) (changed : Changed) (k : ℕ) (d : Row) → k < length (rows_of entities (columns_after number columns turns changed))
    → length (get_or (rows_of entities (columns_after number columns turns changed)) k d).cells ≡ length columns
rows_wide number columns entities turns changed k d l =
    sym (kinds_count (get_or (rows_of entities (columns_after number columns turns changed)) k d).cells)
    ∙ ap length (row_kinds entities (columns_after number columns turns changed) k d l) ∙ columns_count number columns turns changed

pub both_long : (e : Entity) (before after : List (ℕ × Cell)) → length before ≡ length after → length (cells_both e before after) ≡ length before
both_long e [] after h = refl
both_long e (b ∷ before) [] h = absurd (omega (arith, h))
both_long e (b ∷ before) (a ∷ after) h = ap (λ n. suc n) (both_long e before after (omega (arith, h)))

count_both : (width : ℕ) (before after : List Row) → length before ≡ length after → ((k : ℕ) (d : Row) → k < length before → length (get_or before k d).cells ≡ width)
    → ((k : ℕ) (d : Row) → k < length after → length (get_or after k d).cells ≡ width) → length (rows_both before after) ≡ length before * width
count_both width [] after h p q = omega arith
count_both width (b ∷ before) [] h p q = absurd (omega (arith, h))
count_both width (b ∷ before) (a ∷ after) h p q =
    let rest = count_both width before after (omega (arith, h)) (λ k d l. p (suc k) d (omega arith)) (λ k d l. q (suc k) d (omega arith)) in
    let wide_b = p 0 b (omega arith) in
    let wide_a = q 0 a (omega arith) in
    let one = both_long b.entity b.cells a.cells (wide_b ∙ sym wide_a) in
    omega (arith, length-append (cells_both b.entity b.cells a.cells) (rows_both before after), rest, one, wide_b)

-- the columns of a turn are as long as the entities, before it and after it
pub columns_before_long : (t : TurnState) → AreLongFor t.run.entities t.run.columns → IsTurn t → AreLong (length t.run.entities) (columns_after 0 t.run.columns t.turns t.before)
columns_before_long t long is =
    columns_long 0 t.run.columns t.run.entities t.turns t.before long (λ k c there. ap (λ n. length (changed_of t.before n (length t.run.entities))) (omega arith) ∙ is.ticks k c there)

pub columns_after_long : (t : TurnState) → AreLongFor t.run.entities t.run.columns → AreLong (length t.run.entities) (columns_after 0 t.run.columns (t.turns +ℤ pos 1) (Same t.tick))
columns_after_long t long = columns_long 0 t.run.columns t.run.entities (t.turns +ℤ pos 1) (Same t.tick) long (λ k c there. length-replicate (length t.run.entities) t.tick)

-- and so are the rows
pub rows_before_long : (t : TurnState) → AreLongFor t.run.entities t.run.columns → IsTurn t → length (rows_before_turn t) ≡ length t.run.entities
rows_before_long t long is = length-rows_of t.run.entities (columns_after 0 t.run.columns t.turns t.before) (columns_before_long t long is)

pub rows_after_long : (t : TurnState) → AreLongFor t.run.entities t.run.columns → length (rows_after_turn t) ≡ length t.run.entities
rows_after_long t long = length-rows_of t.run.entities (columns_after 0 t.run.columns (t.turns +ℤ pos 1) (Same t.tick)) (columns_after_long t long)

-- how many cells a turn writes
pub turn_count : (t : TurnState) → AreLongFor t.run.entities t.run.columns → IsTurn t → length (cells_of_turn t) ≡ length t.run.entities * length t.run.columns
turn_count t long is =
    let before = rows_before_long t long is in
    count_both (length t.run.columns) (rows_before_turn t) (rows_after_turn t) (before ∙ sym (rows_after_long t long))
    (rows_wide 0 t.run.columns t.run.entities t.turns t.before) (rows_wide 0 t.run.columns t.run.entities (t.turns +ℤ pos 1) (Same t.tick))
    ∙ ap (λ n. n * length t.run.columns) before
