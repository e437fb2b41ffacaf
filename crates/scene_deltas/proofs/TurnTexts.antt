-- A turn of a run writes numbers and vectors, so none of its deltas brings a text.
use Rattle.std.proofs.Common.{◌≡◌, ◌+◌, ℕ, ℤ, pos, ◌+ℤ◌, Bool, false, cond, List, [], ◌∷◌, ◌++◌, map, refl, ap, ◌∙◌}
use Rattle.std.specs.List.{AllByRecursion, filter}
use Rattle.scene_kinds.specs.declared.cell.Cell.{Cell}
use Rattle.scene_kinds.specs.declared.cells.Row.{Row}
use Rattle.scene_kinds.specs.declared.entity.Entity.{Entity}
use Rattle.scene_kinds.specs.declared.value.Value.{Value}
use Rattle.scene_table.specs.declared.run.RunColumn.{RunColumn}
use Rattle.scene_table.specs.declared.series.Series.{Series}
use Rattle.scene_table.specs.declared.series.Series.TheVariants.{Ints, Vecs}
use Rattle.scene_table.specs.Columns.{ColumnState, rows_of, stamped, with_first, zip_with}
use Rattle.scene_table.specs.Plain.{is_text}
use Rattle.scene_table.specs.Runs.{Changed, Same, TurnState, cells_both, cells_of_turn, columns_after, grown, ints_after, rows_after_turn, rows_before_turn, rows_both, vecs_after}
use Rattle.scene_deltas.specs.declared.delta.Delta.TheVariants.{CellSet}
use Rattle.scene_deltas.specs.Copies.{copies_again, copies_back}
use Rattle.scene_deltas.specs.Segments.{turn_deltas}

-- ---- values, cells and rows without a text

abbrev IsPlain : Value → Type 0
IsPlain value = is_text value ≡ false

abbrev IsPlainCell : Cell → Type 0
IsPlainCell cell = IsPlain cell.value

abbrev IsPlainRow : Row → Type 0
IsPlainRow row = AllByRecursion (λ (c : ℕ × Cell). IsPlainCell c.1) row.cells

abbrev IsPlainColumn : ColumnState → Type 0
IsPlainColumn column = AllByRecursion IsPlainCell column.cells

abbrev IsPlainChange : Entity × ℕ × Cell × Cell → Type 0
IsPlainChange c = IsPlainCell c.2 × IsPlainCell c.3

-- ---- a column, and the rows of columns

ints_plain : (base : List ℤ) (by turns : ℤ) → AllByRecursion IsPlain (ints_after base by turns)
ints_plain [] by turns = tt
ints_plain (b ∷ base) by turns = (refl, ints_plain base by turns)

vecs_plain : (base by : List (List ℤ)) (turns : ℤ) → AllByRecursion IsPlain (vecs_after base by turns)
vecs_plain [] by turns = tt
vecs_plain (b ∷ base) [] turns = tt
vecs_plain (b ∷ base) (d ∷ by) turns = (refl, vecs_plain base by turns)

grown_plain : (s : Series) (turns : ℤ) → AllByRecursion IsPlain (grown s turns)
grown_plain (Ints base by) turns = ints_plain base.items by turns
grown_plain (Vecs base by) turns = vecs_plain base.items by.items turns

stamped_plain : (values : List Value) (at : List (ℕ × ℕ)) → AllByRecursion IsPlain values → AllByRecursion IsPlainCell (zip_with stamped values at)
stamped_plain [] at h = tt
stamped_plain (v ∷ values) [] h = tt
stamped_plain (v ∷ values) (t ∷ at) h = (h.0, stamped_plain values at h.1)

columns_plain : (number : ℕ) (columns : List RunColumn) (turns : ℤ) (changed : Changed) → AllByRecursion IsPlainColumn (columns_after number columns turns changed)
columns_plain number [] turns changed = tt
columns_plain number (c ∷ columns) turns changed = (stamped_plain (grown c.series turns) _ (grown_plain c.series turns), columns_plain (number + 1) columns turns changed)

bare_plain : (entities : List Entity) → AllByRecursion IsPlainRow (rows_of entities [])
bare_plain [] = tt
bare_plain (e ∷ entities) = (tt, bare_plain entities)

beside_plain : (kind : ℕ) (cells : List Cell) (rows : List Row) → AllByRecursion IsPlainCell cells → AllByRecursion IsPlainRow rows → AllByRecursion IsPlainRow (zip_with (with_first kind) cells rows)
beside_plain kind [] rows h k = tt
beside_plain kind (c ∷ cells) [] h k = tt
beside_plain kind (c ∷ cells) (r ∷ rows) h k = ((h.0, k.0), beside_plain kind cells rows h.1 k.1)

rows_plain : (entities : List Entity) (columns : List ColumnState) → AllByRecursion IsPlainColumn columns → AllByRecursion IsPlainRow (rows_of entities columns)
rows_plain entities [] h = bare_plain entities
rows_plain entities (column ∷ columns) h = beside_plain column.kind column.cells (rows_of entities columns) h.0 (rows_plain entities columns h.1)

-- ---- the cells of a turn

both_plain : (e : Entity) (before after : List (ℕ × Cell)) (rest : List (Entity × ℕ × Cell × Cell)) → AllByRecursion (λ (c : ℕ × Cell). IsPlainCell c.1) before → AllByRecursion (λ (c : ℕ × Cell). IsPlainCell c.1) after
    → AllByRecursion IsPlainChange rest → AllByRecursion IsPlainChange (cells_both e before after ++ rest)
both_plain e [] after rest h k m = m
both_plain e (b ∷ before) [] rest h k m = m
both_plain e (b ∷ before) (a ∷ after) rest h k m = ((h.0, k.0), both_plain e before after rest h.1 k.1 m)

changes_plain : (before after : List Row) → AllByRecursion IsPlainRow before → AllByRecursion IsPlainRow after → AllByRecursion IsPlainChange (rows_both before after)
changes_plain [] after h k = tt
changes_plain (b ∷ before) [] h k = tt
changes_plain (b ∷ before) (a ∷ after) h k = both_plain b.entity b.cells a.cells (rows_both before after) h.0 k.0 (changes_plain before after h.1 k.1)

turn_plain : (t : TurnState) → AllByRecursion IsPlainChange (cells_of_turn t)
turn_plain t =
    changes_plain (rows_before_turn t) (rows_after_turn t)
    (rows_plain t.run.entities (columns_after 0 t.run.columns t.turns t.before) (columns_plain 0 t.run.columns t.turns t.before))
    (rows_plain t.run.entities (columns_after 0 t.run.columns (t.turns +ℤ pos 1) (Same t.tick)) (columns_plain 0 t.run.columns (t.turns +ℤ pos 1) (Same t.tick)))

-- ---- its deltas

none_back : (cells : List (Entity × ℕ × Cell × Cell)) → AllByRecursion IsPlainChange cells → filter copies_back (map (λ (c : Entity × ℕ × Cell × Cell). CellSet c.0 c.1 c.2 c.3) cells) ≡ []
none_back [] h = refl
none_back (c ∷ cells) h =
    let rest = filter copies_back (map (λ (c : Entity × ℕ × Cell × Cell). CellSet c.0 c.1 c.2 c.3) cells) in
    ap (λ (b : Bool). cond b (CellSet c.0 c.1 c.2 c.3 ∷ rest) rest) h.0.0 ∙ none_back cells h.1

none_again : (cells : List (Entity × ℕ × Cell × Cell)) → AllByRecursion IsPlainChange cells → filter copies_again (map (λ (c : Entity × ℕ × Cell × Cell). CellSet c.0 c.1 c.2 c.3) cells) ≡ []
none_again [] h = refl
none_again (c ∷ cells) h =
    let rest = filter copies_again (map (λ (c : Entity × ℕ × Cell × Cell). CellSet c.0 c.1 c.2 c.3) cells) in
    ap (λ (b : Bool). cond b (CellSet c.0 c.1 c.2 c.3 ∷ rest) rest) h.0.1 ∙ none_again cells h.1

pub turn_copies_back : (t : TurnState) → filter copies_back (turn_deltas t) ≡ []
turn_copies_back t = none_back (cells_of_turn t) (turn_plain t)

pub turn_copies_again : (t : TurnState) → filter copies_again (turn_deltas t) ≡ []
turn_copies_again t = none_again (cells_of_turn t) (turn_plain t)
