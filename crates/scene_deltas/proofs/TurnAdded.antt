-- The ticks at which the cells of a turn were added are those of its run: before it, after it, and in the rows.
use Rattle.std.proofs.Common.{◌≡◌, ◌+◌, ℕ, suc, ℤ, pos, ◌+ℤ◌, List, [], ◌∷◌, ◌++◌, length, map, refl, ap, sym, ◌∙◌, arith, Some}
use Rattle.std.specs.Prelude.{slice_get}
use Rattle.std.specs.List.{AllByRecursion}
use Rattle.std.proofs.lemmas.List.{length-replicate}
use Rattle.scene_kinds.specs.declared.cell.Cell.{Cell}
use Rattle.scene_kinds.specs.declared.cells.Row.{Row}
use Rattle.scene_kinds.specs.declared.entity.Entity.{Entity}
use Rattle.scene_table.specs.declared.run.RunColumn.{RunColumn}
use Rattle.scene_table.specs.Columns.{ColumnState, rows_of, with_first, zip_with}
use Rattle.scene_table.specs.Runs.{AreLongFor, Changed, IsTurn, Same, TurnState, cells_both, cells_of_turn, changed_of, columns_after, grown, rows_after_turn, rows_before_turn, rows_both}
use Rattle.scene_table.proofs.ColumnCells.{added_of}
use Rattle.scene_table.proofs.TurnCells.{length-grown}
use Rattle.scene_deltas.proofs.TurnRows.{Change}

abbrev pub added_at : Cell → ℕ
added_at cell = cell.added

-- ---- cells before and after a turn

-- the added ticks of a row's cells
abbrev addeds : Row → List ℕ
addeds row = map (λ (c : ℕ × Cell). c.1.added) row.cells

-- a change keeps the tick at which its cell was added
abbrev pub AreKept : List Change → Type 0
AreKept cells = AllByRecursion (λ (c : Change). c.2.added ≡ c.3.added) cells

both_kept : (e : Entity) (before after : List (ℕ × Cell)) (rest : List Change) → map (λ (c : ℕ × Cell). c.1.added) before ≡ map (λ (c : ℕ × Cell). c.1.added) after → AreKept rest
    → AreKept (cells_both e before after ++ rest)
both_kept e [] after rest h k = k
both_kept e (b ∷ before) [] rest h k = k
both_kept e (b ∷ before) (a ∷ after) rest h k =
    let first : b.1.added ≡ a.1.added = cc in
    let others : map (λ (c : ℕ × Cell). c.1.added) before ≡ map (λ (c : ℕ × Cell). c.1.added) after = cc in
    (first, both_kept e before after rest others k)

rows_kept : (before after : List Row) → map addeds before ≡ map addeds after → AreKept (rows_both before after)
rows_kept [] after h = tt
rows_kept (b ∷ before) [] h = tt
rows_kept (b ∷ before) (a ∷ after) h =
    let first : addeds b ≡ addeds a = cc in
    let others : map addeds before ≡ map addeds after = cc in
    both_kept b.entity b.cells a.cells (rows_both before after) first (rows_kept before after others)

-- ---- the columns of a run

-- columns have the kinds and the added ticks of a run's
abbrev pub AddedAs : List RunColumn → List ColumnState → Type 0
AddedAs [] [] = Unit {0}
AddedAs (c ∷ cs) (s ∷ ss) = (s.kind ≡ c.kind) × (map added_at s.cells ≡ c.added.items) × AddedAs cs ss
AddedAs cs ss = ⊥

columns_added : (number : ℕ) (cs : List RunColumn) (es : List Entity) (turns : ℤ) (changed : Changed) → AreLongFor es cs
    → ((k : ℕ) (c : RunColumn) → slice_get cs k ≡ Some c → length (changed_of changed (number + k) (length es)) ≡ length es) → AddedAs cs (columns_after number cs turns changed)
columns_added number [] es turns changed long ticks = tt
columns_added number (c ∷ cs) es turns changed long ticks =
    let one = long 0 c (omega arith) in
    let count : length (grown c.series turns) ≡ length es = length-grown c.series turns (pos 0) ∙ one.1 in
    let last : length (changed_of changed number (length c.added.items)) ≡ length es =
    ap (λ n. length (changed_of changed number n)) one.0 ∙ ap (λ n. length (changed_of changed n (length es))) (omega arith) ∙ ticks 0 c refl in (
      refl,
      added_of (grown c.series turns) c.added.items (changed_of changed number (length c.added.items)) (one.0 ∙ sym count) (last ∙ sym count),
      columns_added (number + 1) cs es turns changed (λ k d l. long (suc k) d (omega arith))
          (λ k d there. ap (λ n. length (changed_of changed n (length es))) (omega arith) ∙ ticks (suc k) d there),
    )

-- the added ticks of the rows that such columns make
abbrev added_lists : List Entity → List RunColumn → List (List ℕ)
added_lists es [] = map (λ (e : Entity). []) es
added_lists es (c ∷ cs) = zip_with (λ a ts. a ∷ ts) c.added.items (added_lists es cs)

bare_added : (es : List Entity) → map addeds (rows_of es []) ≡ map (λ (e : Entity). []) es
bare_added [] = refl
bare_added (e ∷ es) = ap (λ ts. [] ∷ ts) (bare_added es)

beside_added : (kind : ℕ) (cells : List Cell) (rows : List Row) → map addeds (zip_with (with_first kind) cells rows) ≡ zip_with (λ a ts. a ∷ ts) (map added_at cells) (map addeds rows)
beside_added kind [] rows = refl
beside_added kind (c ∷ cells) [] = refl
beside_added kind (c ∷ cells) (r ∷ rows) = ap (λ ts. (c.added ∷ addeds r) ∷ ts) (beside_added kind cells rows)

rows_added : (es : List Entity) (cs : List RunColumn) (ss : List ColumnState) → AddedAs cs ss → map addeds (rows_of es ss) ≡ added_lists es cs
rows_added es [] [] h = bare_added es
rows_added es [] (s ∷ ss) h = absurd h
rows_added es (c ∷ cs) [] h = absurd h
rows_added es (c ∷ cs) (s ∷ ss) h =
    beside_added s.kind s.cells (rows_of es ss) ∙ (λ i. zip_with (λ a ts. a ∷ ts) (h.1 i) (rows_added es cs ss h.2 i))

module _ (t : TurnState) (long : AreLongFor t.run.entities t.run.columns) (is : IsTurn t) where
  pub before_added : AddedAs t.run.columns (columns_after 0 t.run.columns t.turns t.before)
  before_added = columns_added 0 t.run.columns t.run.entities t.turns t.before long (λ k c there. ap (λ n. length (changed_of t.before n (length t.run.entities))) (omega arith) ∙ is.ticks k c there)

  pub after_added : AddedAs t.run.columns (columns_after 0 t.run.columns (t.turns +ℤ pos 1) (Same t.tick))
  after_added = columns_added 0 t.run.columns t.run.entities (t.turns +ℤ pos 1) (Same t.tick) long (λ k c there. length-replicate (length t.run.entities) t.tick)

  pub turn_keeps : AreKept (cells_of_turn t)
  turn_keeps =
      rows_kept (rows_before_turn t) (rows_after_turn t)
      (rows_added t.run.entities t.run.columns (columns_after 0 t.run.columns t.turns t.before) before_added
      ∙ sym (rows_added t.run.entities t.run.columns (columns_after 0 t.run.columns (t.turns +ℤ pos 1) (Same t.tick)) after_added))
