-- An insert in place of a cell that an entity has.
use Rattle.std.proofs.Common.{◌≡◌, ℕ, true, false, not, List, [], ◌∷◌, length, refl, ap, subst, sym, ◌∙◌, Option, Some, None, Ok}
use Rattle.std.proofs.Common.{if◌then◌else◌, slice_get}
use Rattle.std.specs.Prelude.{option_map}
use Rattle.std.proofs.lemmas.Bool.{and_parts, lt-ltb}
use Rattle.std.proofs.lemmas.Option.{same_Some, slice_get_within}
use Rattle.scene_kinds.specs.Answers.{Outcome}
use Rattle.scene_kinds.specs.Cells.{cell_of, put_over}
use Rattle.scene_kinds.specs.Schema.{Kinds, fits_kind, has_shape}
use Rattle.scene_kinds.specs.declared.cell.Cell.{Cell}
use Rattle.scene_kinds.specs.declared.cells.Row.{Row}
use Rattle.scene_kinds.specs.declared.entity.Entity.{Entity}
use Rattle.scene_kinds.specs.declared.fault.Fault.TheVariants.{NoSuchKind, WrongShape}
use Rattle.scene_kinds.specs.declared.shape.Shape.{Shape}
use Rattle.scene_kinds.specs.declared.value.Value.{Value}
use Rattle.scene_table.specs.Table.{row_with_cell}
use Rattle.scene_table.specs.Tables.{with_row_at}
use Rattle.scene_table.specs.declared.home.Home.{Home}
use Rattle.scene_model.specs.Can.{has_cell as has_this_cell, is_good_cell, can_set_cell}
use Rattle.scene_model.specs.CommandRaw.{Inserts}
use Rattle.scene_model.specs.Commands.{insert, insert_fault, after_insert, unless, with_live}
use Rattle.scene_model.specs.Perform.{Insert}
use Rattle.scene_model.specs.Raw.{cells_of, set_cell}
use Rattle.scene_model.specs.Valid.{IsValid}
use Rattle.scene_model.specs.World.{World, is_unknown}
use Rattle.scene_model.proofs.RowCommands.{insert_shifts_or_sets}
use Rattle.scene_model.proofs.RowOf.{has_cell, made_by_row}
use Rattle.scene_deltas.specs.Notes.{inserted, of_row, deltas_of}
use Rattle.scene_deltas.specs.declared.delta.Delta.{Delta}
use Rattle.scene_deltas.specs.declared.delta.Delta.TheVariants.{CellSet}

-- a kind that a value fits is in the schema
known : (schema : Kinds) (kind : ℕ) (value : Value) → fits_kind schema value kind ≡ true → is_unknown schema kind ≡ false
known schema kind value fits =
    elim (slice_get schema kind) as (λ o. slice_get schema kind ≡ o → has_shape value (option_map (λ (k : List ℕ × Shape). k.1) o) ≡ true → is_unknown schema kind ≡ false) [
      | None ↦ λ q h. absurd (let no : false ≡ true = h in cc)
      | Some k ↦ λ q h. ap not (lt-ltb kind (length schema) (slice_get_within schema kind k q))
    ] refl fits

-- so nothing is at fault
no_fault : (schema : Kinds) (kind : ℕ) (value : Value) → fits_kind schema value kind ≡ true → insert_fault schema kind value ≡ None
no_fault schema kind value fits =
    ap (λ b. if b then Some NoSuchKind else if not (fits_kind schema value kind) then Some WrongShape else None) (known schema kind value fits)
    ∙ ap (λ b. if not b then Some WrongShape else None) fits

-- a cell of which the added tick was found
found_cell : (o : Option Cell) (added : ℕ) → option_map (λ (cell : Cell). cell.added) o ≡ Some added → (c : Cell) × ((o ≡ Some c) × (c.added ≡ added))
found_cell None added h = absurd (let no : None ≡ Some added = h in cc)
found_cell (Some c) added h = (c, (refl, same_Some c.added added h))

-- what is noted of that
pub set_noted : (w : World) (e : Entity) (kind : ℕ) (value : Value) (c : Cell) → cell_of (cells_of w e) kind ≡ Some c → deltas_of w (Insert e kind value) ≡ CellSet e kind c (put_over (Some c) value w.tick) ∷ []
set_noted w e kind value c there = has_cell (deltas_of w (Insert e kind value) ≡ CellSet e kind c (put_over (Some c) value w.tick) ∷ []) w e kind c there (λ h row is here.
    ap (λ o. of_row o (λ place cells. inserted w.tick e kind value place (cell_of cells kind) ∷ [])) is
    ∙ ap (λ o. inserted w.tick e kind value h.place o ∷ []) here)

-- with the cell that was there
module _ (w : World) (e : Entity) (kind : ℕ) (value : Value) (c : Cell) (there : cell_of (cells_of w e) kind ≡ Some c) (fits : fits_kind w.schema value kind ≡ true) where
  abbrev over : Cell
  over = put_over (Some c) value w.tick

  sets : insert w e kind value ≡ Ok (tt, set_cell w e kind over)
  sets = has_cell (insert w e kind value ≡ Ok (tt, set_cell w e kind over)) w e kind c there (λ h row is here.
      let rest : Home → Row → Outcome (Unit {0}) World = λ h row. unless (insert_fault w.schema kind value) (Ok (tt, record w { tables = after_insert w.tick w.tables h row kind value (cell_of row.cells kind) })) in
      let set = made_by_row w e h row (λ h row. record w { tables = with_row_at w.tables h (row_with_cell row kind over) }) is in
      ap (λ o. with_live o rest) is
      ∙ ap (λ f. unless f (Ok (tt, record w { tables = after_insert w.tick w.tables h row kind value (cell_of row.cells kind) }))) (no_fault w.schema kind value fits)
      ∙ (λ i. Ok (tt, record w { tables = after_insert w.tick w.tables h row kind value (here i) }))
      ∙ (λ i. Ok (tt, sym set i)))

  can : IsValid w → can_set_cell w e kind c over ≡ true
  can valid = (subst (Inserts w (set_cell w e kind over) e kind value) there (insert_shifts_or_sets w (set_cell w e kind over) e kind value valid sets)).0

-- as the code has it
module _ (w : World) (e : Entity) (kind : ℕ) (value : Value) (added changed : ℕ) (there : option_map (λ (cell : Cell). cell.added) (cell_of (cells_of w e) kind) ≡ Some added)
    (fits : fits_kind w.schema value kind ≡ true) (tick : changed ≡ w.tick) where
  now : (c : Cell) × ((cell_of (cells_of w e) kind ≡ Some c) × (c.added ≡ added))
  now = found_cell (cell_of (cells_of w e) kind) added there

  abbrev new : Cell
  new = record { value = value; added = added; changed = changed }

  same : put_over (Some now.0) value w.tick ≡ new
  same = λ i. record { value = value; added = now.1.1 i; changed = sym tick i }

  pub is_good : IsValid w → is_good_cell w kind new ≡ true
  is_good valid = ap (is_good_cell w kind) (sym same) ∙ (and_parts (has_this_cell (cells_of w e) kind now.0) _ (can w e kind value now.0 now.1.0 fits valid)).1

  pub made : (v : World) → v ≡ set_cell w e kind new → insert w e kind value ≡ Ok (tt, v)
  made v is =
      let all : set_cell w e kind (put_over (Some now.0) value w.tick) ≡ v = ap (set_cell w e kind) same ∙ sym is in
      sets w e kind value now.0 now.1.0 fits ∙ (λ i. Ok (tt, all i))

  pub noted : (before : Cell) (copy : Value) → cell_of (cells_of w e) kind ≡ Some before → copy ≡ value
      → ◌≡◌ {A = List Delta} (CellSet e kind before (record { value = copy; added = added; changed = changed }) ∷ []) (deltas_of w (Insert e kind value))
  noted before copy old copied =
      let first : before ≡ now.0 = same_Some before now.0 (sym old ∙ now.1.0) in
      let copied_is : ◌≡◌ {A = Cell} (record { value = copy; added = added; changed = changed }) new = λ i. record { value = copied i; added = added; changed = changed } in
      let second = copied_is ∙ sym same in
      (λ i. CellSet e kind (first i) (second i) ∷ []) ∙ sym (set_noted w e kind value now.0 now.1.0)
