-- Worlds that go on: from themselves, one after another, and from the start of a frame to its end.
use Rattle.std.proofs.Common.{◌≡◌, ◌≤◌, ◌<◌, ◌+◌, ℕ, Bool, true, false, List, [], ◌∷◌, length, refl, ap, sym, ◌∙◌, subst, arith, nat_eq, Option, Some, None, Ok, if◌then◌else◌}
use Rattle.std.specs.Prelude.{Err}
use Rattle.std.specs.List.{list_all}
use Rattle.std.specs.Ordering.{nat_cmp, eq_by_cmp}
use Rattle.std.specs.FinMap.{nat_cmp-IsAntisymmetric}
use Rattle.std.proofs.lemmas.Bool.{and_parts, not_from_true, lt-ltb}
use Rattle.scene_kinds.specs.declared.entity.Entity.{Entity}
use Rattle.scene_kinds.specs.declared.cell.Cell.{Cell}
use Rattle.scene_kinds.specs.declared.cells.Row.{Row}
use Rattle.scene_kinds.specs.declared.fault.Fault.TheVariants.{NoSuchKind, TickFull}
use Rattle.scene_kinds.specs.Answers.{Outcome, refuse, refusal_of}
use Rattle.scene_kinds.specs.Cells.{cell_of}
use Rattle.scene_kinds.specs.Schema.{Kinds, fits_kind}
use Rattle.scene_kinds.proofs.Maps.{equal_keys}
use Rattle.scene_table.specs.declared.home.Home.{Home}
use Rattle.scene_table.specs.Tables.{row_at, EachRow}
use Rattle.scene_model.specs.World.{World, row_of, component_of, component_in, is_unknown, present}
use Rattle.scene_model.specs.Commands.{highest_tick, raise_tick}
use Rattle.scene_model.specs.Valid.{is_timely}
use Rattle.scene_model.proofs.MoveKeeps.{raised_valid}
use Rattle.scene_model.proofs.Outcomes.{not_ok, same_world}
use Rattle.scene_model.proofs.RowKinds.{fits_known}
use Rattle.scene_model.proofs.RowOf.{row_there, row_stands}
use Rattle.scene_editor.specs.GoesOn.{HasAdded, IsFrom, GoesOn, bare, HasSoundRows, IsRowFrom, IsOnTheWay}

-- ---- the cells that are read of a world

-- a cell that is read is in the entity's row
read_there : (schema : Kinds) (o : Option (Home × Row)) (kind : ℕ) (cell : Cell) → component_in schema kind o ≡ Ok cell
    → (p : Home × Row) × ((o ≡ Some p) × (cell_of p.1.cells kind ≡ Some cell))
read_there schema None kind cell h = absurd (not_ok cell _ h)
read_there schema (Some p) kind cell h = (p, (refl, from (is_unknown schema kind) h))
  where
    found : (o : Option Cell) → present o ≡ Ok cell → o ≡ Some cell
    found None g = absurd (not_ok cell _ g)
    found (Some c) g = cc

    from : (b : Bool) → (if b then Err (refusal_of NoSuchKind) else present (cell_of p.1.cells kind)) ≡ Ok cell → cell_of p.1.cells kind ≡ Some cell
    from true g = absurd (not_ok cell _ g)
    from false g = found (cell_of p.1.cells kind) g

-- a cell of a row is read, where its kind is in the schema
there_read : (schema : Kinds) (p : Home × Row) (kind : ℕ) (cell : Cell) → kind < length schema → cell_of p.1.cells kind ≡ Some cell
    → component_in schema kind (Some p) ≡ Ok cell
there_read schema p kind cell low there =
    let known : is_unknown schema kind ≡ false = not_from_true _ (lt-ltb kind (length schema) low) in
    ap (λ b. if b then Err (refusal_of NoSuchKind) else present (cell_of p.1.cells kind)) known ∙ ap present there

-- what all cells pass, the cell of a kind does
found_passes : (p : ℕ × Cell → Bool) (cells : List (ℕ × Cell)) (kind : ℕ) (c : Cell) → list_all p cells ≡ true → cell_of cells kind ≡ Some c
    → p (kind, c) ≡ true
found_passes p [] kind c all there = absurd (let k : None ≡ Some c = there in cc)
found_passes p (e ∷ es) kind c all there =
    elim (eq_by_cmp nat_cmp kind e.0) as (λ b. eq_by_cmp nat_cmp kind e.0 ≡ b → (if b then Some e.1 else cell_of es kind) ≡ Some c → p (kind, c) ≡ true) [
      | true ↦ λ t g.
          let key = equal_keys nat_cmp-IsAntisymmetric kind e.0 t in
          let same : e.1 ≡ c = cc in
          ap (λ k. p (k, c)) key ∙ (ap (λ x. p (e.0, x)) (sym same) ∙ (and_parts (p e) _ all).0)
      | false ↦ λ t g. found_passes p es kind c (and_parts (p e) _ all).1 g
    ] refl there

-- a cell of a row of a sound world is read
cell_held : (w : World) (h : Home) (row : Row) (kind : ℕ) (cell : Cell) → HasSoundRows w → row_at w.tables h ≡ Some row
    → cell_of row.cells kind ≡ Some cell → component_of w row.entity kind ≡ Ok cell
cell_held w h row kind cell sound at there =
    let shapes = (sound.rows.each h row at).fits.shapes in
    let low = fits_known w.schema cell.value kind (found_passes (λ c. fits_kind w.schema c.1.value c.0) row.cells kind cell shapes there) in
    ap (component_in w.schema kind) (row_stands w row.entity h row sound.rows.once at refl) ∙ there_read w.schema (h, row) kind cell low there

-- where a cell that is read stands
record IsThere (w : World) (e : Entity) (kind : ℕ) (cell : Cell) : Type 0 where
  home : Home
  row : Row
  at : row_at w.tables home ≡ Some row
  same : row.entity ≡ e
  found : cell_of row.cells kind ≡ Some cell

held_there : (w : World) (e : Entity) (kind : ℕ) (cell : Cell) → component_of w e kind ≡ Ok cell → IsThere w e kind cell
held_there w e kind cell is =
    let p = read_there w.schema (row_of w e) kind cell is in
    let t = row_there w e p.0.0 p.0.1 p.1.0 in
    record { home = p.0.0; row = p.0.1; at = t.0; same = t.1; found = p.1.1 }

-- in a sound world it is timely
pub held_timely : (w : World) (e : Entity) (kind : ℕ) (cell : Cell) → HasSoundRows w → component_of w e kind ≡ Ok cell → is_timely w.tick cell ≡ true
held_timely w e kind cell sound is =
    let t = held_there w e kind cell is in
    found_passes (λ c. is_timely w.tick c.1) t.row.cells kind cell (sound.rows.each t.home t.row t.at).timely t.found

-- ---- worlds that go on

pub goes_on_itself : (w : World) → GoesOn w w
goes_on_itself w = record { later = omega arith; cells = λ e kind cell is. record { kept = λ l. is; added = λ l. (cell, (is, refl)) } }

pub goes_on_then : (a b c : World) → GoesOn a b → GoesOn b c → GoesOn a c
goes_on_then a b c g h = record { later = between a.tick b.tick c.tick g.later h.later; cells = λ e kind cell is. both e kind cell (h.cells e kind cell is) }
  where
    between : (x y z : ℕ) → x ≤ y → y ≤ z → x ≤ z
    between x y z l m = omega (arith, l, m)

    earlier : (e : Entity) (kind tick : ℕ) → tick ≤ a.tick → HasAdded b e kind tick → HasAdded a e kind tick
    earlier e kind tick l d =
        let low : d.0.added ≤ a.tick = subst (λ t. t ≤ a.tick) (sym d.1.1) l in
        subst (HasAdded a e kind) d.1.1 ((g.cells e kind d.0 d.1.0).added low)

    both : (e : Entity) (kind : ℕ) (cell : Cell) → IsFrom b e kind cell → IsFrom a e kind cell
    both e kind cell f = record {
      kept = λ l. (g.cells e kind cell (f.kept (between cell.changed a.tick b.tick l g.later))).kept l;
      added = λ l. earlier e kind cell.added l (f.added (between cell.added a.tick b.tick l g.later));
    }

-- ---- a frame

rows_from_itself : (w : World) → HasSoundRows w → EachRow (IsRowFrom w) w.tables
rows_from_itself w sound = λ h row at kind cell there.
    let it = cell_held w h row kind cell sound at there in record { kept = λ l. it; added = λ l. (cell, (it, refl)) }

-- it begins when the tick is raised
pub raised_starts : (w v : World) → HasSoundRows w → raise_tick w ≡ Ok (tt, v) → IsOnTheWay w v
raised_starts w v sound is =
    elim (nat_eq w.tick highest_tick) as (λ b. nat_eq w.tick highest_tick ≡ b → ◌≡◌ {A = Outcome (Unit {0}) World} (if b then refuse TickFull else Ok (tt, record w { tick = w.tick + 1 })) (Ok (tt, v)) → IsOnTheWay w v) [
      | true ↦ λ e g. absurd (not_ok (tt, v) _ g)
      | false ↦ λ e g.
          subst (IsOnTheWay w) (same_world tt tt (record w { tick = w.tick + 1 }) v g).1
          (record { sound = raised_valid (bare w) sound e; later = omega arith; rows = rows_from_itself w sound })
    ] refl is

-- and the world at its end goes on from the one before it
pub way_ends : (before w : World) → IsOnTheWay before w → GoesOn before w
way_ends before w way = record { later = no_earlier before.tick w.tick way.later; cells = λ e kind cell is. from e kind cell (held_there w e kind cell is) }
  where
    no_earlier : (x y : ℕ) → x < y → x ≤ y
    no_earlier x y l = omega (arith, l)

    from : (e : Entity) (kind : ℕ) (cell : Cell) → IsThere w e kind cell → IsFrom before e kind cell
    from e kind cell t = subst (λ x. IsFrom before x kind cell) t.same (way.rows t.home t.row t.at kind cell t.found)
