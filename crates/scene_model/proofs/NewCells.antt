-- The cells of a new row, and a cell that is written.
use Rattle.std.proofs.Common.{◌≡◌, ℕ, ◌≤◌, length, nat_lt, Bool, true, false, not, ◌&&◌, List, [], ◌∷◌, refl, arith, Some, None, if◌then◌else◌}
use Rattle.std.specs.Prelude.{nat_le}
use Rattle.std.specs.List.{list_all, list_any}
use Rattle.std.proofs.lemmas.Bool.{or_parts, not-false, and_from, ltb-true, lt-ltb}
use Rattle.std.proofs.lemmas.Bool.Decides.{nat_tests}
use Rattle.scene_kinds.specs.declared.cell.Cell.{Cell}
use Rattle.scene_kinds.specs.declared.value.Value.{Value}
use Rattle.scene_kinds.specs.declared.fault.Fault.{Fault}
use Rattle.scene_kinds.specs.declared.fault.Fault.TheVariants.{NoSuchKind, DuplicateKind, WrongShape}
use Rattle.scene_kinds.specs.Cells.{IsAscending, AreKindsBelow, new_cell}
use Rattle.scene_kinds.specs.Schema.{Kinds, fits_kind}
use Rattle.scene_kinds.proofs.CellLaws.{ascending-with_cell, all-with_cell}
use Rattle.scene_model.specs.World.{is_unknown}
use Rattle.scene_model.specs.Commands.{any_twice, spawn_fault, new_cells, insert_fault}
use Rattle.scene_model.specs.Valid.{is_timely}

pub new_ascending : (tick : ℕ) (cells : List (ℕ × Value)) → IsAscending (new_cells tick cells)
new_ascending tick [] = tt
new_ascending tick (c ∷ cs) = ascending-with_cell (new_cells tick cs) c.0 (new_cell tick c.1) (new_ascending tick cs)

pub new_shapes : (schema : Kinds) (tick : ℕ) (cells : List (ℕ × Value)) → list_any (λ c. not (fits_kind schema c.1 c.0)) cells ≡ false
    → list_all (λ (c : ℕ × Cell). fits_kind schema c.1.value c.0) (new_cells tick cells) ≡ true
new_shapes schema tick [] h = refl
new_shapes schema tick (c ∷ cs) h =
    let parts = or_parts (not (fits_kind schema c.1 c.0)) (list_any (λ (c : ℕ × Value). not (fits_kind schema c.1 c.0)) cs) h in
    all-with_cell (λ (c : ℕ × Cell). fits_kind schema c.1.value c.0) (new_cells tick cs) c.0 (new_cell tick c.1) (new_shapes schema tick cs parts.1) (not-false _ parts.0)

-- a cell that is written now is timely, where it was added before
timely_now : (tick : ℕ) (value : Value) (added : ℕ) → nat_le added tick ≡ true → is_timely tick (record { value = value; added = added; changed = tick }) ≡ true
timely_now tick value added h = and_from (nat_le added tick) (nat_le tick tick) h (grind (arith, nat_tests))

-- so is one that is new
pub timely_new : (tick : ℕ) (value : Value) → is_timely tick (new_cell tick value) ≡ true
timely_new tick value = timely_now tick value tick (grind (arith, nat_tests))

-- and one in place of one that was timely
pub timely_there : (tick : ℕ) (c : Cell) (value : Value) → is_timely tick c ≡ true → is_timely tick (record { value = value; added = c.added; changed = tick }) ≡ true
timely_there tick c value h = timely_now tick value c.added (by_now c.added c.changed tick h)
  where
    by_now : (a b t : ℕ) → (nat_le a b && nat_le b t) ≡ true → nat_le a t ≡ true
    by_now a b t h = grind (arith, nat_tests)

pub new_timely : (tick : ℕ) (cells : List (ℕ × Value)) → list_all (λ (c : ℕ × Cell). is_timely tick c.1) (new_cells tick cells) ≡ true
new_timely tick [] = refl
new_timely tick (c ∷ cs) = all-with_cell (λ (c : ℕ × Cell). is_timely tick c.1) (new_cells tick cs) c.0 (new_cell tick c.1) (new_timely tick cs) (timely_new tick c.1)

three : (a b c : Bool) (x y z : Fault) → (if a then Some x else if b then Some y else if c then Some z else None) ≡ None → (a ≡ false) × (b ≡ false) × (c ≡ false)
three true b c x y z h = absurd (let k : Some x ≡ None = h in cc)
three false true c x y z h = absurd (let k : Some y ≡ None = h in cc)
three false false true x y z h = absurd (let k : Some z ≡ None = h in cc)
three false false false x y z h = (refl, refl, refl)

two : (a b : Bool) (x y : Fault) → (if a then Some x else if b then Some y else None) ≡ None → (a ≡ false) × (b ≡ false)
two true b x y h = absurd (let k : Some x ≡ None = h in cc)
two false true x y h = absurd (let k : Some y ≡ None = h in cc)
two false false x y h = (refl, refl)

-- what a spawn that isn't refused says of its cells
pub spawn_tests : (schema : Kinds) (cells : List (ℕ × Value)) → spawn_fault schema cells ≡ None
    → (list_any (λ c. is_unknown schema c.0) cells ≡ false) × (any_twice cells ≡ false) × (list_any (λ c. not (fits_kind schema c.1 c.0)) cells ≡ false)
spawn_tests schema cells h = three _ _ _ NoSuchKind DuplicateKind WrongShape h

-- what an insert that isn't refused says of its value
pub insert_tests : (schema : Kinds) (kind : ℕ) (value : Value) → insert_fault schema kind value ≡ None → (is_unknown schema kind ≡ false) × (fits_kind schema value kind ≡ true)
insert_tests schema kind value h = let t = two _ _ NoSuchKind WrongShape h in (t.0, not-false _ t.1)

known_low : (schema : Kinds) (kind : ℕ) → is_unknown schema kind ≡ false → length schema ≤ 64 → nat_lt kind 64 ≡ true
known_low schema kind h l =
    let known = ltb-true kind (length schema) (not-false _ h) in lt-ltb kind 64 (omega (arith, known, l))

-- the kinds of a new row are below 64
pub new_kinds_low : (schema : Kinds) (tick : ℕ) (cells : List (ℕ × Value)) → list_any (λ c. is_unknown schema c.0) cells ≡ false → length schema ≤ 64 → AreKindsBelow 64 (new_cells tick cells)
new_kinds_low schema tick [] h l = refl
new_kinds_low schema tick (c ∷ cs) h l =
    let parts = or_parts (is_unknown schema c.0) (list_any (λ (c : ℕ × Value). is_unknown schema c.0) cs) h in
    all-with_cell (λ (c : ℕ × Cell). nat_lt c.0 64) (new_cells tick cs) c.0 (new_cell tick c.1) (new_kinds_low schema tick cs parts.1 l) (known_low schema c.0 parts.0 l)
