-- What a list since a cursor tells of the world of then and that of now.
use Rattle.std.proofs.Common.{◌≡◌, ◌<◌, ◌≤◌, ℕ, true, false, ◌&&◌, List, refl, ap, sym, ◌∙◌, subst, arith, nat_eq, nat_lt, Ok, if◌then◌else◌}
use Rattle.std.specs.Prelude.{◌↔◌, ◌≢◌, Err, Result, nat_le}
use Rattle.std.specs.Global.{Vec}
use Rattle.std.specs.List.{Contains}
use Rattle.std.proofs.lemmas.Bool.{eqb-true, ltb-true, ltb-false}
use Rattle.std.proofs.lemmas.Bool.Decides.{nat_tests}
use Rattle.scene_kinds.specs.declared.entity.Entity.{Entity}
use Rattle.scene_kinds.specs.declared.cell.Cell.{Cell}
use Rattle.scene_kinds.specs.declared.fault.Fault.TheVariants.{Rewound}
use Rattle.scene_kinds.specs.declared.refusal.Refusal.{Refusal}
use Rattle.scene_kinds.specs.Answers.{refusal_of}
use Rattle.scene_model.specs.World.{World, component_of}
use Rattle.scene_machine.specs.Machine.{Machine}
use Rattle.scene_editor.specs.GoesOn.{GoesOn, HasSoundRows, bare}
use Rattle.scene_editor.proofs.CellsFrom.{held_timely}
use Rattle.scene_systems.specs.declared.filter.Filter.{Filter}
use Rattle.scene_pass.specs.declared.cell_name.CellName.{CellName}
use Rattle.scene_pass.specs.Listed.{IsCellWhere}
use Rattle.scene_pass.specs.Pass.{cells_where, changed_since, added_since}
use Rattle.scene_pass.proofs.Listed.{cells_listed, above}
use Rattle.scene_undo.specs.declared.cursor.Cursor.{Cursor}
use Rattle.scene_undo.specs.Cursor.{since}
use Rattle.scene_session.specs.declared.entry.Entry.{Entry}
use Rattle.scene_session.specs.State.{StateView}
use Rattle.scene_session.specs.Queries.{machine_at, ListsAfter, ListsSince}
use Rattle.scene_editor.specs.Since.{IsNew, IsMoment, machine_after, world_after, world_now, HasNoneAdded}
use Rattle.scene_editor.proofs.Histories.{then_and_now}

-- ---- the answer

-- where a list was answered, there was no undo since the cursor, and it is that of the cursor's tick
answered : (list : ℕ → List CellName) (c : Cursor) (m : Machine World) (names : Vec CellName) → ListsAfter list (since c m) (Ok names)
    → (c.rewinds ≡ m.rewinds) × (names.items ≡ list c.tick)
answered list c m names is = elim (nat_eq c.rewinds m.rewinds) as (λ b. nat_eq c.rewinds m.rewinds ≡ b
    → ListsAfter list (if b then Ok c.tick else Err (refusal_of (Rewound m.rewinds))) (Ok names) → (c.rewinds ≡ m.rewinds) × (names.items ≡ list c.tick)) [
      | true ↦ λ e g. (eqb-true c.rewinds m.rewinds e, g)
      | false ↦ λ e g. absurd (let k : ◌≡◌ {A = Result (Vec CellName) Refusal} (Ok names) (Err (refusal_of (Rewound m.rewinds))) = g in cc)
    ] refl is

-- the two worlds, and what was listed
record AreListed (list : World → Filter → ℕ → List CellName) (old now : World) (f : Filter) (names : Vec CellName) : Type 0 where
  sound_old : HasSoundRows old
  sound_now : HasSoundRows now
  goes_on : GoesOn old now
  listed : names.items ≡ list now f old.tick

listed_at : (list : World → Filter → ℕ → List CellName) (s : StateView) (before : List Entry) (cursor : Cursor) (f : Filter) (names : Vec CellName)
    → IsNew s.opening.editor → IsMoment s before cursor → ListsSince list cursor f (machine_at s) (Ok names) → AreListed list (world_after s before) (world_now s) f names
listed_at list s before cursor f names new moment is =
    let both = then_and_now s before moment.after new moment.begins in
    let told = answered (list (world_now s) f) cursor (machine_at s) names is in
    let rewinds : (machine_after s before).rewinds ≡ (machine_at s).rewinds = sym (ap (λ (c : Cursor). c.rewinds) moment.taken) ∙ told.0 in
    record {
      sound_old = both.order_old.sound;
      sound_now = both.order_now.sound;
      goes_on = both.after.goes_on rewinds;
      listed = told.1 ∙ ap (λ (c : Cursor). list (world_now s) f c.tick) moment.taken;
    }

-- ---- cells

-- facts that say the same of each cell of a world
same_cells : (P Q : Cell → Type 0) (w : World) (f : Filter) (n : CellName) → ((cell : Cell) → component_of w n.entity n.kind ≡ Ok cell → P cell ↔ Q cell)
    → IsCellWhere P w f n ↔ IsCellWhere Q w f n
same_cells P Q w f n same =
    (λ m. (m.0, (m.1.0, (m.1.1.0, (same m.1.0 m.1.1.0).0 m.1.1.1))), λ m. (m.0, (m.1.0, (m.1.1.0, (same m.1.0 m.1.1.0).1 m.1.1.1))))

timely_changed : (added changed tick : ℕ) → (nat_le added changed && nat_le changed tick) ≡ true → changed ≤ tick
timely_changed added changed tick h = grind (arith, nat_tests)

timely_added : (added changed tick : ℕ) → (nat_le added changed && nat_le changed tick) ≡ true → added ≤ tick
timely_added added changed tick h = grind (arith, nat_tests)

not_both : (a b : ℕ) → a < b → b ≤ a → ⊥
not_both a b l m = omega (arith, l, m)

above_unless : (a b : ℕ) → (b ≤ a → ⊥) → a < b
above_unless a b never = elim (nat_lt a b) as (λ t. nat_lt a b ≡ t → a < b) [
  | true ↦ λ e. ltb-true a b e
  | false ↦ λ e. absurd (never (ltb-false a b e))
] refl

-- a cell of now was changed since just where the world of then doesn't hold it
changed_apart : (old now : World) (e : Entity) (kind : ℕ) (cell : Cell) → HasSoundRows old → GoesOn old now → component_of now e kind ≡ Ok cell
    → (old.tick < cell.changed) ↔ (component_of old e kind ≢ Ok cell)
changed_apart old now e kind cell sound on is = (
  λ l held. not_both old.tick cell.changed l (timely_changed cell.added cell.changed old.tick (held_timely old e kind cell sound held)),
  λ never. above_unless old.tick cell.changed (λ l. never ((on.cells e kind cell is).kept l)),
)

-- and added since just where it holds none that was added at the same tick
added_apart : (old now : World) (e : Entity) (kind : ℕ) (cell : Cell) → HasSoundRows old → GoesOn old now → component_of now e kind ≡ Ok cell
    → (old.tick < cell.added) ↔ HasNoneAdded old e kind cell.added
added_apart old now e kind cell sound on is = (
  λ l held.
      let low = timely_added held.0.added held.0.changed old.tick (held_timely old e kind held.0 sound held.1.0) in
      not_both old.tick cell.added l (subst (λ t. t ≤ old.tick) held.1.1 low),
  λ never. above_unless old.tick cell.added (λ l. never ((on.cells e kind cell is).added l)),
)

-- ---- the lists

iff_then : (A B C : Type 0) → A ↔ B → B ↔ C → A ↔ C
iff_then A B C f g = (λ a. g.0 (f.0 a), λ c. f.1 (g.1 c))

-- a list of cells by a test of order
list_apart : (tick_of : Cell → ℕ) (Q : Cell → Type 0) (old now : World) (f : Filter) (names : Vec CellName) (n : CellName) → HasSoundRows now
    → names.items ≡ cells_where (λ cell. nat_lt old.tick (tick_of cell)) now f
    → ((cell : Cell) → component_of now n.entity n.kind ≡ Ok cell → (old.tick < tick_of cell) ↔ Q cell)
    → Contains names.items n ↔ IsCellWhere Q now f n
list_apart tick_of Q old now f names n sound listed same =
    subst (λ items. Contains items n ↔ IsCellWhere Q now f n) (sym listed)
    (iff_then _ (IsCellWhere (λ cell. old.tick < tick_of cell) now f n) _
    (cells_listed (λ cell. nat_lt old.tick (tick_of cell)) (λ cell. old.tick < tick_of cell) (λ cell. above old.tick (tick_of cell)) (bare now) f n sound)
    (same_cells (λ cell. old.tick < tick_of cell) Q now f n same))

pub changed_told : (s : StateView) (before : List Entry) (cursor : Cursor) (f : Filter) (names : Vec CellName) (n : CellName)
    → IsNew s.opening.editor → IsMoment s before cursor → ListsSince changed_since cursor f (machine_at s) (Ok names)
    → Contains names.items n ↔ IsCellWhere (λ cell. component_of (world_after s before) n.entity n.kind ≢ Ok cell) (world_now s) f n
changed_told s before cursor f names n new moment is =
    let l = listed_at changed_since s before cursor f names new moment is in
    list_apart (λ cell. cell.changed) (λ cell. component_of (world_after s before) n.entity n.kind ≢ Ok cell) (world_after s before) (world_now s) f names n
    l.sound_now l.listed (λ cell held. changed_apart (world_after s before) (world_now s) n.entity n.kind cell l.sound_old l.goes_on held)

pub added_told : (s : StateView) (before : List Entry) (cursor : Cursor) (f : Filter) (names : Vec CellName) (n : CellName)
    → IsNew s.opening.editor → IsMoment s before cursor → ListsSince added_since cursor f (machine_at s) (Ok names)
    → Contains names.items n ↔ IsCellWhere (λ cell. HasNoneAdded (world_after s before) n.entity n.kind cell.added) (world_now s) f n
added_told s before cursor f names n new moment is =
    let l = listed_at added_since s before cursor f names new moment is in
    list_apart (λ cell. cell.added) (λ cell. HasNoneAdded (world_after s before) n.entity n.kind cell.added) (world_after s before) (world_now s) f names n
    l.sound_now l.listed (λ cell held. added_apart (world_after s before) (world_now s) n.entity n.kind cell l.sound_old l.goes_on held)
