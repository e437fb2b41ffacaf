-- An accepted spawn keeps a valid world valid.
use Rattle.std.proofs.Common.{◌≡◌, ℕ, ◌<◌, ◌≤◌, nat_lt, arith, true, false, ◌||◌, nat_eq, List, length, refl, ap, subst, sym, ◌∙◌, Some, None, Ok, slice_get, slice_index, ⊎_elim}
use Rattle.std.specs.Prelude.{Err}
use Rattle.std.specs.List.{list_all}
use Rattle.std.proofs.lemmas.Bool.{or_right, eqb-true, eqb-false, ltb-true, ltb-false}
use Rattle.std.proofs.lemmas.Option.{slice_get_within}
use Rattle.scene_kinds.specs.declared.entity.Entity.{Entity}
use Rattle.scene_kinds.specs.declared.cell.Cell.{Cell}
use Rattle.scene_kinds.specs.declared.cells.Row.{Row}
use Rattle.scene_kinds.specs.declared.value.Value.{Value}
use Rattle.scene_kinds.specs.Answers.{Outcome}
use Rattle.scene_kinds.specs.Cells.{mask_of}
use Rattle.scene_alloc.specs.Slots.{SlotState, is_free, take_of}
use Rattle.scene_model.specs.World.{World}
use Rattle.scene_table.specs.Tables.{lives, with_row, NoneOf}
use Rattle.scene_model.specs.Commands.{spawn, after_take, spawn_fault, new_cells}
use Rattle.scene_model.specs.Valid.{IsValid, IsRowOf, IsSoundRow, is_live_index, is_retired, is_timely}
use Rattle.scene_model.proofs.Outcomes.{no_fault, not_ok, same_world}
use Rattle.scene_table.proofs.Homes.{live_here}
use Rattle.scene_table.proofs.Standing.{StandsNowhere, added_there, each_added, once_added}
use Rattle.scene_table.proofs.Lives.{lives_added}
use Rattle.scene_model.proofs.Choices.{read, there, one_of, first_of_three, second_of_three}
use Rattle.scene_model.proofs.NewCells.{new_ascending, new_shapes, new_timely, spawn_tests}
use Rattle.scene_model.proofs.TakenSlots.{IsTaken, taken}

-- nobody stands with the index that a take gives, and so nobody with its identity
pub taken_unused : (w : World) (s : SlotState) (e : Entity) → IsValid w → IsTaken w.slots s e → NoneOf e.index w.tables
taken_unused w s e v t = λ h r g same. ⊎_elim
    (λ f. let k : false ≡ true = sym (v.rows.each h r g).busy ∙ ap (is_free w.slots) same ∙ f in absurd (cc))
    (λ n. let k : Some r.entity.generation ≡ None = sym (v.rows.each h r g).current ∙ ap (slice_get w.slots.generations) same ∙ n in absurd (cc))
    t.unused

pub taken_nowhere : (w : World) (s : SlotState) (e : Entity) → IsValid w → IsTaken w.slots s e → StandsNowhere e w.tables
taken_nowhere w s e v t = λ h r g same. taken_unused w s e v t h r g (ap (λ (x : Entity). x.index) same)

-- it is no higher than the next new one
pub taken_low : (s t : SlotState) (e : Entity) → IsTaken s t e → e.index ≤ length s.generations
taken_low s t e k = elim (nat_lt (length s.generations) e.index) as (λ b. nat_lt (length s.generations) e.index ≡ b → e.index ≤ length s.generations) [
  | true ↦ λ h.
      let high = ltb-true (length s.generations) e.index h in
      let within = slice_get_within t.generations e.index e.generation k.current in
      let older = k.older (length s.generations) (omega (arith, high, within)) (λ q. omega (arith, q, high)) in
      absurd (omega (arith, older))
  | false ↦ λ h. let low = ltb-false (length s.generations) e.index h in omega (arith, low)
] refl

-- the world after a spawn
abbrev pub with_spawned : World → SlotState → Row → World
with_spawned w s row = record w { slots = s; tables = with_row w.tables row }

-- an index other than the new one is accounted for as before
old_accounted : (w : World) (s : SlotState) (row : Row) → IsValid w → IsTaken w.slots s row.entity → (i : ℕ) → i < length w.slots.generations → (i ≡ row.entity.index → ⊥)
    → (is_live_index s (with_row w.tables row) i || is_free s i || is_retired s i) ≡ true
old_accounted w s row v t i l ne =
    let kept : slice_index s.generations i ≡ slice_index w.slots.generations i = read s.generations i _ (t.kept i _ (there w.slots.generations i l)) in
    one_of _ (is_live_index w.slots w.tables i) (is_free w.slots i) (is_retired w.slots i) (v.accounted i l)
    (λ a. first_of_three _ _ _ (ap (λ (g : ℕ). lives (with_row w.tables row) (record { index = i; generation = g })) kept ∙ lives_added w.tables row _ a))
    (λ b. second_of_three (is_live_index s (with_row w.tables row) i) _ _ (t.others i ne b))
    (λ c. or_right (is_live_index s (with_row w.tables row) i || is_free s i) _ (ap (λ (g : ℕ). nat_eq g 4294967295) kept ∙ c))

new_accounted : (w : World) (s : SlotState) (row : Row) → IsTaken w.slots s row.entity → (i : ℕ) → i ≡ row.entity.index
    → (is_live_index s (with_row w.tables row) i || is_free s i || is_retired s i) ≡ true
new_accounted w s row t i e =
    let same : record { index = i; generation = slice_index s.generations i } ≡ row.entity =
    λ j. record { index = e j; generation = (ap (slice_index s.generations) e ∙ read s.generations row.entity.index row.entity.generation t.current) j } in
    first_of_three _ _ _ (ap (lives (with_row w.tables row)) same ∙ live_here (with_row w.tables row) row.entity _ row (added_there w.tables row) refl)

-- a new row of a new entity keeps a world valid
pub grown_valid : (w : World) (s : SlotState) (row : Row) → IsValid w → IsTaken w.slots s row.entity → IsRowOf w.schema (mask_of row.cells) row
    → list_all (λ (c : ℕ × Cell). is_timely w.tick c.1) row.cells ≡ true → IsValid (with_spawned w s row)
grown_valid w s row v t fits timely = record {
  schema = v.schema;
  slots = t.sound;
  tick = v.tick;
  rows = record {
    each = each_added (IsSoundRow w.schema s w.tick) w.tables row
        (λ h r g. let old = v.rows.each h r g in record {
          current = t.kept r.entity.index r.entity.generation old.current;
          busy = t.fewer r.entity.index old.busy;
          fits = old.fits;
          timely = old.timely;
        })
        (record { current = t.current; busy = t.busy; fits = fits; timely = timely });
    once = once_added w.tables row v.rows.once (taken_nowhere w s row.entity v t);
  };
  accounted = λ i l. elim (nat_eq i row.entity.index) as (λ b. nat_eq i row.entity.index ≡ b → (is_live_index s (with_row w.tables row) i || is_free s i || is_retired s i) ≡ true) [
    | true ↦ λ e. new_accounted w s row t i (eqb-true i row.entity.index e)
    | false ↦ λ e. old_accounted w s row v t i (t.older i l (eqb-false i row.entity.index e)) (eqb-false i row.entity.index e)
  ] refl;
  links = record { live = λ p c k. (lives_added w.tables row p (v.links.live p c k).0, lives_added w.tables row c (v.links.live p c k).1); forest = v.links.forest };
  resources = v.resources;
}

-- what an accepted spawn took
spawn_parts : (P : Type 0) (w v : World) (cells : List (ℕ × Cell)) (e : Entity) (o : Outcome Entity SlotState) → after_take w cells o ≡ Ok (e, v)
    → ((s : SlotState) → o ≡ Ok (e, s) → with_spawned w s (record { entity = e; cells = cells }) ≡ v → P) → P
spawn_parts P w v cells e (Ok p) h then =
    let k = same_world p.0 e (with_spawned w p.1 (record { entity = p.0; cells = cells })) v h in
    then p.1 (λ i. Ok (k.0 i, p.1)) (ap (λ (x : Entity). with_spawned w p.1 (record { entity = x; cells = cells })) (sym k.0) ∙ k.1)
spawn_parts P w v cells e (Err r) h then = absurd (not_ok (e, v) r h)

-- the world that a spawn of sound cells leaves
pub spawned_valid : (w : World) (given : List (ℕ × Value)) (cells : List (ℕ × Cell)) (s : SlotState) (e : Entity) → IsValid w → spawn_fault w.schema given ≡ None → cells ≡ new_cells w.tick given → take_of w.slots ≡ Ok (e, s)
    → IsValid (with_spawned w s (record { entity = e; cells = cells }))
spawned_valid w given cells s e v fits made took =
    let tests = spawn_tests w.schema given fits in
    subst (λ (cs : List (ℕ × Cell)). IsValid (with_spawned w s (record { entity = e; cells = cs }))) (sym made)
    (grown_valid w s (record { entity = e; cells = new_cells w.tick given }) v (taken w.slots s e v.slots took)
    (record { kinds = record { ascending = new_ascending w.tick given; kinds = refl }; shapes = new_shapes w.schema w.tick given tests.2 })
    (new_timely w.tick given))

pub spawn_keeps : (w v : World) (cells : List (ℕ × Value)) (e : Entity) → IsValid w → spawn w cells ≡ Ok (e, v) → IsValid v
spawn_keeps w v cells e valid is =
    let parts = no_fault _ _ (e, v) is in
    spawn_parts (IsValid v) w v (new_cells w.tick cells) e (take_of w.slots) parts.1
    (λ s o made. subst IsValid made (spawned_valid w cells (new_cells w.tick cells) s e valid parts.0 refl o))
