-- A turn of a run that is written and noted: its inserts on a stage that records, the deltas that lead on, and that they
-- can be taken back.
use Rattle.std.proofs.Common.{◌≡◌, ◌<◌, ℕ, ℤ, pos, ◌+ℤ◌, Bool, true, false, List, [], ◌∷◌, ◌++◌, length, refl, ap, sym, subst, ◌∙◌, arith, cond, Option, Some, None, Ok}
use Rattle.std.specs.Prelude.{Result, Err, OnErr}
use Rattle.std.specs.declared.alloc.AllocError.{AllocError}
use Rattle.std.specs.List.{AllByRecursion, flat_map}
use Rattle.std.specs.Cmp.{nat_cmp_total}
use Rattle.std.specs.FinMap.{nat_cmp-IsAntisymmetric}
use Rattle.std.specs.Ordering.{nat_cmp, eq_by_cmp}
use Rattle.std.proofs.lemmas.List.{append-nil}
use Rattle.std.proofs.lemmas.List.Elements.{recursion_from_All}
use Rattle.scene_kinds.specs.declared.cells.Row.{Row}
use Rattle.scene_kinds.specs.declared.entity.Entity.{Entity}
use Rattle.scene_kinds.specs.declared.value.Value.{Value}
use Rattle.scene_kinds.specs.Answers.{Outcome}
use Rattle.scene_kinds.specs.Cells.{IsAscending}
use Rattle.scene_kinds.specs.KindSet.{KindSet}
use Rattle.scene_kinds.proofs.Lists.{list_at-with_list}
use Rattle.scene_kinds.proofs.Maps.{equal_keys}
use Rattle.scene_table.specs.declared.home.Home.{Home}
use Rattle.scene_table.specs.declared.row_step.RowStep.{RowStep}
use Rattle.scene_table.specs.Runs.{AreApart, AreColumnsFor, AreLongFor, Changed, HasTicks, HoldsAt, IsTurn, RunState, Same, Stands, TurnState, cells_of_turn, changed_of, written_values}
use Rattle.scene_table.specs.Steps.{Values}
use Rattle.scene_table.specs.Tables.{Tables, row_at, rows_at, with_rows}
use Rattle.scene_table.proofs.CellWrites.{entities_in, run_goes_on}
use Rattle.scene_table.proofs.RunFacts.{length-mapped, ticks_long}
use Rattle.scene_table.proofs.Standing.{from_list, written_rows}
use Rattle.scene_model.specs.Commands.{and_then, insert}
use Rattle.scene_model.specs.Perform.{Command, Insert, answering}
use Rattle.scene_model.specs.RunRaw.{with_run}
use Rattle.scene_model.specs.Valid.{IsValid}
use Rattle.scene_model.specs.World.{World}
use Rattle.scene_model.proofs.StandingRuns.{same_at}
use Rattle.scene_model.proofs.Outcomes.{not_ok, same_world}
use Rattle.scene_world.specs.Room.{Room, Holds}
use Rattle.scene_world.specs.Stage.{Staged, act, noting}
use Rattle.scene_world.specs.Written.{FitAll, acted, inserts, inserts_of}
use Rattle.scene_world.proofs.StepInserts.{rows_notes, staged}
use Rattle.scene_world.proofs.StepRuns.{all_fit, run_acted}
use Rattle.scene_deltas.specs.declared.delta.Delta.{Delta}
use Rattle.scene_deltas.specs.CommandLaws.{LeadTo}
use Rattle.scene_deltas.specs.Deltas.{AllFitOn, back_all}
use Rattle.scene_deltas.specs.Notes.{deltas_of}
use Rattle.scene_deltas.specs.Ready.{AreReady, AreReadyOn}
use Rattle.scene_deltas.specs.Segments.{IsOverTable, turn_deltas}
use Rattle.scene_deltas.proofs.Commands.{insert_leads}
use Rattle.scene_deltas.proofs.ComeBack.{delta_lists_come_back}
use Rattle.scene_deltas.proofs.Ready.{back_appended, ready_appended}
use Rattle.scene_deltas.proofs.Truncated.{found_ready}
use Rattle.scene_deltas.proofs.Turns.{ready_returns}
use Rattle.scene_deltas.proofs.TurnRows.{AreOf, Change, are_theirs, ascend, cell_entities, deltas_for, next_on, next_world, with_table}
use Rattle.scene_journal.specs.Turns.{IsFound, IsRecorded}
use Rattle.scene_journal.specs.declared.turns.Found.{Found}
use Rattle.scene_journal.proofs.FrameLaws.{lead_on}
use Rattle.scene_journal.proofs.TurnNotes.{AreTicksFor, notes_sets, set_delta, turn_noted}

-- ---- inserts on a stage that records

abbrev IsInsert : Command → Type 0
IsInsert c = (e : Entity) × (kind : ℕ) × (value : Value) × (c ≡ Insert e kind value)

abbrev AreInserts : List Command → Type 0
AreInserts cs = AllByRecursion IsInsert cs

more_inserts : (xs ys : List Command) → AreInserts xs → AreInserts ys → AreInserts (xs ++ ys)
more_inserts [] ys a b = b
more_inserts (c ∷ xs) ys a b = (a.0, more_inserts xs ys a.1 b)

values_inserted : (e : Entity) (values : Values) → AreInserts (inserts_of e (Some values))
values_inserted e [] = tt
values_inserted e (v ∷ values) = ((e, v.0, v.1, refl), values_inserted e values)

row_inserted : (e : Entity) (o : Option Values) → AreInserts (inserts_of e o)
row_inserted e None = tt
row_inserted e (Some values) = values_inserted e values

rows_inserted : (steps : List RowStep) (rows : List Row) → AreInserts (flat_map (λ row. inserts_of row.entity (written_values steps row)) rows)
rows_inserted steps [] = tt
rows_inserted steps (r ∷ rows) =
    more_inserts (inserts_of r.entity (written_values steps r)) (flat_map (λ row. inserts_of row.entity (written_values steps row)) rows) (row_inserted r.entity (written_values steps r)) (rows_inserted steps rows)

-- the notes of a stage lead from a world to the stage's, which is valid
record HasLed (base : World) (s : Staged Delta) : Type 0 where
  valid : IsValid s.world
  lead : LeadTo s.notes base s.world

module _ (base : World) where
  one_led : (e : Entity) (kind : ℕ) (value : Value) (s : Staged Delta) (v : World) → HasLed base s → insert s.world e kind value ≡ Ok (tt, v)
      → HasLed base (record { world = v; notes = s.notes ++ deltas_of s.world (Insert e kind value) })
  one_led e kind value s v now is =
      let ds = deltas_of s.world (Insert e kind value) in
      let lead = insert_leads s.world v e kind value now.valid is in
      record {
        valid = subst IsValid (sym lead.made) ((delta_lists_come_back ds).0.keeps s.world now.valid lead.fit);
        lead = lead_on s.notes ds base s.world v now.lead lead;
      }

  all_led : (cs : List Command) (s t : Staged Delta) → AreInserts cs → HasLed base s → acted (act deltas_of) cs s ≡ Ok (tt, t) → HasLed base t
  all_led [] s t are now h = subst (HasLed base) (same_world tt tt s t h).1 now
  all_led (c ∷ cs) s t are now h =
      let e = are.0.0 in
      let kind = are.0.1 in
      let value = are.0.2 in
      let ds = deltas_of s.world (Insert e kind value) in
      elim (insert s.world e kind value) as (λ (o : Outcome (Unit {0}) World). insert s.world e kind value ≡ o
      → and_then (answering {A = Unit {0}} {B = Option Entity} (λ a. None) (noting s ds o)) (λ x u. acted (act deltas_of) cs u) ≡ Ok (tt, t) → HasLed base t) [
        | Ok p ↦ λ is g. all_led cs (record { world = p.1; notes = s.notes ++ ds }) t are.1 (one_led e kind value s p.1 now is) g
        | Err r ↦ λ is g. absurd (not_ok (tt, t) r g)
      ] refl (subst (λ d. and_then (act deltas_of s d) (λ x u. acted (act deltas_of) cs u) ≡ Ok (tt, t)) are.0.3 h)

-- ---- room for each world on the way

-- rows of the same entities need the same room
same_row : (t : Tables) (m : KindSet) (new : List Row) (h : Home) (r : Row) → entities_in new ≡ entities_in (rows_at t m) → row_at (with_rows t m new) h ≡ Some r → (x : Row) × ((row_at t h ≡ Some x) × (x.entity ≡ r.entity))
same_row t m new h r same is =
    written_rows ((x : Row) × ((row_at t h ≡ Some x) × (x.entity ≡ r.entity))) t m new h r is
    (λ e there.
    let old = same_at (λ (row : Row). row.entity) (λ (row : Row). row.entity) new (rows_at t m) h.place r same there in
    (old.0, (from_list t m h old.0 e old.1.0, old.1.1)))
    (λ ne there. (r, (there, refl)))

same_count : (t : Tables) (m q : KindSet) (new : List Row) → entities_in new ≡ entities_in (rows_at t m) → length (rows_at (with_rows t m new) q) ≡ length (rows_at t q)
same_count t m q new same =
    ap length (list_at-with_list nat_cmp_total t m new q)
    ∙ elim (eq_by_cmp nat_cmp q m) as (λ b. eq_by_cmp nat_cmp q m ≡ b → length (cond b new (rows_at t q)) ≡ length (rows_at t q)) [
      | true ↦ λ e.
          sym (length-mapped (λ (row : Row). row.entity) new) ∙ ap length same ∙ length-mapped (λ (row : Row). row.entity) (rows_at t m)
          ∙ ap (λ k. length (rows_at t k)) (sym (equal_keys nat_cmp-IsAntisymmetric q m e))
      | false ↦ λ e. refl
    ] refl

table_held : (room : Room) (w : World) (mask : KindSet) (new : List Row) → entities_in new ≡ entities_in (rows_at w.tables mask) → Holds room w → Holds room (with_table w mask new)
table_held room w mask new same h = record {
  slots = h.slots;
  rows = record {
    rows = λ q. omega (arith, same_count w.tables mask q new same, h.rows.rows q);
    homes = λ g r is. let old = same_row w.tables mask new g r same is in subst (λ e. e.index < room.homes) old.1.1 (h.rows.homes g old.0 old.1.0);
  };
  links = h.links;
  names = h.names;
}

-- cells that are set one after another can be set without memory
pub cells_ready : (room : Room) (w : World) (mask : KindSet) (cells : List Change) → IsValid w → Holds room w → AreOf (entities_in (rows_at w.tables mask)) cells → AllFitOn (deltas_for cells) w
    → AreReadyOn room (deltas_for cells) w
cells_ready room w mask [] v held among fit = tt
cells_ready room w mask (c ∷ cells) v held among fit =
    let next = next_on w mask c cells v among fit in
    let u = next_world w mask c in
    let kept : Holds room u = table_held room w mask _ (cell_entities (rows_at w.tables mask) c.0 c.1 c.3) held in (
      record { fits = fit.0; held = subst (Holds room) (sym next.first) kept },
      subst (AreReadyOn room (deltas_for cells)) (sym next.first) (cells_ready room u mask cells next.sound kept next.still next.fit),
    )

-- ---- a turn

-- what a turn that is written leaves, where it is noted
pub record IsNoted (room : Room) (w : World) (mask : KindSet) (steps : List RowStep) (t : TurnState) (new : World) : Type 0 where
  pub fit : FitAll steps (rows_at w.tables mask)
  pub is : (notes : List Delta) → acted (act deltas_of) (inserts w mask steps) (staged w notes) ≡ Ok (tt, staged new (notes ++ turn_deltas t))
  pub ready : AreReady room (turn_deltas t) new
  pub before : back_all (turn_deltas t) new ≡ w

module _ (room : Room) (w : World) (run : RunState) (turns : ℤ) (before : Changed) (v : IsValid w) (held : Holds room w) (apart : AreApart run.steps) (are : AreColumnsFor run.steps run.columns)
    (long : AreLongFor run.entities run.columns) (stands : Stands (rows_at w.tables run.mask) run turns) (ticks : HasTicks (rows_at w.tables run.mask) run before) (fits : HoldsAt run (turns +ℤ pos 1))
    (is : IsTurn (record { run = run; turns = turns; before = before; tick = w.tick })) where
  abbrev turn : TurnState
  turn = record { run = run; turns = turns; before = before; tick = w.tick }

  abbrev new_world : World
  new_world = with_run w run (turns +ℤ pos 1) (Same w.tick)

  over : IsOverTable w turn
  over = record { valid = v; is = is; are = are; long = long; entities = stands.entities }

  count : AreTicksFor 0 (length run.entities) run.columns before
  count k c there = ap (λ n. length (changed_of before n (length run.entities))) (omega arith) ∙ is.ticks k c there

  turn_notes : rows_notes Delta set_delta w.tick run.steps (rows_at w.tables run.mask) ≡ turn_deltas turn
  turn_notes =
      turn_noted (rows_at w.tables run.mask) run.steps run turns before w.tick (recursion_from_All (λ (r : Row). IsAscending r.cells) (rows_at w.tables run.mask) (ascend w turn over)) long count
      (run_goes_on (rows_at w.tables run.mask) run turns before (ascend w turn over) apart are long stands ticks fits)

  turn_acted : (notes : List Delta) → acted (act deltas_of) (inserts w run.mask run.steps) (staged w notes) ≡ Ok (tt, staged new_world (notes ++ turn_deltas turn))
  turn_acted notes =
      run_acted w run turns v apart are long stands fits Delta deltas_of set_delta notes_sets notes
      ∙ (λ i. Ok (tt, staged new_world (notes ++ turn_notes i)))

  turn_leads : LeadTo (turn_deltas turn) w new_world
  turn_leads =
      (all_led w (inserts w run.mask run.steps) (staged w []) (staged new_world (turn_deltas turn)) (rows_inserted run.steps (rows_at w.tables run.mask))
      (record { valid = v; lead = record { fit = tt; made = refl } }) (turn_acted [])).lead

  turn_ready : AreReady room (turn_deltas turn) new_world
  turn_ready =
      subst (AreReady room (turn_deltas turn)) (sym turn_leads.made)
      (ready_returns room (turn_deltas turn) w v held (cells_ready room w run.mask (cells_of_turn turn) v held (are_theirs w turn over) turn_leads.fit))

  turn_before : back_all (turn_deltas turn) new_world ≡ w
  turn_before = ap (back_all (turn_deltas turn)) turn_leads.made ∙ (delta_lists_come_back (turn_deltas turn)).0.comes_back w v turn_leads.fit

  pub turn_recorded : (mask : KindSet) (steps : List RowStep) → run.mask ≡ mask → run.steps ≡ steps → IsNoted room w mask steps turn new_world
  turn_recorded mask steps e f = subst (λ (p : KindSet × List RowStep). IsNoted room w p.0 p.1 turn new_world) (λ i. (e i, f i)) (record {
    fit = all_fit w run turns v apart are long stands fits;
    is = turn_acted;
    ready = turn_ready;
    before = turn_before;
  })

-- ---- a turn that was found

module _ (rows : List Row) (mask : KindSet) (steps : List RowStep) (f : Found) (h : IsFound rows mask steps f) where
  own_count : length f.run.value.entities ≡ length rows
  own_count = ap length h.stands.entities ∙ length-mapped (λ (row : Row). row.entity) rows

  pub found_turn : (tick : ℕ) → IsTurn (record { run = f.run.value; turns = f.turns; before = f.before; tick = tick })
  found_turn tick = record {
    now = h.can.now;
    next = h.can.next;
    counted = h.can.counted;
    small = h.can.small;
    ticks = λ n c there. subst (λ k. length (changed_of f.before n k) ≡ k) (sym own_count) (ticks_long rows f.run.value f.before h.ticks n c there);
  }

-- what is written then is recorded
pub turn_written : (room : Room) (w : World) (f : Found) (before after : List Delta) (new : World) → IsValid w → Holds room w → AreApart f.run.value.steps
    → IsFound (rows_at w.tables f.run.value.mask) f.run.value.mask f.run.value.steps f → new ≡ with_run w f.run.value (f.turns +ℤ pos 1) (Same w.tick)
    → after ≡ before ++ turn_deltas (record { run = f.run.value; turns = f.turns; before = f.before; tick = w.tick })
    → IsRecorded room w f.run.value.mask f.run.value.steps before new after
turn_written room w f before after new v held apart h made kept =
    let run = f.run.value in
    let t : TurnState = record { run = run; turns = f.turns; before = f.before; tick = w.tick } in
    let is = found_turn (rows_at w.tables run.mask) run.mask run.steps f h w.tick in
    let noted = turn_recorded room w run f.turns f.before v held apart h.can.are h.can.long h.stands h.ticks h.can.next is run.mask run.steps refl refl in
    record {
      fit = noted.fit;
      is = noted.is before ∙ (λ i. Ok (tt, staged (sym made i) (sym kept i)));
      more = turn_deltas t;
      kept = kept;
      ready = subst (AreReady room (turn_deltas t)) (sym made) noted.ready;
      back = ap (back_all (turn_deltas t)) made ∙ noted.before;
    }

-- ---- steps whose run was found in a table

module _ (w : World) (rows : List Row) (over mask : KindSet) (steps : List RowStep) (f : Found) (h : IsFound rows over steps f) (same : rows ≡ rows_at w.tables mask) (is : over ≡ mask) where
  own_rows : rows ≡ rows_at w.tables f.run.value.mask
  own_rows = same ∙ ap (rows_at w.tables) (sym (h.of.over ∙ is))

  pub found_own : IsFound (rows_at w.tables f.run.value.mask) f.run.value.mask f.run.value.steps f
  found_own = record {
    of = record { over = refl; by = refl };
    can = h.can;
    stands = subst (λ rs. Stands rs f.run.value f.turns) own_rows h.stands;
    ticks = subst (λ rs. HasTicks rs f.run.value f.before) own_rows h.ticks;
  }

  pub recorded_own : (room : Room) (before after : List Delta) (new : World) → IsRecorded room w f.run.value.mask f.run.value.steps before new after → IsRecorded room w mask steps before new after
  recorded_own room before after new r =
      subst (λ (p : KindSet × List RowStep). IsRecorded room w p.0 p.1 before new after) (λ i. ((h.of.over ∙ is) i, h.of.by i)) r

-- where there are no rows nothing is written
pub none_recorded : (room : Room) (w : World) (mask : KindSet) (steps : List RowStep) (ds : List Delta) → rows_at w.tables mask ≡ [] → IsRecorded room w mask steps ds w ds
none_recorded room w mask steps ds e =
    record {
      fit = subst (FitAll steps) (sym e) (λ k d l. absurd (omega arith));
      is = ap (λ (rows : List Row). acted (act deltas_of) (flat_map (λ row. inserts_of row.entity (written_values steps row)) rows) (staged w ds)) e;
      more = [];
      kept = sym (append-nil ds);
      ready = tt;
      back = refl;
    }

-- ---- as a recorder has it

-- by the answer of steps that are written
pub by_answer : (P K : Type 0) (result : Result Bool AllocError) → (result ≡ Ok true → P) → (result ≡ Ok false → P) → OnErr result K → (K → P) → P
by_answer P K (Ok true) done unfit full from = done refl
by_answer P K (Ok false) done unfit full from = unfit refl
by_answer P K (Err e) done unfit full from = from full

module _ (room : Room) (w : World) (mask : KindSet) (steps : List RowStep) (ds : List Delta) (new : World) (es : List Delta) (r : IsRecorded room w mask steps ds new es) where
  pub recorded_ready : (wider : Room) → wider ≡ room → ∥ AreReady room ds w ∥₁ → ∥ AreReady wider es new ∥₁
  recorded_ready wider same ready =
      ∣ subst (λ x. AreReady x es new) (sym same)
      (subst (λ xs. AreReady room xs new) (sym r.kept) (ready_appended room ds r.more new r.ready (subst (AreReady room ds) (sym r.back) (found_ready room ds w ready)))) ∣₁

  pub recorded_back : back_all es new ≡ back_all ds w
  recorded_back = ap (λ xs. back_all xs new) r.kept ∙ back_appended ds r.more new ∙ ap (back_all ds) r.back
