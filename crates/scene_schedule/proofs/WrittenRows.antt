-- Cells of live entities' own kinds that are written to a valid world one after another: each is accepted, and
-- afterwards stands.
use Rattle.std.proofs.Common.{◌≡◌, ℕ, ◌+◌, Bool, true, false, List, [], ◌∷◌, ◌++◌, map, refl, ap, subst, sym, ◌∙◌, Option, Some, None, Ok}
use Rattle.std.specs.Prelude.{is_some, option_map}
use Rattle.std.specs.List.{Contains, flat_map}
use Rattle.std.proofs.lemmas.List.{map-append}
use Rattle.scene_kinds.specs.declared.entity.Entity.{Entity}
use Rattle.scene_kinds.specs.declared.cell.Cell.{Cell}
use Rattle.scene_kinds.specs.declared.cells.Row.{Row}
use Rattle.scene_kinds.specs.declared.value.Value.{Value}
use Rattle.scene_kinds.specs.Cells.{cell_of}
use Rattle.scene_kinds.specs.KindSet.{KindSet}
use Rattle.scene_table.specs.Tables.{Tables, row_at, rows_at}
use Rattle.scene_table.specs.declared.home.Home.{Home}
use Rattle.scene_model.specs.World.{World}
use Rattle.scene_model.specs.Perform.{Insert, perform}
use Rattle.scene_model.specs.Valid.{IsValid}
use Rattle.scene_model.proofs.MoveKeeps.{with_tables}
use Rattle.scene_machine.specs.Queue.{Request, known, reached, whole, unless_refused, play_from}
use Rattle.scene_machine.specs.Frame.{queue, whole_or_refused}
use Rattle.scene_pass.specs.declared.row_change.RowChange.{RowChange}
use Rattle.scene_pass.specs.declared.row_change.Outcome.{Outcome as RowOutcome}
use Rattle.scene_pass.specs.declared.row_change.Outcome.TheVariants.{Changed, Overflow as SumsOver}
use Rattle.scene_pass.specs.Changes.{Values, values_of}
use Rattle.scene_pass.proofs.Members.{none_in, first_in, rest_in, in_cases}
use Rattle.scene_schedule.specs.Systems.{writes_of, writes_of_outcome}
use Rattle.scene_schedule.specs.AtOnce.{written_of}
use Rattle.scene_schedule.proofs.SameValues.{IsRowAlike, row_values, there_alike, value_found}
use Rattle.scene_schedule.proofs.WrittenCells.{AreTablesAlike, HasAt, CanWrite, cell_written, home_alike, tables_themselves, tables_over, tables_turned}

-- ---- writes

-- a cell to be written: its entity, its kind and its value
abbrev pub Write : Type 0
Write = Entity × (ℕ × Value)

abbrev pub request_of : Write → Request
request_of x = known (Insert x.0 x.1.0 x.1.1)

-- the cells of a change, and of changes
abbrev pub cells_of : RowChange → List Write
cells_of change = map (λ c. (change.entity, c)) (written_of change.outcome)

abbrev pub cells_of_all : List RowChange → List Write
cells_of_all changes = flat_map cells_of changes

outcome_requests : (e : Entity) (o : RowOutcome) → writes_of_outcome e o ≡ map request_of (map (λ c. (e, c)) (written_of o))
outcome_requests e (Changed cells) = go cells
  where
    go : (cells : Values) → map (λ c. known (Insert e c.0 c.1)) cells ≡ map request_of (map (λ c. (e, c)) cells)
    go [] = refl
    go (c ∷ cs) = ap (λ rs. known (Insert e c.0 c.1) ∷ rs) (go cs)
outcome_requests e (SumsOver at) = refl

-- the writes of changes are these cells
pub writes_are : (changes : List RowChange) → writes_of changes ≡ map request_of (cells_of_all changes)
writes_are [] = refl
writes_are (c ∷ cs) =
    (λ i. outcome_requests c.entity c.outcome i ++ writes_are cs i) ∙ sym (map-append request_of (cells_of c) (cells_of_all cs))

-- ---- writes one after another

-- what is to stand at a home: a value of a kind, or none where the kind stays as it is
abbrev pub Wanted : Type 0
Wanted = Home → ℕ → Option Value

-- a cell that may be written, and that is wanted at its home
pub record IsWantedIn (wanted : Wanted) (w : World) (x : Write) : Type 0 where
  pub home : Home
  pub can : CanWrite w x.0 x.1.0 x.1.1 home
  pub is : wanted home x.1.0 ≡ Some x.1.1

-- where what stands at a home isn't to change, or is what is wanted there
abbrev pub IsSettled : Wanted → Home → ℕ → Option Value → Type 0
IsSettled wanted h kind o = (v : Value) → wanted h kind ≡ Some v → o ≡ Some v

-- the world after the writes
pub record AreWritten (wanted : Wanted) (w : World) (writes : List Write) : Type 0 where
  pub tables : Tables
  pub valid : IsValid (with_tables w tables)
  pub played : (i : ℕ) (es : List Entity) → play_from perform i (map request_of writes) (reached w es) ≡ whole (reached (with_tables w tables) es)
  pub alike : (on : ℕ → Bool) → ((x : Write) → Contains writes x → on x.1.0 ≡ false) → AreTablesAlike on tables w.tables
  pub stays : (h : Home) (kind : ℕ) (o : Option Value) → HasAt w.tables h kind o → IsSettled wanted h kind o → HasAt tables h kind o
  pub made : (x : Write) → Contains writes x → (h : Home) (row : Row) → row_at w.tables h ≡ Some row → row.entity ≡ x.0 → wanted h x.1.0 ≡ Some x.1.1
      → HasAt tables h x.1.0 (Some x.1.1)
  pub elsewhere : (mask : KindSet) → ((h : Home) (kind : ℕ) (v : Value) → wanted h kind ≡ Some v → h.mask ≡ mask → ⊥) → rows_at tables mask ≡ rows_at w.tables mask

-- a cell may still be written after others
has_cell_of : (row other : Row) (kind : ℕ) (old : Cell) (o : Option Cell) → IsRowAlike (λ k. false) row other → cell_of row.cells kind ≡ Some old → cell_of other.cells kind ≡ o
    → (c : Cell) × (o ≡ Some c)
has_cell_of row other kind old (Some c) a has is = (c, refl)
has_cell_of row other kind old None a has is =
    let there : is_some (option_map (λ (c : Cell). c.value) (cell_of row.cells kind)) ≡ is_some (option_map (λ (c : Cell). c.value) (cell_of other.cells kind)) =
    ap is_some (sym (value_found row.cells kind)) ∙ there_alike (λ k. false) kind (values_of row) (values_of other) (row_values (λ k. false) row other a) ∙ ap is_some (value_found other.cells kind) in
    absurd (let wrong : true ≡ false =
    sym (ap (λ o. is_some (option_map (λ (c : Cell). c.value) o)) has) ∙ there ∙ ap (λ o. is_some (option_map (λ (c : Cell). c.value) o)) is in cc)

still_wanted : (wanted : Wanted) (w : World) (t : Tables) (x : Write) → AreTablesAlike (λ k. false) w.tables t → IsWantedIn wanted w x → IsWantedIn wanted (with_tables w t) x
still_wanted wanted w t x alike h =
    let k = home_alike (λ k. false) w.tables t h.home h.can.row alike h.can.there in
    let c = has_cell_of h.can.row k.0 x.1.0 h.can.old (cell_of k.0.cells x.1.0) k.1.1 h.can.has refl in
    record {
      home = h.home;
      can = record { row = k.0; there = k.1.0; same = sym k.1.1.entity ∙ h.can.same; old = c.0; has = c.1; fits = h.can.fits };
      is = h.is;
    }

pub written_in_turn : (wanted : Wanted) (w : World) (writes : List Write) → IsValid w → ((x : Write) → Contains writes x → IsWantedIn wanted w x) → AreWritten wanted w writes
written_in_turn wanted w [] valid each = record {
  tables = w.tables;
  valid = valid;
  played = λ i es. refl;
  alike = λ on off. tables_themselves on w.tables;
  stays = λ h kind o a settled. a;
  made = λ x g. none_in x g;
  elsewhere = λ mask other. refl;
}
written_in_turn wanted w (x ∷ xs) valid each =
    let k = each x (first_in x xs) in
    let one = cell_written w x.0 x.1.0 x.1.1 k.home valid k.can in
    let back = tables_turned (λ k. false) one.tables w.tables (one.alike (λ k. false) refl) in
    let rest = written_in_turn wanted (with_tables w one.tables) xs one.valid (λ y g. still_wanted wanted w one.tables y back (each y (rest_in x xs y g))) in
    record {
      tables = rest.tables;
      valid = rest.valid;
      played = λ i es. ap (λ o. unless_refused i (reached w es) o (play_from perform (i + 1) (map request_of xs))) one.accepted ∙ rest.played (i + 1) es;
      alike = λ on off. tables_over on rest.tables one.tables w.tables (rest.alike on (λ y g. off y (rest_in x xs y g))) (one.alike on (off x (first_in x xs)));
      stays = λ h kind o a settled.
          rest.stays h kind o (one.stays h kind o a (λ home same. settled x.1.1 ((λ i. wanted (home i) (same i)) ∙ k.is))) settled;
      made = λ y g h row at same is. in_cases x xs y g
          (λ e.
          let home : h ≡ k.home = valid.rows.once h k.home row k.can.row at k.can.there (same ∙ sym (ap (λ (z : Write). z.0) e) ∙ sym k.can.same) in
          let here : HasAt one.tables h x.1.0 (Some x.1.1) = subst (λ (g : Home). HasAt one.tables g x.1.0 (Some x.1.1)) (sym home) one.here in
          rest.stays h y.1.0 (Some y.1.1) (subst (λ (z : Write). HasAt one.tables h z.1.0 (Some z.1.1)) e here) (λ v t. sym is ∙ t))
          (λ r.
          let o = home_alike (λ k. false) w.tables one.tables h row back at in
          rest.made y r h o.0 o.1.0 (sym o.1.1.entity ∙ same) is);
      elsewhere = λ mask other. rest.elsewhere mask other ∙ one.elsewhere mask (other k.home x.1.0 x.1.1 k.is);
    }

-- a queue of them is accepted
pub queue_accepted : (wanted : Wanted) (w : World) (at : ℕ) (changes : List RowChange) (a : AreWritten wanted w (cells_of_all changes))
    → queue perform at (writes_of changes) w ≡ Ok ([], with_tables w a.tables)
queue_accepted wanted w at changes a =
    ap (λ rs. whole_or_refused at (play_from perform 0 rs (reached w []))) (writes_are changes) ∙ ap (whole_or_refused at) (a.played 0 [])
