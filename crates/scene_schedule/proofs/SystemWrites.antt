-- A system on a world that agrees with the opening one on what the system touches: what it writes is accepted, and it
-- makes what it makes of the opening world.
use Rattle.std.proofs.Common.{◌≡◌, ℕ, ◌+◌, Bool, true, false, cond, not, nat_eq, List, [], ◌∷◌, ◌++◌, map, length, refl, ap, subst, sym, ◌∙◌, Option, Some, None, Ok, Err, if◌then◌else◌}
use Rattle.std.specs.Prelude.{slice_get, option_map, option_and_then, filter, is_some, pos}
use Rattle.std.specs.Option.{option_or}
use Rattle.std.specs.List.{AllZip, Contains, flat_map, list_any}
use Rattle.std.specs.Ordering.{nat_cmp}
use Rattle.std.specs.FinMap.Entries.{find}
use Rattle.std.proofs.lemmas.Bool.{or_left, or_right, eq-eqb, lt-ltb}
use Rattle.std.proofs.lemmas.Option.{same_Some}
use Rattle.std.proofs.lemmas.Slice.Zip.{AllZip-long}
use Rattle.scene_kinds.specs.declared.cell.Cell.{Cell}
use Rattle.scene_kinds.specs.declared.cells.Row.{Row}
use Rattle.scene_kinds.specs.declared.value.Value.{Value}
use Rattle.scene_kinds.specs.declared.value.Value.TheVariants.{Int}
use Rattle.scene_kinds.specs.declared.fault.Fault.TheVariants.{NoSuchKind}
use Rattle.scene_kinds.specs.Answers.{refusal_of}
use Rattle.scene_kinds.specs.Cells.{cell_of}
use Rattle.scene_kinds.specs.KindSet.{KindSet}
use Rattle.scene_kinds.specs.Lists.{listed}
use Rattle.scene_kinds.specs.Map as map_of
use Rattle.scene_kinds.specs.Schema.{Kinds, fits_kind}
use Rattle.scene_commands.specs.declared.command.Command.TheVariants.{Spawn, DespawnAllIfAlive, SetParent, PutResource}
use Rattle.scene_commands.specs.declared.target.Target.TheVariants.{Id, New}
use Rattle.scene_table.specs.Tables.{Tables, rows_at, row_at, masks_of}
use Rattle.scene_table.specs.declared.home.Home.{Home}
use Rattle.scene_model.specs.World.{World, kind_sets, is_unknown, present, component_in, component_of}
use Rattle.scene_model.specs.Commands.{and_then}
use Rattle.scene_model.specs.Perform.{perform}
use Rattle.scene_model.specs.Valid.{IsValid, IsRowOf}
use Rattle.scene_model.proofs.MoveKeeps.{with_tables}
use Rattle.scene_model.proofs.RowKinds.{fits_known}
use Rattle.scene_model.proofs.RowOf.{row_stands}
use Rattle.scene_systems.specs.declared.filter.Filter.{Filter}
use Rattle.scene_table.specs.declared.row_step.RowStep.{RowStep}
use Rattle.scene_systems.specs.declared.step.Step.{Step}
use Rattle.scene_systems.specs.declared.step.Step.TheVariants.{Row as Writing, DespawnAtZero, SpawnChild, CountInto}
use Rattle.scene_systems.specs.declared.system_rule.SystemRule.{SystemRule}
use Rattle.scene_systems.specs.Filter.{is_match}
use Rattle.scene_pass.specs.declared.row_change.RowChange.{RowChange}
use Rattle.scene_pass.specs.Pass.{rows_in, matching_rows}
use Rattle.scene_pass.specs.Changes.{Values, values_of, after_steps, outcome_of, change_of, first_fault}
use Rattle.scene_pass.proofs.Members.{none_in, in_map, from_map, in_flat_map, from_flat_map, entry_in, place_of, in_from_place}
use Rattle.scene_schedule.specs.Schedule.{step_touches, touches, writes}
use Rattle.scene_schedule.specs.Systems.{row_steps, changes_of, is_zero, despawns, children_of_rows, commands_from, queued_by, unless_over, system}
use Rattle.scene_schedule.specs.AtOnce.{written_of, zero_or, is_zero_in, is_zero_after, despawns_after, children_after, commands_after, output_of}
use Rattle.scene_schedule.proofs.Entries.{found_passes, entry_found}
use Rattle.scene_schedule.proofs.Zips.{zip_places, zip_same, zip_mapped, zip_keys}
use Rattle.scene_schedule.proofs.SameValues.{IsRowAlike, row_values, alike_found, change_alike, steps_on, value_found, written_steps}
use Rattle.scene_schedule.proofs.GoodChanges.{row_written}
use Rattle.scene_schedule.proofs.WrittenCells.{AreTablesAlike, CanWrite, HasAt, home_alike, tables_over, tables_weaker}
use Rattle.scene_schedule.proofs.WrittenRows.{Wanted, IsWantedIn, AreWritten, Write, cells_of, cells_of_all, written_in_turn, queue_accepted}

-- ---- rows that match

-- the rows that match, of tables that are alike
pub matching_alike : (P : Row → Row → Type 0) (v w : World) (f : Filter) → masks_of v.tables ≡ masks_of w.tables
    → ((mask : KindSet) → is_match f mask ≡ true → AllZip P (rows_at v.tables mask) (rows_at w.tables mask))
    → AllZip P (matching_rows v f) (matching_rows w f)
matching_alike P v w f masks each =
    subst (λ (ms : List ℕ). AllZip P (flat_map (rows_in v f) ms) (matching_rows w f)) (sym masks)
    (zip_keys P (rows_in v f) (rows_in w f) (kind_sets w)
    (λ mask. elim (is_match f mask) as (λ b. is_match f mask ≡ b → AllZip P (if b then rows_at v.tables mask else []) (if b then rows_at w.tables mask else [])) [
      | true ↦ λ t. each mask t
      | false ↦ λ t. tt
    ] refl))

-- a system makes the same changes where tables are alike in what it touches
pub changes_alike : (u w : World) (rule : SystemRule) → AreTablesAlike (touches rule) u.tables w.tables → changes_of u rule ≡ changes_of w rule
changes_alike u w rule a =
    zip_same (IsRowAlike (touches rule)) (change_of (row_steps rule.steps)) (change_of (row_steps rule.steps)) (matching_rows u rule.filter) (matching_rows w rule.filter)
    (λ x y r. change_alike (touches rule) (row_steps rule.steps) x y (steps_on (touches rule) rule.steps (λ kind t. t)) r)
    (matching_alike (IsRowAlike (touches rule)) u w rule.filter a.masks (λ mask t. a.rows mask))

-- a row that matches stands at a home, and one at a home whose kind set matches is listed
record IsMatching (w : World) (f : Filter) (row : Row) : Type 0 where
  home : Home
  there : row_at w.tables home ≡ Some row

listed_row : (w : World) (f : Filter) (row : Row) → Contains (matching_rows w f) row → IsMatching w f row
listed_row w f row h =
    let s = from_flat_map (rows_in w f) (kind_sets w) row h in
    elim (is_match f s.0) as (λ b. Contains (if b then rows_at w.tables s.0 else []) row → IsMatching w f row) [
      | true ↦ λ g. let p = place_of (rows_at w.tables s.0) row g in record { home = record { mask = s.0; place = p.0 }; there = p.1 }
      | false ↦ λ g. none_in row g
    ] s.1.1

row_listed : (w : World) (f : Filter) (h : Home) (row : Row) → row_at w.tables h ≡ Some row → is_match f h.mask ≡ true → Contains (matching_rows w f) row
row_listed w f h row at is =
    in_flat_map (rows_in w f) (kind_sets w) h.mask row (set_in w h row at)
    (subst (λ b. Contains (if b then rows_at w.tables h.mask else []) row) (sym is) (in_from_place (rows_at w.tables h.mask) h.place row at))
  where
    set_in : (w : World) (h : Home) (row : Row) → row_at w.tables h ≡ Some row → Contains (kind_sets w) h.mask
    set_in w h row at = elim (map_of.get w.tables h.mask) as (λ o. map_of.get w.tables h.mask ≡ o → slice_get (listed o) h.place ≡ Some row → Contains (kind_sets w) h.mask) [
      | None ↦ λ e g. absurd (let wrong : None ≡ Some row = g in cc)
      | Some rows ↦ λ e g. in_map (λ (t : KindSet × (Row × List Row)). t.0) w.tables.entries (h.mask, rows) h.mask (entry_in w.tables.entries h.mask rows e) refl
    ] refl at

-- ---- what a system writes

-- the cells that steps write to a row
abbrev pub cells_by : List RowStep → Row → Values
cells_by ss row = written_of (outcome_of ss (after_steps 0 ss (values_of row)))

-- a cell that is written, with its row
pub record IsWrittenTo (t : Tables) (ss : List RowStep) (x : Write) : Type 0 where
  pub row : Row
  pub home : Home
  pub there : row_at t home ≡ Some row
  pub same : row.entity ≡ x.0
  pub found : find nat_cmp x.1.0 (cells_by ss row) ≡ Some x.1.1

-- what the row at a home has of a kind is what was read there
read_at : (t : Tables) (h : Home) (row : Row) (kind : ℕ) (o : Option Value) → row_at t h ≡ Some row → HasAt t h kind o → find nat_cmp kind (values_of row) ≡ o
read_at t h row kind o now a = ap (λ (r : Row). find nat_cmp kind (values_of r)) (same_Some row a.row (sym now ∙ a.there)) ∙ a.value

cell_there : (row : Row) (kind : ℕ) (o : Option Cell) → cell_of row.cells kind ≡ o → is_some (find nat_cmp kind (values_of row)) ≡ true → (c : Cell) × (o ≡ Some c)
cell_there row kind (Some c) is h = (c, refl)
cell_there row kind None is h =
    absurd (let wrong : false ≡ true = sym (ap is_some (value_found row.cells kind ∙ ap (option_map (λ (c : Cell). c.value)) is)) ∙ h in cc)

-- it may be written
pub can_write : (u : World) (ss : List RowStep) → IsValid u → (x : Write) (k : IsWrittenTo u.tables ss x) → CanWrite u x.0 x.1.0 x.1.1 k.home
can_write u ss valid x k =
    let cells = row_written u.schema k.home.mask k.row ss (valid.rows.each k.home k.row k.there).fits in
    let c = cell_there k.row x.1.0 (cell_of k.row.cells x.1.0) refl (cells.there x.1.0 x.1.1 k.found) in
    record {
      row = k.row;
      there = k.there;
      same = k.same;
      old = c.0;
      has = c.1;
      fits = found_passes (λ (v : ℕ × Value). fits_kind u.schema v.1 v.0) (cells_by ss k.row) x.1.0 x.1.1 cells.good.fit k.found;
    }

module _ (u : World) (rule : SystemRule) (valid : IsValid u) where
  abbrev ss : List RowStep
  ss = row_steps rule.steps

  abbrev cells_for : Row → Values
  cells_for row = cells_by ss row

  -- what is wanted at a home: what is written to its row
  abbrev pub wanted_at : Wanted
  wanted_at h kind = option_and_then (λ (row : Row). find nat_cmp kind (cells_for row)) (row_at u.tables h)

  wanted_is : (h : Home) (row : Row) (kind : ℕ) → row_at u.tables h ≡ Some row → wanted_at h kind ≡ find nat_cmp kind (cells_for row)
  wanted_is h row kind at = ap (option_and_then (λ (row : Row). find nat_cmp kind (cells_for row))) at

  written_to : (x : Write) → Contains (cells_of_all (changes_of u rule)) x → IsWrittenTo u.tables ss x
  written_to x h =
      let c = from_flat_map cells_of (changes_of u rule) x h in
      let r = from_map (change_of ss) (matching_rows u rule.filter) c.0 c.1.0 in
      let m = listed_row u rule.filter r.0 r.1.0 in
      let v = from_map (λ (v : ℕ × Value). (r.0.entity, v)) (cells_for r.0) x (subst (λ (z : RowChange). Contains (cells_of z) x) (sym r.1.1) c.1.1) in
      let cells = row_written u.schema m.home.mask r.0 ss (valid.rows.each m.home r.0 m.there).fits in
      record {
        row = r.0;
        home = m.home;
        there = m.there;
        same = ap (λ (z : Write). z.0) v.1.1;
        found = subst (λ (z : Write). find nat_cmp z.1.0 (cells_for r.0) ≡ Some z.1.1) v.1.1 (entry_found (cells_for r.0) v.0.0 v.0.1 cells.good.ascending v.1.0);
      }

  writes_wanted : (x : Write) → Contains (cells_of_all (changes_of u rule)) x → IsWantedIn wanted_at u x
  writes_wanted x h =
      let k = written_to x h in
      record { home = k.home; can = can_write u ss valid x k; is = wanted_is k.home k.row x.1.0 k.there ∙ k.found }

  -- the world after them
  pub system_written : AreWritten wanted_at u (cells_of_all (changes_of u rule))
  system_written = written_in_turn wanted_at u (cells_of_all (changes_of u rule)) valid writes_wanted

  -- kinds that the system doesn't write stay as they are
  pub unwritten_alike : (on : ℕ → Bool) → ((kind : ℕ) → writes rule kind ≡ true → on kind ≡ false) → AreTablesAlike on system_written.tables u.tables
  unwritten_alike on off = system_written.alike on (λ x h.
      let k = written_to x h in
      let cells = row_written u.schema k.home.mask k.row ss (valid.rows.each k.home k.row k.there).fits in
      off x.1.0 (sym (written_steps rule.steps x.1.0) ∙ cells.written x.1.0 x.1.1 k.found))

  -- a kind of a row that matches, after the writes
  value_after : (h : Home) (row after : Row) (kind : ℕ) (o : Option Value) → is_match rule.filter h.mask ≡ true → row_at u.tables h ≡ Some row → row_at system_written.tables h ≡ Some after
      → find nat_cmp kind (cells_for row) ≡ o → find nat_cmp kind (values_of after) ≡ option_or o (find nat_cmp kind (values_of row))
  value_after h row after kind (Some v) is at now found =
      let write : Contains (cells_of (change_of ss row)) (row.entity, (kind, v)) = in_map (λ (v : ℕ × Value). (row.entity, v)) (cells_for row) (kind, v) (row.entity, (kind, v)) (entry_in (cells_for row) kind v found) refl in
      let all = in_flat_map cells_of (changes_of u rule) (change_of ss row) (row.entity, (kind, v))
      (in_map (change_of ss) (matching_rows u rule.filter) row (change_of ss row) (row_listed u rule.filter h row at is) refl) write in
      read_at system_written.tables h after kind (Some v) now (system_written.made (row.entity, (kind, v)) all h row at refl (wanted_is h row kind at ∙ found))
  value_after h row after kind None is at now found =
      read_at system_written.tables h after kind (find nat_cmp kind (values_of row)) now
      (system_written.stays h kind (find nat_cmp kind (values_of row)) (record { row = row; there = at; value = refl })
      (λ v t. absurd (let wrong : ◌≡◌ {A = Option Value} None (Some v) = sym (wanted_is h row kind at ∙ found) ∙ t in cc)))

-- ---- numbers that are 0

zero_of : (o : Option Cell) → is_zero o ≡ zero_or (option_map (λ (c : Cell). c.value) o) false
zero_of None = refl
zero_of (Some c) = refl

-- whether a row's number is 0, by its values
zero_value : (row : Row) (kind : ℕ) → is_zero (cell_of row.cells kind) ≡ zero_or (find nat_cmp kind (values_of row)) false
zero_value row kind = zero_of (cell_of row.cells kind) ∙ ap (λ o. zero_or o false) (sym (value_found row.cells kind))

zero_after : (o p : Option Value) → zero_or (option_or o p) false ≡ zero_or o (zero_or p false)
zero_after None p = refl
zero_after (Some v) p = refl

-- what the world reads of a row's number
zero_in : (schema : Kinds) (mask : ℕ) (h : Home) (row : Row) (kind : ℕ) → IsRowOf schema mask row → is_zero_in (component_in schema kind (Some (h, row))) ≡ is_zero (cell_of row.cells kind)
zero_in schema mask h row kind fits =
    elim (cell_of row.cells kind) as (λ o. cell_of row.cells kind ≡ o → is_zero_in (if is_unknown schema kind then Err (refusal_of NoSuchKind) else present o) ≡ is_zero o) [
      | None ↦ λ e. elim (is_unknown schema kind) as (λ b. is_zero_in (if b then Err (refusal_of NoSuchKind) else present None) ≡ false) [ true ↦ refl | false ↦ refl ]
      | Some c ↦ λ e.
          let fit = found_passes (λ (c : ℕ × Cell). fits_kind schema c.1.value c.0) row.cells kind c fits.shapes e in
          ap (λ b. is_zero_in (if not b then Err (refusal_of NoSuchKind) else Ok c)) (lt-ltb kind (length schema) (fits_known schema c.value kind fit))
    ] refl

zero_in_world : (w : World) (h : Home) (row : Row) (kind : ℕ) → IsValid w → row_at w.tables h ≡ Some row → is_zero_in (component_of w row.entity kind) ≡ zero_or (find nat_cmp kind (values_of row)) false
zero_in_world w h row kind valid at =
    ap (λ o. is_zero_in (component_in w.schema kind o)) (row_stands w row.entity h row valid.rows.once at refl)
    ∙ zero_in w.schema h.mask h row kind (valid.rows.each h row at).fits ∙ zero_value row kind

-- ---- queues

-- a row after the writes, and what was made of it: of one entity, and the same numbers are 0
record IsQueuedAlike (on : ℕ → Bool) (w : World) (row : Row) (change : RowChange) : Type 0 where
  entity : row.entity ≡ change.entity
  zero : (kind : ℕ) → on kind ≡ true → is_zero (cell_of row.cells kind) ≡ is_zero_after w kind change

despawns_alike : (on : ℕ → Bool) (w : World) (kind : ℕ) (rows : List Row) (changes : List RowChange) → on kind ≡ true → AllZip (IsQueuedAlike on w) rows changes
    → despawns kind rows ≡ despawns_after w kind changes
despawns_alike on w kind [] [] t h = refl
despawns_alike on w kind [] (c ∷ cs) t h = absurd h
despawns_alike on w kind (r ∷ rs) [] t h = absurd h
despawns_alike on w kind (r ∷ rs) (c ∷ cs) t h =
    let rest = despawns_alike on w kind rs cs t h.1 in
    let kept = filter (λ (row : Row). is_zero (cell_of row.cells kind)) rs in
    let left = filter (is_zero_after w kind) cs in
    let to_row = λ (row : Row). DespawnAllIfAlive (Id row.entity) in
    let to_change = λ (c : RowChange). DespawnAllIfAlive (Id c.entity) in
    ap (λ b. map to_row (cond b (r ∷ kept) kept)) (h.0.zero kind t)
    ∙ elim (is_zero_after w kind c) as (λ b. map to_row (cond b (r ∷ kept) kept) ≡ map to_change (cond b (c ∷ left) left)) [
      | true ↦ λ i. DespawnAllIfAlive (Id (h.0.entity i)) ∷ rest i
      | false ↦ rest
    ]

children_alike : (on : ℕ → Bool) (w : World) (spawned : ℕ) (cells : List (ℕ × Value)) (rows : List Row) (changes : List RowChange) → AllZip (IsQueuedAlike on w) rows changes
    → children_of_rows spawned cells rows ≡ children_after spawned cells changes
children_alike on w spawned cells [] [] h = refl
children_alike on w spawned cells [] (c ∷ cs) h = absurd h
children_alike on w spawned cells (r ∷ rs) [] h = absurd h
children_alike on w spawned cells (r ∷ rs) (c ∷ cs) h =
    λ i. Spawn cells ∷ SetParent (New spawned) (Id (h.0.entity i)) ∷ children_alike on w (spawned + 1) cells rs cs h.1 i

commands_alike : (on : ℕ → Bool) (w : World) (steps : List Step) (spawned : ℕ) (rows : List Row) (changes : List RowChange)
    → ((kind : ℕ) → list_any (step_touches kind) steps ≡ true → on kind ≡ true) → AllZip (IsQueuedAlike on w) rows changes
    → commands_from spawned steps rows ≡ commands_after w spawned steps changes
commands_alike on w [] spawned rows changes c h = refl
commands_alike on w (Writing s ∷ ss) spawned rows changes c h =
    commands_alike on w ss spawned rows changes (λ kind t. c kind (or_right (step_touches kind (Writing s)) (list_any (step_touches kind) ss) t)) h
commands_alike on w (DespawnAtZero of ∷ ss) spawned rows changes c h =
    let rest = commands_alike on w ss spawned rows changes (λ kind t. c kind (or_right (nat_eq of kind) (list_any (step_touches kind) ss) t)) h in
    let first = despawns_alike on w of rows changes (c of (or_left (nat_eq of of) (list_any (step_touches of) ss) (eq-eqb of of refl))) h in
    λ i. first i ++ rest i
commands_alike on w (SpawnChild cells ∷ ss) spawned rows changes c h =
    let rest = commands_alike on w ss (spawned + length changes) rows changes c h in
    let long = AllZip-long (IsQueuedAlike on w) rows changes h in
    let first = children_alike on w spawned cells rows changes h in
    ap (λ n. children_of_rows spawned cells rows ++ commands_from (spawned + n) ss rows) (sym long) ∙ (λ i. first i ++ rest i)
commands_alike on w (CountInto name ∷ ss) spawned rows changes c h =
    let rest = commands_alike on w ss spawned rows changes c h in
    let long = AllZip-long (IsQueuedAlike on w) rows changes h in
    λ i. PutResource name (Int (pos (sym long i))) ∷ rest i

-- ---- a system

module _ (u w : World) (rule : SystemRule) (valid : IsValid u) (opening : IsValid w) (a : AreTablesAlike (touches rule) u.tables w.tables) where
  abbrev made_tables : Tables
  made_tables = (system_written u rule valid).tables

  -- the world after the system
  abbrev pub made_world : World
  made_world = with_tables u made_tables

  zero_alike : (h : Home) (row was opened : Row) (kind : ℕ) → is_match rule.filter h.mask ≡ true → row_at made_tables h ≡ Some row → row_at u.tables h ≡ Some was
      → row_at w.tables h ≡ Some opened → IsRowAlike (touches rule) was opened → touches rule kind ≡ true
      → is_zero (cell_of row.cells kind) ≡ is_zero_after w kind (change_of (row_steps rule.steps) opened)
  zero_alike h row was opened kind is now at at_opening alike t =
      let cells : cells_by (row_steps rule.steps) was ≡ cells_by (row_steps rule.steps) opened =
      ap (λ (c : RowChange). written_of c.outcome) (change_alike (touches rule) (row_steps rule.steps) was opened (steps_on (touches rule) rule.steps (λ k s. s)) alike) in
      let found = find nat_cmp kind (cells_by (row_steps rule.steps) was) in
      zero_value row kind
      ∙ ap (λ o. zero_or o false) (value_after u rule valid h was row kind found is at now refl)
      ∙ zero_after found (find nat_cmp kind (values_of was))
      ∙ ap (λ o. zero_or found (zero_or o false)) (alike_found (touches rule) kind (values_of was) (values_of opened) t (row_values (touches rule) was opened alike))
      ∙ ap (zero_or found) (sym (zero_in_world w h opened kind opening at_opening))
      ∙ ap (λ cs. zero_or (find nat_cmp kind cs) (is_zero_in (component_of w opened.entity kind))) cells

  made_unseen : AreTablesAlike (λ k. false) made_tables u.tables
  made_unseen = unwritten_alike u rule valid (λ k. false) (λ kind t. refl)

  made_over : AreTablesAlike (λ k. false) made_tables w.tables
  made_over = tables_over (λ k. false) made_tables u.tables w.tables made_unseen
      (tables_weaker (touches rule) (λ k. false) u.tables w.tables (λ kind t. absurd (let wrong : false ≡ true = t in cc)) a)

  row_queued : (mask : KindSet) → is_match rule.filter mask ≡ true → (i : ℕ) (row opened : Row) → slice_get (rows_at made_tables mask) i ≡ Some row → slice_get (rows_at w.tables mask) i ≡ Some opened
      → IsRowAlike (λ k. false) row opened → IsQueuedAlike (touches rule) w row (change_of (row_steps rule.steps) opened)
  row_queued mask is i row opened now at_opening alike =
      let h : Home = record { mask = mask; place = i } in
      let was = home_alike (λ k. false) made_tables u.tables h row made_unseen now in
      let other = home_alike (touches rule) u.tables w.tables h was.0 a was.1.0 in
      let same : other.0 ≡ opened = same_Some other.0 opened (sym other.1.0 ∙ at_opening) in
      record {
        entity = alike.entity;
        zero = λ kind t. zero_alike h row was.0 opened kind is now was.1.0 at_opening (subst (IsRowAlike (touches rule) was.0) same other.1.1) t;
      }

  rows_queued : AllZip (IsQueuedAlike (touches rule) w) (matching_rows made_world rule.filter) (changes_of w rule)
  rows_queued =
      let made = λ (row : Row). change_of (row_steps rule.steps) row in
      zip_mapped (IsQueuedAlike (touches rule) w) made (matching_rows made_world rule.filter) (matching_rows w rule.filter)
      (matching_alike (λ x y. IsQueuedAlike (touches rule) w x (made y)) made_world w rule.filter made_over.masks
      (λ mask is. zip_places (IsRowAlike (λ k. false)) (λ x y. IsQueuedAlike (touches rule) w x (made y)) (rows_at made_tables mask) (rows_at w.tables mask) (row_queued mask is) (made_over.rows mask)))

  -- in its turn the system makes what it makes of the opening world
  pub system_made : (at : ℕ) → system perform (λ v. v) at rule u ≡ unless_over at (first_fault (changes_of w rule)) (Ok (output_of w rule, made_world))
  system_made at =
      let same = changes_alike u w rule a in
      let queued : queued_by made_world rule ≡ commands_after w 0 rule.steps (changes_of w rule) =
      commands_alike (touches rule) w rule.steps 0 (matching_rows made_world rule.filter) (changes_of w rule) (λ kind t. t) rows_queued in
      ap (λ o. unless_over at (first_fault (changes_of u rule)) (and_then o (λ es t. Ok (record { rows = changes_of u rule; commands = queued_by t rule }, t))))
      (queue_accepted (wanted_at u rule valid) u at (changes_of u rule) (system_written u rule valid))
      ∙ (λ i. unless_over at (first_fault (same i)) (Ok (record { rows = same i; commands = queued i }, made_world)))
