-- What a system writes table by table is what it writes row by row.
use Rattle.std.proofs.Common.{◌≡◌, ◌<◌, ℕ, zero, suc, ◌+◌, true, false, cond, List, [], ◌∷◌, ◌++◌, append-nil, length, get_or, take, drop, map, refl, ap, subst, sym, ◌∙◌, arith, nat_eq, Option, Some, None, Ok}
use Rattle.std.specs.Prelude.{All, ⊤, Result, Err, IsSome, option_and_then}
use Rattle.std.specs.Option.{option_or}
use Rattle.std.specs.List.{Contains, filter, flat_map}
use Rattle.std.specs.Ordering.{nat_cmp}
use Rattle.std.specs.FinMap.Entries.{find}
use Rattle.std.proofs.lemmas.Bool.{eqb-true, eq-eqb}
use Rattle.std.proofs.lemmas.Grind.{flat_map-append}
use Rattle.std.proofs.lemmas.List.{map-append, take_more, take-append-drop, drop_more}
use Rattle.std.proofs.lemmas.List.Elements.{All-contains}
use Rattle.std.proofs.lemmas.Simd.{map-map}
use Rattle.scene_kinds.specs.declared.cells.Row.{Row}
use Rattle.scene_kinds.specs.declared.entity.Entity.{Entity}
use Rattle.scene_kinds.specs.declared.refusal.Refusal.{Refusal}
use Rattle.scene_kinds.specs.declared.value.Value.{Value}
use Rattle.scene_kinds.specs.Answers.{Outcome}
use Rattle.scene_kinds.specs.KindSet.{KindSet}
use Rattle.scene_kinds.specs.Schema.{Kinds}
use Rattle.scene_table.specs.declared.home.Home.{Home}
use Rattle.scene_table.specs.declared.row_step.RowStep.{RowStep}
use Rattle.scene_table.specs.RowStep.{is_written}
use Rattle.scene_table.specs.Runs.{written_of as values_of_result, written_values}
use Rattle.scene_table.specs.Tables.{row_at, rows_at}
use Rattle.scene_model.specs.World.{World, kind_sets}
use Rattle.scene_model.specs.Commands.{and_then, insert}
use Rattle.scene_model.specs.Perform.{Command, Insert, answering, perform}
use Rattle.scene_model.specs.Valid.{IsValid}
use Rattle.scene_model.proofs.MoveKeeps.{with_tables}
use Rattle.scene_machine.specs.Queue.{play, play_from, reached, unless_refused, whole}
use Rattle.scene_machine.specs.Frame.{queue}
use Rattle.scene_queue.proofs.Worlds.{whole_world}
use Rattle.scene_world.specs.Stage.{Staged, Note, act, noting}
use Rattle.scene_world.specs.Written.{FitAll, HasKindsOf, acted, inserts, inserts_of}
use Rattle.scene_systems.specs.declared.filter.Filter.{Filter}
use Rattle.scene_systems.specs.declared.system_rule.SystemRule.{SystemRule}
use Rattle.scene_systems.specs.Filter.{is_match}
use Rattle.scene_pass.specs.declared.row_change.RowChange.{RowChange}
use Rattle.scene_pass.specs.declared.row_change.Outcome.{Outcome as RowOutcome}
use Rattle.scene_pass.specs.declared.row_change.Outcome.TheVariants.{Changed, Overflow as SumsOver}
use Rattle.scene_pass.specs.Pass.{rows_in}
use Rattle.scene_pass.specs.Changes.{Values, after_steps, change_of, fault_or, first_fault, outcome_of, values_of}
use Rattle.scene_pass.proofs.Members.{first_in, from_flat_map, from_map, in_cases, place_of, rest_in}
use Rattle.scene_schedule.specs.Systems.{changes_of, row_steps, writes_of, writes_of_row}
use Rattle.scene_schedule.specs.TableWrites.{AreOnce, OverflowsAs, WroteOn, changes_at, changes_in, sets_of}
use Rattle.scene_schedule.proofs.Entries.{entry_found}
use Rattle.scene_schedule.proofs.GoodChanges.{row_written}
use Rattle.scene_schedule.proofs.Schemas.{Keeps, queue_keeps}
use Rattle.scene_schedule.proofs.StagedSystems.{same_answer}
use Rattle.scene_schedule.proofs.SystemWrites.{IsWrittenTo, can_write, cells_by}
use Rattle.scene_schedule.proofs.Writes.{one_then_other}
use Rattle.scene_schedule.proofs.WrittenRows.{AreWritten, IsWantedIn, Wanted, Write, cells_of, cells_of_all, queue_accepted, request_of, writes_are, written_in_turn}

-- ---- changes one after another

-- the first sum of two lists of changes that doesn't fit
pub fault_of_both : (xs ys : List RowChange) → first_fault (xs ++ ys) ≡ option_or (first_fault xs) (first_fault ys)
fault_of_both [] ys = refl
fault_of_both (c ∷ cs) ys = from c.outcome (fault_of_both cs ys)
  where
    from : (o : RowOutcome) → first_fault (cs ++ ys) ≡ option_or (first_fault cs) (first_fault ys)
        → fault_or c.entity o (first_fault (cs ++ ys)) ≡ option_or (fault_or c.entity o (first_fault cs)) (first_fault ys)
    from (Changed cells) h = h
    from (SumsOver at) h = refl

-- changes of which all fit, and others
pub wrote_both : {N : Type 0} (note : Note N) (xs ys : List RowChange) (s t u : Staged N) → WroteOn note xs s t → WroteOn note ys t u → WroteOn note (xs ++ ys) s u
wrote_both note xs ys s t u h g = record {
  fit = fault_of_both xs ys ∙ ap (λ o. option_or o (first_fault ys)) h.fit ∙ g.fit;
  wrote =
      ap (λ rs. play (act note) rs s) (flat_map-append writes_of_row xs ys)
      ∙ one_then_other (act note) (writes_of xs) (writes_of ys) 0 0 (reached s []) (reached t []) (reached u []) h.wrote g.wrote;
}

-- the first sum that doesn't fit is behind changes that fit
pub over_behind : (xs ys zs : List RowChange) (at : ℕ) (r : Refusal) → first_fault xs ≡ None → OverflowsAs ys at r → OverflowsAs (xs ++ (ys ++ zs)) at r
over_behind xs ys zs at r fit h = record {
  over = h.over;
  first =
      fault_of_both xs (ys ++ zs) ∙ ap (λ o. option_or o (first_fault (ys ++ zs))) fit ∙ fault_of_both ys zs
      ∙ ap (λ o. option_or o (first_fault zs)) h.first;
  refused = h.refused;
}

-- the changes of one more kind set
pub one_more_set : (w : World) (ss : List RowStep) (sets : List KindSet) (i : ℕ) (mask : KindSet) → i < length sets → mask ≡ get_or sets i mask
    → changes_in w ss (take (i + 1) sets) ≡ changes_in w ss (take i sets) ++ changes_at w ss mask
one_more_set w ss sets i mask lt is =
    ap (changes_in w ss) (take_more sets i mask lt)
    ∙ flat_map-append (changes_at w ss) (take i sets) (get_or sets i mask ∷ [])
    ∙ ap (λ cs. changes_in w ss (take i sets) ++ cs) (append-nil (changes_at w ss (get_or sets i mask)))
    ∙ ap (λ m. changes_in w ss (take i sets) ++ changes_at w ss m) (sym is)

-- those of a kind set between others
pub sets_around : (w : World) (ss : List RowStep) (sets : List KindSet) (i : ℕ) (mask : KindSet) → i < length sets → mask ≡ get_or sets i mask
    → changes_in w ss sets ≡ changes_in w ss (take i sets) ++ (changes_at w ss mask ++ changes_in w ss (drop (i + 1) sets))
sets_around w ss sets i mask lt is =
    ap (changes_in w ss) (sym (take-append-drop i sets) ∙ ap (λ ms. take i sets ++ ms) (drop_more sets i mask lt))
    ∙ flat_map-append (changes_at w ss) (take i sets) (get_or sets i mask ∷ drop (i + 1) sets)
    ∙ ap (λ m. changes_in w ss (take i sets) ++ (changes_at w ss m ++ changes_in w ss (drop (i + 1) sets))) (sym is)

-- those of the kind sets that a filter matches are those of the rows that it matches
pub matching_sets : (w : World) (f : Filter) (ss : List RowStep) (sets : List KindSet) → changes_in w ss (filter (is_match f) sets) ≡ map (change_of ss) (flat_map (rows_in w f) sets)
matching_sets w f ss [] = refl
matching_sets w f ss (mask ∷ sets) =
    let rest = matching_sets w f ss sets in
    let left = filter (is_match f) sets in
    let rows = flat_map (rows_in w f) sets in
    elim (is_match f mask) as (λ b. changes_in w ss (cond b (mask ∷ left) left) ≡ map (change_of ss) (cond b (rows_at w.tables mask) [] ++ rows)) [
      | true ↦ ap (λ cs. changes_at w ss mask ++ cs) rest ∙ sym (map-append (change_of ss) (rows_at w.tables mask) rows)
      | false ↦ rest
    ]

pub matching_tables : (w : World) (rule : SystemRule) → changes_in w (row_steps rule.steps) (sets_of w rule) ≡ changes_of w rule
matching_tables w rule = matching_sets w rule.filter (row_steps rule.steps) (kind_sets w)

-- a kind set that is listed isn't among those before it
pub not_before : (sets : List KindSet) (i : ℕ) (mask : KindSet) → AreOnce sets → i < length sets → mask ≡ get_or sets i mask → Contains (take i sets) mask → ⊥
not_before [] i mask once lt is h = omega arith
not_before (m ∷ ms) zero mask once lt is h = let wrong : h.0 < 0 = h.1 in omega arith
not_before (m ∷ ms) (suc i) mask once lt is h =
    in_cases m (take i ms) mask h
    (λ e. once.0 (subst (Contains ms) (sym e) (i, omega arith, sym is)))
    (λ r. not_before ms i mask once.1 (omega arith) is r)

-- ---- inserts one after another

abbrev insert_of : Write → Command
insert_of x = Insert x.0 x.1.0 x.1.1

module _ {N : Type 0} (note : Note N) where
  -- inserts that are all accepted are a queue that is accepted, which spawns nothing
  acted_played : (xs : List Write) (i : ℕ) (s t : Staged N) → acted (act note) (map insert_of xs) s ≡ Ok (tt, t)
      → play_from (act note) i (map request_of xs) (reached s []) ≡ whole (reached t [])
  acted_played [] i s t h = let same : (tt, s) ≡ (tt, t) = same_answer (tt, s) (tt, t) h in ap (λ (p : ⊤ × Staged N). whole (reached p.1 [])) same
  acted_played (x ∷ xs) i s t h = from (insert s.world x.0 x.1.0 x.1.1) (λ u g. acted_played xs (i + 1) u t g) h
    where
      from : (o : Outcome (Unit {0}) World)
          → ((u : Staged N) → acted (act note) (map insert_of xs) u ≡ Ok (tt, t) → play_from (act note) (i + 1) (map request_of xs) (reached u []) ≡ whole (reached t []))
          → and_then (answering {B = Option Entity} (λ a. None) (noting s (note s.world (insert_of x)) o)) (λ e u. acted (act note) (map insert_of xs) u) ≡ Ok (tt, t)
          → unless_refused i (reached s []) (answering (λ a. None) (noting s (note s.world (insert_of x)) o)) (play_from (act note) (i + 1) (map request_of xs)) ≡ whole (reached t [])
      from (Ok p) later g = later (record { world = p.1; notes = s.notes ++ note s.world (insert_of x) }) g
      from (Err r) later g = absurd (let wrong : Err r ≡ Ok (tt, t) = g in cc)

-- what steps make of a row, as inserts
row_inserts : (ss : List RowStep) (row : Row) → inserts_of row.entity (written_values ss row) ≡ map insert_of (cells_of (change_of ss row))
row_inserts ss row = from (after_steps 0 ss (values_of row))
  where
    from : (r : Result Values ℕ) → inserts_of row.entity (values_of_result ss r) ≡ map insert_of (cells_of (record { entity = row.entity; outcome = outcome_of ss r }))
    from (Ok values) = sym (map-map insert_of (λ (c : ℕ × Value). (row.entity, c)) (filter (λ (v : ℕ × Value). is_written ss v.0) values))
    from (Err at) = refl

rows_inserts : (ss : List RowStep) (rows : List Row) → flat_map (λ row. inserts_of row.entity (written_values ss row)) rows ≡ map insert_of (cells_of_all (map (change_of ss) rows))
rows_inserts ss [] = refl
rows_inserts ss (row ∷ rows) =
    (λ i. row_inserts ss row i ++ rows_inserts ss rows i) ∙ sym (map-append insert_of (cells_of (change_of ss row)) (cells_of_all (map (change_of ss) rows)))

-- rows of which all sums fit
rows_fit : (ss : List RowStep) (rows : List Row) → ((row : Row) → Contains rows row → IsSome (written_values ss row)) → first_fault (map (change_of ss) rows) ≡ None
rows_fit ss [] each = refl
rows_fit ss (row ∷ rows) each =
    from (after_steps 0 ss (values_of row)) (each row (first_in row rows)) (rows_fit ss rows (λ r h. each r (rest_in row rows r h)))
  where
    from : (r : Result Values ℕ) → IsSome (values_of_result ss r) → first_fault (map (change_of ss) rows) ≡ None
        → fault_or row.entity (outcome_of ss r) (first_fault (map (change_of ss) rows)) ≡ None
    from (Ok values) some rest = rest
    from (Err at) some rest = absurd (let wrong : false ≡ true = some in cc)

rows_wrote : {N : Type 0} (note : Note N) (ss : List RowStep) (rows : List Row) (s t : Staged N) → FitAll ss rows
    → acted (act note) (flat_map (λ row. inserts_of row.entity (written_values ss row)) rows) s ≡ Ok (tt, t) → WroteOn note (map (change_of ss) rows) s t
rows_wrote note ss rows s t fit h = record {
  fit = rows_fit ss rows (λ row there. All-contains (λ (row : Row). IsSome (written_values ss row)) rows row fit there);
  wrote =
      ap (λ rs. play (act note) rs s) (writes_are (map (change_of ss) rows))
      ∙ acted_played note (cells_of_all (map (change_of ss) rows)) 0 s t (ap (λ cs. acted (act note) cs s) (sym (rows_inserts ss rows)) ∙ h);
}

-- the table of a kind set, whose rows are as they were in another world
pub table_wrote : {N : Type 0} (note : Note N) (w : World) (ss : List RowStep) (mask : KindSet) (s t : Staged N) → rows_at s.world.tables mask ≡ rows_at w.tables mask
    → FitAll ss (rows_at s.world.tables mask) → acted (act note) (inserts s.world mask ss) s ≡ Ok (tt, t) → WroteOn note (changes_at w ss mask) s t
table_wrote note w ss mask s t same fit h =
    subst (λ (rows : List Row). WroteOn note (map (change_of ss) rows) s t) same (rows_wrote note ss (rows_at s.world.tables mask) s t fit h)

-- ---- the rows of other kind sets

module _ (w : World) (ss : List RowStep) (done : List KindSet) (valid : IsValid w) (mask : KindSet) (out : Contains done mask → ⊥) where
  -- what is wanted at a home of another kind set
  abbrev wanted_but : Wanted
  wanted_but h kind = cond (nat_eq h.mask mask) None (option_and_then (λ (row : Row). find nat_cmp kind (cells_by ss row)) (row_at w.tables h))

  written_to : (x : Write) → Contains (cells_of_all (changes_in w ss done)) x → (k : IsWrittenTo w.tables ss x) × Contains done k.home.mask
  written_to x h =
      let c = from_flat_map cells_of (changes_in w ss done) x h in
      let m = from_flat_map (changes_at w ss) done c.0 c.1.0 in
      let r = from_map (change_of ss) (rows_at w.tables m.0) c.0 m.1.1 in
      let p = place_of (rows_at w.tables m.0) r.0 r.1.0 in
      let home : Home = record { mask = m.0; place = p.0 } in
      let v = from_map (λ (v : ℕ × Value). (r.0.entity, v)) (cells_by ss r.0) x (subst (λ (z : RowChange). Contains (cells_of z) x) (sym r.1.1) c.1.1) in
      let cells = row_written w.schema m.0 r.0 ss (valid.rows.each home r.0 p.1).fits in (
        record {
          row = r.0;
          home = home;
          there = p.1;
          same = ap (λ (z : Write). z.0) v.1.1;
          found = subst (λ (z : Write). find nat_cmp z.1.0 (cells_by ss r.0) ≡ Some z.1.1) v.1.1 (entry_found (cells_by ss r.0) v.0.0 v.0.1 cells.good.ascending v.1.0);
        },
        m.1.0,
      )

  writes_wanted : (x : Write) → Contains (cells_of_all (changes_in w ss done)) x → IsWantedIn wanted_but w x
  writes_wanted x h =
      let k = written_to x h in
      let found = λ (o : Option Row). option_and_then (λ (row : Row). find nat_cmp x.1.0 (cells_by ss row)) o in
      record {
        home = k.0.home;
        can = can_write w ss valid x k.0;
        is = elim (nat_eq k.0.home.mask mask) as (λ b. nat_eq k.0.home.mask mask ≡ b → cond b None (found (row_at w.tables k.0.home)) ≡ Some x.1.1) [
          | true ↦ λ e. absurd (out (subst (Contains done) (eqb-true k.0.home.mask mask e) k.1))
          | false ↦ λ e. ap found k.0.there ∙ k.0.found
        ] refl;
      }

  all_written : AreWritten wanted_but w (cells_of_all (changes_in w ss done))
  all_written = written_in_turn wanted_but w (cells_of_all (changes_in w ss done)) valid writes_wanted

  none_wanted : (h : Home) (kind : ℕ) (v : Value) → wanted_but h kind ≡ Some v → h.mask ≡ mask → ⊥
  none_wanted h kind v is e =
      let found = option_and_then (λ (row : Row). find nat_cmp kind (cells_by ss row)) (row_at w.tables h) in
      let here : cond (nat_eq mask mask) None found ≡ Some v = ap (λ m. cond (nat_eq m mask) None found) (sym e) ∙ is in
      let wrong : None ≡ Some v = ap (λ b. cond b None found) (sym (eq-eqb mask mask refl)) ∙ here in absurd (cc)

  rows_as_before : rows_at all_written.tables mask ≡ rows_at w.tables mask
  rows_as_before = all_written.elsewhere mask none_wanted

-- the world of a stage on which changes were written
wrote_world : {N : Type 0} (note : Note N) (changes : List RowChange) (s t : Staged N) → WroteOn note changes s t → queue perform 0 (writes_of changes) s.world ≡ Ok ([], t.world)
wrote_world note changes s t h = whole_world note (writes_of changes) s t [] h.wrote

-- writing to kind sets leaves the rows of every other one as they were
pub rows_stay : {N : Type 0} (note : Note N) (ss : List RowStep) (done : List KindSet) (s t : Staged N) (mask : KindSet) → IsValid s.world → WroteOn note (changes_in s.world ss done) s t
    → (Contains done mask → ⊥) → rows_at t.world.tables mask ≡ rows_at s.world.tables mask
rows_stay note ss done s t mask valid h out =
    let changes = changes_in s.world ss done in
    let a = all_written s.world ss done valid mask out in
    let accepted = queue_accepted (wanted_but s.world ss done valid mask out) s.world 0 changes a in
    let same : ([], t.world) ≡ ([], with_tables s.world a.tables) = same_answer ([], t.world) ([], with_tables s.world a.tables) (sym (wrote_world note changes s t h) ∙ accepted) in
    ap (λ (p : List Entity × World). rows_at p.1.tables mask) same ∙ rows_as_before s.world ss done valid mask out

-- and the kinds
pub schema_stays : {N : Type 0} (note : Note N) (changes : List RowChange) (s t : Staged N) → WroteOn note changes s t → t.world.schema ≡ s.world.schema
schema_stays note changes s t h = (subst (Keeps s.world.schema) (wrote_world note changes s t h) (queue_keeps 0 (writes_of changes) s.world)).same

-- ---- one table after another

-- the tables before a place were written, and now the one there is
module _ {N : Type 0} (note : Note N) (ss : List RowStep) (sets : List KindSet) (s t : Staged N) (i : ℕ) (mask : KindSet) (valid : IsValid s.world) (once : AreOnce sets)
    (lt : i < length sets) (is : mask ≡ get_or sets i mask) (wrote : WroteOn note (changes_in s.world ss (take i sets)) s t) where
  still_there : rows_at t.world.tables mask ≡ rows_at s.world.tables mask
  still_there = rows_stay note ss (take i sets) s t mask valid wrote (not_before sets i mask once lt is)

  -- its rows still have the kinds that the steps name
  pub still_ready : ((mask : KindSet) → Contains sets mask → All (λ (row : Row). HasKindsOf s.world.schema ss row) (rows_at s.world.tables mask))
      → All (λ (row : Row). HasKindsOf t.world.schema ss row) (rows_at t.world.tables mask)
  still_ready each =
      subst (λ (rows : List Row). All (λ (row : Row). HasKindsOf t.world.schema ss row) rows) (sym still_there)
      (subst (λ (kinds : Kinds). All (λ (row : Row). HasKindsOf kinds ss row) (rows_at s.world.tables mask)) (sym (schema_stays note (changes_in s.world ss (take i sets)) s t wrote))
      (each mask (i, lt, sym is)))

  -- it is written
  pub one_more_table : (u : Staged N) → FitAll ss (rows_at t.world.tables mask) → acted (act note) (inserts t.world mask ss) t ≡ Ok (tt, u)
      → WroteOn note (changes_in s.world ss (take (i + 1) sets)) s u
  one_more_table u fit h =
      subst (λ (cs : List RowChange). WroteOn note cs s u) (sym (one_more_set s.world ss sets i mask lt is))
      (wrote_both note (changes_in s.world ss (take i sets)) (changes_at s.world ss mask) s t u wrote (table_wrote note s.world ss mask t u still_there fit h))

  -- or a sum of its rows doesn't fit
  pub table_over : (at : ℕ) (r : Refusal) → OverflowsAs (changes_at t.world ss mask) at r → OverflowsAs (changes_in s.world ss sets) at r
  table_over at r h =
      subst (λ (cs : List RowChange). OverflowsAs cs at r) (sym (sets_around s.world ss sets i mask lt is))
      (over_behind (changes_in s.world ss (take i sets)) (changes_at s.world ss mask) (changes_in s.world ss (drop (i + 1) sets)) at r wrote.fit
      (subst (λ (rows : List Row). OverflowsAs (map (change_of ss) rows) at r) still_there h))
