-- Runs that may be gone on with at once, and what a turn leaves of them.
use Rattle.std.proofs.Common.{◌≡◌, ◌≢◌, ◌<◌, ◌≤◌, ◌+◌, ℕ, zero, suc, ℤ, pos, ◌+ℤ◌, Bool, true, false, cond, not, List, [], ◌∷◌, length, get_or, refl, ap, sym, subst, ◌∙◌, arith, Option}
use Rattle.std.specs.Prelude.{All, IfSome, ◌&&◌, ◌||◌, ◌^◌, nat_eq, nat_lt, slice_get, slice_set, slice_index_or}
use Rattle.std.specs.List.{SwappedAt}
use Rattle.std.proofs.lemmas.Bool.{lt-ltb}
use Rattle.std.proofs.Math.ListN.{set}
use Rattle.std.specs.Ordering.{nat_cmp, eq_by_cmp}
use Rattle.std.specs.Cmp.{nat_cmp_total}
use Rattle.std.specs.FinMap.{nat_cmp-IsAntisymmetric}
use Rattle.std.proofs.lemmas.List.{get_or-set_other, get_or-set_same, length-replicate, length-set}
use Rattle.std.proofs.lemmas.List.Elements.{All-set}
use Rattle.std.proofs.lemmas.Option.{slice_get-get_or}
use Rattle.scene_kinds.specs.KindSet.{KindSet, has_kind, is_disjoint}
use Rattle.scene_kinds.proofs.Subsets.{disjoint_by_kinds, kinds_are_below}
use Rattle.std.specs.List.{AllByRecursion}
use Rattle.std.proofs.lemmas.Bool.{eqb-true}
use Rattle.scene_table.specs.RowStep.{is_written, target}
use Rattle.scene_table.specs.Table.{TableState}
use Rattle.scene_table.specs.declared.row_step.RowStep.{RowStep}
use Rattle.scene_table.specs.declared.row_step.RowStep.TheVariants.{AddVec, AddInt}
use Rattle.scene_kinds.specs.declared.cells.Row.{Row}
use Rattle.scene_kinds.proofs.Lists.{list_at_same, list_at-with_list}
use Rattle.scene_kinds.proofs.Maps.{equal_keys}
use Rattle.scene_table.specs.Runs.{AreApart, AreColumnsFor, AreLongFor, CanStep, HoldsAt, RunState, Same, Stands, columns_after, is_read, rows_after, rows_with_rows}
use Rattle.scene_table.specs.Tables.{rows_at, with_rows}
use Rattle.scene_table.proofs.TableRows.{length-rows_of}
use Rattle.scene_table.proofs.TurnCells.{columns_long}
use Rattle.scene_model.specs.RunRaw.{with_run}
use Rattle.scene_model.specs.Valid.{IsValid}
use Rattle.scene_model.proofs.RunCells.{run_written}
use Rattle.scene_model.proofs.StandingRuns.{standing_runs_can_be_put}
use Rattle.scene_table.proofs.RunFacts.{first_or_last, length-mapped}
use Rattle.scene_model.specs.World.{World}
use Rattle.scene_table.specs.LiveRuns.{AreSpared, IsLive}
use Rattle.scene_table.proofs.LiveRuns.{others_stay_live, turn_leaves_live}
use Rattle.scene_journal.specs.LiveRuns.{AreKept, IsLiveIn, IsLiveRun, IsSpared, IsTurnOf}
use Rattle.scene_journal.specs.Turns.{IsFound}
use Rattle.scene_journal.specs.declared.runs.Last.{Last}
use Rattle.scene_journal.specs.declared.runs.Runs.{Runs}
use Rattle.scene_journal.specs.declared.turns.Found.{Found}

-- what is kept of runs speaks of the tables alone
live_tables : (w v : World) (run : RunState) (turns : ℤ) (tick : ℕ) → v.tables ≡ w.tables → IsLiveRun w run turns tick → IsLiveRun v run turns tick
live_tables w v run turns tick same h = record { are = h.are; live = subst (λ t. IsLive (rows_at t run.mask) run turns tick) (sym same) h.live }

pub kept_tables : (w v : World) (r : Runs) → v.tables ≡ w.tables → AreKept w r → AreKept v r
kept_tables w v r same kept = record {
  each = λ k d l live. let last : Last = get_or r.list.items k d in live_tables w v last.run.value last.turns last.tick same (kept.each k d l live);
  flag = kept.flag;
}

-- runs over the same table of which one writes no kind that the other names
pub spared : (run other : RunState) (touched written : KindSet) → ((k : ℕ) → has_kind touched k ≡ ((is_written other.steps k || is_read other.steps k) && nat_lt k 64))
    → ((k : ℕ) → has_kind written k ≡ (is_written run.steps k && nat_lt k 64)) → ((k : ℕ) → is_written run.steps k ≡ true → k < 64) → is_disjoint touched written ≡ true → AreSpared other.steps run.steps
spared run other touched written reads writes below apart k h = elim (is_written run.steps k) as (λ b. is_written run.steps k ≡ b → b ≡ false) [
  | true ↦ λ e.
      let low : nat_lt k 64 ≡ true = lt-ltb k 64 (below k e) in
      let there : has_kind touched k ≡ true = reads k ∙ (λ i. h i && low i) in
      let none : has_kind written k ≡ false = (disjoint_by_kinds touched written).0 apart k there in
      let wrong : true ≡ false = sym (writes k ∙ (λ i. e i && low i)) ∙ none in
      absurd (cc)
  | false ↦ λ e. refl
] refl

-- runs of which two change places
pub swapped_live : (w : World) (xs ys : List Last) (i j : ℕ) (d : Last) → i < length xs → j < length xs → SwappedAt xs ys i j → All (IsLiveIn w) xs → All (IsLiveIn w) ys
swapped_live w xs ys i j d low within swap all =
    subst (All (IsLiveIn w)) (sym (swap.3 d))
    (All-set (IsLiveIn w) (slice_set xs i (slice_index_or xs j d)) j (slice_index_or xs i d) (all i d low) (All-set (IsLiveIn w) xs i (slice_index_or xs j d) (all j d within) all))

pub kept_true : (b : Bool) → not b ≡ false → b ≡ true
kept_true true h = refl
kept_true false h = absurd (let k : true ≡ false = h in cc)

pub one_all : {X : Type 0} (P : X → Type 0) (x : X) → P x → All P (x ∷ [])
one_all P x p zero d l = p
one_all P x p (suc k) d l = absurd (omega (arith, l))

-- ---- runs that are ended one after another, where a turn touches them

abbrev pub Others : RunState → World → World → Type 0
Others run w v = (x : Last) → IsSpared run x → IsLiveIn w x → IsLiveIn v x

-- those up to a number were looked at, and the others are as they were
pub record IsEnded (run : RunState) (old now : List Last) (at : ℕ) : Type 0 where
  pub count : length now ≡ length old
  pub rest : (k : ℕ) (d : Last) → at ≤ k → get_or now k d ≡ get_or old k d
  pub done : (w v : World) → Others run w v → All (IsLiveIn w) old → (k : ℕ) (d : Last) → k < at → IsLiveIn v (get_or now k d)

pub next_ended : (run : RunState) (old now new : List Last) (at : ℕ) → IsEnded run old now at → at < length now → length new ≡ length now → ((k : ℕ) (d : Last) → k ≢ at → get_or new k d ≡ get_or now k d)
    → ((w v : World) (d : Last) → Others run w v → IsLiveIn w (get_or now at d) → IsLiveIn v (get_or new at d)) → IsEnded run old new (at + 1)
next_ended run old now new at h low count others own = record {
  count = count ∙ h.count;
  rest = λ k d l. others k d (λ e. absurd (omega (arith, l, e))) ∙ h.rest k d (omega (arith, l));
  done = λ w v spares all k d l. first_or_last k at (IsLiveIn v (get_or new k d)) l
      (λ less. subst (IsLiveIn v) (sym (others k d (λ e. absurd (omega (arith, less, e))))) (h.done w v spares all k d less))
      (λ same. subst (λ n. IsLiveIn v (get_or new n d)) (sym same)
      (own w v d spares (subst (IsLiveIn w) (sym (h.rest at d (omega arith))) (all at d (omega (arith, low, h.count))))));
}

-- the one of a number is no longer live, or isn't touched
pub ended_here : (run : RunState) (old now : List Last) (at : ℕ) (x : Last) → IsEnded run old now at → at < length now → x.live ≡ false → IsEnded run old (set now at x) (at + 1)
ended_here run old now at x h low dead =
    next_ended run old now (set now at x) at h low (length-set now at x) (λ k d ne. get_or-set_other now at k x d ne)
    (λ w v d spares live. subst (IsLiveIn v) (sym (get_or-set_same now at x d low)) (λ now. absurd (let k : true ≡ false = sym now ∙ dead in cc)))

pub spared_here : (run : RunState) (old now : List Last) (at : ℕ) → IsEnded run old now at → at < length now → IfSome (slice_get now at) (IsSpared run) → IsEnded run old now (at + 1)
spared_here run old now at h low spares =
    next_ended run old now now at h low refl (λ k d ne. refl) (λ w v d others live. others (get_or now at d)
    (subst (λ (o : Option Last). IfSome o (IsSpared run)) (slice_get-get_or now at d low) spares) live)

-- ---- what a turn leaves live, by scene_table's laws of the rows

module _ (w v : World) (run : RunState) (turns : ℤ) (valid : IsValid w) (apart : AreApart run.steps) (are : AreColumnsFor run.steps run.columns)
    (long : AreLongFor run.entities run.columns) (stands : Stands (rows_at w.tables run.mask) run turns) (fits : HoldsAt run (turns +ℤ pos 1)) (made : v ≡ with_run w run (turns +ℤ pos 1) (Same w.tick)) where
  abbrev made_rows : List Row
  made_rows = rows_with_rows (rows_at w.tables run.mask) (rows_after run (turns +ℤ pos 1) (Same w.tick))

  tables_are : v.tables ≡ with_rows w.tables run.mask made_rows
  tables_are = ap (λ (u : World). u.tables) (made ∙ (run_written w run (turns +ℤ pos 1) (Same w.tick) valid long (standing_runs_can_be_put w run turns (turns +ℤ pos 1) valid stands fits)).is)

  rows_there : rows_at v.tables run.mask ≡ made_rows
  rows_there = ap (λ t. rows_at t run.mask) tables_are ∙ list_at_same nat_cmp_total w.tables run.mask made_rows

  count : length (rows_after run (turns +ℤ pos 1) (Same w.tick)) ≡ length (rows_at w.tables run.mask)
  count =
      length-rows_of run.entities (columns_after 0 run.columns (turns +ℤ pos 1) (Same w.tick))
      (columns_long 0 run.columns run.entities (turns +ℤ pos 1) (Same w.tick) long (λ k c there. length-replicate (length run.entities) w.tick))
      ∙ ap length stands.entities ∙ length-mapped (λ (row : Row). row.entity) (rows_at w.tables run.mask)

  others_live : (l : Last) → IsSpared run l → IsLiveIn w l → IsLiveIn v l
  others_live l spares live now =
      let other = l.run.value in
      let was = live now in
      elim (eq_by_cmp nat_cmp other.mask run.mask) as (λ b. eq_by_cmp nat_cmp other.mask run.mask ≡ b → IsLiveRun v other l.turns l.tick) [
        | true ↦ λ e.
            let same : other.mask ≡ run.mask = equal_keys nat_cmp-IsAntisymmetric other.mask run.mask e in
            record {
              are = was.are;
              live = subst (λ rows. IsLive rows other l.turns l.tick) (sym (ap (rows_at v.tables) same ∙ rows_there))
                  (others_stay_live (rows_at w.tables run.mask) run other (turns +ℤ pos 1) l.turns (Same w.tick) l.tick are was.are (spares same) count
                  (subst (λ m. IsLive (rows_at w.tables m) other l.turns l.tick) same was.live));
            }
        | false ↦ λ e. record {
          are = was.are;
          live = subst (λ rows. IsLive rows other l.turns l.tick)
              (sym (ap (λ t. rows_at t other.mask) tables_are ∙ list_at-with_list nat_cmp_total w.tables run.mask made_rows other.mask ∙ ap (λ b. cond b made_rows (rows_at w.tables other.mask)) e)) was.live;
        }
      ] refl

  pub turn_leaves : IsTurnOf w v run turns w.tick
  turn_leaves = record {
    own = record { are = are; live = subst (λ rows. IsLive rows run (turns +ℤ pos 1) w.tick) (sym rows_there) (turn_leaves_live (rows_at w.tables run.mask) run turns w.tick apart are long stands) };
    others = others_live;
  }

-- the same of a run that was found
pub found_leaves : (w v : World) (f : Found) (run : RunState) (turns : ℤ) (tick : ℕ) → IsValid w → AreApart f.run.value.steps
    → IsFound (rows_at w.tables f.run.value.mask) f.run.value.mask f.run.value.steps f → v ≡ with_run w f.run.value (f.turns +ℤ pos 1) (Same w.tick) → f.run.value ≡ run → f.turns ≡ turns → w.tick ≡ tick
    → IsTurnOf w v run turns tick
found_leaves w v f run turns tick valid apart h made same_run same_turns same_tick =
    subst (λ (p : RunState × ℤ × ℕ). IsTurnOf w v p.0 p.1 p.2) (λ i. (same_run i, same_turns i, same_tick i))
    (turn_leaves w v f.run.value f.turns valid apart h.can.are h.can.long h.stands h.can.next made)

-- steps of which a table has the kinds write none that is not below 64
target_there : (t : TableState) (s : RowStep) → CanStep t s → has_kind t.mask (target s) ≡ true
target_there t (AddVec to by) h = h.0
target_there t (AddInt to by) h = h.0

pub steps_below : (t : TableState) → t.mask < 2 ^ 64 → (steps : List RowStep) → AllByRecursion (CanStep t) steps → (k : ℕ) → is_written steps k ≡ true → k < 64
steps_below t low [] all k h = absurd (let no : false ≡ true = h in cc)
steps_below t low (s ∷ steps) all k h = elim (nat_eq (target s) k) as (λ b. nat_eq (target s) k ≡ b → (b || is_written steps k) ≡ true → k < 64) [
  | true ↦ λ e g. kinds_are_below t.mask (λ kind. kind < 64) low (λ kind below has. below) k (ap (has_kind t.mask) (sym (eqb-true (target s) k e)) ∙ target_there t s all.0)
  | false ↦ λ e g. steps_below t low steps all.1 k g
] refl h
