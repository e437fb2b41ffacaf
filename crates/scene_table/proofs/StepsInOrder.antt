-- Steps that are apart: each of them finds what the row had before the first.
use Rattle.std.proofs.Common.{◌≡◌, ◌<◌, ◌+◌, ℕ, suc, zero, List, [], ◌∷◌, get_or, refl, ap, sym, subst, ◌∙◌, arith, true, false, Option, Some, None, cond, nat_eq}
use Rattle.std.specs.Prelude.{All, slice_get, IsSome, Result, Ok, Err, ◌||◌}
use Rattle.std.specs.Option.{option_map, is_some}
use Rattle.std.specs.Result.{is_ok}
use Rattle.std.specs.Ordering.{nat_cmp, eq_by_cmp}
use Rattle.std.specs.Cmp.{nat_cmp_total}
use Rattle.std.specs.FinMap.Entries.{put, find, find-put}
use Rattle.std.proofs.lemmas.Bool.{eq-eqb}
use Rattle.std.proofs.lemmas.Bool.Decides.{nat_tests}
use Rattle.std.proofs.lemmas.Option.{get_or_from_slice_get, slice_get_within}
use Rattle.scene_kinds.specs.declared.cells.Row.{Row}
use Rattle.scene_kinds.specs.declared.value.Value.{Value}
use Rattle.scene_table.specs.declared.row_step.RowStep.{RowStep}
use Rattle.scene_table.specs.declared.row_step.RowStep.TheVariants.{AddVec, AddInt}
use Rattle.scene_table.specs.RowStep.{is_written, target}
use Rattle.scene_table.specs.Steps.{Values, values_of, value_sum, addend, added, step_on, unless_overflow, after_steps}
use Rattle.scene_table.specs.Runs.{AreApart, OneOverflows, read_kinds, written_of, written_values}
use Rattle.scene_table.proofs.ApartSteps.{or_true}
use Rattle.scene_table.proofs.FirstSums.{mapped_some}

-- a step neither writes a kind nor adds it
abbrev pub Spares : ℕ → RowStep → Type 0
Spares kind (AddVec to by) = (eq_by_cmp nat_cmp to kind ≡ false) × (eq_by_cmp nat_cmp by kind ≡ false)
Spares kind (AddInt to by) = eq_by_cmp nat_cmp to kind ≡ false

find_other : (q kind : ℕ) (x : Value) (values : Values) → eq_by_cmp nat_cmp q kind ≡ false → find nat_cmp q (put nat_cmp kind x values) ≡ find nat_cmp q values
find_other q kind x values e = find-put nat_cmp nat_cmp_total q kind x values ∙ ap (λ b. cond b (Some x) (find nat_cmp q values)) e

pub target_found : (s : RowStep) (kind : ℕ) (x : Value) (values : Values) → Spares kind s → find nat_cmp (target s) (put nat_cmp kind x values) ≡ find nat_cmp (target s) values
target_found (AddVec to by) kind x values h = find_other to kind x values h.0
target_found (AddInt to by) kind x values h = find_other to kind x values h

pub same_addend : (s : RowStep) (kind : ℕ) (x : Value) (values : Values) → Spares kind s → addend s (put nat_cmp kind x values) ≡ addend s values
same_addend (AddVec to by) kind x values h = find_other by kind x values h.1
same_addend (AddInt to by) kind x values h = refl

-- whether there is a sum doesn't hang on the other values
same_sum : (a b : Values) (kind : ℕ) (v by : Option Value) → is_some (added a kind v by) ≡ is_some (added b kind v by)
same_sum a b kind None by = refl
same_sum a b kind (Some v) None = refl
same_sum a b kind (Some v) (Some by) = mapped_some (λ (s : Value). put nat_cmp kind s a) (value_sum v by) ∙ sym (mapped_some (λ (s : Value). put nat_cmp kind s b) (value_sum v by))

-- what a step leaves is what was there, or that with another value of its kind
put_or_none : (values next : Values) (kind : ℕ) (o : Option Value) (P : Values → Type 0) → option_map (λ (s : Value). put nat_cmp kind s values) o ≡ Some next → ((x : Value) → P (put nat_cmp kind x values)) → P next
put_or_none values next kind None P e h = absurd (let g : None ≡ Some next = e in cc)
put_or_none values next kind (Some x) P e h = subst P (let g : Some (put nat_cmp kind x values) ≡ Some next = e in let f : put nat_cmp kind x values ≡ next = cc in f) (h x)

left_by : (values next : Values) (kind : ℕ) (v by : Option Value) (P : Values → Type 0) → added values kind v by ≡ Some next → P values → ((x : Value) → P (put nat_cmp kind x values)) → P next
left_by values next kind None by P e same h = subst P (let g : Some values ≡ Some next = e in let f : values ≡ next = cc in f) same
left_by values next kind (Some v) None P e same h = subst P (let g : Some values ≡ Some next = e in let f : values ≡ next = cc in f) same
left_by values next kind (Some v) (Some by) P e same h = put_or_none values next kind (value_sum v by) P e h

step_kept : (s t : RowStep) (values next : Values) → Spares (target t) s → step_on t values ≡ Some next → is_some (step_on s next) ≡ is_some (step_on s values)
step_kept s t values next spares e =
    left_by values next (target t) (find nat_cmp (target t) values) (addend t values) (λ (n : Values). is_some (step_on s n) ≡ is_some (step_on s values)) e refl
    (λ x. (λ i. is_some (added (put nat_cmp (target t) x values) (target s) (target_found s (target t) x values spares i) (same_addend s (target t) x values spares i)))
    ∙ same_sum (put nat_cmp (target t) x values) values (target s) (find nat_cmp (target s) values) (addend s values))

some_first : (n : ℕ) (o : Option Values) (rest : Values → Result Values ℕ) → is_ok (unless_overflow n o rest) ≡ true → is_some o ≡ true
some_first n None rest e = absurd (let g : false ≡ true = e in cc)
some_first n (Some values) rest e = refl

-- where all steps have sums, each has one on what was there before the first
pub each_step : (n : ℕ) (steps : List RowStep) (values : Values) (at : ℕ) (s : RowStep) → slice_get steps at ≡ Some s → ((j : ℕ) (t : RowStep) → j < at → slice_get steps j ≡ Some t → Spares (target t) s)
    → is_ok (after_steps n steps values) ≡ true → is_some (step_on s values) ≡ true
each_step n [] values at s is spares ok = absurd (let g : None ≡ Some s = is in cc)
each_step n (t ∷ steps) values zero s is spares ok =
    ap (λ (x : RowStep). is_some (step_on x values)) (let g : Some t ≡ Some s = is in let f : s ≡ t = cc in f)
    ∙ some_first n (step_on t values) (λ next. after_steps (n + 1) steps next) ok
each_step n (t ∷ steps) values (suc at) s is spares ok =
    elim (step_on t values) as (λ o. o ≡ step_on t values → is_ok (unless_overflow n o (λ next. after_steps (n + 1) steps next)) ≡ true → is_some (step_on s values) ≡ true) [
      | None ↦ λ e k. absurd (let g : false ≡ true = k in cc)
      | Some next ↦ λ e k.
          sym (step_kept s t values next (spares 0 t (omega arith) refl) (sym e))
          ∙ each_step (n + 1) steps next at s is (λ j u l there. spares (suc j) u (omega arith) there) k
    ] refl ok

-- ---- steps that are apart

pub written_there : (steps : List RowStep) (j : ℕ) (t : RowStep) (kind : ℕ) → slice_get steps j ≡ Some t → target t ≡ kind → is_written steps kind ≡ true
written_there [] j t kind is e = absurd (let g : None ≡ Some t = is in cc)
written_there (x ∷ steps) zero t kind is e = ap (λ b. b || is_written steps kind) (eq-eqb (target x) kind (ap target (let g : Some x ≡ Some t = is in let h : x ≡ t = cc in h) ∙ e))
written_there (x ∷ steps) (suc j) t kind is e = ap (λ b. nat_eq (target x) kind || b) (written_there steps j t kind is e) ∙ or_true (nat_eq (target x) kind)

pub other_kind : (a b : ℕ) → (a ≡ b → ⊥) → eq_by_cmp nat_cmp a b ≡ false
other_kind a b ne = grind (arith, nat_tests)

pub spares_each : (steps : List RowStep) → AreApart steps → (at : ℕ) (s : RowStep) → slice_get steps at ≡ Some s → (j : ℕ) (t : RowStep) → j < at → slice_get steps j ≡ Some t → Spares (target t) s
spares_each steps apart at (AddVec to by) is j t l there = (
  other_kind to (target t) (λ e. let same = apart.own j at t (AddVec to by) there is (sym e) in omega arith),
  other_kind by (target t) (λ e.
      let unread = subst (λ (s : RowStep). All (λ (kind : ℕ). is_written steps kind ≡ false) (read_kinds s)) (get_or_from_slice_get steps at (AddVec to by) (AddVec to by) is)
      (apart.unread at (AddVec to by) (slice_get_within steps at (AddVec to by) is)) in
      let g : true ≡ false = sym (written_there steps j t by there (sym e)) ∙ unread 0 by (omega arith) in absurd (cc)),
)
spares_each steps apart at (AddInt to by) is j t l there =
    other_kind to (target t) (λ e. let same = apart.own j at t (AddInt to by) there is (sym e) in omega arith)

written_ok : (steps : List RowStep) (r : Result Values ℕ) → IsSome (written_of steps r) → is_ok r ≡ true
written_ok steps (Ok values) h = refl
written_ok steps (Err at) h = h

-- where a step overflows in a row, the steps do in some row
pub steps_overflow : (steps : List RowStep) (rows : List Row) → AreApart steps → OneOverflows rows steps → All (λ (row : Row). IsSome (written_values steps row)) rows → ⊥
steps_overflow steps rows apart one all =
    let at = one.0 in
    let s = one.1.0 in
    one.1.1.1 (λ k d l. each_step 0 steps (values_of (get_or rows k d)) at s one.1.1.0 (spares_each steps apart at s one.1.1.0)
    (written_ok steps (after_steps 0 steps (values_of (get_or rows k d))) (all k d l)))
