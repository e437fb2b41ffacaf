-- Rows with the same kinds, and with the same values of some of them: steps that read and write those alone make the
-- same of both.
use Rattle.std.proofs.Common.{◌≡◌, ℕ, ◌+◌, Bool, true, false, cond, ◌||◌, List, [], ◌∷◌, map, refl, ap, subst, sym, ◌∙◌, nat_eq, Option, Some, None, Ok}
use Rattle.std.specs.Prelude.{⊤, Result, Err, option_map, filter, is_some}
use Rattle.std.specs.List.{AllZip, list_any}
use Rattle.std.specs.Ordering.{nat_cmp, eq_by_cmp}
use Rattle.std.specs.declared.cmp.Ordering.TheVariants.{Less, Equal, Greater}
use Rattle.std.specs.FinMap.{nat_cmp-IsAntisymmetric}
use Rattle.std.specs.FinMap.Entries.{put, find, by_order}
use Rattle.std.proofs.lemmas.Bool.{eqb-true, eq-eqb, or_left, or_right}
use Rattle.scene_kinds.specs.declared.cell.Cell.{Cell}
use Rattle.scene_kinds.specs.declared.cells.Row.{Row}
use Rattle.scene_kinds.specs.declared.value.Value.{Value}
use Rattle.scene_kinds.specs.Cells.{IsAscending, cell_of, with_cell}
use Rattle.scene_kinds.proofs.Maps.{equal_keys}
use Rattle.scene_table.specs.declared.row_step.RowStep.{RowStep}
use Rattle.scene_table.specs.declared.row_step.RowStep.TheVariants.{AddVec, AddInt}
use Rattle.scene_systems.specs.declared.step.Step.{Step}
use Rattle.scene_systems.specs.declared.step.Step.TheVariants.{Row as Writing, DespawnAtZero, SpawnChild, CountInto}
use Rattle.scene_table.specs.RowStep.{target, is_written}
use Rattle.scene_pass.specs.declared.row_change.Outcome.TheVariants.{Changed}
use Rattle.scene_pass.specs.Changes.{Values, values_of, value_sum, addend, added, step_on, unless_overflow, after_steps, outcome_of, change_of}
use Rattle.scene_schedule.specs.Schedule.{step_touches, step_writes}
use Rattle.scene_schedule.specs.Systems.{row_steps}
use Rattle.scene_schedule.proofs.Entries.{not_before, ascent, found_later}
use Rattle.scene_schedule.proofs.Zips.{zip_itself, zip_over, zip_turned, zip_weaker, zip_images}

-- ---- values

-- two values of one kind, which are the same if the kind is one that counts
pub record IsAlike (on : ℕ → Bool) (x y : ℕ × Value) : Type 0 where
  pub kind : x.0 ≡ y.0
  pub value : on x.0 ≡ true → x.1 ≡ y.1

-- the same kind by kind
abbrev pub AreAlike : (ℕ → Bool) → Values → Values → Type 0
AreAlike on xs ys = AllZip (IsAlike on) xs ys

alike_itself : (on : ℕ → Bool) (x : ℕ × Value) → IsAlike on x x
alike_itself on x = record { kind = refl; value = λ t. refl }

-- the value of a kind that counts is the same
pub alike_found : (on : ℕ → Bool) (kind : ℕ) (xs ys : Values) → on kind ≡ true → AreAlike on xs ys → find nat_cmp kind xs ≡ find nat_cmp kind ys
alike_found on kind [] [] t h = refl
alike_found on kind [] (y ∷ ys) t h = absurd h
alike_found on kind (x ∷ xs) [] t h = absurd h
alike_found on kind (x ∷ xs) (y ∷ ys) t h =
    elim (eq_by_cmp nat_cmp kind x.0) as (λ b. eq_by_cmp nat_cmp kind x.0 ≡ b → cond b (Some x.1) (find nat_cmp kind xs) ≡ cond b (Some y.1) (find nat_cmp kind ys)) [
      | true ↦ λ e. ap (λ v. Some v) (h.0.value (ap on (sym (equal_keys nat_cmp-IsAntisymmetric kind x.0 e)) ∙ t))
      | false ↦ λ e. alike_found on kind xs ys t h.1
    ] refl
    ∙ ap (λ k. cond (eq_by_cmp nat_cmp kind k) (Some y.1) (find nat_cmp kind ys)) h.0.kind

-- a value that is put into both
pub alike_put : (on : ℕ → Bool) (kind : ℕ) (v : Value) (xs ys : Values) → AreAlike on xs ys → AreAlike on (put nat_cmp kind v xs) (put nat_cmp kind v ys)
alike_put on kind v [] [] h = (alike_itself on (kind, v), tt)
alike_put on kind v [] (y ∷ ys) h = absurd h
alike_put on kind v (x ∷ xs) [] h = absurd h
alike_put on kind v (x ∷ xs) (y ∷ ys) h =
    subst (λ k. AreAlike on (by_order (nat_cmp kind x.0) ((kind, v) ∷ x ∷ xs) ((x.0, v) ∷ xs) (x ∷ put nat_cmp kind v xs))
    (by_order (nat_cmp kind k) ((kind, v) ∷ y ∷ ys) ((y.0, v) ∷ ys) (y ∷ put nat_cmp kind v ys))) h.0.kind
    (elim (nat_cmp kind x.0) as (λ o. AreAlike on (by_order o ((kind, v) ∷ x ∷ xs) ((x.0, v) ∷ xs) (x ∷ put nat_cmp kind v xs))
    (by_order o ((kind, v) ∷ y ∷ ys) ((y.0, v) ∷ ys) (y ∷ put nat_cmp kind v ys))) [
      | Less ↦ (alike_itself on (kind, v), h)
      | Equal ↦ (record { kind = h.0.kind; value = λ t. refl }, h.1)
      | Greater ↦ (h.0, alike_put on kind v xs ys h.1)
    ])

-- the values of kinds that all count
pub alike_kept : (on p : ℕ → Bool) (xs ys : Values) → ((kind : ℕ) → p kind ≡ true → on kind ≡ true) → AreAlike on xs ys
    → filter (λ v. p v.0) xs ≡ filter (λ v. p v.0) ys
alike_kept on p [] [] c h = refl
alike_kept on p [] (y ∷ ys) c h = absurd h
alike_kept on p (x ∷ xs) [] c h = absurd h
alike_kept on p (x ∷ xs) (y ∷ ys) c h =
    let rest = alike_kept on p xs ys c h.1 in
    elim (p x.0) as (λ b. p x.0 ≡ b → cond b (x ∷ filter (λ v. p v.0) xs) (filter (λ v. p v.0) xs) ≡ cond b (y ∷ filter (λ v. p v.0) ys) (filter (λ v. p v.0) ys)) [
      | true ↦ λ e.
          let value : x.1 ≡ y.1 = h.0.value (c x.0 e) in
          let same : ◌≡◌ {A = ℕ × Value} x y = λ i. (h.0.kind i, value i) in
          λ i. same i ∷ rest i
      | false ↦ λ e. rest
    ] refl
    ∙ ap (λ k. cond (p k) (y ∷ filter (λ v. p v.0) ys) (filter (λ v. p v.0) ys)) h.0.kind

-- ---- steps

-- a step reads and writes kinds that count
abbrev pub IsStepOn : (ℕ → Bool) → RowStep → Type 0
IsStepOn on (AddVec to by) = (on to ≡ true) × (on by ≡ true)
IsStepOn on (AddInt to by) = on to ≡ true

-- and so does each of some steps
abbrev pub AreStepsOn : (ℕ → Bool) → List RowStep → Type 0
AreStepsOn on [] = ⊤
AreStepsOn on (s ∷ ss) = IsStepOn on s × AreStepsOn on ss

-- the same of values that may not be there
abbrev OptionsAlike : (ℕ → Bool) → Option Values → Option Values → Type 0
OptionsAlike on None None = ⊤
OptionsAlike on None (Some ys) = ⊥
OptionsAlike on (Some xs) None = ⊥
OptionsAlike on (Some xs) (Some ys) = AreAlike on xs ys

-- and of what steps came to
abbrev ResultsAlike : (ℕ → Bool) → Result Values ℕ → Result Values ℕ → Type 0
ResultsAlike on (Err a) (Err b) = a ≡ b
ResultsAlike on (Err a) (Ok ys) = ⊥
ResultsAlike on (Ok xs) (Err b) = ⊥
ResultsAlike on (Ok xs) (Ok ys) = AreAlike on xs ys

added_alike : (on : ℕ → Bool) (kind : ℕ) (value by : Option Value) (xs ys : Values) → AreAlike on xs ys
    → OptionsAlike on (added xs kind value by) (added ys kind value by)
added_alike on kind None by xs ys h = h
added_alike on kind (Some v) None xs ys h = h
added_alike on kind (Some v) (Some b) xs ys h =
    elim (value_sum v b) as (λ o. OptionsAlike on (option_map (λ s. put nat_cmp kind s xs) o) (option_map (λ s. put nat_cmp kind s ys) o)) [
      | None ↦ tt
      | Some s ↦ alike_put on kind s xs ys h
    ]

step_alike : (on : ℕ → Bool) (s : RowStep) (xs ys : Values) → IsStepOn on s → AreAlike on xs ys → OptionsAlike on (step_on s xs) (step_on s ys)
step_alike on (AddVec to by) xs ys c h =
    subst (λ o. OptionsAlike on (added xs to o (find nat_cmp by xs)) (added ys to (find nat_cmp to ys) (find nat_cmp by ys))) (sym (alike_found on to xs ys c.0 h))
    (subst (λ o. OptionsAlike on (added xs to (find nat_cmp to ys) o) (added ys to (find nat_cmp to ys) (find nat_cmp by ys))) (sym (alike_found on by xs ys c.1 h))
    (added_alike on to (find nat_cmp to ys) (find nat_cmp by ys) xs ys h))
step_alike on (AddInt to by) xs ys c h =
    subst (λ o. OptionsAlike on (added xs to o (addend (AddInt to by) xs)) (added ys to (find nat_cmp to ys) (addend (AddInt to by) ys))) (sym (alike_found on to xs ys c h))
    (added_alike on to (find nat_cmp to ys) (addend (AddInt to by) ys) xs ys h)

rest_alike : (on : ℕ → Bool) (at : ℕ) (a b : Option Values) (k : Values → Result Values ℕ)
    → ((xs ys : Values) → AreAlike on xs ys → ResultsAlike on (k xs) (k ys)) → OptionsAlike on a b
    → ResultsAlike on (unless_overflow at a k) (unless_overflow at b k)
rest_alike on at None None k f h = refl
rest_alike on at None (Some ys) k f h = absurd h
rest_alike on at (Some xs) None k f h = absurd h
rest_alike on at (Some xs) (Some ys) k f h = f xs ys h

steps_alike : (on : ℕ → Bool) (at : ℕ) (ss : List RowStep) (xs ys : Values) → AreStepsOn on ss → AreAlike on xs ys
    → ResultsAlike on (after_steps at ss xs) (after_steps at ss ys)
steps_alike on at [] xs ys c h = h
steps_alike on at (s ∷ ss) xs ys c h =
    rest_alike on at (step_on s xs) (step_on s ys) (after_steps (at + 1) ss) (λ us vs g. steps_alike on (at + 1) ss us vs c.1 g)
    (step_alike on s xs ys c.0 h)

-- a kind that a step writes counts
written_counts : (on : ℕ → Bool) (ss : List RowStep) (kind : ℕ) → AreStepsOn on ss → is_written ss kind ≡ true → on kind ≡ true
written_counts on [] kind c h = absurd (let wrong : false ≡ true = h in cc)
written_counts on (s ∷ ss) kind c h =
    elim (nat_eq (target s) kind) as (λ b. nat_eq (target s) kind ≡ b → (b || is_written ss kind) ≡ true → on kind ≡ true) [
      | true ↦ λ e g. ap on (sym (eqb-true (target s) kind e)) ∙ target_counts s c.0
      | false ↦ λ e g. written_counts on ss kind c.1 g
    ] refl h
  where
    target_counts : (s : RowStep) → IsStepOn on s → on (target s) ≡ true
    target_counts (AddVec to by) c = c.0
    target_counts (AddInt to by) c = c

outcome_alike : (on : ℕ → Bool) (ss : List RowStep) (a b : Result Values ℕ) → AreStepsOn on ss → ResultsAlike on a b → outcome_of ss a ≡ outcome_of ss b
outcome_alike on ss (Err a) (Err b) c h = ap (λ at. outcome_of ss (Err at)) h
outcome_alike on ss (Err a) (Ok ys) c h = absurd h
outcome_alike on ss (Ok xs) (Err b) c h = absurd h
outcome_alike on ss (Ok xs) (Ok ys) c h =
    ap (λ vs. Changed vs) (alike_kept on (is_written ss) xs ys (λ kind t. written_counts on ss kind c t) h)

-- ---- rows

-- two cells of one kind, whose values are the same if the kind counts
pub record IsCellAlike (on : ℕ → Bool) (c d : ℕ × Cell) : Type 0 where
  pub kind : c.0 ≡ d.0
  pub value : on c.0 ≡ true → c.1.value ≡ d.1.value

-- two rows of one entity, the same kind by kind
pub record IsRowAlike (on : ℕ → Bool) (r s : Row) : Type 0 where
  pub entity : r.entity ≡ s.entity
  pub cells : AllZip (IsCellAlike on) r.cells s.cells

pub row_itself : (on : ℕ → Bool) (r : Row) → IsRowAlike on r r
row_itself on r = record { entity = refl; cells = zip_itself (IsCellAlike on) r.cells (λ c. record { kind = refl; value = λ t. refl }) }

-- over a row in between
pub row_over : (on : ℕ → Bool) (q r s : Row) → IsRowAlike on q r → IsRowAlike on r s → IsRowAlike on q s
row_over on q r s h g = record {
  entity = h.entity ∙ g.entity;
  cells = zip_over (IsCellAlike on) (IsCellAlike on) (IsCellAlike on) q.cells r.cells s.cells
      (λ x y z a b. record { kind = a.kind ∙ b.kind; value = λ t. a.value t ∙ b.value (ap on (sym a.kind) ∙ t) }) h.cells g.cells;
}

-- and the other way round
pub row_turned : (on : ℕ → Bool) (r s : Row) → IsRowAlike on r s → IsRowAlike on s r
row_turned on r s h = record {
  entity = sym h.entity;
  cells = zip_turned (IsCellAlike on) (IsCellAlike on) r.cells s.cells
      (λ x y a. record { kind = sym a.kind; value = λ t. sym (a.value (ap on a.kind ∙ t)) }) h.cells;
}

-- where fewer kinds count
pub row_weaker : (on off : ℕ → Bool) (r s : Row) → ((kind : ℕ) → off kind ≡ true → on kind ≡ true) → IsRowAlike on r s → IsRowAlike off r s
row_weaker on off r s c h = record {
  entity = h.entity;
  cells = zip_weaker (IsCellAlike on) (IsCellAlike off) r.cells s.cells (λ x y a. record { kind = a.kind; value = λ t. a.value (c x.0 t) }) h.cells;
}

-- the values of such rows
pub row_values : (on : ℕ → Bool) (r s : Row) → IsRowAlike on r s → AreAlike on (values_of r) (values_of s)
row_values on r s h =
    zip_images (IsCellAlike on) (IsAlike on) (λ (c : ℕ × Cell). (c.0, c.1.value)) (λ (c : ℕ × Cell). (c.0, c.1.value)) r.cells s.cells
    (λ x y a. record { kind = a.kind; value = a.value }) h.cells

-- steps that read and write kinds that count make the same of both
pub change_alike : (on : ℕ → Bool) (ss : List RowStep) (r s : Row) → AreStepsOn on ss → IsRowAlike on r s → change_of ss r ≡ change_of ss s
change_alike on ss r s c h =
    let outcome : outcome_of ss (after_steps 0 ss (values_of r)) ≡ outcome_of ss (after_steps 0 ss (values_of s)) =
    outcome_alike on ss (after_steps 0 ss (values_of r)) (after_steps 0 ss (values_of s)) c (steps_alike on 0 ss (values_of r) (values_of s) c (row_values on r s h)) in
    λ i. record { entity = h.entity i; outcome = outcome i }

-- a kind that one of the rows has, the other one has
pub there_alike : (on : ℕ → Bool) (kind : ℕ) (xs ys : Values) → AreAlike on xs ys → is_some (find nat_cmp kind xs) ≡ is_some (find nat_cmp kind ys)
there_alike on kind [] [] h = refl
there_alike on kind [] (y ∷ ys) h = absurd h
there_alike on kind (x ∷ xs) [] h = absurd h
there_alike on kind (x ∷ xs) (y ∷ ys) h =
    elim (eq_by_cmp nat_cmp kind x.0) as (λ b. is_some (cond b (Some x.1) (find nat_cmp kind xs)) ≡ is_some (cond b (Some y.1) (find nat_cmp kind ys))) [
      | true ↦ refl
      | false ↦ there_alike on kind xs ys h.1
    ]
    ∙ ap (λ k. is_some (cond (eq_by_cmp nat_cmp kind k) (Some y.1) (find nat_cmp kind ys))) h.0.kind

-- ---- cells and their values

-- the value of a cell
pub value_found : (cells : List (ℕ × Cell)) (kind : ℕ) → find nat_cmp kind (map (λ (c : ℕ × Cell). (c.0, c.1.value)) cells) ≡ option_map (λ (c : Cell). c.value) (cell_of cells kind)
value_found [] kind = refl
value_found (c ∷ cs) kind =
    elim (eq_by_cmp nat_cmp kind c.0) as (λ b. cond b (Some c.1.value) (find nat_cmp kind (map (λ (c : ℕ × Cell). (c.0, c.1.value)) cs)) ≡ option_map (λ (c : Cell). c.value) (cond b (Some c.1) (cell_of cs kind))) [
      | true ↦ refl
      | false ↦ value_found cs kind
    ]

-- the values with a cell that is put in
pub values_put : (cells : List (ℕ × Cell)) (kind : ℕ) (cell : Cell) → map (λ (c : ℕ × Cell). (c.0, c.1.value)) (with_cell cells kind cell) ≡ put nat_cmp kind cell.value (map (λ (c : ℕ × Cell). (c.0, c.1.value)) cells)
values_put [] kind cell = refl
values_put (c ∷ cs) kind cell =
    let f : ℕ × Cell → ℕ × Value = λ c. (c.0, c.1.value) in
    elim (nat_cmp kind c.0) as (λ o. map f (by_order o ((kind, cell) ∷ c ∷ cs) ((c.0, cell) ∷ cs) (c ∷ with_cell cs kind cell)) ≡ by_order o ((kind, cell.value) ∷ f c ∷ map f cs) ((c.0, cell.value) ∷ map f cs) (f c ∷ put nat_cmp kind cell.value (map f cs))) [
      | Less ↦ refl
      | Equal ↦ refl
      | Greater ↦ ap (λ vs. f c ∷ vs) (values_put cs kind cell)
    ]

-- a cell in place of one whose kind doesn't count
pub put_unseen : (on : ℕ → Bool) (kind : ℕ) (new old : Cell) (cs ds : List (ℕ × Cell)) → on kind ≡ false → IsAscending cs → cell_of cs kind ≡ Some old
    → AllZip (IsCellAlike on) cs ds → AllZip (IsCellAlike on) (with_cell cs kind new) ds
put_unseen on kind new old [] ds off rising there h = absurd (let wrong : None ≡ Some old = there in cc)
put_unseen on kind new old (c ∷ cs) [] off rising there h = absurd h
put_unseen on kind new old (c ∷ cs) (d ∷ ds) off rising there h =
    elim (nat_cmp kind c.0) as (λ o. nat_cmp kind c.0 ≡ o → AllZip (IsCellAlike on) (by_order o ((kind, new) ∷ c ∷ cs) ((c.0, new) ∷ cs) (c ∷ with_cell cs kind new)) (d ∷ ds)) [
      | Less ↦ λ t. absurd (not_before kind c cs old rising there t)
      | Equal ↦ λ t. (
        record { kind = h.0.kind; value = λ u. absurd (let wrong : false ≡ true = sym off ∙ ap on (nat_cmp-IsAntisymmetric kind c.0 t) ∙ u in cc) },
        h.1,
      )
      | Greater ↦ λ t. (h.0, put_unseen on kind new old cs ds off (ascent c cs rising).1 (found_later kind c cs old t there) h.1)
    ] refl

-- ---- the steps of a system

-- kinds that count where a step that writes reads or writes them
pub steps_on : (on : ℕ → Bool) (steps : List Step) → ((kind : ℕ) → list_any (step_touches kind) steps ≡ true → on kind ≡ true) → AreStepsOn on (row_steps steps)
steps_on on [] c = tt
steps_on on (Writing (AddVec to by) ∷ ss) c = (
  (
    c to (or_left (step_touches to (Writing (AddVec to by))) (list_any (step_touches to) ss) (or_left (nat_eq to to) (nat_eq by to) (eq-eqb to to refl))),
    c by (or_left (step_touches by (Writing (AddVec to by))) (list_any (step_touches by) ss) (or_right (nat_eq to by) (nat_eq by by) (eq-eqb by by refl))),
  ),
  steps_on on ss (λ kind t. c kind (or_right (step_touches kind (Writing (AddVec to by))) (list_any (step_touches kind) ss) t)),
)
steps_on on (Writing (AddInt to by) ∷ ss) c = (
  c to (or_left (step_touches to (Writing (AddInt to by))) (list_any (step_touches to) ss) (eq-eqb to to refl)),
  steps_on on ss (λ kind t. c kind (or_right (step_touches kind (Writing (AddInt to by))) (list_any (step_touches kind) ss) t)),
)
steps_on on (DespawnAtZero of ∷ ss) c = steps_on on ss (λ kind t. c kind (or_right (nat_eq of kind) (list_any (step_touches kind) ss) t))
steps_on on (SpawnChild cells ∷ ss) c = steps_on on ss c
steps_on on (CountInto name ∷ ss) c = steps_on on ss c

-- a kind is written by the steps that write just where one of all steps writes it
pub written_steps : (steps : List Step) (kind : ℕ) → is_written (row_steps steps) kind ≡ list_any (step_writes kind) steps
written_steps [] kind = refl
written_steps (Writing s ∷ ss) kind = ap (λ b. nat_eq (target s) kind || b) (written_steps ss kind)
written_steps (DespawnAtZero of ∷ ss) kind = written_steps ss kind
written_steps (SpawnChild cells ∷ ss) kind = written_steps ss kind
written_steps (CountInto name ∷ ss) kind = written_steps ss kind
