-- Steps over the values that they write make of a row what they make over all of its values.
use Rattle.std.proofs.Common.{◌≡◌, ℕ, ◌+◌, ◌<◌, length, drop, slice_index_or, Bool, true, false, cond, ◌||◌, List, [], ◌∷◌, map, refl, ap, subst, sym, ◌∙◌, Option, Some, None, IfSome, nat_eq}
use Rattle.std.specs.Prelude.{T, option_map, ◌&&◌}
use Rattle.std.specs.Option.{option_or, option_and_then}
use Rattle.std.specs.Ordering.{nat_cmp, eq_by_cmp, is_lt}
use Rattle.std.specs.Cmp.{nat_cmp_total}
use Rattle.std.specs.FinMap.{nat_cmp-IsAntisymmetric}
use Rattle.std.specs.FinMap.Entries.{put, find, where_key, below_all, is_sorted, is_sorted-put, is_sorted-where_key, find-put}
use Rattle.std.proofs.lemmas.Bool.{eq-eqb}
use Rattle.std.proofs.lemmas.List.{drop_more}
use Rattle.scene_kinds.specs.declared.cell.Cell.{Cell}
use Rattle.scene_kinds.specs.declared.cells.Row.{Row}
use Rattle.scene_kinds.specs.declared.value.Value.{Value}
use Rattle.scene_kinds.specs.Cells.{IsAscending}
use Rattle.scene_kinds.proofs.Maps.{equal_keys}
use Rattle.scene_table.specs.declared.row_step.RowStep.{RowStep}
use Rattle.scene_table.specs.declared.row_step.RowStep.TheVariants.{AddVec, AddInt}
use Rattle.scene_table.specs.RowStep.{target, is_written}
use Rattle.scene_pass.specs.Changes.{Values, values_of, value_sum, addend, added, step_on, unless_overflow, after_steps, outcome_of}
use Rattle.scene_pass.specs.InPlace.{written_of, place_of, value_or, addend_in, put_sum, added_in, step_in, goes_on, outcome_in}
use Rattle.scene_pass.proofs.ByKind.{find_kept, kept_put, IsAt, at_place, at_none}

-- ---- the values of a row ascend as its cells do

below_values : (x : ℕ) (cells : List (ℕ × Cell)) → below_all nat_cmp x (map (λ (c : ℕ × Cell). (c.0, c.1.value)) cells) ≡ below_all nat_cmp x cells
below_values x [] = refl
below_values x (c ∷ cs) = ap (λ b. is_lt (nat_cmp x c.0) && b) (below_values x cs)

pub same_order : (cells : List (ℕ × Cell)) → is_sorted nat_cmp (map (λ (c : ℕ × Cell). (c.0, c.1.value)) cells) ≡ is_sorted nat_cmp cells
same_order [] = refl
same_order (c ∷ cs) = λ i. below_values c.0 cs i && same_order cs i

-- ---- the kinds that steps write

-- a test that each step's kind passes
abbrev EachPasses : (ℕ → Bool) → List RowStep → Type 0
EachPasses p [] = Unit {0}
EachPasses p (s ∷ ss) = (p (target s) ≡ true) × EachPasses p ss

or_left : (a b : Bool) → a ≡ true → (a || b) ≡ true
or_left a b h = ap (λ c. c || b) h

or_right : (a b : Bool) → b ≡ true → (a || b) ≡ true
or_right true b h = refl
or_right false b h = h

each_passes : (p : ℕ → Bool) (ss : List RowStep) → ((kind : ℕ) → is_written ss kind ≡ true → p kind ≡ true) → EachPasses p ss
each_passes p [] h = tt
each_passes p (s ∷ ss) h = (
  h (target s) (or_left _ _ (eq-eqb (target s) (target s) refl)),
  each_passes p ss (λ kind w. h kind (or_right (nat_eq (target s) kind) _ w)),
)

-- ---- values after some steps

-- values ascend, and only those of kinds that pass a test may differ from a row's own
record IsAfter (p : ℕ → Bool) (own values : Values) : Type 0 where
  up : T (is_sorted nat_cmp values)
  kept : (kind : ℕ) → cond (p kind) (option_or (find nat_cmp kind values) (find nat_cmp kind own)) (find nat_cmp kind own) ≡ find nat_cmp kind values

same_or : (b : Bool) (o : Option Value) → cond b (option_or o o) o ≡ o
same_or true None = refl
same_or true (Some v) = refl
same_or false o = refl

at_first : (p : ℕ → Bool) (own : Values) → T (is_sorted nat_cmp own) → IsAfter p own own
at_first p own up = record { up = up; kept = λ kind. same_or (p kind) (find nat_cmp kind own) }

-- a value that is put in at a kind that passes
kept_after : (p q : Bool) (old own : Option Value) (v : Value) → (q ≡ true → p ≡ true) → cond p (option_or old own) own ≡ old → cond p (option_or (cond q (Some v) old) own) own ≡ cond q (Some v) old
kept_after true true old own v h g = refl
kept_after true false old own v h g = g
kept_after false true old own v h g = absurd (let wrong : false ≡ true = h refl in cc)
kept_after false false old own v h g = g

after_put : (p : ℕ → Bool) (own values : Values) (kind : ℕ) (v : Value) → p kind ≡ true → IsAfter p own values → IsAfter p own (put nat_cmp kind v values)
after_put p own values kind v h a = record {
  up = is_sorted-put nat_cmp nat_cmp_total kind v values a.up;
  kept = λ k.
      subst (λ o. cond (p k) (option_or o (find nat_cmp k own)) (find nat_cmp k own) ≡ o) (sym (find-put nat_cmp nat_cmp_total k kind v values))
      (kept_after (p k) (eq_by_cmp nat_cmp k kind) (find nat_cmp k values) (find nat_cmp k own) v (λ t. ap p (equal_keys nat_cmp-IsAntisymmetric k kind t) ∙ h) (a.kept k));
}

-- ---- one step

-- what is read of values that are written apart
none_kept : (b : Bool) (now own : Option Value) → cond b now None ≡ None → cond b (option_or now own) own ≡ now → own ≡ now
none_kept true now own h g = ap (λ o. option_or o own) (sym h) ∙ g
none_kept false now own h g = g

some_kept : (b : Bool) (now : Option Value) (v : Value) → cond b now None ≡ Some v → Some v ≡ now
some_kept true now v h = sym h
some_kept false now v h = absurd (let wrong : None ≡ Some v = h in cc)

read_now : (p : ℕ → Bool) (own values : Values) (kind : ℕ) → IsAfter p own values → value_or (where_key nat_cmp p values) (place_of (where_key nat_cmp p values) kind) (find nat_cmp kind own) ≡ find nat_cmp kind values
read_now p own values kind a =
    let written : Values = where_key nat_cmp p values in
    elim (place_of written kind) as (λ o. place_of written kind ≡ o → value_or written o (find nat_cmp kind own) ≡ find nat_cmp kind values) [
      | None ↦ λ t. none_kept (p kind) _ _ (sym (find_kept p kind values) ∙ at_none kind written t) (a.kept kind)
      | Some at ↦ λ t.
          let stands = at_place kind written at (is_sorted-where_key nat_cmp p values a.up) t in
          ap (option_map (λ (v : ℕ × Value). v.1)) stands.there ∙ some_kept (p kind) _ stands.value (sym (find_kept p kind values) ∙ stands.found)
    ] refl

same_addend : (p : ℕ → Bool) (own values : Values) (s : RowStep) → IsAfter p own values → addend_in s own (where_key nat_cmp p values) ≡ addend s values
same_addend p own values (AddVec to by) a = read_now p own values by a
same_addend p own values (AddInt to by) a = refl

-- a sum at a place, and a sum at a kind
sum_put : (p : ℕ → Bool) (values : Values) (kind at : ℕ) (sum : Option Value) → p kind ≡ true → T (is_sorted nat_cmp values) → IsAt (where_key nat_cmp p values) kind at
    → put_sum (where_key nat_cmp p values) kind at sum ≡ option_map (where_key nat_cmp p) (option_map (λ s. put nat_cmp kind s values) sum)
sum_put p values kind at None h up stands = refl
sum_put p values kind at (Some s) h up stands = ap Some (stands.set s ∙ sym (kept_put p kind s values h up))

added_apart : (p : ℕ → Bool) (own values : Values) (kind : ℕ) (by : Option Value) → p kind ≡ true → IsAfter p own values
    → added_in (where_key nat_cmp p values) kind (place_of (where_key nat_cmp p values) kind) by ≡ option_map (where_key nat_cmp p) (added values kind (find nat_cmp kind values) by)
added_apart p own values kind by h a =
    let written : Values = where_key nat_cmp p values in
    let same : find nat_cmp kind written ≡ find nat_cmp kind values = find_kept p kind values ∙ ap (λ b. cond b (find nat_cmp kind values) None) h in
    elim (place_of written kind) as (λ o. place_of written kind ≡ o → added_in written kind o by ≡ option_map (where_key nat_cmp p) (added values kind (find nat_cmp kind values) by)) [
      | None ↦ λ t. ap (λ o. option_map (where_key nat_cmp p) (added values kind o by)) (sym (at_none kind written t) ∙ same)
      | Some at ↦ λ t.
          let stands = at_place kind written at (is_sorted-where_key nat_cmp p values a.up) t in
          elim by as (λ b. added_in written kind (Some at) b ≡ option_map (where_key nat_cmp p) (added values kind (Some stands.value) b)) [
            | None ↦ refl
            | Some more ↦ ap (λ o. put_sum written kind at (option_and_then (λ value. value_sum value more) (option_map (λ (v : ℕ × Value). v.1) o))) stands.there
                ∙ sum_put p values kind at (value_sum stands.value more) h a.up stands
          ]
          ∙ ap (λ o. option_map (where_key nat_cmp p) (added values kind o by)) (sym stands.found ∙ same)
    ] refl

-- a step over the written values writes what it writes over all
step_apart : (p : ℕ → Bool) (own values : Values) (s : RowStep) → p (target s) ≡ true → IsAfter p own values → step_in s own (where_key nat_cmp p values) ≡ option_map (where_key nat_cmp p) (step_on s values)
step_apart p own values s h a =
    ap (added_in (where_key nat_cmp p values) (target s) (place_of (where_key nat_cmp p values) (target s))) (same_addend p own values s a)
    ∙ added_apart p own values (target s) (addend s values) h a

-- and leaves other kinds alone
summed_after : (p : ℕ → Bool) (own values : Values) (kind : ℕ) (sum : Option Value) → p kind ≡ true → IsAfter p own values → IfSome (option_map (λ s. put nat_cmp kind s values) sum) (IsAfter p own)
summed_after p own values kind None h a = tt
summed_after p own values kind (Some v) h a = after_put p own values kind v h a

added_after : (p : ℕ → Bool) (own values : Values) (kind : ℕ) (value by : Option Value) → p kind ≡ true → IsAfter p own values → IfSome (added values kind value by) (IsAfter p own)
added_after p own values kind None by h a = a
added_after p own values kind (Some v) None h a = a
added_after p own values kind (Some v) (Some by) h a = summed_after p own values kind (value_sum v by) h a

-- ---- all steps

-- what is left of the steps, one step on
pub outcome_in-drop : (steps : List RowStep) (k : ℕ) (d : RowStep) (own written : Values) (next : Option Values) → k < length steps → step_in (slice_index_or steps k d) own written ≡ next
    → outcome_in k (drop k steps) own written ≡ goes_on k next (λ n. outcome_in (k + 1) (drop (k + 1) steps) own n)
outcome_in-drop steps k d own written next lt e =
    ap (λ l. outcome_in k l own written) (drop_more steps k d lt) ∙ ap (λ o. goes_on k o (λ n. outcome_in (k + 1) (drop (k + 1) steps) own n)) e

steps_apart : (all ss : List RowStep) (at : ℕ) (own values : Values) → EachPasses (is_written all) ss → IsAfter (is_written all) own values
    → outcome_in at ss own (written_of all values) ≡ outcome_of all (after_steps at ss values)
steps_apart all [] at own values each a = refl
steps_apart all (s ∷ ss) at own values each a =
    ap (λ o. goes_on at o (λ next. outcome_in (at + 1) ss own next)) (step_apart (is_written all) own values s each.0 a)
    ∙ elim (step_on s values) as (λ o. IfSome o (IsAfter (is_written all) own) → goes_on at (option_map (written_of all) o) (λ next. outcome_in (at + 1) ss own next) ≡ outcome_of all (unless_overflow at o (λ next. after_steps (at + 1) ss next))) [
      | None ↦ λ _. refl
      | Some next ↦ λ after. steps_apart all ss (at + 1) own next each.1 after
    ] (added_after (is_written all) own values (target s) (find nat_cmp (target s) values) (addend s values) each.0 a)

-- what the steps make of a row whose kinds ascend
pub row_apart : (steps : List RowStep) (row : Row) → IsAscending row.cells → outcome_in 0 steps (values_of row) (written_of steps (values_of row)) ≡ outcome_of steps (after_steps 0 steps (values_of row))
row_apart steps row up =
    steps_apart steps steps 0 (values_of row) (values_of row) (each_passes (is_written steps) steps (λ kind w. w))
    (at_first (is_written steps) (values_of row) (subst T (sym (same_order row.cells)) up))
