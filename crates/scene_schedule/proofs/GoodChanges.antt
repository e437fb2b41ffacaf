-- What steps make of a row of a valid world: the values that they write fit their kinds, which the row has.
use Rattle.std.proofs.Common.{◌≡◌, ℕ, ◌+◌, ℤ, ◌+ℤ◌, suc, Bool, true, false, cond, T, List, [], ◌∷◌, length, map, refl, ap, subst, sym, ◌∙◌, arith, nat_eq, Option, Some, None, Ok, if◌then◌else◌}
use Rattle.std.specs.Prelude.{⊤, Result, Err, IfSome, IfOk, option_map, filter, is_some}
use Rattle.std.specs.Option.{option_and_then}
use Rattle.std.specs.List.{list_all}
use Rattle.std.specs.Ordering.{nat_cmp, is_lt}
use Rattle.std.specs.Cmp.{nat_cmp_total}
use Rattle.std.specs.FinMap.{nat_cmp-IsAntisymmetric}
use Rattle.std.specs.FinMap.Entries.{put, find, below_all, is_sorted, is_sorted-put, is_sorted-where_key, find-where_key}
use Rattle.std.proofs.lemmas.Bool.{and_parts, and_from, eqb-true, eq-eqb}
use Rattle.scene_kinds.specs.declared.cell.Cell.{Cell}
use Rattle.scene_kinds.specs.declared.cells.Row.{Row}
use Rattle.scene_kinds.specs.declared.shape.Shape.{Shape}
use Rattle.scene_kinds.specs.declared.value.Value.{Value}
use Rattle.scene_kinds.specs.declared.value.Value.TheVariants.{Int, Vec3}
use Rattle.scene_kinds.specs.Ranges.{is_i64, are_three, is_in_range}
use Rattle.scene_kinds.specs.Schema.{Kinds, shape_of, has_shape, fits_kind}
use Rattle.scene_kinds.specs.Shape.{shape_of_value, same_shape}
use Rattle.scene_kinds.proofs.Choices.{test_parts}
use Rattle.scene_table.specs.declared.row_step.RowStep.{RowStep}
use Rattle.scene_table.specs.declared.row_step.RowStep.TheVariants.{AddVec, AddInt}
use Rattle.scene_table.specs.RowStep.{is_written}
use Rattle.scene_pass.specs.Changes.{Values, values_of, sum, sums, value_sum, addend, added, step_on, unless_overflow, after_steps, outcome_of}
use Rattle.scene_model.specs.Valid.{IsRowOf}
use Rattle.scene_schedule.specs.AtOnce.{written_of}
use Rattle.scene_schedule.proofs.Entries.{both_tests, ascent, found_passes, all_put, found_as_before}

-- ---- sums

-- a sum that there is fits
sum_fits : (x y z : ℤ) → sum x y ≡ Some z → is_i64 z ≡ true
sum_fits x y z h = elim (is_i64 (x +ℤ y)) as (λ b. is_i64 (x +ℤ y) ≡ b → (if b then Some (x +ℤ y) else None) ≡ Some z → is_i64 z ≡ true) [
  | true ↦ λ e g. ap is_i64 (sym (let same : x +ℤ y ≡ z = cc in same)) ∙ e
  | false ↦ λ e g. absurd (let wrong : None ≡ Some z = g in cc)
] refl h

-- and sums of as many coordinates are as many, which all fit
sums_fit : (xs ys zs : List ℤ) → length xs ≡ length ys → sums xs ys ≡ Some zs → (length zs ≡ length xs) × (list_all is_i64 zs ≡ true)
sums_fit [] ys zs l h =
    let same : [] ≡ zs = cc in
    subst (λ (l : List ℤ). (length l ≡ 0) × (list_all is_i64 l ≡ true)) same (refl, refl)
sums_fit (x ∷ xs) [] zs l h = absurd (omega (arith, l))
sums_fit (x ∷ xs) (y ∷ ys) zs l h =
    let rest = λ (ws : List ℤ) (e : sums xs ys ≡ Some ws). sums_fit xs ys ws (omega (arith, l)) e in
    elim (sum x y) as (λ o. sum x y ≡ o → option_and_then (λ z. option_map (λ zs. z ∷ zs) (sums xs ys)) o ≡ Some zs → (length zs ≡ suc (length xs)) × (list_all is_i64 zs ≡ true)) [
      | None ↦ λ e g. absurd (let wrong : None ≡ Some zs = g in cc)
      | Some z ↦ λ e g. elim (sums xs ys) as (λ o. sums xs ys ≡ o → option_map (λ zs. z ∷ zs) o ≡ Some zs → (length zs ≡ suc (length xs)) × (list_all is_i64 zs ≡ true)) [
        | None ↦ λ f k. absurd (let wrong : None ≡ Some zs = k in cc)
        | Some ws ↦ λ f k.
            let same : z ∷ ws ≡ zs = cc in
            let r = rest ws f in
            subst (λ (l : List ℤ). (length l ≡ suc (length xs)) × (list_all is_i64 l ≡ true)) same (ap (λ n. suc n) r.0, and_from (is_i64 z) (list_all is_i64 ws) (sum_fits x y z e) r.1)
      ] refl g
    ] refl h

vec_fits : (xs ys zs : List ℤ) → are_three xs ≡ true → are_three ys ≡ true → sums xs ys ≡ Some zs → are_three zs ≡ true
vec_fits xs ys zs h g s =
    let many : length xs ≡ 3 = eqb-true (length xs) 3 (and_parts (nat_eq (length xs) 3) (list_all is_i64 xs) h).0 in
    let others : length ys ≡ 3 = eqb-true (length ys) 3 (and_parts (nat_eq (length ys) 3) (list_all is_i64 ys) g).0 in
    let k = sums_fit xs ys zs (many ∙ sym others) s in
    and_from (nat_eq (length zs) 3) (list_all is_i64 zs) (eq-eqb (length zs) 3 (k.0 ∙ many)) k.1

-- a value and a sum with it are of one shape, and the sum is in range
record IsSameShape (value s : Value) : Type 0 where
  in_range : is_in_range s ≡ true
  shape : shape_of_value s ≡ shape_of_value value

kept_value : (value s : Value) → is_in_range value ≡ true → ◌≡◌ {A = Option Value} (Some value) (Some s) → IsSameShape value s
kept_value value s r h = let same : value ≡ s = cc in subst (IsSameShape value) same (record { in_range = r; shape = refl })

int_sum : (x y : ℤ) (s : Value) (o : Option ℤ) → sum x y ≡ o → option_map Int o ≡ Some s → IsSameShape (Int x) s
int_sum x y s None e h = absurd (let wrong : ◌≡◌ {A = Option Value} None (Some s) = h in cc)
int_sum x y s (Some z) e h = let same : Int z ≡ s = cc in subst (IsSameShape (Int x)) same (record { in_range = sum_fits x y z e; shape = refl })

vec_sum : (xs ys : List ℤ) (s : Value) (o : Option (List ℤ)) → sums xs ys ≡ o → are_three xs ≡ true → are_three ys ≡ true → option_map Vec3 o ≡ Some s → IsSameShape (Vec3 xs) s
vec_sum xs ys s None e r q h = absurd (let wrong : ◌≡◌ {A = Option Value} None (Some s) = h in cc)
vec_sum xs ys s (Some zs) e r q h = let same : Vec3 zs ≡ s = cc in subst (IsSameShape (Vec3 xs)) same (record { in_range = vec_fits xs ys zs r q e; shape = refl })

-- what is added is a number, or in range
abbrev IsAddend : Value → Type 0
IsAddend (Vec3 ys) = are_three ys ≡ true
IsAddend v = ⊤

in_range_addend : (v : Value) → is_in_range v ≡ true → IsAddend v
in_range_addend (Vec3 ys) h = h
in_range_addend v h = tt

value_fits : (value by s : Value) → is_in_range value ≡ true → IsAddend by → value_sum value by ≡ Some s → IsSameShape value s
value_fits (Int x) (Int y) s r a h = int_sum x y s (sum x y) refl h
value_fits (Vec3 xs) (Vec3 ys) s r a h = vec_sum xs ys s (sums xs ys) refl r a h
value_fits value by s r a h = kept_value value s r h

-- ---- values of a row

-- a value that fits a kind is in range
fitting_range : (value : Value) (o : Option Shape) → has_shape value o ≡ true → is_in_range value ≡ true
fitting_range value None h = absurd (let wrong : false ≡ true = h in cc)
fitting_range value (Some shape) h = (and_parts (is_in_range value) (same_shape (shape_of_value value) shape) h).0

fitting_same : (value s : Value) (o : Option Shape) → has_shape value o ≡ true → IsSameShape value s → has_shape s o ≡ true
fitting_same value s None h k = h
fitting_same value s (Some shape) h k =
    and_from (is_in_range s) (same_shape (shape_of_value s) shape) k.in_range
    (ap (λ x. same_shape x shape) k.shape ∙ (and_parts (is_in_range value) (same_shape (shape_of_value value) shape) h).1)

-- values ascend by kind, and each fits its own
pub record AreGood (schema : Kinds) (values : Values) : Type 0 where
  pub ascending : T (is_sorted nat_cmp values)
  pub fit : list_all (λ v. fits_kind schema v.1 v.0) values ≡ true

-- what steps made of values: they are good, and of the same kinds
record IsMadeOf (schema : Kinds) (values made : Values) : Type 0 where
  good : AreGood schema made
  kinds : (kind : ℕ) → is_some (find nat_cmp kind made) ≡ is_some (find nat_cmp kind values)

addends : (schema : Kinds) (s : RowStep) (values : Values) → AreGood schema values → IfSome (addend s values) IsAddend
addends schema (AddVec to by) values g = elim (find nat_cmp by values) as (λ o. find nat_cmp by values ≡ o → IfSome o IsAddend) [
  | None ↦ λ e. tt
  | Some v ↦ λ e. in_range_addend v (fitting_range v (shape_of schema by) (found_passes (λ (v : ℕ × Value). fits_kind schema v.1 v.0) values by v g.fit e))
] refl
addends schema (AddInt to by) values g = tt

added_made : (schema : Kinds) (values : Values) (kind : ℕ) (value by : Option Value) → AreGood schema values → find nat_cmp kind values ≡ value → IfSome by IsAddend
    → IfSome (added values kind value by) (IsMadeOf schema values)
added_made schema values kind None by g is a = record { good = g; kinds = λ k. refl }
added_made schema values kind (Some v) None g is a = record { good = g; kinds = λ k. refl }
added_made schema values kind (Some v) (Some b) g is a =
    let here = found_passes (λ (v : ℕ × Value). fits_kind schema v.1 v.0) values kind v g.fit is in
    elim (value_sum v b) as (λ o. value_sum v b ≡ o → IfSome (option_map (λ s. put nat_cmp kind s values) o) (IsMadeOf schema values)) [
      | None ↦ λ e. tt
      | Some s ↦ λ e.
          let same = value_fits v b s (fitting_range v (shape_of schema kind) here) a e in
          record {
            good = record {
              ascending = is_sorted-put nat_cmp nat_cmp_total kind s values g.ascending;
              fit = all_put (λ (v : ℕ × Value). fits_kind schema v.1 v.0) values kind s g.fit (fitting_same v s (shape_of schema kind) here same);
            };
            kinds = λ q. found_as_before kind s v values q is;
          }
    ] refl

step_made : (schema : Kinds) (s : RowStep) (values : Values) → AreGood schema values → IfSome (step_on s values) (IsMadeOf schema values)
step_made schema (AddVec to by) values g = added_made schema values to (find nat_cmp to values) (find nat_cmp by values) g refl (addends schema (AddVec to by) values g)
step_made schema (AddInt to by) values g = added_made schema values to (find nat_cmp to values) (Some (Int by)) g refl tt

over_made : (schema : Kinds) (values made : Values) (r : Result Values ℕ) → IsMadeOf schema values made → IfOk r (IsMadeOf schema made) → IfOk r (IsMadeOf schema values)
over_made schema values made (Ok vs) h g = record { good = g.good; kinds = λ k. g.kinds k ∙ h.kinds k }
over_made schema values made (Err at) h g = tt

rest_made : (schema : Kinds) (at : ℕ) (values : Values) (o : Option Values) (rest : Values → Result Values ℕ)
    → ((next : Values) → AreGood schema next → IfOk (rest next) (IsMadeOf schema next)) → IfSome o (IsMadeOf schema values)
    → IfOk (unless_overflow at o rest) (IsMadeOf schema values)
rest_made schema at values None rest f h = tt
rest_made schema at values (Some next) rest f h = over_made schema values next (rest next) h (f next h.good)

steps_made : (schema : Kinds) (at : ℕ) (ss : List RowStep) (values : Values) → AreGood schema values → IfOk (after_steps at ss values) (IsMadeOf schema values)
steps_made schema at [] values g = record { good = g; kinds = λ k. refl }
steps_made schema at (s ∷ ss) values g =
    rest_made schema at values (step_on s values) (after_steps (at + 1) ss) (λ next h. steps_made schema (at + 1) ss next h) (step_made schema s values g)

-- ---- what is written

-- cells that are written to values: they are good, of kinds that are there, and of kinds that the steps write
pub record AreWritten (schema : Kinds) (ss : List RowStep) (values cells : Values) : Type 0 where
  pub good : AreGood schema cells
  pub there : (kind : ℕ) (v : Value) → find nat_cmp kind cells ≡ Some v → is_some (find nat_cmp kind values) ≡ true
  pub written : (kind : ℕ) (v : Value) → find nat_cmp kind cells ≡ Some v → is_written ss kind ≡ true

filter_passes : (p q : ℕ × Value → Bool) (values : Values) → list_all p values ≡ true → list_all p (filter q values) ≡ true
filter_passes p q [] h = refl
filter_passes p q (v ∷ vs) h =
    let parts = and_parts (p v) (list_all p vs) h in
    let rest = filter_passes p q vs parts.1 in
    elim (q v) as (λ b. list_all p (cond b (v ∷ filter q vs) (filter q vs)) ≡ true) [
      | true ↦ and_from (p v) (list_all p (filter q vs)) parts.0 rest
      | false ↦ rest
    ]

found_kept : (ss : List RowStep) (values : Values) (kind : ℕ) → find nat_cmp kind (filter (λ v. is_written ss v.0) values) ≡ cond (is_written ss kind) (find nat_cmp kind values) None
found_kept ss values kind = find-where_key nat_cmp (is_written ss) kind (λ x e. ap (is_written ss) (sym (nat_cmp-IsAntisymmetric kind x e))) values

chosen_found : (b : Bool) (o : Option Value) (v : Value) → cond b o None ≡ Some v → (b ≡ true) × (o ≡ Some v)
chosen_found true o v h = (refl, h)
chosen_found false o v h = absurd (let wrong : ◌≡◌ {A = Option Value} None (Some v) = h in cc)

result_written : (schema : Kinds) (ss : List RowStep) (values : Values) (r : Result Values ℕ) → IfOk r (IsMadeOf schema values) → AreWritten schema ss values (written_of (outcome_of ss r))
result_written schema ss values (Err at) h = record {
  good = record { ascending = tt; fit = refl };
  there = λ kind v e. absurd (let wrong : ◌≡◌ {A = Option Value} None (Some v) = e in cc);
  written = λ kind v e. absurd (let wrong : ◌≡◌ {A = Option Value} None (Some v) = e in cc);
}
result_written schema ss values (Ok made) h = record {
  good = record {
    ascending = is_sorted-where_key nat_cmp (is_written ss) made h.good.ascending;
    fit = filter_passes (λ (v : ℕ × Value). fits_kind schema v.1 v.0) (λ (v : ℕ × Value). is_written ss v.0) made h.good.fit;
  };
  there = λ kind v e.
      let k = chosen_found (is_written ss kind) (find nat_cmp kind made) v (sym (found_kept ss made kind) ∙ e) in
      sym (h.kinds kind) ∙ ap is_some k.1;
  written = λ kind v e. (chosen_found (is_written ss kind) (find nat_cmp kind made) v (sym (found_kept ss made kind) ∙ e)).0;
}

-- the values of a row of a valid world are good
pub row_good : (schema : Kinds) (mask : ℕ) (row : Row) → IsRowOf schema mask row → AreGood schema (values_of row)
row_good schema mask row h = record { ascending = values_ascend row.cells h.kinds.ascending; fit = values_fit schema row.cells h.shapes }
  where
    values_below : (kind : ℕ) (cells : List (ℕ × Cell)) → T (below_all nat_cmp kind cells) → T (below_all nat_cmp kind (map (λ (c : ℕ × Cell). (c.0, c.1.value)) cells))
    values_below kind [] h = tt
    values_below kind (c ∷ cs) h = let parts = test_parts (is_lt (nat_cmp kind c.0)) (below_all nat_cmp kind cs) h in
        both_tests (is_lt (nat_cmp kind c.0)) (below_all nat_cmp kind (map (λ (c : ℕ × Cell). (c.0, c.1.value)) cs)) parts.0 (values_below kind cs parts.1)

    values_ascend : (cells : List (ℕ × Cell)) → T (is_sorted nat_cmp cells) → T (is_sorted nat_cmp (map (λ (c : ℕ × Cell). (c.0, c.1.value)) cells))
    values_ascend [] h = tt
    values_ascend (c ∷ cs) h =
        let parts = ascent c cs h in
        both_tests (below_all nat_cmp c.0 (map (λ (c : ℕ × Cell). (c.0, c.1.value)) cs)) (is_sorted nat_cmp (map (λ (c : ℕ × Cell). (c.0, c.1.value)) cs))
        (values_below c.0 cs parts.0) (values_ascend cs parts.1)

    values_fit : (schema : Kinds) (cells : List (ℕ × Cell)) → list_all (λ (c : ℕ × Cell). fits_kind schema c.1.value c.0) cells ≡ true
        → list_all (λ (v : ℕ × Value). fits_kind schema v.1 v.0) (map (λ (c : ℕ × Cell). (c.0, c.1.value)) cells) ≡ true
    values_fit schema [] h = refl
    values_fit schema (c ∷ cs) h =
        let parts = and_parts (fits_kind schema c.1.value c.0) (list_all (λ (c : ℕ × Cell). fits_kind schema c.1.value c.0) cs) h in
        and_from (fits_kind schema c.1.value c.0) (list_all (λ (v : ℕ × Value). fits_kind schema v.1 v.0) (map (λ (c : ℕ × Cell). (c.0, c.1.value)) cs)) parts.0 (values_fit schema cs parts.1)

-- the cells that steps write to such a row
pub row_written : (schema : Kinds) (mask : ℕ) (row : Row) (ss : List RowStep) → IsRowOf schema mask row
    → AreWritten schema ss (values_of row) (written_of (outcome_of ss (after_steps 0 ss (values_of row))))
row_written schema mask row ss h =
    result_written schema ss (values_of row) (after_steps 0 ss (values_of row)) (steps_made schema 0 ss (values_of row) (row_good schema mask row h))
