-- The rows that a system of a schedule matches have the kinds that its steps name, in their shapes.
use Rattle.std.proofs.Common.{◌≡◌, ℕ, Bool, true, false, cond, T, List, [], ◌∷◌, ◌++◌, length, map, refl, ap, subst, sym, ◌∙◌, arith, Option, Some, None}
use Rattle.std.specs.Prelude.{All, is_some, pos}
use Rattle.std.specs.List.{Contains, filter, list_all}
use Rattle.std.specs.Ordering.{nat_cmp, is_lt}
use Rattle.std.specs.declared.cmp.Ordering.TheVariants.{Less}
use Rattle.std.specs.FinMap.Entries.{below_all, is_sorted}
use Rattle.std.proofs.lemmas.Bool.{and_parts, and_from}
use Rattle.std.proofs.lemmas.Bool.Decides.{nat_tests}
use Rattle.std.proofs.lemmas.List.Elements.{All-contains, All-cons, All-nil}
use Rattle.scene_kinds.specs.declared.cells.Row.{Row}
use Rattle.scene_kinds.specs.declared.shape.Shape.{Shape}
use Rattle.scene_kinds.specs.declared.shape.Shape.TheVariants as shape
use Rattle.scene_kinds.specs.declared.value.Value.{Value}
use Rattle.scene_kinds.specs.declared.value.Value.TheVariants.{Int, Vec3}
use Rattle.scene_kinds.specs.Cells.{HasKinds, cell_of}
use Rattle.scene_kinds.specs.KindSet.{KindSet, has_kind, is_disjoint, is_subset}
use Rattle.scene_kinds.specs.Ranges.{is_in_range}
use Rattle.scene_kinds.specs.Schema.{Kinds, has_shape, is_good_name, shape_of}
use Rattle.scene_kinds.specs.Shape.{same_shape, shape_of_value}
use Rattle.scene_kinds.proofs.Choices.{less, test_parts}
use Rattle.scene_kinds.proofs.KindSets.{has_kind-mask_of}
use Rattle.scene_kinds.proofs.Subsets.{subset_by_kinds}
use Rattle.scene_table.specs.declared.home.Home.{Home}
use Rattle.scene_table.specs.declared.row_step.RowStep.{RowStep}
use Rattle.scene_table.specs.declared.row_step.RowStep.TheVariants.{AddVec, AddInt}
use Rattle.scene_table.specs.Tables.{rows_at}
use Rattle.scene_model.specs.World.{World, kind_sets}
use Rattle.scene_model.specs.Valid.{IsValid}
use Rattle.scene_systems.specs.declared.filter.Filter.{Filter}
use Rattle.scene_systems.specs.declared.step.Step.{Step}
use Rattle.scene_systems.specs.declared.step.Step.TheVariants.{Row as Writing, DespawnAtZero, SpawnChild, CountInto}
use Rattle.scene_systems.specs.declared.system_rule.SystemRule.{SystemRule}
use Rattle.scene_systems.specs.Filter.{is_match}
use Rattle.scene_pass.specs.Pass.{matching_rows}
use Rattle.scene_pass.specs.Changes.{Values, change_of, first_fault, values_of}
use Rattle.scene_pass.proofs.Members.{each_passes, first_in, from_filter, in_cases, none_in, passes, place_of, rest_in}
use Rattle.scene_machine.specs.Queue.{play}
use Rattle.scene_world.specs.Stage.{Note, Staged, act}
use Rattle.scene_world.specs.Written.{HasKindsOf, HasKindsOfStep}
use Rattle.scene_schedule.specs.Schedule.{is_good_rule, is_good_step, is_ready, is_shape, is_step_count, knows, writes_first}
use Rattle.scene_schedule.specs.Systems.{changes_of, row_steps, writes_of, writes_of_cells}
use Rattle.scene_schedule.specs.TableWrites.{AddsInRange, AreOnce, WroteOn, sets_of}
use Rattle.scene_schedule.proofs.SameKinds.{same_shape_is, same_shape_self}

-- ---- kind sets

-- those of a world are listed once
sets_once : (es : List (KindSet × (Row × List Row))) → T (is_sorted nat_cmp es) → AreOnce (map (λ (e : KindSet × (Row × List Row)). e.0) es)
sets_once [] h = tt
sets_once (e ∷ es) h =
    let parts = test_parts (below_all nat_cmp e.0 es) (is_sorted nat_cmp es) h in
    (above e.0 es parts.0, sets_once es parts.1)
  where
    not_below_itself : (n : ℕ) → nat_cmp n n ≡ Less → ⊥
    not_below_itself n t = grind (arith, nat_tests)

    above : (k : ℕ) (es : List (KindSet × (Row × List Row))) → T (below_all nat_cmp k es) → Contains (map (λ (e : KindSet × (Row × List Row)). e.0) es) k → ⊥
    above k [] h g = none_in k g
    above k (e ∷ es) h g =
        let parts = test_parts (is_lt (nat_cmp k e.0)) (below_all nat_cmp k es) h in
        in_cases e.0 (map (λ (e : KindSet × (Row × List Row)). e.0) es) k g
        (λ s. not_below_itself k (ap (nat_cmp k) (sym s) ∙ less (nat_cmp k e.0) parts.0))
        (λ r. above k es parts.1 r)

once_filtered : (p : KindSet → Bool) (sets : List KindSet) → AreOnce sets → AreOnce (filter p sets)
once_filtered p [] h = tt
once_filtered p (mask ∷ sets) h =
    let rest = once_filtered p sets h.1 in
    elim (p mask) as (λ b. AreOnce (cond b (mask ∷ filter p sets) (filter p sets))) [
      | true ↦ (λ g. h.0 (from_filter p sets mask g), rest)
      | false ↦ rest
    ]

pub matching_once : (w : World) (rule : SystemRule) → AreOnce (sets_of w rule)
matching_once w rule = once_filtered (is_match rule.filter) (kind_sets w) (sets_once w.tables.entries w.tables.sorted)

-- ---- steps of a good rule

-- its steps are good
good_steps : (schema : Kinds) (rule : SystemRule) → is_good_rule schema rule ≡ true → list_all (is_good_step schema rule.filter.need) rule.steps ≡ true
good_steps schema rule good =
    let named = and_parts (is_good_name rule.name) _ good in
    let needs = and_parts (knows schema rule.filter.need) _ named.1 in
    let misses = and_parts (knows schema rule.filter.without) _ needs.1 in
    let counted = and_parts (is_step_count (length rule.steps)) _ misses.1 in
    (and_parts (list_all (is_good_step schema rule.filter.need) rule.steps) (writes_first rule.steps) counted.1).0

-- a step that writes is one of the steps
from_row_steps : (steps : List Step) (s : RowStep) → Contains (row_steps steps) s → Contains steps (Writing s)
from_row_steps [] s h = none_in s h
from_row_steps (Writing t ∷ steps) s h =
    in_cases t (row_steps steps) s h
    (λ e. subst (λ (z : RowStep). Contains (Writing t ∷ steps) (Writing z)) e (first_in (Writing t) steps))
    (λ r. rest_in (Writing t) steps (Writing s) (from_row_steps steps s r))
from_row_steps (DespawnAtZero kind ∷ steps) s h = rest_in (DespawnAtZero kind) steps (Writing s) (from_row_steps steps s h)
from_row_steps (SpawnChild cells ∷ steps) s h = rest_in (SpawnChild cells) steps (Writing s) (from_row_steps steps s h)
from_row_steps (CountInto name ∷ steps) s h = rest_in (CountInto name) steps (Writing s) (from_row_steps steps s h)

-- ---- rows

-- a value of a kind's shape fits it
shape_fits : (o : Option Shape) (wanted : Shape) (value : Value) → is_shape o wanted ≡ true → is_in_range value ≡ true → shape_of_value value ≡ wanted → has_shape value o ≡ true
shape_fits None wanted value is range of = absurd (let wrong : false ≡ true = is in cc)
shape_fits (Some found) wanted value is range of =
    let same : found ≡ shape_of_value value = same_shape_is found wanted is ∙ sym of in
    and_from (is_in_range value) (same_shape (shape_of_value value) found) range
    (ap (same_shape (shape_of_value value)) same ∙ same_shape_self (shape_of_value value))

module _ (schema : Kinds) (f : Filter) (mask : KindSet) (row : Row) (match : is_match f mask ≡ true) (has : HasKinds mask row) where
  -- the row has what the filter needs
  has_needed : (kind : ℕ) → has_kind f.need kind ≡ true → is_some (cell_of row.cells kind) ≡ true
  has_needed kind needed =
      sym (has_kind-mask_of row.cells kind has.ascending) ∙ ap (λ m. has_kind m kind) has.kinds
      ∙ (subset_by_kinds f.need mask).0 (and_parts (is_subset f.need mask) (is_disjoint mask f.without) match).0 kind needed

  step_ready : (s : RowStep) → is_good_step schema f.need (Writing s) ≡ true → AddsInRange s → HasKindsOfStep schema s row
  step_ready (AddInt to by) good range =
      let parts = and_parts (has_kind f.need to) (is_shape (shape_of schema to) shape.Int) good in
      (has_needed to parts.0, shape_fits (shape_of schema to) shape.Int (Int by) parts.1 range refl)
  step_ready (AddVec to by) good range =
      let both = and_parts (is_ready schema f.need shape.Vec3 to) (is_ready schema f.need shape.Vec3 by) good in
      let first = and_parts (has_kind f.need to) (is_shape (shape_of schema to) shape.Vec3) both.0 in
      let second = and_parts (has_kind f.need by) (is_shape (shape_of schema by) shape.Vec3) both.1 in (
        (has_needed to first.0, has_needed by second.0),
        shape_fits (shape_of schema to) shape.Vec3 (Vec3 (pos 0 ∷ pos 0 ∷ pos 0 ∷ [])) first.1 refl refl,
        shape_fits (shape_of schema by) shape.Vec3 (Vec3 (pos 0 ∷ pos 0 ∷ pos 0 ∷ [])) second.1 refl refl,
      )

-- what holds of each member holds of all
all_of : {X : Type 0} (P : X → Type 0) (xs : List X) → ((x : X) → Contains xs x → P x) → All P xs
all_of P [] each = All-nil P
all_of P (x ∷ xs) each = All-cons P x xs (each x (first_in x xs)) (all_of P xs (λ y h. each y (rest_in x xs y h)))

pub rows_ready : (w : World) (rule : SystemRule) → IsValid w → is_good_rule w.schema rule ≡ true → All AddsInRange (row_steps rule.steps)
    → (mask : KindSet) → Contains (sets_of w rule) mask → All (λ (row : Row). HasKindsOf w.schema (row_steps rule.steps) row) (rows_at w.tables mask)
rows_ready w rule valid good range mask listed =
    all_of (λ (row : Row). HasKindsOf w.schema (row_steps rule.steps) row) (rows_at w.tables mask)
    (λ row there.
    let p = place_of (rows_at w.tables mask) row there in
    let home : Home = record { mask = mask; place = p.0 } in
    let has = (valid.rows.each home row p.1).fits.kinds in
    all_of (λ (s : RowStep). HasKindsOfStep w.schema s row) (row_steps rule.steps)
    (λ s step.
    step_ready w.schema rule.filter mask row (passes (is_match rule.filter) (kind_sets w) mask listed) has s
    (each_passes (is_good_step w.schema rule.filter.need) rule.steps (Writing s) (good_steps w.schema rule good) (from_row_steps rule.steps s step))
    (All-contains AddsInRange (row_steps rule.steps) s range step)))

-- ---- no steps

no_values : (values : Values) → filter (λ (v : ℕ × Value). false) values ≡ []
no_values [] = refl
no_values (v ∷ vs) = no_values vs

-- no steps write nothing
nothing_made : (rows : List Row) → (first_fault (map (change_of []) rows) ≡ None) × (writes_of (map (change_of []) rows) ≡ [])
nothing_made [] = (refl, refl)
nothing_made (row ∷ rows) =
    let rest = nothing_made rows in
    (rest.0, ap (λ (vs : Values). writes_of_cells row.entity vs ++ writes_of (map (change_of []) rows)) (no_values (values_of row)) ∙ rest.1)

pub nothing_wrote : {N : Type 0} (note : Note N) (rule : SystemRule) (s : Staged N) → row_steps rule.steps ≡ [] → WroteOn note (changes_of s.world rule) s s
nothing_wrote note rule s none =
    let made = nothing_made (matching_rows s.world rule.filter) in
    subst (λ (ss : List RowStep). WroteOn note (map (change_of ss) (matching_rows s.world rule.filter)) s s) (sym none)
    (record { fit = made.0; wrote = ap (λ rs. play (act note) rs s) made.1 })
