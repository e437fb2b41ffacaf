-- Steps of the walks that make a system's queue, and those that make what the systems of a phase make.
use Rattle.std.proofs.Common.{◌≡◌, ◌<◌, ◌≤◌, ℕ, ◌+◌, List, [], ◌∷◌, ◌++◌, append_assoc, append-nil, length, length-append, get_or, drop, map, Bool, true, false, cond, refl, ap, sym, ◌∙◌, arith, Some, None, Option}
use Rattle.std.specs.Prelude.{filter, option_map}
use Rattle.std.specs.Ordering.{nat_cmp, eq_by_cmp}
use Rattle.std.specs.Cmp.{nat_cmp_total}
use Rattle.std.specs.FinMap.{nat_cmp-IsAntisymmetric}
use Rattle.std.specs.FinMap.Entries.{find}
use Rattle.std.proofs.lemmas.List.Sums.{sum_by-append, sum_by-cons}
use Rattle.scene_kinds.specs.declared.entity.Entity.{Entity}
use Rattle.scene_kinds.specs.declared.refusal.Refusal.{Refusal}
use Rattle.scene_kinds.specs.declared.value.Value.{Value}
use Rattle.scene_kinds.proofs.Maps.{equal_keys, ties_itself}
use Rattle.scene_commands.specs.declared.command.Command.{Command}
use Rattle.scene_commands.specs.declared.command.Command.TheVariants.{Spawn, DespawnAllIfAlive, SetParent}
use Rattle.scene_commands.specs.declared.target.Target.TheVariants.{Id, New}
use Rattle.scene_model.specs.World.{World}
use Rattle.scene_queue.specs.Queue.{spawns, spawned_by}
use Rattle.scene_table.specs.declared.row_step.RowStep.{RowStep}
use Rattle.scene_systems.specs.declared.step.Step.{Step}
use Rattle.scene_systems.specs.declared.step.Step.TheVariants.{Row as Writing, DespawnAtZero, SpawnChild, CountInto}
use Rattle.scene_systems.specs.declared.system_rule.SystemRule.{SystemRule}
use Rattle.scene_pass.specs.declared.row_change.RowChange.{RowChange}
use Rattle.scene_pass.specs.Changes.{first_fault}
use Rattle.scene_schedule.specs.Systems.{row_steps, changes_of, overflow_at, is_zero_value}
use Rattle.scene_schedule.specs.AtOnce.{zero_or, is_zero_after, despawns_after, children_after, commands_after, first_overflow, overflow_or}
use Rattle.scene_schedule.proofs.Walks.{at_place}

-- ---- lists that grow

-- what was added to a list, before the rest of what is to be added
pub pushed_on : {X : Type 0} (old now first rest all : List X) → now ≡ old ++ first → old ++ (first ++ rest) ≡ all → now ++ rest ≡ all
pushed_on old now first rest all e h = ap (λ m. m ++ rest) e ∙ append_assoc old first rest ∙ h

-- ---- spawns

pub spawns_joined : (xs ys : List Command) → spawns (xs ++ ys) ≡ spawns xs + spawns ys
spawns_joined xs ys = sum_by-append spawned_by xs ys

-- commands without a spawn
no_spawn : (xs ys : List Command) → spawns ys ≡ 0 → spawns (xs ++ ys) ≡ spawns xs
no_spawn xs ys h = omega (arith, spawns_joined xs ys, h)

-- ---- commands

-- the despawns of the first row, and of the others
despawns_first : (w : World) (kind : ℕ) (c : RowChange) (cs : List RowChange) → despawns_after w kind (c ∷ cs) ≡ despawns_after w kind (c ∷ []) ++ despawns_after w kind cs
despawns_first w kind c cs =
    let left = filter (is_zero_after w kind) cs in
    let command = λ (c : RowChange). DespawnAllIfAlive (Id c.entity) in
    elim (is_zero_after w kind c) as (λ b. map command (cond b (c ∷ left) left) ≡ map command (cond b (c ∷ []) []) ++ map command left) [ true ↦ refl | false ↦ refl ]

pub despawns_step : (w : World) (kind : ℕ) (changes : List RowChange) (at : ℕ) (c : RowChange) → at < length changes → c ≡ get_or changes at c
    → despawns_after w kind (drop at changes) ≡ despawns_after w kind (c ∷ []) ++ despawns_after w kind (drop (at + 1) changes)
despawns_step w kind changes at c h e = ap (despawns_after w kind) (at_place changes at c h e) ∙ despawns_first w kind c (drop (at + 1) changes)

-- the child of the first row, and those of the others
pub children_step : (old now : List Command) (cells : List (ℕ × Value)) (changes : List RowChange) (at : ℕ) (c : RowChange) (all : List Command) → at < length changes → c ≡ get_or changes at c
    → now ≡ old ++ Spawn cells ∷ SetParent (New (spawns old)) (Id c.entity) ∷ []
    → old ++ children_after (spawns old) cells (drop at changes) ≡ all
    → now ++ children_after (spawns now) cells (drop (at + 1) changes) ≡ all
children_step old now cells changes at c all h e made before =
    let first : List Command = Spawn cells ∷ SetParent (New (spawns old)) (Id c.entity) ∷ [] in
    let rest = drop (at + 1) changes in
    let one : spawns first ≡ 1 = refl in
    let count : spawns now ≡ spawns old + 1 = ap spawns made ∙ omega (arith, spawns_joined old first, one) in
    ap (λ n. now ++ children_after n cells rest) count
    ∙ pushed_on old now first (children_after (spawns old + 1) cells rest) all made
    (ap (λ cs. old ++ children_after (spawns old) cells cs) (sym (at_place changes at c h e)) ∙ before)

spawns_despawns : (cs : List RowChange) → spawns (map (λ (c : RowChange). DespawnAllIfAlive (Id c.entity)) cs) ≡ 0
spawns_despawns [] = refl
spawns_despawns (c ∷ cs) = sum_by-cons spawned_by (DespawnAllIfAlive (Id c.entity)) (map (λ (c : RowChange). DespawnAllIfAlive (Id c.entity)) cs) ∙ omega (arith, spawns_despawns cs)

spawns_children : (n : ℕ) (cells : List (ℕ × Value)) (cs : List RowChange) → spawns (children_after n cells cs) ≡ length cs
spawns_children n cells [] = refl
spawns_children n cells (c ∷ cs) =
    let rest = children_after (n + 1) cells cs in
    let child : Command = SetParent (New n) (Id c.entity) in
    let one : spawned_by (Spawn cells) ≡ 1 = refl in
    let none : spawned_by child ≡ 0 = refl in
    omega (arith, sum_by-cons spawned_by (Spawn cells) (child ∷ rest), sum_by-cons spawned_by child rest, spawns_children (n + 1) cells cs, one, none)

-- the commands of the first step, and of the others
commands_first : (w : World) (n m : ℕ) (s : Step) (ss : List Step) (cs : List RowChange) → m ≡ n + spawns (commands_after w n (s ∷ []) cs)
    → commands_after w n (s ∷ ss) cs ≡ commands_after w n (s ∷ []) cs ++ commands_after w m ss cs
commands_first w n m (Writing s) ss cs h =
    let none : spawns [] ≡ 0 = refl in
    let same : m ≡ n = omega (arith, h, none) in
    ap (λ k. commands_after w k ss cs) (sym same)
commands_first w n m (DespawnAtZero kind) ss cs h =
    let first = despawns_after w kind cs in
    let none : spawns (first ++ []) ≡ 0 = ap spawns (append-nil first) ∙ spawns_despawns (filter (is_zero_after w kind) cs) in
    let same : m ≡ n = omega (arith, h, none) in
    ap (λ k. first ++ commands_after w k ss cs) (sym same) ∙ ap (λ xs. xs ++ commands_after w m ss cs) (sym (append-nil first))
commands_first w n m (SpawnChild cells) ss cs h =
    let first = children_after n cells cs in
    let many : spawns (first ++ []) ≡ length cs = ap spawns (append-nil first) ∙ spawns_children n cells cs in
    let same : m ≡ n + length cs = h ∙ ap (λ k. n + k) many in
    ap (λ k. first ++ commands_after w k ss cs) (sym same) ∙ ap (λ xs. xs ++ commands_after w m ss cs) (sym (append-nil first))
commands_first w n m (CountInto name) ss cs h =
    let none : spawns (commands_after w n (CountInto name ∷ []) cs) ≡ 0 = refl in
    let same : m ≡ n = omega (arith, h, none) in
    ap (λ k. commands_after w n (CountInto name ∷ []) cs ++ commands_after w k ss cs) (sym same)

pub commands_step : (w : World) (old now : List Command) (steps : List Step) (changes : List RowChange) (at : ℕ) (s : Step) (all : List Command) → at < length steps → s ≡ get_or steps at s
    → now ≡ old ++ commands_after w (spawns old) (s ∷ []) changes
    → old ++ commands_after w (spawns old) (drop at steps) changes ≡ all
    → now ++ commands_after w (spawns now) (drop (at + 1) steps) changes ≡ all
commands_step w old now steps changes at s all h e made before =
    let first = commands_after w (spawns old) (s ∷ []) changes in
    let rest = drop (at + 1) steps in
    let count : spawns now ≡ spawns old + spawns first = ap spawns made ∙ spawns_joined old first in
    pushed_on old now first (commands_after w (spawns now) rest changes) all made
    (ap (λ xs. old ++ xs) (sym (ap (λ ss. commands_after w (spawns old) ss changes) (at_place steps at s h e) ∙ commands_first w (spawns old) (spawns now) s rest changes count)) ∙ before)

-- ---- numbers that are 0

-- the walk over cells at one of the kind
pub zero_here : (kind : ℕ) (cells : List (ℕ × Value)) (at : ℕ) (x : ℕ × Value) → at < length cells → x ≡ get_or cells at x → x.0 ≡ kind
    → find nat_cmp kind (drop at cells) ≡ Some x.1
zero_here kind cells at x h e same =
    ap (find nat_cmp kind) (at_place cells at x h e)
    ∙ ap (λ b. cond b (Some x.1) (find nat_cmp kind (drop (at + 1) cells))) (ap (eq_by_cmp nat_cmp kind) same ∙ ties_itself nat_cmp_total kind)

-- and at another
pub zero_later : (kind : ℕ) (cells : List (ℕ × Value)) (at : ℕ) (x : ℕ × Value) → at < length cells → x ≡ get_or cells at x → (x.0 ≡ kind → ⊥)
    → find nat_cmp kind (drop at cells) ≡ find nat_cmp kind (drop (at + 1) cells)
zero_later kind cells at x h e other =
    ap (find nat_cmp kind) (at_place cells at x h e)
    ∙ elim (eq_by_cmp nat_cmp kind x.0) as (λ b. eq_by_cmp nat_cmp kind x.0 ≡ b → cond b (Some x.1) (find nat_cmp kind (drop (at + 1) cells)) ≡ find nat_cmp kind (drop (at + 1) cells)) [
      | true ↦ λ t. absurd (other (sym (equal_keys nat_cmp-IsAntisymmetric kind x.0 t)))
      | false ↦ λ t. refl
    ] refl

-- a number that was written, and none
pub zero_some : (o : Option Value) (rest zero : Bool) → option_map is_zero_value o ≡ Some zero → zero_or o rest ≡ zero
zero_some None rest zero h = absurd (let wrong : ◌≡◌ {A = Option Bool} None (Some zero) = h in cc)
zero_some (Some v) rest zero h = let same : is_zero_value v ≡ zero = cc in same

pub zero_none : (o : Option Value) (rest : Bool) → option_map is_zero_value o ≡ None → zero_or o rest ≡ rest
zero_none None rest h = refl
zero_none (Some v) rest h = absurd (let wrong : ◌≡◌ {A = Option Bool} (Some (is_zero_value v)) None = h in cc)

-- ---- steps that write

pub row_steps_step : (steps : List Step) (at : ℕ) (s : Step) → at < length steps → s ≡ get_or steps at s → row_steps (drop at steps) ≡ row_steps (s ∷ []) ++ row_steps (drop (at + 1) steps)
row_steps_step steps at s h e = ap row_steps (at_place steps at s h e) ∙ first s (drop (at + 1) steps)
  where
    first : (s : Step) (ss : List Step) → row_steps (s ∷ ss) ≡ row_steps (s ∷ []) ++ row_steps ss
    first (Writing s) ss = refl
    first (DespawnAtZero kind) ss = refl
    first (SpawnChild cells) ss = refl
    first (CountInto name) ss = refl

-- they are no more than all steps
pub row_steps_few : (steps : List Step) → length (row_steps steps) ≤ length steps
row_steps_few [] = omega arith
row_steps_few (Writing s ∷ ss) = omega (arith, row_steps_few ss)
row_steps_few (DespawnAtZero kind ∷ ss) = omega (arith, row_steps_few ss)
row_steps_few (SpawnChild cells ∷ ss) = omega (arith, row_steps_few ss)
row_steps_few (CountInto name ∷ ss) = omega (arith, row_steps_few ss)

-- nor are those of a walk so far
pub row_steps_so_far : (some rest : List RowStep) (steps : List Step) → some ++ rest ≡ row_steps steps → length some ≤ length steps
row_steps_so_far some rest steps h =
    let long : length (some ++ rest) ≡ length (row_steps steps) = ap length h in
    omega (arith, length-append some rest, long, row_steps_few steps)

-- ---- overflows

-- the walk over systems at one that doesn't overflow
pub overflow_passed : (w : World) (rules : List SystemRule) (at : ℕ) (rule : SystemRule) → at < length rules → rule ≡ get_or rules at rule → first_fault (changes_of w rule) ≡ None
    → first_overflow w at (drop at rules) ≡ first_overflow w (at + 1) (drop (at + 1) rules)
overflow_passed w rules at rule h e fits =
    ap (first_overflow w at) (at_place rules at rule h e) ∙ ap (λ o. overflow_or at o (first_overflow w (at + 1) (drop (at + 1) rules))) fits

-- and at one that does
pub overflow_found : (w : World) (rules : List SystemRule) (at : ℕ) (rule : SystemRule) (f : Entity × ℕ) (r : Refusal) → at < length rules → rule ≡ get_or rules at rule
    → first_fault (changes_of w rule) ≡ Some f → r ≡ overflow_at at f → first_overflow w at (drop at rules) ≡ Some r
overflow_found w rules at rule f r h e over is =
    ap (first_overflow w at) (at_place rules at rule h e) ∙ ap (λ o. overflow_or at o (first_overflow w (at + 1) (drop (at + 1) rules))) over ∙ ap Some (sym is)
