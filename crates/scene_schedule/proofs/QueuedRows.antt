-- Steps of the walks that make a system's queue of the rows to which it has written.
use Rattle.std.proofs.Common.{◌≡◌, ◌<◌, ℕ, zero, suc, ◌+◌, List, [], ◌∷◌, ◌++◌, append_assoc, append-nil, length, length-append, get_or, drop, map, Bool, true, false, cond, refl, ap, sym, ◌∙◌, arith, Some, None, if◌then◌else◌}
use Rattle.std.specs.Prelude.{slice_get}
use Rattle.std.specs.List.{filter, flat_map}
use Rattle.std.proofs.lemmas.List.{length-map}
use Rattle.std.proofs.lemmas.List.Elements.{All-head, All-tail}
use Rattle.std.proofs.lemmas.List.Sums.{sum_by-cons}
use Rattle.scene_kinds.specs.declared.cell.Cell.{Cell}
use Rattle.scene_kinds.specs.declared.cells.Row.{Row}
use Rattle.scene_kinds.specs.declared.entity.Entity.{Entity}
use Rattle.scene_kinds.specs.declared.value.Value.{Value}
use Rattle.scene_kinds.specs.Cells.{HasKinds, cell_of}
use Rattle.scene_kinds.specs.KindSet.{KindSet, has_kind}
use Rattle.scene_kinds.proofs.Choices.{none_of_false}
use Rattle.scene_kinds.proofs.KindSets.{has_kind-mask_of}
use Rattle.scene_commands.specs.declared.command.Command.{Command}
use Rattle.scene_commands.specs.declared.command.Command.TheVariants.{Spawn, DespawnAllIfAlive, SetParent}
use Rattle.scene_commands.specs.declared.target.Target.TheVariants.{Id, New}
use Rattle.scene_queue.specs.Queue.{spawns, spawned_by}
use Rattle.scene_table.specs.Columns.{cells_of, stamped, ticks, zip_with}
use Rattle.scene_table.specs.Table.{AllHave, cells_of_kind}
use Rattle.scene_table.proofs.Zips.{zip-length}
use Rattle.scene_systems.specs.declared.step.Step.{Step}
use Rattle.scene_systems.specs.declared.step.Step.TheVariants.{Row as Writing, DespawnAtZero, SpawnChild, CountInto}
use Rattle.scene_pass.proofs.RowSteps.{drop_at}
use Rattle.scene_schedule.specs.Systems.{children_of_rows, commands_from, despawns, is_zero, is_zero_value}
use Rattle.scene_schedule.proofs.QueueWalks.{pushed_on, spawns_joined}
use Rattle.scene_schedule.proofs.Walks.{at_place}

-- ---- despawns

-- the despawn of a row, if its number is 0
abbrev pub despawn_if : Bool → Entity → List Command
despawn_if gone entity = if gone then DespawnAllIfAlive (Id entity) ∷ [] else []

despawns_first : (kind : ℕ) (row : Row) (rows : List Row) → despawns kind (row ∷ rows) ≡ despawn_if (is_zero (cell_of row.cells kind)) row.entity ++ despawns kind rows
despawns_first kind row rows =
    let left = filter (λ (row : Row). is_zero (cell_of row.cells kind)) rows in
    let command = λ (row : Row). DespawnAllIfAlive (Id row.entity) in
    elim (is_zero (cell_of row.cells kind)) as (λ b. map command (cond b (row ∷ left) left) ≡ despawn_if b row.entity ++ map command left) [ true ↦ refl | false ↦ refl ]

-- those of the rows of two tables
despawns_both : (kind : ℕ) (xs ys : List Row) → despawns kind (xs ++ ys) ≡ despawns kind xs ++ despawns kind ys
despawns_both kind [] ys = refl
despawns_both kind (row ∷ xs) ys =
    let first = despawn_if (is_zero (cell_of row.cells kind)) row.entity in
    despawns_first kind row (xs ++ ys) ∙ ap (λ cs. first ++ cs) (despawns_both kind xs ys)
    ∙ sym (append_assoc first (despawns kind xs) (despawns kind ys)) ∙ ap (λ cs. cs ++ despawns kind ys) (sym (despawns_first kind row xs))

-- rows without the kind have no number
pub no_despawns : (kind : ℕ) (mask : KindSet) (rows : List Row) → AllHave mask rows → has_kind mask kind ≡ false → despawns kind rows ≡ []
no_despawns kind mask [] have none = refl
no_despawns kind mask (row ∷ rows) have none =
    let first = All-head (HasKinds mask) row rows have in
    let gone : cell_of row.cells kind ≡ None = none_of_false (cell_of row.cells kind) (sym (has_kind-mask_of row.cells kind first.ascending) ∙ ap (λ m. has_kind m kind) first.kinds ∙ none) in
    despawns_first kind row rows ∙ ap (λ o. despawn_if (is_zero o) row.entity ++ despawns kind rows) gone ∙ no_despawns kind mask rows (All-tail (HasKinds mask) row rows have) none

-- one more row of a table
pub row_despawned : (old now : List Command) (kind : ℕ) (rows : List Row) (at : ℕ) (row : Row) (entity : Entity) (value : Value) (all : List Command) → slice_get rows at ≡ Some row
    → row.entity ≡ entity → is_zero (cell_of row.cells kind) ≡ is_zero_value value → now ≡ old ++ despawn_if (is_zero_value value) entity
    → old ++ despawns kind (drop at rows) ≡ all → now ++ despawns kind (drop (at + 1) rows) ≡ all
row_despawned old now kind rows at row entity value all there same number made before =
    pushed_on old now (despawn_if (is_zero_value value) entity) (despawns kind (drop (at + 1) rows)) all made
    (ap (λ cs. old ++ cs)
    (sym (drop_at (despawns kind) rows at row there ∙ despawns_first kind row (drop (at + 1) rows)
    ∙ (λ i. despawn_if (number i) (same i) ++ despawns kind (drop (at + 1) rows)))) ∙ before)

-- one more table
pub table_despawned : {X : Type 0} (f : X → List Row) (old now : List Command) (kind : ℕ) (tables : List X) (at : ℕ) (table : X) (all : List Command) → at < length tables → table ≡ get_or tables at table
    → now ≡ old ++ despawns kind (f table) → old ++ despawns kind (flat_map f (drop at tables)) ≡ all → now ++ despawns kind (flat_map f (drop (at + 1) tables)) ≡ all
table_despawned f old now kind tables at table all lt is made before =
    let rest = flat_map f (drop (at + 1) tables) in
    pushed_on old now (despawns kind (f table)) (despawns kind rest) all made
    (ap (λ cs. old ++ cs) (sym (ap (λ ts. despawns kind (flat_map f ts)) (at_place tables at table lt is) ∙ despawns_both kind (f table) rest)) ∙ before)

-- ---- a column of values

-- a table has as many values of a kind as rows
pub column_long : (values : List Value) (added changed : List ℕ) (rows : List Row) (kind : ℕ) → map (λ (c : Cell). Some c) (cells_of values added changed) ≡ cells_of_kind rows kind
    → length added ≡ length values → length changed ≡ length values → length values ≡ length rows
column_long values added changed rows kind same a c =
    let pairs = zip_with ticks added changed in
    let paired : length pairs ≡ length added = zip-length ticks added changed (a ∙ sym c) in
    sym (zip-length stamped values pairs (sym (paired ∙ a)))
    ∙ sym (length-map (cells_of values added changed) (λ (c : Cell). Some c)) ∙ ap length same ∙ length-map rows (λ (row : Row). cell_of row.cells kind)

-- the value at a place is that of the row's cell
pub column_zero : (values : List Value) (added changed : List ℕ) (rows : List Row) (kind at : ℕ) (row : Row) (value : Value) → map (λ (c : Cell). Some c) (cells_of values added changed) ≡ cells_of_kind rows kind
    → length added ≡ length values → length changed ≡ length values → slice_get rows at ≡ Some row → value ≡ get_or values at value
    → is_zero (cell_of row.cells kind) ≡ is_zero_value value
column_zero values added changed [] kind at row value same a c there is = absurd (let wrong : None ≡ Some row = there in cc)
column_zero [] added changed (r ∷ rs) kind at row value same a c there is = absurd (let wrong : 0 ≡ suc (length rs) = ap length same ∙ length-map (r ∷ rs) (λ (row : Row). cell_of row.cells kind) in omega arith)
column_zero (v ∷ vs) [] changed (r ∷ rs) kind at row value same a c there is = absurd (omega (arith, a))
column_zero (v ∷ vs) (x ∷ xs) [] (r ∷ rs) kind at row value same a c there is = absurd (omega (arith, c))
column_zero (v ∷ vs) (x ∷ xs) (y ∷ ys) (r ∷ rs) kind zero row value same a c there is =
    let first : Some (record { value = v; added = x; changed = y }) ≡ cell_of r.cells kind = cc in
    let here : r ≡ row = cc in
    ap (λ (r : Row). is_zero (cell_of r.cells kind)) (sym here) ∙ ap is_zero (sym first) ∙ ap is_zero_value (sym is)
column_zero (v ∷ vs) (x ∷ xs) (y ∷ ys) (r ∷ rs) kind (suc at) row value same a c there is =
    let rest : map (λ (c : Cell). Some c) (cells_of vs xs ys) ≡ cells_of_kind rs kind = cc in
    column_zero vs xs ys rs kind at row value rest (omega (arith, a)) (omega (arith, c)) there is

-- ---- children

-- those of the rows of two tables
children_both : (n : ℕ) (cells : List (ℕ × Value)) (xs ys : List Row) → children_of_rows n cells (xs ++ ys) ≡ children_of_rows n cells xs ++ children_of_rows (n + length xs) cells ys
children_both n cells [] ys = ap (λ m. children_of_rows m cells ys) (let e : n ≡ n + 0 = omega arith in e)
children_both n cells (row ∷ xs) ys =
    ap (λ cs. Spawn cells ∷ SetParent (New n) (Id row.entity) ∷ cs)
    (children_both (n + 1) cells xs ys
    ∙ ap (λ m. children_of_rows (n + 1) cells xs ++ children_of_rows m cells ys) (let e : n + 1 + length xs ≡ n + suc (length xs) = omega arith in e))

spawns_children : (n : ℕ) (cells : List (ℕ × Value)) (rows : List Row) → spawns (children_of_rows n cells rows) ≡ length rows
spawns_children n cells [] = refl
spawns_children n cells (row ∷ rows) =
    let rest = children_of_rows (n + 1) cells rows in
    let child : Command = SetParent (New n) (Id row.entity) in
    let one : spawned_by (Spawn cells) ≡ 1 = refl in
    let none : spawned_by child ≡ 0 = refl in
    omega (arith, sum_by-cons spawned_by (Spawn cells) (child ∷ rest), sum_by-cons spawned_by child rest, spawns_children (n + 1) cells rows, one, none)

-- one more row of a table
pub row_parented : (old now : List Command) (cells : List (ℕ × Value)) (rows : List Row) (at : ℕ) (row : Row) (entity : Entity) (all : List Command) → slice_get rows at ≡ Some row → row.entity ≡ entity
    → now ≡ old ++ Spawn cells ∷ SetParent (New (spawns old)) (Id entity) ∷ []
    → old ++ children_of_rows (spawns old) cells (drop at rows) ≡ all
    → now ++ children_of_rows (spawns now) cells (drop (at + 1) rows) ≡ all
row_parented old now cells rows at row entity all there same made before =
    let first : List Command = Spawn cells ∷ SetParent (New (spawns old)) (Id entity) ∷ [] in
    let rest = drop (at + 1) rows in
    let one : spawns first ≡ 1 = refl in
    let count : spawns now ≡ spawns old + 1 = ap spawns made ∙ omega (arith, spawns_joined old first, one) in
    ap (λ n. now ++ children_of_rows n cells rest) count
    ∙ pushed_on old now first (children_of_rows (spawns old + 1) cells rest) all made
    (ap (λ cs. old ++ cs)
    (sym (drop_at (children_of_rows (spawns old) cells) rows at row there ∙ ap (λ e. Spawn cells ∷ SetParent (New (spawns old)) (Id e) ∷ children_of_rows (spawns old + 1) cells rest) same)) ∙ before)

-- one more table
pub table_parented : {X : Type 0} (f : X → List Row) (old now : List Command) (cells : List (ℕ × Value)) (tables : List X) (at : ℕ) (table : X) (all : List Command) → at < length tables
    → table ≡ get_or tables at table → now ≡ old ++ children_of_rows (spawns old) cells (f table)
    → old ++ children_of_rows (spawns old) cells (flat_map f (drop at tables)) ≡ all
    → now ++ children_of_rows (spawns now) cells (flat_map f (drop (at + 1) tables)) ≡ all
table_parented f old now cells tables at table all lt is made before =
    let first = children_of_rows (spawns old) cells (f table) in
    let rest = flat_map f (drop (at + 1) tables) in
    let count : spawns now ≡ spawns old + length (f table) = ap spawns made ∙ spawns_joined old first ∙ ap (λ n. spawns old + n) (spawns_children (spawns old) cells (f table)) in
    ap (λ n. now ++ children_of_rows n cells rest) count
    ∙ pushed_on old now first (children_of_rows (spawns old + length (f table)) cells rest) all made
    (ap (λ cs. old ++ cs) (sym (ap (λ ts. children_of_rows (spawns old) cells (flat_map f ts)) (at_place tables at table lt is) ∙ children_both (spawns old) cells (f table) rest)) ∙ before)

-- ---- counts

-- the rows of one more table
pub more_rows : {X : Type 0} (f : X → List Row) (tables : List X) (at : ℕ) (table : X) (count next : ℕ) (all : ℕ) → at < length tables → table ≡ get_or tables at table
    → next ≡ count + length (f table) → count + length (flat_map f (drop at tables)) ≡ all → next + length (flat_map f (drop (at + 1) tables)) ≡ all
more_rows f tables at table count next all lt is made before =
    let rest = flat_map f (drop (at + 1) tables) in
    let split : length (flat_map f (drop at tables)) ≡ length (f table) + length rest =
    ap (λ ts. length (flat_map f ts)) (at_place tables at table lt is) ∙ length-append (f table) rest in
    omega (arith, made, split, before)

-- ---- steps

spawns_despawns : (rows : List Row) → spawns (map (λ (row : Row). DespawnAllIfAlive (Id row.entity)) rows) ≡ 0
spawns_despawns [] = refl
spawns_despawns (row ∷ rows) = sum_by-cons spawned_by (DespawnAllIfAlive (Id row.entity)) (map (λ (row : Row). DespawnAllIfAlive (Id row.entity)) rows) ∙ omega (arith, spawns_despawns rows)

-- the commands of the first step, and of the others
commands_first : (n m : ℕ) (s : Step) (ss : List Step) (rows : List Row) → m ≡ n + spawns (commands_from n (s ∷ []) rows)
    → commands_from n (s ∷ ss) rows ≡ commands_from n (s ∷ []) rows ++ commands_from m ss rows
commands_first n m (Writing s) ss rows h =
    let none : spawns [] ≡ 0 = refl in
    let same : m ≡ n = omega (arith, h, none) in
    ap (λ k. commands_from k ss rows) (sym same)
commands_first n m (DespawnAtZero kind) ss rows h =
    let first = despawns kind rows in
    let none : spawns (first ++ []) ≡ 0 = ap spawns (append-nil first) ∙ spawns_despawns (filter (λ (row : Row). is_zero (cell_of row.cells kind)) rows) in
    let same : m ≡ n = omega (arith, h, none) in
    ap (λ k. first ++ commands_from k ss rows) (sym same) ∙ ap (λ xs. xs ++ commands_from m ss rows) (sym (append-nil first))
commands_first n m (SpawnChild cells) ss rows h =
    let first = children_of_rows n cells rows in
    let many : spawns (first ++ []) ≡ length rows = ap spawns (append-nil first) ∙ spawns_children n cells rows in
    let same : m ≡ n + length rows = h ∙ ap (λ k. n + k) many in
    ap (λ k. first ++ commands_from k ss rows) (sym same) ∙ ap (λ xs. xs ++ commands_from m ss rows) (sym (append-nil first))
commands_first n m (CountInto name) ss rows h =
    let none : spawns (commands_from n (CountInto name ∷ []) rows) ≡ 0 = refl in
    let same : m ≡ n = omega (arith, h, none) in
    ap (λ k. commands_from n (CountInto name ∷ []) rows ++ commands_from k ss rows) (sym same)

pub step_queued : (old now : List Command) (steps : List Step) (rows : List Row) (at : ℕ) (s : Step) (all : List Command) → at < length steps → s ≡ get_or steps at s
    → now ≡ old ++ commands_from (spawns old) (s ∷ []) rows
    → old ++ commands_from (spawns old) (drop at steps) rows ≡ all
    → now ++ commands_from (spawns now) (drop (at + 1) steps) rows ≡ all
step_queued old now steps rows at s all lt is made before =
    let first = commands_from (spawns old) (s ∷ []) rows in
    let rest = drop (at + 1) steps in
    let count : spawns now ≡ spawns old + spawns first = ap spawns made ∙ spawns_joined old first in
    pushed_on old now first (commands_from (spawns now) rest rows) all made
    (ap (λ xs. old ++ xs) (sym (ap (λ ss. commands_from (spawns old) ss rows) (at_place steps at s lt is) ∙ commands_first (spawns old) (spawns now) s rest rows count)) ∙ before)
