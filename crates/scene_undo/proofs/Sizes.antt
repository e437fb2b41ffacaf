-- The record of an advance has at most as many deltas as the advance has commands and despawns descendants.
use Rattle.std.proofs.Common.{◌≡◌, ℕ, zero, suc, ◌+◌, ◌≤◌, Bool, true, false, List, [], ◌∷◌, ◌++◌, length, sum, take, if◌then◌else◌, refl, ap, sym, ◌∙◌, arith, subst, Option, Some, None, Ok, length-append}
use Rattle.std.specs.Prelude.{Err, Result, OnOk, IfOk}
use Rattle.std.specs.List.{flat_map}
use Rattle.std.proofs.lemmas.Grind.{flat_map-append}
use Rattle.std.proofs.lemmas.List.{append-nil}
use Rattle.std.proofs.lemmas.List.Sums.{sum_by-append}
use Rattle.scene_kinds.specs.declared.entity.Entity.{Entity}
use Rattle.scene_kinds.specs.Answers.{Outcome}
use Rattle.scene_model.specs.World.{World, is_live}
use Rattle.scene_model.specs.Commands.{spawn, despawn, despawn_recursive, insert, remove, set_parent, remove_parent, put_resource, remove_resource}
use Rattle.scene_model.specs.Perform.{Command, Spawn, Despawn, DespawnRecursive, DespawnRecursiveIfAlive, Insert, Remove, SetParent, RemoveParent, PutResource, RemoveResource, answering}
use Rattle.scene_world.specs.Stage.{Staged, Note, noting, act}
use Rattle.scene_queue.specs.Frames.{seen_as}
use Rattle.scene_deltas.specs.Notes.{deltas_of}
use Rattle.scene_deltas.specs.CommandLaws.{along}
use Rattle.scene_deltas.proofs.Counts.{commands_make_few}
use Rattle.scene_journal.specs.Records.{Record, raised}
use Rattle.scene_schedule.specs.Schedule.{ScheduleState}
use Rattle.scene_schedule.specs.Systems.{advance_of}
use Rattle.scene_schedule.proofs.Stages.{advance_seen}
use Rattle.scene_undo.specs.Editor.{IsRecordOf}
use Rattle.scene_undo.specs.Size.{notes_of, noted_in, itself, advance_size, IsNewestWithin}

-- ---- a stage that notes each command with its world tells what any other notes

-- a command and the world on which it is done
abbrev Done : Type 0
Done = World × Command

abbrev trace : Note Done
trace w c = (w, c) ∷ []

module _ {N : Type 0} (note : Note N) where
  abbrev all_of : List Done → List N
  all_of ds = flat_map (λ d. note d.0 d.1) ds

  -- the stage that notes so
  abbrev told : Staged Done → Staged N
  told s = record { world = s.world; notes = all_of s.notes }

  noted_told : {A : Type 0} (s : Staged Done) (c : Command) (f : A → Option Entity) (o : Outcome A World)
      → seen_as told (answering f (noting s (trace s.world c) o)) ≡ answering f (noting (told s) (note s.world c) o)
  noted_told s c f (Ok p) =
      let more : all_of (s.notes ++ (s.world, c) ∷ []) ≡ all_of s.notes ++ note s.world c =
      flat_map-append (λ (d : Done). note d.0 d.1) s.notes ((s.world, c) ∷ []) ∙ ap (λ ns. all_of s.notes ++ ns) (append-nil (note s.world c)) in
      λ i. Ok (f p.0, record { world = p.1; notes = more i })
  noted_told s c f (Err r) = refl

  if_alive : (s : Staged Done) (e : Entity) (b : Bool) (o : Outcome (Unit {0}) World)
      → ◌≡◌ {A = Outcome (Option Entity) (Staged N)}
      (seen_as {A = Option Entity} told (if b then answering (λ a. None) (noting s (trace s.world (DespawnRecursive e)) o) else Ok (None, s)))
      (if b then answering (λ a. None) (noting (told s) (note s.world (DespawnRecursive e)) o) else Ok (None, told s))
  if_alive s e true o = noted_told s (DespawnRecursive e) (λ a. None) o
  if_alive s e false o = refl

  act_told : (s : Staged Done) (c : Command) → seen_as told (act trace s c) ≡ act note (told s) c
  act_told s (Spawn cells) = noted_told s (Spawn cells) Some (spawn s.world cells)
  act_told s (Despawn e) = noted_told s (Despawn e) (λ a. None) (despawn s.world e)
  act_told s (DespawnRecursive e) = noted_told s (DespawnRecursive e) (λ a. None) (despawn_recursive s.world e)
  act_told s (DespawnRecursiveIfAlive e) = if_alive s e (is_live s.world e) (despawn_recursive s.world e)
  act_told s (Insert e kind value) = noted_told s (Insert e kind value) (λ a. None) (insert s.world e kind value)
  act_told s (Remove e kind) = noted_told s (Remove e kind) (λ a. None) (remove s.world e kind)
  act_told s (SetParent child parent) = noted_told s (SetParent child parent) (λ a. None) (set_parent s.world child parent)
  act_told s (RemoveParent child) = noted_told s (RemoveParent child) (λ a. None) (remove_parent s.world child)
  act_told s (PutResource name value) = noted_told s (PutResource name value) (λ a. None) (put_resource s.world name value)
  act_told s (RemoveResource name) = noted_told s (RemoveResource name) (λ a. None) (remove_resource s.world name)

  notes_told : (o : Outcome (List Entity) (Staged Done)) → notes_of (seen_as told o) ≡ all_of (notes_of o)
  notes_told (Ok p) = refl
  notes_told (Err r) = refl

  -- so the commands that an advance does tell what it notes
  noted_by_trace : (schedule : ScheduleState) (w : World) → noted_in note schedule w ≡ all_of (noted_in trace schedule w)
  noted_by_trace schedule w =
      let start : Staged Done = record { world = raised w; notes = [] } in
      ap notes_of (sym (advance_seen told (λ t. t.world) (act trace) (act note) act_told schedule start))
      ∙ notes_told (advance_of (act trace) (λ t. t.world) schedule start)

-- ---- how many deltas

few_deltas : (ds : List Done) → length (all_of deltas_of ds) ≤ length (all_of itself ds) + sum (all_of along ds)
few_deltas [] = omega arith
few_deltas (d ∷ ds) =
    let rest = few_deltas ds in
    let one = commands_make_few d.0 d.1 in
    let deltas = length-append (deltas_of d.0 d.1) (all_of deltas_of ds) in
    let total : sum (along d.0 d.1 ++ all_of along ds) ≡ sum (along d.0 d.1) + sum (all_of along ds) = sum_by-append (λ n. n) (along d.0 d.1) (all_of along ds) in
    omega (arith, rest, one, deltas, total)

pub advances_make_few : (schedule : ScheduleState) (w v : World) (es : List Entity) (r : Record) → IsRecordOf (advance_of (act deltas_of) (λ t. t.world) schedule) w v es r
    → length r.deltas ≤ advance_size schedule w
advances_make_few schedule w v es r is =
    let done = noted_in trace schedule w in
    let deltas : r.deltas ≡ all_of deltas_of done = ap notes_of (sym is.noted) ∙ noted_by_trace deltas_of schedule w in
    let commands : noted_in itself schedule w ≡ all_of itself done = noted_by_trace itself schedule w in
    let descendants : noted_in along schedule w ≡ all_of along done = noted_by_trace along schedule w in
    let few = few_deltas done in
    omega (arith, few, ap length deltas, ap length commands, ap sum descendants)

-- ---- the newest record

pub newest_within : (size depth : ℕ) (r : Record) (past : List Record) → length r.deltas ≤ size → IsNewestWithin size (take depth (r ∷ past))
newest_within size zero r past few = tt
newest_within size (suc depth) r past few = few

pub kept_within : {A E : Type 0} (size depth : ℕ) (result : Result A E) (r : Record) (new old future : List Record) → length r.deltas ≤ size
    → OnOk result ((new ≡ take depth (r ∷ old)) × (future ≡ [])) → OnOk result (IsNewestWithin size new)
kept_within size depth (Ok a) r new old future few kept = subst (IsNewestWithin size) (sym kept.0) (newest_within size depth r old few)
kept_within size depth (Err e) r new old future few kept = tt

pub found_within : {A E : Type 0} (size depth : ℕ) (result : Result A E) (Is : A → Record → Type 0) (new old future : List Record)
    → ((a : A) (r : Record) → Is a r → length r.deltas ≤ size)
    → IfOk result (λ a. (r : Record) × (Is a r × ((new ≡ take depth (r ∷ old)) × (future ≡ [])))) → OnOk result (IsNewestWithin size new)
found_within size depth (Ok a) Is new old future few kept = subst (IsNewestWithin size) (sym kept.1.1.0) (newest_within size depth kept.0 old (few a kept.0 kept.1.0))
found_within size depth (Err e) Is new old future few kept = tt
