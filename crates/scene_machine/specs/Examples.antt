-- Worked examples: what the definitions compute for short lists of calls.
use Rattle.std.specs.Prelude.{◌≡◌, ℕ, List, [], ◌∷◌, ◌++◌, Ok, Err}
use Rattle.scene_kinds.specs.declared.value.Value.TheVariants as value
use Rattle.scene_kinds.specs.declared.fault.Fault.TheVariants.{NoSuchEntity, HasChildren, NotPresent, WrongShape, NoSuchKind, DuplicateKind, SelfParent, Cycle, NoParent, NoSuchResource, EntitiesFull, BadLocal, TickFull, NothingToUndo, NothingToRedo}
use Rattle.scene_kinds.specs.Answers.{refusal_of, refuse}
use Rattle.scene_kinds.specs.Map as map
use Rattle.scene_model.specs.World.{World, new_world, component_of}
use Rattle.scene_model.specs.Commands.{highest_tick, spawn}
use Rattle.scene_model.specs.Perform.{Despawn, DespawnRecursive, DespawnRecursiveIfAlive, Insert, Remove, SetParent, RemoveParent, PutResource, RemoveResource}
use Rattle.scene_machine.specs.Machine.{Machine, opening, opening_with}
use Rattle.scene_machine.specs.Queue.{known, refused_at}
use Rattle.scene_machine.specs.Frame.{Call, Submit, Undo, Redo, step, after_calls, replies}
use Rattle.scene_machine.specs.ExampleWords.{ent, cell, int, schema, world, fresh, int_row, tag_row, spawn_int, spawn_tag, local, frame_of, one, only, empty_frame, ends, made, done, refused, refused_first}

-- undo and redo of an empty world are refused, and change nothing
abbrev pub NothingToTakeBack : Type 0
NothingToTakeBack =
    (replies fresh (Undo ∷ Redo ∷ []) ≡ refused NothingToUndo ∷ refused NothingToRedo ∷ [])
    × (after_calls fresh (Undo ∷ Redo ∷ []) ≡ fresh)

-- a spawn undone leaves no slot behind, and redone it has the same entity and ticks
abbrev pub SpawnComesAndGoes : Type 0
SpawnComesAndGoes =
    let after_spawn : World = world 1 (1 ∷ []) [] ((1, (int_row (ent 0 1) 5 1 1, [])) ∷ []) tt in
    (ends (one (spawn_int 5) ∷ []) ≡ after_spawn)
    × (ends (one (spawn_int 5) ∷ Undo ∷ []) ≡ new_world schema 100)
    × (ends (one (spawn_int 5) ∷ Undo ∷ Redo ∷ []) ≡ after_spawn)

-- an accepted frame forgets what was undone
abbrev pub NewFrameEmptiesRedo : Type 0
NewFrameEmptiesRedo =
    let calls : List Call = one (spawn_int 1) ∷ Undo ∷ one (spawn_int 2) ∷ Redo ∷ [] in
    (replies fresh calls ≡ made (ent 0 1 ∷ []) ∷ done ∷ made (ent 0 1 ∷ []) ∷ refused NothingToRedo ∷ [])
    × (ends calls ≡ world 1 (1 ∷ []) [] ((1, (int_row (ent 0 1) 2 1 1, [])) ∷ []) tt)

-- an empty frame raises the tick, and is undone; an entity of the queue that isn't there is refused, and raises no tick
abbrev pub EmptyFramesCount : Type 0
EmptyFramesCount =
    let stray : Call = one (local 1 (λ e. Insert e 0 (int 1))) in
    (replies fresh (stray ∷ empty_frame ∷ Undo ∷ []) ≡ refused_first BadLocal ∷ done ∷ done ∷ [])
    × (ends (stray ∷ empty_frame ∷ []) ≡ world 1 [] [] [] tt)
    × (ends (stray ∷ empty_frame ∷ Undo ∷ []) ≡ new_world schema 100)

-- each queue counts its own spawns
abbrev pub QueuesCountTheirOwn : Type 0
QueuesCountTheirOwn =
    let two_queues : Call = Submit ((spawn_int 1 ∷ []) ∷ (spawn_int 2 ∷ local 0 (λ e. Insert e 0 (int 3)) ∷ []) ∷ []) in
    (replies fresh (two_queues ∷ []) ≡ made (ent 0 1 ∷ ent 1 1 ∷ []) ∷ [])
    × (ends (two_queues ∷ []) ≡ world 1 (1 ∷ 1 ∷ []) [] ((1, (int_row (ent 0 1) 1 1 1, int_row (ent 1 1) 3 1 1 ∷ [])) ∷ []) tt)

-- three spawns, each a frame
abbrev pub three : List Call
three = one (spawn_int 0) ∷ one (spawn_int 1) ∷ one (spawn_int 2) ∷ []

-- the world after them
abbrev pub after_three : World
after_three =
    let rows : _ = (int_row (ent 0 1) 0 1 1, int_row (ent 1 1) 1 2 2 ∷ int_row (ent 2 1) 2 3 3 ∷ []) in
    world 3 (1 ∷ 1 ∷ 1 ∷ []) [] ((1, rows) ∷ []) tt

-- three spawns: new indices, each row last, each cell with the tick of its frame
abbrev pub SpawnsGoLast : Type 0
SpawnsGoLast = ends three ≡ after_three

-- the despawn of the first of three: the last row takes its place, its index is free with a raised generation; the undo
-- gives back the world before
abbrev pub DespawnSwapsTheLastIn : Type 0
DespawnSwapsTheLastIn =
    let after_despawn : List Call = three ++ only (Despawn (ent 0 1)) ∷ [] in
    (ends after_despawn ≡ world 4 (2 ∷ 1 ∷ 1 ∷ []) (0 ∷ []) ((1, (int_row (ent 2 1) 2 3 3, int_row (ent 1 1) 1 2 2 ∷ [])) ∷ []) tt)
    × (ends (after_despawn ++ Undo ∷ []) ≡ after_three)

-- the despawn of the last row
abbrev pub DespawnOfTheLastRow : Type 0
DespawnOfTheLastRow =
    let after_despawn : List Call = three ++ only (Despawn (ent 2 1)) ∷ [] in
    (ends after_despawn ≡ world 4 (1 ∷ 1 ∷ 2 ∷ []) (2 ∷ []) ((1, (int_row (ent 0 1) 0 1 1, int_row (ent 1 1) 1 2 2 ∷ [])) ∷ []) tt)
    × (ends (after_despawn ++ Undo ∷ []) ≡ after_three)

-- an insert of another kind moves the row to another table, and its removal moves it back, last; two undos give back
-- the rows' order, and two redos the one after
abbrev pub MovesGoLast : Type 0
MovesGoLast =
    let moved : List Call = three ++ only (Insert (ent 1 1) 1 value.Tag) ∷ only (Remove (ent 1 1) 1) ∷ [] in
    let rows : _ = (int_row (ent 0 1) 0 1 1, int_row (ent 2 1) 2 3 3 ∷ int_row (ent 1 1) 1 2 2 ∷ []) in
    (ends moved ≡ world 5 (1 ∷ 1 ∷ 1 ∷ []) [] ((1, rows) ∷ []) tt)
    × (ends (moved ++ Undo ∷ Undo ∷ []) ≡ after_three)
    × (ends (moved ++ Undo ∷ Undo ∷ Redo ∷ Redo ∷ []) ≡ ends moved)

-- an insert of an equal value is a write: changed is raised, added stays
abbrev pub EqualValueIsAWrite : Type 0
EqualValueIsAWrite =
    let calls : List Call = one (spawn_int 5) ∷ only (Insert (ent 0 1) 0 (int 5)) ∷ [] in
    (ends calls ≡ world 2 (1 ∷ []) [] ((1, (int_row (ent 0 1) 5 1 2, [])) ∷ []) tt)
    × (ends (calls ++ Undo ∷ []) ≡ world 1 (1 ∷ []) [] ((1, (int_row (ent 0 1) 5 1 1, [])) ∷ []) tt)

-- one frame spawns a chain of three, a recursive despawn frees it children first, a spawn reuses the index that was
-- freed last, and two undos give back the chain
abbrev pub chain : Call
chain =
    let under_first : _ = λ e. SetParent e (ent 0 1) in
    frame_of (spawn_tag ∷ spawn_tag ∷ spawn_tag ∷ local 1 under_first ∷ local 2 under_first ∷ [])

-- the world after that frame
abbrev pub family : World
family =
    let rows : _ = (tag_row (ent 0 1) 1, tag_row (ent 1 1) 1 ∷ tag_row (ent 2 1) 1 ∷ []) in
    record (world 1 (1 ∷ 1 ∷ 1 ∷ []) [] ((2, rows) ∷ []) tt) { children = map.of ((ent 0 1, (ent 1 1, ent 2 1 ∷ [])) ∷ []) tt }

-- the chain is felled, an index of it is used again, and two undos bring it back
abbrev pub RecursiveDespawnComesBack : Type 0
RecursiveDespawnComesBack =
    let felled : List Call = chain ∷ only (DespawnRecursive (ent 0 1)) ∷ [] in
    let calls : List Call = felled ++ one spawn_tag ∷ [] in
    (ends (chain ∷ []) ≡ family)
    × (ends felled ≡ world 2 (2 ∷ 2 ∷ 2 ∷ []) (1 ∷ 2 ∷ 0 ∷ []) [] tt)
    × (replies fresh calls ≡ made (ent 0 1 ∷ ent 1 1 ∷ ent 2 1 ∷ []) ∷ done ∷ made (ent 0 2 ∷ []) ∷ [])
    × (ends (calls ++ Undo ∷ Undo ∷ []) ≡ family)

-- in one frame an entity goes and a spawn reuses its index; a recursive despawn that passes over the dead does nothing
-- then
abbrev pub DeadArePassedOver : Type 0
DeadArePassedOver =
    let calls : List Call =
    one spawn_tag ∷ frame_of (known (Despawn (ent 0 1)) ∷ known (DespawnRecursiveIfAlive (ent 0 1)) ∷ spawn_tag ∷ []) ∷ [] in
    (replies fresh (calls ++ only (DespawnRecursive (ent 0 1)) ∷ []) ≡ made (ent 0 1 ∷ []) ∷ made (ent 0 2 ∷ []) ∷ refused_first NoSuchEntity ∷ [])
    × (ends calls ≡ world 2 (2 ∷ []) [] ((2, (tag_row (ent 0 2) 2, [])) ∷ []) tt)

-- a child goes last in its new parent's list, also where that is its old one; an entity is no parent of itself or of
-- its ancestor
abbrev pub three_tags : World
three_tags = world 3 (1 ∷ 1 ∷ 1 ∷ []) [] ((2, (tag_row (ent 0 1) 1, tag_row (ent 1 1) 2 ∷ tag_row (ent 2 1) 3 ∷ [])) ∷ []) tt

-- the answers of six such calls, the order of the children, and an undo of the last call
abbrev pub ParentsInOrder : Type 0
ParentsInOrder =
    let spawns : List Call = one spawn_tag ∷ one spawn_tag ∷ one spawn_tag ∷ [] in
    let links : List Call =
    only (SetParent (ent 1 1) (ent 0 1)) ∷ only (SetParent (ent 2 1) (ent 1 1))
    ∷ only (SetParent (ent 0 1) (ent 2 1)) ∷ only (SetParent (ent 0 1) (ent 0 1))
    ∷ only (SetParent (ent 2 1) (ent 0 1)) ∷ only (SetParent (ent 1 1) (ent 0 1)) ∷ [] in
    (replies (after_calls fresh spawns) links ≡ done ∷ done ∷ refused_first Cycle ∷ refused_first SelfParent ∷ done ∷ done ∷ [])
    × (ends (spawns ++ links) ≡ record three_tags { tick = 7; children = map.of ((ent 0 1, (ent 2 1, ent 1 1 ∷ [])) ∷ []) tt })
    × (ends (spawns ++ links ++ Undo ∷ []) ≡ record three_tags { tick = 6; children = map.of ((ent 0 1, (ent 1 1, ent 2 1 ∷ [])) ∷ []) tt })

-- a resource that is put again keeps its added tick; one that isn't there can't be dropped
abbrev pub with_n : ℕ → ℕ → World
with_n tick changed = record (world tick [] [] [] tt) { resources = map.of (((110 ∷ []), cell (int 1) 1 changed) ∷ []) tt }

-- a put, one over it, two drops and an undo
abbrev pub ResourcesKeepAdded : Type 0
ResourcesKeepAdded =
    let put_n : Call = only (PutResource (110 ∷ []) (int 1)) in
    let drop_n : Call = only (RemoveResource (110 ∷ [])) in
    let calls : List Call = put_n ∷ put_n ∷ drop_n ∷ drop_n ∷ [] in
    (ends (put_n ∷ put_n ∷ []) ≡ with_n 2 2)
    × (replies fresh calls ≡ done ∷ done ∷ done ∷ refused_first NoSuchResource ∷ [])
    × (ends (calls ++ Undo ∷ []) ≡ with_n 2 2)

-- the refusals of a world with a parent and a child
abbrev pub RefusalsOfTheWorld : Type 0
RefusalsOfTheWorld =
    let linked : List Call = one spawn_tag ∷ one spawn_tag ∷ only (SetParent (ent 1 1) (ent 0 1)) ∷ [] in
    let calls : List Call =
    only (Despawn (ent 0 1)) ∷ only (Remove (ent 1 1) 0) ∷ only (RemoveParent (ent 1 1))
    ∷ only (RemoveParent (ent 1 1)) ∷ only (Despawn (ent 0 1)) ∷ [] in
    (replies (after_calls fresh linked) (calls ++ one spawn_tag ∷ [])
    ≡ refused_first HasChildren ∷ refused_first NotPresent ∷ done ∷ refused_first NoParent ∷ done ∷ made (ent 0 2 ∷ []) ∷ [])
    × (component_of (ends (linked ++ calls)) (ent 0 1) 1 ≡ Err (refusal_of NoSuchEntity))
    × (component_of (ends (linked ++ calls)) (ent 1 1) 1 ≡ Ok (cell value.Tag 2 2))

-- the refusals of a spawn, in their order
abbrev pub RefusalsOfSpawn : Type 0
RefusalsOfSpawn =
    (spawn after_three ((5, value.Tag) ∷ (0, int 1) ∷ (0, int 1) ∷ []) ≡ refuse NoSuchKind)
    × (spawn after_three ((0, value.Tag) ∷ (0, int 1) ∷ []) ≡ refuse DuplicateKind)
    × (spawn after_three ((0, value.Tag) ∷ []) ≡ refuse WrongShape)

-- a frame refused at its last command, since the world is full, leaves nothing of it, and says which command it was
abbrev pub RefusedFramesLeaveNothing : Type 0
RefusedFramesLeaveNothing =
    let narrow : Machine World = opening (new_world schema 2) in
    let three_spawns : Call = frame_of (spawn_int 1 ∷ spawn_int 2 ∷ spawn_int 3 ∷ []) in
    step narrow three_spawns ≡ (narrow, Err (refused_at 0 2 EntitiesFull))

-- an index at its last generation is retired: it is never free again, and the undo brings its entity back
abbrev pub RetiredForGood : Type 0
RetiredForGood =
    let oldest : World = world 1 (4294967295 ∷ []) [] ((1, (int_row (ent 0 4294967295) 5 1 1, [])) ∷ []) tt in
    let retired : Call = only (Despawn (ent 0 4294967295)) in
    (replies (opening oldest) (retired ∷ one (spawn_int 6) ∷ []) ≡ done ∷ made (ent 1 1 ∷ []) ∷ [])
    × ((after_calls (opening oldest) (retired ∷ [])).now ≡ world 2 (4294967295 ∷ []) [] [] tt)
    × ((after_calls (opening oldest) (retired ∷ one (spawn_int 6) ∷ Undo ∷ Undo ∷ [])).now ≡ oldest)

-- at the last tick each frame is refused, without a place
abbrev pub LastTickRefuses : Type 0
LastTickRefuses =
    let late : Machine World = opening (world highest_tick [] [] [] tt) in
    (step late (one (spawn_int 1)) ≡ (late, refused TickFull))
    × (step late empty_frame ≡ (late, refused TickFull))

-- after an undo and another frame the tick is the same again, but not the count of rewinds: so an old cursor is known
-- by it
abbrev pub RewindsTellOldCursors : Type 0
RewindsTellOldCursors =
    let before : Machine World = after_calls fresh (empty_frame ∷ []) in
    let later : Machine World = after_calls fresh (empty_frame ∷ Undo ∷ empty_frame ∷ []) in
    (before.now ≡ later.now) × (before.rewinds ≡ 0) × (later.rewinds ≡ 1)

-- of a depth of 2, the newest two of three frames can be undone, and both can be redone
abbrev pub DepthKeepsTheNewest : Type 0
DepthKeepsTheNewest =
    let shallow : Machine World = opening_with (new_world schema 100) 2 in
    let three : List Call = one (spawn_int 1) ∷ one (spawn_int 2) ∷ one (spawn_int 3) ∷ [] in
    let undos : List Call = Undo ∷ Undo ∷ Undo ∷ [] in
    let redos : List Call = Redo ∷ Redo ∷ Redo ∷ [] in
    (replies (after_calls shallow three) (undos ++ redos) ≡ done ∷ done ∷ refused NothingToUndo ∷ done ∷ done ∷ refused NothingToRedo ∷ [])
    × ((after_calls shallow (three ++ undos)).now ≡ world 1 (1 ∷ []) [] ((1, (int_row (ent 0 1) 1 1 1, [])) ∷ []) tt)
    × ((after_calls shallow (three ++ undos ++ redos)).now ≡ (after_calls shallow three).now)
