-- Worked requests: the lines that they stand for, and the mistakes of texts that differ from them.
use Rattle.std.specs.Prelude.{◌≡◌, ℕ, List, [], ◌∷◌, codes, Ok, Err, pos, negsuc}
use Rattle.scene_kinds.specs.declared.entity.Entity.{Entity}
use Rattle.scene_kinds.specs.declared.shape.Shape.TheVariants as shape
use Rattle.scene_kinds.specs.declared.value.Value.TheVariants as value
use Rattle.scene_kinds.specs.Schema.{Kinds}
use Rattle.scene_commands.specs.declared.command.Command.{Command}
use Rattle.scene_commands.specs.declared.command.Command.TheVariants.{Spawn, Insert, Despawn, Remove, SetParent, RemoveParent, DespawnAll, DespawnAllIfAlive, PutResource, RemoveResource}
use Rattle.scene_commands.specs.declared.target.Target.TheVariants.{Id, New}
use Rattle.scene_script.specs.declared.script_line.Line.{Line}
use Rattle.scene_script.specs.declared.script_line.Line.TheVariants as line
use Rattle.scene_table.specs.declared.row_step.RowStep.TheVariants.{AddVec, AddInt}
use Rattle.scene_systems.specs.declared.step.Step.TheVariants.{Row, DespawnAtZero, SpawnChild, CountInto}
use Rattle.scene_requests.specs.declared.bad_request.BadRequest.{BadRequest}
use Rattle.scene_requests.specs.declared.bad_request.BadRequest.TheVariants.{NotJson, UnknownKey, BadField}
use Rattle.scene_requests.specs.declared.request.Request.TheVariants as of
use Rattle.scene_requests.specs.declared.question.Side.TheVariants.{Past, Future}
use Rattle.scene_requests.specs.declared.question.Way.TheVariants.{Back, Forth}
use Rattle.scene_requests.specs.declared.question.Question.{Question}
use Rattle.scene_requests.specs.declared.question.Question.TheVariants as ask
use Rattle.scene_requests.specs.Request.{request_in}

-- five kinds: a name, a number, three numbers, a link and a mark
abbrev pub schema : Kinds
schema =
    (codes "Name", shape.Text) ∷ (codes "Health", shape.Int) ∷ (codes "At", shape.Vec3) ∷ (codes "Door", shape.Link) ∷ (codes "Seen", shape.Tag)
    ∷ []

-- an entity by its two numbers
abbrev pub ent : ℕ → ℕ → Entity
ent index generation = record { index = index; generation = generation }

-- bytes are a request that stands for this line
abbrev pub Says : List ℕ → Line → Type 0
Says bytes l = request_in schema bytes ≡ Ok (of.Line l)

-- and for this command
abbrev pub Does : List ℕ → Command → Type 0
Does bytes command = Says bytes (line.Do command)

-- bytes are a bad request, for this reason
abbrev pub IsBad : List ℕ → BadRequest → Type 0
IsBad bytes reason = request_in schema bytes ≡ Err reason

-- a spawn: the cells come by the numbers of their kinds, and a text has any characters
abbrev pub SpawnsAreRead : Type 0
SpawnsAreRead =
    Does (codes "{\"do\":\"spawn\",\"cells\":{}}") (Spawn [])
    × Does (codes "{\"cells\":{\"Health\":-9,\"Name\":\"Big \\\"House\\\"\\n\"},\"do\":\"spawn\"}")
    (Spawn ((0, value.Text (codes "Big \"House\"\n")) ∷ (1, value.Int (negsuc 8)) ∷ []))
    × Does (codes " {\"do\":\"spawn\",\"cells\":{\"Seen\":true,\"Door\":\"3v1\",\"At\":[1,2,3]}}")
    (Spawn ((2, value.Vec3 (pos 1 ∷ pos 2 ∷ pos 3 ∷ [])) ∷ (3, value.Link (ent 3 1)) ∷ (4, value.Tag) ∷ []))

-- the other commands; a target is an entity, or the k-th spawn of the queue
abbrev pub CommandsAreRead : Type 0
CommandsAreRead =
    Does (codes "{\"do\":\"insert\",\"entity\":\"3v1\",\"kind\":\"Name\",\"value\":\"a b\"}") (Insert (Id (ent 3 1)) 0 (value.Text (codes "a b")))
    × Does (codes "{\"do\":\"insert\",\"entity\":\"+0\",\"kind\":\"Name\",\"value\":\"\"}") (Insert (New 0) 0 (value.Text []))
    × Does (codes "{\"do\":\"remove\",\"entity\":\"3v1\",\"kind\":\"Seen\"}") (Remove (Id (ent 3 1)) 4)
    × Does (codes "{\"do\":\"parent\",\"child\":\"1v1\",\"parent\":\"0v1\"}") (SetParent (Id (ent 1 1)) (Id (ent 0 1)))
    × Does (codes "{\"do\":\"unparent\",\"child\":\"+7\"}") (RemoveParent (New 7))
    × Does (codes "{\"do\":\"despawn\",\"entity\":\"3v1\"}") (Despawn (Id (ent 3 1)))
    × Does (codes "{\"do\":\"despawnall\",\"entity\":\"3v1\"}") (DespawnAll (Id (ent 3 1)))
    × Does (codes "{\"do\":\"despawnifalive\",\"entity\":\"3v1\"}") (DespawnAllIfAlive (Id (ent 3 1)))
    × Does (codes "{\"do\":\"put\",\"name\":\"title\",\"shape\":\"Text\",\"value\":\"a b\"}") (PutResource (codes "title") (value.Text (codes "a b")))
    × Does (codes "{\"do\":\"drop\",\"name\":\"title\"}") (RemoveResource (codes "title"))

-- the lines of frames, of the setup, of sessions and questions; of a key that stands twice the last value counts
abbrev pub OthersAreRead : Type 0
OthersAreRead =
    Says (codes "{\"do\":\"kind\",\"name\":\"A\",\"shape\":\"Int\"}") (line.Kind (codes "A") shape.Int)
    × Says (codes "{\"do\":\"slots\",\"limit\":1048576}") (line.Slots 1048576)
    × Says (codes "{\"do\":\"calls\",\"limit\":1}") (line.Calls 1)
    × Says (codes "{\"do\":\"depth\",\"limit\":8}") (line.Depth 8)
    × Says (codes "{\"do\":\"load\",\"text\":\"{}\"}") (line.Load (codes "{}"))
    × Says (codes "{\"do\":\"begin\"}") line.Begin
    × Says (codes "{\"do\":\"as\",\"session\":7}") (line.As 7)
    × Says (codes "{\"do\":\"get\",\"entity\":\"3v1\"}") (line.Get (ent 3 1))
    × Says (codes "{\"do\":\"begin\",\"do\":\"undo\"}") line.Undo
    × Says (codes "{\"do\":\"dumpall\"}") line.DumpAll

-- systems: kinds as lists of names, and steps as objects
abbrev pub SystemsAreRead : Type 0
SystemsAreRead =
    Says
    (codes "{\"do\":\"system\",\"name\":\"move\",\"need\":[\"Health\",\"At\"],\"steps\":[{\"step\":\"addint\",\"to\":\"Health\",\"by\":-1},{\"step\":\"addvec\",\"to\":\"At\",\"by\":\"At\"}],\"without\":[]}")
    (line.System (record {
      name = codes "move";
      filter = record { need = 6; without = 0 };
      steps = Row (AddInt 1 (negsuc 0)) ∷ Row (AddVec 2 2) ∷ [];
    }))
    × Says
    (codes "{\"do\":\"system\",\"name\":\"end\",\"need\":[],\"steps\":[{\"step\":\"zero\",\"kind\":\"Health\"},{\"step\":\"count\",\"name\":\"left\"},{\"step\":\"child\",\"cells\":{\"Name\":\"a;b\"}}],\"without\":[\"Seen\",\"Seen\"]}")
    (line.System (record {
      name = codes "end";
      filter = record { need = 0; without = 16 };
      steps = DespawnAtZero 1 ∷ CountInto (codes "left") ∷ SpawnChild ((0, value.Text (codes "a;b")) ∷ []) ∷ [];
    }))

-- the first part that has no form, by its path: `do` comes first, then unknown keys, then the others
abbrev pub FaultsAreNamed : Type 0
FaultsAreNamed =
    IsBad (codes "{\"do\":\"show\"") NotJson
    × IsBad (codes "{\"do\":\"show\"} x") NotJson
    × IsBad (codes "[]") (BadField [])
    × IsBad (codes "{}") (BadField (codes "do"))
    × IsBad (codes "{\"do\":\"jump\",\"x\":1}") (BadField (codes "do"))
    × IsBad (codes "{\"do\":\"show\",\"entity\":\"0v1\"}") (UnknownKey (codes "entity"))
    × IsBad (codes "{\"do\":\"insert\",\"entity\":\"3v1\",\"kind\":\"Name\",\"value\":\"a\",\"zz\":0,\"aa\":0}") (UnknownKey (codes "aa"))
    × IsBad (codes "{\"do\":\"insert\",\"entity\":\"3v\",\"kind\":\"Name\",\"value\":5}") (BadField (codes "entity"))
    × IsBad (codes "{\"do\":\"insert\",\"entity\":\"3v1\",\"kind\":\"name\",\"value\":5}") (BadField (codes "kind"))
    × IsBad (codes "{\"do\":\"insert\",\"entity\":\"3v1\",\"kind\":\"At\",\"value\":[1,2,3.5]}") (BadField (codes "value[2]"))
    × IsBad (codes "{\"do\":\"insert\",\"entity\":\"3v1\",\"kind\":\"At\"}") (BadField (codes "value"))
    × IsBad (codes "{\"do\":\"spawn\",\"cells\":{\"Health\":\"9\"}}") (BadField (codes "cells.Health"))
    × IsBad (codes "{\"do\":\"spawn\",\"cells\":{\"Helth\":9,\"Name\":5}}") (UnknownKey (codes "cells.Helth"))
    × IsBad (codes "{\"do\":\"get\",\"entity\":\"+0\"}") (BadField (codes "entity"))
    × IsBad (codes "{\"do\":\"slots\",\"limit\":0}") (BadField (codes "limit"))
    × IsBad (codes "{\"do\":\"as\",\"session\":8}") (BadField (codes "session"))

-- and inside a system
abbrev pub SystemFaultsAreNamed : Type 0
SystemFaultsAreNamed =
    IsBad (codes "{\"do\":\"system\",\"name\":\"a\",\"need\":[\"At\",\"at\"],\"steps\":[],\"without\":[]}") (BadField (codes "need[1]"))
    × IsBad (codes "{\"do\":\"system\",\"name\":\"a\",\"need\":[],\"steps\":[{\"step\":\"zero\"}],\"without\":[]}") (BadField (codes "steps[0].kind"))
    × IsBad (codes "{\"do\":\"system\",\"name\":\"a\",\"need\":[],\"steps\":[{\"step\":\"zer\",\"a\":0}],\"without\":[]}") (BadField (codes "steps[0].step"))
    × IsBad (codes "{\"do\":\"system\",\"name\":\"a\",\"need\":[],\"steps\":[{\"step\":\"count\",\"name\":\"b\",\"kind\":0}],\"without\":[]}")
    (UnknownKey (codes "steps[0].kind"))

-- bytes ask this
abbrev pub Asks : List ℕ → Question → Type 0
Asks bytes question = request_in schema bytes ≡ Ok (of.Ask question)

-- what no line asks, several undos or redos, the end of an open frame, and a kind that is declared at any time
abbrev pub QuestionsAreRead : Type 0
QuestionsAreRead =
    Asks (codes "{\"do\":\"status\"}") ask.Status
    × Asks (codes "{\"do\":\"tables\",\"need\":[\"Health\"],\"without\":[\"Name\",\"At\"]}") (ask.Tables (record { need = 2; without = 5 }))
    × Asks (codes "{\"do\":\"rows\",\"need\":[],\"without\":[],\"from\":100,\"count\":50}")
    (ask.Rows (record { need = 0; without = 0 }) (record { from = 100; count = 50 }))
    × Asks (codes "{\"do\":\"parentof\",\"entity\":\"3v1\"}") (ask.ParentOf (ent 3 1))
    × Asks (codes "{\"do\":\"future\",\"from\":0,\"count\":20}") (ask.Steps Future (record { from = 0; count = 20 }))
    × Asks (codes "{\"do\":\"deltas\",\"of\":\"past\",\"step\":7}") (ask.Deltas Past 7)
    × Asks (codes "{\"do\":\"step\",\"way\":\"back\"}") (ask.Step Back)
    × Asks (codes "{\"do\":\"changedsince\",\"need\":[\"At\"],\"rewinds\":1,\"tick\":9,\"without\":[]}")
    (ask.ChangedSince (record { need = 4; without = 0 }) 1 9)
    × (request_in schema (codes "{\"do\":\"undo\",\"count\":3}") ≡ Ok (of.Turn Back 3))
    × (request_in schema (codes "{\"count\":0,\"do\":\"redo\"}") ≡ Ok (of.Turn Forth 0))
    × Says (codes "{\"do\":\"redo\"}") line.Redo
    × (request_in schema (codes "{\"do\":\"dropframe\"}") ≡ Ok of.DropFrame)
    × (request_in schema (codes "{\"do\":\"declare\",\"name\":\"Mood\",\"shape\":\"Int\"}") ≡ Ok (of.Declare (codes "Mood") shape.Int))
    × IsBad (codes "{\"do\":\"undo\",\"count\":-1}") (BadField (codes "count"))
    × IsBad (codes "{\"do\":\"redo\",\"times\":1}") (UnknownKey (codes "times"))
    × IsBad (codes "{\"do\":\"step\",\"way\":\"forward\"}") (BadField (codes "way"))
    × IsBad (codes "{\"do\":\"rows\",\"need\":[],\"without\":[],\"from\":-1,\"count\":50}") (BadField (codes "from"))
    × IsBad (codes "{\"do\":\"kinds\",\"entity\":\"3v1\"}") (UnknownKey (codes "entity"))
