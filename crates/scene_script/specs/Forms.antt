-- The first words of lines.
use Rattle.std.specs.Prelude.{ℕ, List, Option, Some, None, if◌then◌else◌, codes}
use Rattle.std.specs.Option.{option_or}
use Rattle.std.specs.Str.{bytes_eq}
use Rattle.scene_script.specs.declared.form.LineForm.{LineForm}
use Rattle.scene_script.specs.declared.form.LineForm.TheVariants as form

-- the form of a command that a word names
abbrev pub command_named : List ℕ → Option LineForm
command_named word =
    if bytes_eq word (codes "spawn") then Some form.Spawn
    else if bytes_eq word (codes "insert") then Some form.Insert
    else if bytes_eq word (codes "despawn") then Some form.Despawn
    else if bytes_eq word (codes "parent") then Some form.Parent
    else if bytes_eq word (codes "remove") then Some form.Remove
    else if bytes_eq word (codes "unparent") then Some form.Unparent
    else if bytes_eq word (codes "despawnall") then Some form.DespawnAll
    else if bytes_eq word (codes "despawnifalive") then Some form.DespawnIfAlive
    else if bytes_eq word (codes "put") then Some form.Put
    else if bytes_eq word (codes "drop") then Some form.Drop
    else None

-- the form of a line that begins, ends or takes back frames
abbrev pub frame_named : List ℕ → Option LineForm
frame_named word =
    if bytes_eq word (codes "undo") then Some form.Undo
    else if bytes_eq word (codes "redo") then Some form.Redo
    else if bytes_eq word (codes "begin") then Some form.Begin
    else if bytes_eq word (codes "queue") then Some form.Queue
    else if bytes_eq word (codes "commit") then Some form.Commit
    else if bytes_eq word (codes "as") then Some form.As
    else if bytes_eq word (codes "advance") then Some form.Advance
    else None

-- the form of a question
abbrev pub question_named : List ℕ → Option LineForm
question_named word =
    if bytes_eq word (codes "get") then Some form.Get
    else if bytes_eq word (codes "mark") then Some form.Mark
    else if bytes_eq word (codes "changed") then Some form.Changed
    else if bytes_eq word (codes "added") then Some form.Added
    else if bytes_eq word (codes "show") then Some form.Show
    else if bytes_eq word (codes "history") then Some form.History
    else if bytes_eq word (codes "dump") then Some form.Dump
    else if bytes_eq word (codes "dumpall") then Some form.DumpAll
    else None

-- the form of a line of the setup, or of systems
abbrev pub setup_named : List ℕ → Option LineForm
setup_named word =
    if bytes_eq word (codes "phase") then Some form.Phase
    else if bytes_eq word (codes "system") then Some form.System
    else if bytes_eq word (codes "clear") then Some form.Clear
    else if bytes_eq word (codes "kind") then Some form.Kind
    else if bytes_eq word (codes "slots") then Some form.Slots
    else if bytes_eq word (codes "load") then Some form.Load
    else if bytes_eq word (codes "calls") then Some form.Calls
    else if bytes_eq word (codes "depth") then Some form.Depth
    else None

-- the form that a first word names: no two groups have a word in common
abbrev pub form_named : List ℕ → Option LineForm
form_named word = option_or (command_named word) (option_or (frame_named word) (option_or (question_named word) (setup_named word)))
