-- What a session has seen of a history: who made each entry, and what it asks for.
use Rattle.scene_editor.specs.Call.{Call}
use Rattle.scene_editor.specs.Call.TheVariants as call
use Rattle.scene_editor.specs.Entry.{Entry}
use Rattle.shared_scene.specs.declared.seen.Kind.{Kind}
use Rattle.shared_scene.specs.declared.seen.Kind.TheVariants as kind
use Rattle.shared_scene.specs.declared.seen.Seen.{Seen}

-- what a call does
abbrev pub kind_of : Call → Kind
kind_of (call.Submit queues) = kind.Submit
kind_of (call.Advance schedule) = kind.Advance
kind_of call.Undo = kind.Undo
kind_of call.Redo = kind.Redo

-- what is shown of an entry
abbrev pub seen_of : Entry → Seen
seen_of e = record { session = e.session; kind = kind_of e.call }
