-- What the answer to a line says as JSON (docs/SHELL.md, "JSON").
use Rattle.std.specs.Prelude.{ℕ, List, [], ◌∷◌, ◌++◌, codes}
use Rattle.serde_json.specs.Data.{Data, string}
use Rattle.serde_json.specs.Written.{compact_text}
use Rattle.scene_kinds.specs.declared.entity.Entity.{Entity}
use Rattle.scene_kinds.specs.Schema.{Kinds}
use Rattle.scene_json_forms.specs.Text.{count_text, entity_json, list_text}
use Rattle.scene_session.specs.Calls.{Answer, Done, Undone, Redone, Refused}
use Rattle.scene_print.specs.JsonObjects.{answer_of}
use Rattle.scene_print.specs.JsonShown.{listed_answer}
use Rattle.scene_print.specs.JsonTold.{file_fault_json, refused_json}
use Rattle.scene_undo.specs.declared.cursor.Cursor.{Cursor}
use Rattle.scene_interpreter.specs.Said.{Said, Nothing, Taken, Queued, Called, Fault, Marked, Counted, Text, Changed, Added, Bad}

-- an answer that says nothing but what it is
abbrev pub word_json : List ℕ → Data
word_json word = answer_of word []

-- what a frame made: the entities that it spawned, in order
abbrev pub made_json : List Entity → Data
made_json es = answer_of (codes "done") ((codes "entities", list_text entity_json es) ∷ [])

-- what a call came to
abbrev pub reply_json : Answer → Data
reply_json (Done es) = made_json es
reply_json Undone = word_json (codes "undone")
reply_json Redone = word_json (codes "redone")
reply_json (Refused r) = refused_json r

-- a cursor
abbrev pub mark_json : Cursor → Data
mark_json c = answer_of (codes "mark") ((codes "rewinds", count_text c.rewinds) ∷ (codes "tick", count_text c.tick) ∷ [])

-- how many calls there were
abbrev pub history_json : ℕ → Data
history_json count = answer_of (codes "history") ((codes "calls", count_text count) ∷ [])

-- a text that is no JSON
abbrev pub plain_json : List ℕ → Data
plain_json text = answer_of (codes "text") ((codes "text", string text) ∷ [])

-- a bad line, in words that say why
abbrev pub bad_json : List ℕ → Data
bad_json words = answer_of (codes "bad") ((codes "reason", string words) ∷ [])

-- an answer by its meaning, where these are the kinds, and these words say why the line is bad where it is
abbrev pub answer_json : Kinds → List ℕ → Said → Data
answer_json kinds words Nothing = word_json (codes "nothing")
answer_json kinds words Taken = word_json (codes "ok")
answer_json kinds words Queued = word_json (codes "queued")
answer_json kinds words (Called answer) = reply_json answer
answer_json kinds words (Fault fault) = file_fault_json fault
answer_json kinds words (Marked cursor) = mark_json cursor
answer_json kinds words (Counted count) = history_json count
answer_json kinds words (Text text) = plain_json text
answer_json kinds words (Changed cells) = listed_answer (codes "changed") kinds cells
answer_json kinds words (Added cells) = listed_answer (codes "added") kinds cells
answer_json kinds words (Bad reason) = bad_json words

-- a value as a line: its compact text and a line feed (10)
abbrev pub json_line : Data → List ℕ
json_line d = compact_text d ++ 10 ∷ []

-- the line of an answer
abbrev pub json_text : Kinds → List ℕ → Said → List ℕ
json_text kinds words said = json_line (answer_json kinds words said)
