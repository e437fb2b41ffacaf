-- What is asked of the records that an editor keeps, as JSON (docs/SHELL.md, "Questions").
use Rattle.std.specs.Prelude.{ℕ, List, [], ◌∷◌, Option, codes, length, reverse, slice_get}
use Rattle.serde_json.specs.Data.{Data, null, string}
use Rattle.scene_deltas.specs.declared.delta.Delta.{Delta}
use Rattle.scene_journal.specs.Records.{Record}
use Rattle.scene_undo.specs.Editor.{EditorState}
use Rattle.scene_json_forms.specs.Text.{object_of, list_text, count_text}
use Rattle.scene_file_records.specs.Text.{delta_text, maybe_text, record_text}
use Rattle.scene_print.specs.JsonAsked.{page}
use Rattle.scene_print.specs.JsonObjects.{answer_of}
use Rattle.scene_requests.specs.declared.question.Page.{Page}
use Rattle.scene_requests.specs.declared.question.Side.{Side}
use Rattle.scene_requests.specs.declared.question.Side.TheVariants.{Past, Future}
use Rattle.scene_requests.specs.declared.question.Way.{Way}
use Rattle.scene_requests.specs.declared.question.Way.TheVariants.{Forth, Back}

-- the records of a side: those of the frames that can be undone, the newest first, or that can be redone, the next one
-- first
abbrev pub records_of : Side → EditorState → List Record
records_of Past s = s.past
records_of Future s = s.future

-- a record without its deltas: the tick before its frame, and how many deltas it has
abbrev pub step_head : Record → Data
step_head r = object_of ((codes "tick", count_text r.tick_before) ∷ (codes "deltas", count_text (length r.deltas)) ∷ [])

-- a part of a list of records, and how many there are in all
abbrev pub steps_answer : List Record → Page → Data
steps_answer rs p =
    answer_of (codes "steps") ((codes "length", count_text (length rs)) ∷ (codes "steps", list_text step_head (page p.from p.count rs)) ∷ [])

-- a record, or null
abbrev pub deltas_answer : Option Record → Data
deltas_answer r = answer_of (codes "deltas") ((codes "record", maybe_text record_text r) ∷ [])

-- the word of a way
abbrev pub way_word : Way → List ℕ
way_word Forth = codes "forth"
way_word Back = codes "back"

-- the record of the last frame that went a way: one that was done or redone is the newest of the past, and one that was
-- undone the next of the future
abbrev pub last_of : Way → EditorState → Option Record
last_of Forth s = slice_get s.past 0
last_of Back s = slice_get s.future 0

-- the deltas of a record in the order in which they went that way: as they were made, or as they were taken back, the
-- last first
abbrev pub deltas_along : Way → Record → List Delta
deltas_along Forth r = r.deltas
deltas_along Back r = reverse r.deltas

-- they, or null where there is no such record
abbrev pub step_answer : Way → Option Record → Data
step_answer way r = answer_of (codes "step") (
    (codes "way", string (way_word way)) ∷ (codes "deltas", maybe_text (λ r. list_text delta_text (deltas_along way r)) r) ∷ [])
