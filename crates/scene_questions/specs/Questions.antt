-- What a question is answered with, as JSON (docs/SHELL.md, "Questions").
use Rattle.std.specs.Prelude.{ℕ, List, [], ◌∷◌, Result, Ok, Err, codes, length, slice_get}
use Rattle.serde_json.specs.Data.{Data}
use Rattle.scene_kinds.specs.declared.refusal.Refusal.{Refusal}
use Rattle.scene_kinds.specs.Schema.{Kinds}
use Rattle.scene_pass.specs.declared.cell_name.CellName.{CellName}
use Rattle.scene_pass.specs.Pass.{added_since, changed_since}
use Rattle.scene_undo.specs.Cursor.{since}
use Rattle.scene_undo.specs.Editor.{EditorState, machine_of}
use Rattle.scene_json_forms.specs.Text.{list_text, count_text}
use Rattle.scene_file.specs.Text.{kind_text}
use Rattle.scene_print.specs.JsonAsked.{children_answer, parent_answer, resources_answer, rows_answer, tables_answer}
use Rattle.scene_print.specs.JsonObjects.{answer_of}
use Rattle.scene_print.specs.JsonShown.{listed_answer}
use Rattle.scene_print.specs.JsonTold.{refused_json}
use Rattle.scene_requests.specs.declared.question.Question.{Question}
use Rattle.scene_requests.specs.declared.question.Question.TheVariants.{Status, Kinds as AsksKinds, Tables, Rows, Children, ParentOf, Resources, Steps, Deltas, Step, ChangedSince, AddedSince}
use Rattle.scene_questions.specs.Steps.{deltas_answer, last_of, records_of, step_answer, steps_answer}

-- the cursor of now, how many frames can be undone and redone, of how many a record is kept, and how many slots there are
-- and may be
abbrev pub status_answer : EditorState → Data
status_answer s = answer_of (codes "status") (
    (codes "tick", count_text s.world.tick) ∷ (codes "rewinds", count_text s.rewinds) ∷ (codes "past", count_text (length s.past))
    ∷ (codes "future", count_text (length s.future)) ∷ (codes "depth", count_text s.depth)
    ∷ (codes "slots", count_text (length s.world.slots.generations)) ∷ (codes "limit", count_text s.world.slots.limit) ∷ [])

-- the kinds by number, each with its shape
abbrev pub kinds_answer : Kinds → Data
kinds_answer kinds = answer_of (codes "kinds") ((codes "kinds", list_text kind_text kinds) ∷ [])

-- the cells after the tick of a cursor, or the refusal of that cursor
abbrev pub since_answer : List ℕ → Kinds → (ℕ → List CellName) → Result ℕ Refusal → Data
since_answer word kinds cells (Ok tick) = listed_answer word kinds (cells tick)
since_answer word kinds cells (Err r) = refused_json r

-- the answer of an editor
abbrev pub question_json : Question → EditorState → Data
question_json Status s = status_answer s
question_json AsksKinds s = kinds_answer s.world.schema
question_json (Tables f) s = tables_answer s.world f
question_json (Rows f page) s = rows_answer s.world f page.from page.count
question_json (Children e) s = children_answer s.world e
question_json (ParentOf e) s = parent_answer s.world e
question_json Resources s = resources_answer s.world.resources
question_json (Steps side page) s = steps_answer (records_of side s) page
question_json (Deltas side place) s = deltas_answer (slice_get (records_of side s) place)
question_json (Step way) s = step_answer way (last_of way s)
question_json (ChangedSince f rewinds tick) s =
    since_answer (codes "changed") s.world.schema (changed_since s.world f) (since (record { rewinds = rewinds; tick = tick }) (machine_of s))
question_json (AddedSince f rewinds tick) s =
    since_answer (codes "added") s.world.schema (added_since s.world f) (since (record { rewinds = rewinds; tick = tick }) (machine_of s))
