-- The walk through a request (docs/SHELL.md, "Questions"): what it asks for, by the word of its key `do`, and then its
-- other keys, or the first fault with its path.
use Rattle.std.specs.Prelude.{ℕ, List, codes, Option, Some, None, Result, Ok, option_and_then}
use Rattle.serde_json.specs.Data.{Data, Members}
use Rattle.serde_json.specs.Find.{as_object, as_str, get_member}
use Rattle.scene_kinds.specs.Schema.{Kinds}
use Rattle.scene_systems.specs.declared.filter.Filter.{Filter}
use Rattle.scene_script.specs.declared.form.LineForm.{LineForm}
use Rattle.scene_script.specs.declared.form.LineForm.TheVariants as form
use Rattle.scene_script.specs.declared.script_line.Line.{Line as ScriptLine}
use Rattle.scene_script.specs.declared.script_line.Line.TheVariants as line
use Rattle.scene_json_forms.specs.declared.fault.FileFault.{FileFault}
use Rattle.scene_json_forms.specs.Reading.{◌>>=◌, field, string_at, object_at, key_of, under}
use Rattle.scene_json_forms.specs.Walk.{u32_at, tick_at, entity_at, shape_at}
use Rattle.scene_requests.specs.declared.question.Page.{Page}
use Rattle.scene_requests.specs.declared.question.Side.{Side}
use Rattle.scene_requests.specs.declared.question.Side.TheVariants.{Past, Future}
use Rattle.scene_requests.specs.declared.question.Way.{Way}
use Rattle.scene_requests.specs.declared.question.Way.TheVariants.{Forth, Back}
use Rattle.scene_requests.specs.declared.question.Question.{Question}
use Rattle.scene_requests.specs.declared.question.Question.TheVariants.{Status, Kinds as AsksKinds, Tables, Rows, Children, ParentOf, Resources, Steps, Deltas, Step, ChangedSince, AddedSince}
use Rattle.scene_requests.specs.declared.request.Request.{Request}
use Rattle.scene_requests.specs.declared.request.Request.TheVariants.{Line, Ask, Turn, DropFrame, Declare}
use Rattle.scene_requests.specs.declared.request_form.QuestionForm.{QuestionForm}
use Rattle.scene_requests.specs.declared.request_form.QuestionForm.TheVariants as ask
use Rattle.scene_requests.specs.declared.request_form.RequestForm.{RequestForm}
use Rattle.scene_requests.specs.declared.request_form.RequestForm.TheVariants as of
use Rattle.scene_requests.specs.Asked.{request_keys, request_named, side_named, way_named}
use Rattle.scene_requests.specs.Walk.{kinds_at, line_of}

-- ---- parts

-- one of the two lists of records
abbrev pub side_at : List ℕ → Data → Result Side FileFault
side_at path d = field path (option_and_then side_named (as_str d))

-- one of the two ways
abbrev pub way_at : List ℕ → Data → Result Way FileFault
way_at path d = field path (option_and_then way_named (as_str d))

-- a part of a list
abbrev pub page_of : List ℕ → Members → Result Page FileFault
page_of path ms =
    key_of u32_at path (codes "count") ms >>= λ count. key_of u32_at path (codes "from") ms >>= λ from. Ok (record { from = from; count = count })

-- a filter
abbrev pub filter_of : Kinds → List ℕ → Members → Result Filter FileFault
filter_of kinds path ms =
    key_of (kinds_at kinds) path (codes "need") ms >>= λ need. key_of (kinds_at kinds) path (codes "without") ms
    >>= λ without. Ok (record { need = need; without = without })

-- ---- questions, of which the keys are known

-- a question for a part of the rows
abbrev pub rows_of : Kinds → List ℕ → Members → Result Question FileFault
rows_of kinds path ms = page_of path ms >>= λ page. filter_of kinds path ms >>= λ filter. Ok (Rows filter page)

-- a question for a record
abbrev pub deltas_of : List ℕ → Members → Result Question FileFault
deltas_of path ms = key_of side_at path (codes "of") ms >>= λ side. key_of u32_at path (codes "step") ms >>= λ place. Ok (Deltas side place)

-- those that ask since a cursor
abbrev pub since_of : (Filter → (rewinds tick : ℕ) → Question) → Kinds → List ℕ → Members → Result Question FileFault
since_of question kinds path ms =
    key_of (kinds_at kinds) path (codes "need") ms
    >>= λ need. key_of tick_at path (codes "rewinds") ms
    >>= λ rewinds. key_of tick_at path (codes "tick") ms
    >>= λ tick. key_of (kinds_at kinds) path (codes "without") ms
    >>= λ without. Ok (question (record { need = need; without = without }) rewinds tick)

-- a question, by what it asks for
abbrev pub question_of : Kinds → QuestionForm → List ℕ → Members → Result Question FileFault
question_of kinds ask.Status path ms = Ok Status
question_of kinds ask.Kinds path ms = Ok AsksKinds
question_of kinds ask.Tables path ms = filter_of kinds path ms >>= λ filter. Ok (Tables filter)
question_of kinds ask.Rows path ms = rows_of kinds path ms
question_of kinds ask.Children path ms = key_of entity_at path (codes "entity") ms >>= λ e. Ok (Children e)
question_of kinds ask.ParentOf path ms = key_of entity_at path (codes "entity") ms >>= λ e. Ok (ParentOf e)
question_of kinds ask.Resources path ms = Ok Resources
question_of kinds ask.Past path ms = page_of path ms >>= λ page. Ok (Steps Past page)
question_of kinds ask.Future path ms = page_of path ms >>= λ page. Ok (Steps Future page)
question_of kinds ask.Deltas path ms = deltas_of path ms
question_of kinds ask.Step path ms = key_of way_at path (codes "way") ms >>= λ way. Ok (Step way)
question_of kinds ask.ChangedSince path ms = since_of ChangedSince kinds path ms
question_of kinds ask.AddedSince path ms = since_of AddedSince kinds path ms

-- ---- requests

-- a kind that is to be declared; whether its name is good is asked where it is declared
abbrev pub declare_of : List ℕ → Members → Result Request FileFault
declare_of path ms =
    key_of string_at path (codes "name") ms >>= λ name. key_of shape_at path (codes "shape") ms >>= λ shape. Ok (Declare name shape)

-- how many frames a request is for, where it says so
abbrev pub count_in : List ℕ → Option Data → Result (Option ℕ) FileFault
count_in path None = Ok None
count_in path (Some d) = u32_at path d >>= λ count. Ok (Some count)

-- the same by the key `count`, which may be missing
abbrev pub count_of : List ℕ → Members → Result (Option ℕ) FileFault
count_of path ms = count_in (under path (codes "count")) (get_member (codes "count") ms)

-- so many frames one way, or the line for one
abbrev pub turn_or : Way → ScriptLine → Option ℕ → Request
turn_or way line None = Line line
turn_or way line (Some count) = Turn way count

-- a request for frames of one way
abbrev pub turn_of : Way → ScriptLine → List ℕ → Members → Result Request FileFault
turn_of way line path ms = count_of path ms >>= λ count. Ok (turn_or way line count)

-- what stands for a line, or for several undos or redos
abbrev pub line_request_of : Kinds → LineForm → List ℕ → Members → Result Request FileFault
line_request_of kinds form.Undo path ms = turn_of Back line.Undo path ms
line_request_of kinds form.Redo path ms = turn_of Forth line.Redo path ms
line_request_of kinds form path ms = line_of kinds form path ms >>= λ line. Ok (Line line)

-- a request, by what it asks for
abbrev pub request_of : Kinds → RequestForm → List ℕ → Members → Result Request FileFault
request_of kinds (of.Line form) path ms = line_request_of kinds form path ms
request_of kinds (of.Ask form) path ms = question_of kinds form path ms >>= λ question. Ok (Ask question)
request_of kinds of.DropFrame path ms = Ok DropFrame
request_of kinds of.Declare path ms = declare_of path ms

-- what a request asks for, by its word
abbrev pub form_at : List ℕ → Data → Result RequestForm FileFault
form_at path d = field path (option_and_then request_named (as_str d))

-- what a request asks for, which is an object
abbrev pub form_of : List ℕ → Data → Result RequestForm FileFault
form_of path d = field path (as_object d) >>= key_of form_at path (codes "do")

-- a request: `do` comes first, then its unknown keys, and then its keys
abbrev pub request_at : Kinds → List ℕ → Data → Result Request FileFault
request_at kinds path d = form_of path d >>= λ form. object_at (request_keys form) path d >>= request_of kinds form path
