-- What requests ask for, by the word of their key `do`, and the keys of each (docs/SHELL.md, "Questions"). The keys stand
-- by their bytes.
use Rattle.std.specs.Prelude.{ℕ, List, [], ◌∷◌, codes, Option, Some, None, option_map, if◌then◌else◌}
use Rattle.std.specs.Str.{bytes_eq}
use Rattle.scene_script.specs.declared.form.LineForm.{LineForm}
use Rattle.scene_script.specs.Forms.{form_named}
use Rattle.scene_requests.specs.declared.question.Side.{Side}
use Rattle.scene_requests.specs.declared.question.Side.TheVariants.{Past, Future}
use Rattle.scene_requests.specs.declared.question.Way.{Way}
use Rattle.scene_requests.specs.declared.question.Way.TheVariants.{Forth, Back}
use Rattle.scene_requests.specs.declared.request_form.QuestionForm.{QuestionForm}
use Rattle.scene_requests.specs.declared.request_form.QuestionForm.TheVariants as ask
use Rattle.scene_requests.specs.declared.request_form.RequestForm.{RequestForm}
use Rattle.scene_requests.specs.declared.request_form.RequestForm.TheVariants as of
use Rattle.scene_requests.specs.Keys.{form_keys}

-- ---- words

-- the word of a question
abbrev pub question_word : QuestionForm → List ℕ
question_word ask.Status = codes "status"
question_word ask.Kinds = codes "kinds"
question_word ask.Tables = codes "tables"
question_word ask.Rows = codes "rows"
question_word ask.Children = codes "children"
question_word ask.ParentOf = codes "parentof"
question_word ask.Resources = codes "resources"
question_word ask.Past = codes "past"
question_word ask.Future = codes "future"
question_word ask.Deltas = codes "deltas"
question_word ask.Step = codes "step"
question_word ask.ChangedSince = codes "changedsince"
question_word ask.AddedSince = codes "addedsince"

-- the question of a word, where it is one of the thirteen
abbrev pub question_named : List ℕ → Option QuestionForm
question_named word =
    if bytes_eq word (question_word ask.Status) then Some ask.Status
    else if bytes_eq word (question_word ask.Kinds) then Some ask.Kinds
    else if bytes_eq word (question_word ask.Tables) then Some ask.Tables
    else if bytes_eq word (question_word ask.Rows) then Some ask.Rows
    else if bytes_eq word (question_word ask.Children) then Some ask.Children
    else if bytes_eq word (question_word ask.ParentOf) then Some ask.ParentOf
    else if bytes_eq word (question_word ask.Resources) then Some ask.Resources
    else if bytes_eq word (question_word ask.Past) then Some ask.Past
    else if bytes_eq word (question_word ask.Future) then Some ask.Future
    else if bytes_eq word (question_word ask.Deltas) then Some ask.Deltas
    else if bytes_eq word (question_word ask.Step) then Some ask.Step
    else if bytes_eq word (question_word ask.ChangedSince) then Some ask.ChangedSince
    else if bytes_eq word (question_word ask.AddedSince) then Some ask.AddedSince
    else None

-- what a word asks for that is no first word of a line
abbrev pub shell_named : List ℕ → Option RequestForm
shell_named word =
    if bytes_eq word (codes "dropframe") then Some of.DropFrame
    else if bytes_eq word (codes "declare") then Some of.Declare
    else option_map of.Ask (question_named word)

-- a line where its form is named
abbrev pub line_or : Option LineForm → Option RequestForm → Option RequestForm
line_or (Some form) other = Some (of.Line form)
line_or None other = other

-- what a word asks for: the line that it names, or else what no line does
abbrev pub request_named : List ℕ → Option RequestForm
request_named word = line_or (form_named word) (shell_named word)

-- the side of a word
abbrev pub side_named : List ℕ → Option Side
side_named word = if bytes_eq word (codes "past") then Some Past else if bytes_eq word (codes "future") then Some Future else None

-- the way of a word
abbrev pub way_named : List ℕ → Option Way
way_named word = if bytes_eq word (codes "forth") then Some Forth else if bytes_eq word (codes "back") then Some Back else None

-- ---- keys

-- the keys of a question
abbrev pub question_keys : QuestionForm → List (List ℕ)
question_keys ask.Tables = codes "do" ∷ codes "need" ∷ codes "without" ∷ []
question_keys ask.Rows = codes "count" ∷ codes "do" ∷ codes "from" ∷ codes "need" ∷ codes "without" ∷ []
question_keys ask.Children = codes "do" ∷ codes "entity" ∷ []
question_keys ask.ParentOf = codes "do" ∷ codes "entity" ∷ []
question_keys ask.Past = codes "count" ∷ codes "do" ∷ codes "from" ∷ []
question_keys ask.Future = codes "count" ∷ codes "do" ∷ codes "from" ∷ []
question_keys ask.Deltas = codes "do" ∷ codes "of" ∷ codes "step" ∷ []
question_keys ask.Step = codes "do" ∷ codes "way" ∷ []
question_keys ask.ChangedSince = codes "do" ∷ codes "need" ∷ codes "rewinds" ∷ codes "tick" ∷ codes "without" ∷ []
question_keys ask.AddedSince = codes "do" ∷ codes "need" ∷ codes "rewinds" ∷ codes "tick" ∷ codes "without" ∷ []
question_keys other = codes "do" ∷ []

-- the keys of a request
abbrev pub request_keys : RequestForm → List (List ℕ)
request_keys (of.Line form) = form_keys form
request_keys (of.Ask form) = question_keys form
request_keys of.DropFrame = codes "do" ∷ []
request_keys of.Declare = codes "do" ∷ codes "name" ∷ codes "shape" ∷ []
