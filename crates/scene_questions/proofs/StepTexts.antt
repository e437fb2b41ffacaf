-- The texts of records as answers.
use Rattle.std.proofs.Common.{◌≡◌, ℕ, List, ◌++◌, Option, length, refl}
use Rattle.std.specs.Prelude.{codes, decimal}
use Rattle.serde_json.proofs.OnLiterals.{serde_json_on_literals}
use Rattle.serde_json.specs.Written.{compact_text}
use Rattle.scene_journal.specs.Records.{Record}
use Rattle.scene_json_forms.specs.Text.{list_text}
use Rattle.scene_file_records.specs.Text.{delta_text, maybe_text, record_text}
use Rattle.scene_print.specs.JsonAsked.{page}
use Rattle.scene_requests.specs.declared.question.Page.{Page}
use Rattle.scene_requests.specs.declared.question.Way.{Way}
use Rattle.scene_requests.specs.declared.question.Way.TheVariants.{Forth, Back}
use Rattle.scene_questions.specs.Printing.{step_lead}
use Rattle.scene_questions.specs.Steps.{deltas_along, deltas_answer, step_answer, step_head, steps_answer}

-- what is written of a tick and of a number of deltas
abbrev pub head_bytes : (tick count : ℕ) → List ℕ
head_bytes tick count = codes "{\"tick\":" ++ (decimal tick ++ (codes ",\"deltas\":" ++ (decimal count ++ codes "}")))

pub step_head_is : (r : Record) → compact_text (step_head r) ≡ head_bytes r.tick_before (length r.deltas)
unfolding serde_json_on_literals
step_head_is r = refl

pub steps_is : (rs : List Record) (p : Page) → compact_text (steps_answer rs p)
    ≡ codes "{\"answer\":\"steps\",\"length\":" ++ (decimal (length rs)
    ++ (codes ",\"steps\":" ++ (compact_text (list_text step_head (page p.from p.count rs)) ++ codes "}")))
unfolding serde_json_on_literals
steps_is rs p = refl

pub deltas_is : (r : Option Record) → compact_text (deltas_answer r)
    ≡ codes "{\"answer\":\"deltas\",\"record\":" ++ (compact_text (maybe_text record_text r) ++ codes "}")
unfolding serde_json_on_literals
deltas_is r = refl

pub step_is : (way : Way) (r : Option Record) → compact_text (step_answer way r)
    ≡ step_lead way ++ (compact_text (maybe_text (λ s. list_text delta_text (deltas_along way s)) r) ++ codes "}")
unfolding serde_json_on_literals
step_is Forth r = refl
step_is Back r = refl
