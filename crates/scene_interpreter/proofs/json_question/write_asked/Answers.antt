use Rattle.std.proofs.Common.{subst, sym}
use Rattle.std.specs.Prelude.{OnOk}
use Rattle.serde_json.specs.Written.{compact_text}
use Rattle.scene_json.specs.Texts.{Adds}
use Rattle.scene_session.specs.Whole.{whole_of}
use Rattle.scene_interpreter.specs.JsonQuestion.{asked_json}
use Rattle.scene_interpreter.specs.declared.json_question.StateJson.{StateJson}
use Rattle.scene_interpreter.proofs.json_question.write_asked.Goals as goal

pub returns-in-Ask : goal.returns-in-Ask
returns-in-Ask c =
    subst (λ (asked : StateJson). OnOk c.write_json_answer.result
    (Adds c.args.out.now c.write_json_answer.new.out (compact_text (asked_json asked (whole_of c.args.editor.now))))) (sym c.in-Ask.is)
    c.write_json_answer.ensures
