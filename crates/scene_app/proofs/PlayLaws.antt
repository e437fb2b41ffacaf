-- A line that is played, and then the others.
use Rattle.std.proofs.Common.{◌≡◌, ℕ, ◌+◌, List, ◌∷◌, ◌++◌, ap}
use Rattle.std.proofs.lemmas.List.{append_assoc}
use Rattle.scene_interpreter.specs.Interpreter.{Interpreter, interpreter_reply}
use Rattle.scene_interpreter.specs.Printed.{Printed, printed_from, reports_at}
use Rattle.scene_app.specs.Reports.{Tally}
use Rattle.scene_app.specs.Steps.{LinePlayed, noted}
use Rattle.scene_app.proofs.ReportLaws.{noted-append}

-- a line that is played leaves the run to the lines after it
pub line_played : (before after : Interpreter) (number : ℕ) (line : List ℕ) (others : List (List ℕ)) (old new : List ℕ) (r s : Tally)
    → LinePlayed old new r s after number (interpreter_reply before line)
    → (new ++ (printed_from (number + 1) after others).text ≡ old ++ (printed_from number before (line ∷ others)).text)
    × (noted s (printed_from (number + 1) after others).bad ≡ noted r (printed_from number before (line ∷ others)).bad)
    × ((printed_from (number + 1) after others).owner ≡ (printed_from number before (line ∷ others)).owner)
line_played before after number line others old new r s h =
    let reply = interpreter_reply before line in
    let rest : Interpreter → Printed = λ p. printed_from (number + 1) p others in
    let text : (rest after).text ≡ (rest reply.interpreter).text = ap (λ p. (rest p).text) h.2 in
    let bad : (rest after).bad ≡ (rest reply.interpreter).bad = ap (λ p. (rest p).bad) h.2 in (
      cc (append_assoc old reply.text (rest reply.interpreter).text, h.0, text),
      cc (noted-append r (reports_at number reply.bad) (rest reply.interpreter).bad, h.1, bad),
      ap (λ p. (rest p).owner) h.2,
    )
