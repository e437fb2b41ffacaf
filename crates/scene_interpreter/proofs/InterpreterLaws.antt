-- A line of the setup, and one that ends it.
use Rattle.std.proofs.Common.{◌≡◌, Option, Some, None, Result, Ok, Err, IfOk, IfErr, refl, sym, ap, ◌∙◌, subst}
use Rattle.std.specs.Prelude.{MatchResult}
use Rattle.scene_script.specs.declared.script_line.Line.{Line}
use Rattle.scene_script.specs.declared.bad_line.BadLine.{BadLine}
use Rattle.scene_interpreter.specs.declared.answer.LineAnswer.{LineAnswer}
use Rattle.scene_interpreter.specs.declared.halt.Halt.{Halt}
use Rattle.scene_interpreter.specs.declared.halt.Halt.TheVariants.{Begun}
use Rattle.scene_interpreter.specs.declared.setup_line.SetupAnswer.TheVariants.{Given, Ends}
use Rattle.scene_interpreter.specs.Answer.{Says, said_of}
use Rattle.scene_interpreter.specs.Play.{PlayState, SetupReply, SetupState, StateReply, first_state, said_reply, setup_kinds, setup_said}
use Rattle.scene_interpreter.specs.Interpreter.{HaltsSetup, Interpreter, Setting, Playing, Tells, halted, played, interpreter_said, set_or_begun}
use Rattle.scene_interpreter.specs.Said.{bad_in, said_text}
use Rattle.scene_interpreter.specs.Setup.{AnswersSetup}

-- an answer behind the setup
pub told : (answer : LineAnswer) (state : PlayState) (r : StateReply) → Says answer state r → Tells answer (Playing state) (played r)
told answer state r says = (
  says.0,
  ap Playing says.1,
  ap (λ (s : PlayState). said_text s.schema (said_of answer)) says.1 ∙ ap (said_text r.state.schema) says.0,
  ap bad_in says.0,
)

-- a line of a setup that was answered
given_by : (s t : SetupState) (said : Result Line BadLine) (answer : LineAnswer) (o : Option SetupReply)
    → AnswersSetup s t said o (Given answer) → Tells answer (Setting t) (set_or_begun s said o)
given_by s t said answer None h = absurd h
given_by s t said answer (Some r) h = (
  h.0,
  ap Setting h.1,
  ap (λ (u : SetupState). said_text (setup_kinds u) (said_of answer)) h.1 ∙ ap (said_text (setup_kinds r.setup)) h.0,
  ap bad_in h.0,
)

pub given : (z : Interpreter) (s t : SetupState) (said : Result Line BadLine) (answer : LineAnswer)
    → z ≡ Setting s → AnswersSetup s t said (setup_said s said) (Given answer) → Tells answer (Setting t) (interpreter_said z said)
given z s t said answer is h =
    subst (λ (y : Interpreter). Tells answer (Setting t) (interpreter_said y said)) (sym is) (given_by s t said answer (setup_said s said) h)

-- a line that was handed back has no reply, and left the setup
back : (s t : SetupState) (said : Result Line BadLine) (line : Line) (o : Option SetupReply)
    → AnswersSetup s t said o (Ends line) → (o ≡ None) × (said ≡ Ok line) × (t ≡ s)
back s t said line None h = (refl, h.0, h.1)
back s t said line (Some r) h = absurd h

setup_stays : (z : Interpreter) (s t : SetupState) (said : Result Line BadLine) (line : Line) → z ≡ Setting s
    → AnswersSetup s t said (setup_said s said) (Ends line) → Setting t ≡ z
setup_stays z s t said line is h = ap Setting (back s t said line (setup_said s said) h).2 ∙ sym is

-- its reply is that of what follows the setup
begins : (z : Interpreter) (s t : SetupState) (said : Result Line BadLine) (line : Line) (answer : LineAnswer) (state : PlayState)
    → z ≡ Setting s → AnswersSetup s t said (setup_said s said) (Ends line)
    → Says answer state (said_reply (first_state t) (Ok line)) → Tells answer (Playing state) (interpreter_said z said)
begins z s t said line answer state is h says =
    let b = back s t said line (setup_said s said) h in
    let same = ap (λ (w : SetupState). said_reply (first_state w) (Ok line)) b.2 ∙ ap (λ (q : Result Line BadLine). said_reply (first_state s) q) (sym b.1) in
    let tells : Tells answer (Playing state) (set_or_begun s said None) =
    told answer state (said_reply (first_state s) said) (says.0 ∙ ap (λ r. r.said) same, says.1 ∙ ap (λ r. r.state) same) in
    subst (λ (y : Interpreter). Tells answer (Playing state) (interpreter_said y said)) (sym is)
    (subst (λ (o : Option SetupReply). Tells answer (Playing state) (set_or_begun s said o)) (sym b.0) tells)

-- a line that ends the setup, and is answered behind it or finds no memory there
pub ends : {E : Type 0} (z : Interpreter) (s t : SetupState) (said : Result Line BadLine) (line : Line) (state : PlayState)
    (answered : Result LineAnswer E) (result : Result LineAnswer Halt) → z ≡ Setting s
    → AnswersSetup s t said (setup_said s said) (Ends line)
    → MatchResult answered (λ answer. result ≡ Ok answer) (λ _. result ≡ Err Begun)
    → MatchResult answered (λ answer. Says answer state (said_reply (first_state t) (Ok line))) (λ _. state ≡ first_state t)
    → IfOk result (λ answer. Tells answer (Playing state) (interpreter_said z said))
    × IfErr result (λ h. Playing state ≡ halted h z (interpreter_said z said).interpreter)
ends z s t said line state (Ok answer) result is h came says =
    let Wanted : Result LineAnswer Halt → Type 0 = λ r. IfOk r (λ a. Tells a (Playing state) (interpreter_said z said)) × IfErr r (λ x. Playing state ≡ halted x z (interpreter_said z said).interpreter) in
    subst Wanted (sym came) (begins z s t said line answer state is h says, tt)
ends z s t said line state (Err none) result is h came first =
    let b = back s t said line (setup_said s said) h in
    let next = (interpreter_said z said).interpreter in
    let at : Playing state ≡ halted Begun z next = ap Playing (first ∙ ap first_state b.2) ∙ ap (λ (y : Interpreter). halted Begun y next) (sym is) in
    let Wanted : Result LineAnswer Halt → Type 0 = λ r. IfOk r (λ a. Tells a (Playing state) (interpreter_said z said)) × IfErr r (λ x. Playing state ≡ halted x z next) in
    subst Wanted (sym came) (tt, at)

-- a setup that a line would have ended, and for which no memory was found
pub still_halted : (z next : Interpreter) (s t u : SetupState) (said : Result Line BadLine) (line : Line) (h : Halt) → z ≡ Setting s
    → AnswersSetup s t said (setup_said s said) (Ends line) → HaltsSetup h t u → Setting u ≡ halted h z next
still_halted z next s t u said line h is a halts =
    halts.1 next ∙ ap (λ (y : Interpreter). halted h y next) (setup_stays z s t said line is a)
