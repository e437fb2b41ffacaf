-- A kind that is declared, as the reply to its declaration.
use Rattle.std.proofs.Common.{◌≡◌, ◌≢◌, ℕ, List, [], Ok, Err, refl, sym, ap, subst, ◌∙◌}
use Rattle.std.specs.Prelude.{string_bytes}
use Rattle.scene_kinds.specs.Answers.{Outcome, refusal_of}
use Rattle.scene_kinds.specs.declared.fault.Fault.TheVariants.{NoMemory}
use Rattle.scene_kinds.specs.declared.refusal.Refusal.{Refusal}
use Rattle.scene_kinds.specs.declared.shape.Shape.{Shape}
use Rattle.scene_session.specs.declared.call.Reply.TheVariants.{Refused}
use Rattle.scene_interpreter.specs.declared.answer.LineAnswer.TheVariants as answer
use Rattle.scene_interpreter.specs.declared.halt.Halt.TheVariants.{Before}
use Rattle.scene_interpreter.specs.Answer.{said_of}
use Rattle.scene_interpreter.specs.Interpreter.{Interpreter, Tells, interpreter_of}
use Rattle.scene_answers.proofs.AskedLaws.{declared, undeclared}
use Rattle.scene_c.specs.Calls.{Played, said_code}
use Rattle.scene_c.specs.OpenScene.{KeepsAnswer}
use Rattle.scene_c.specs.Settings.{declare_said, declared_by, number_in}
use Rattle.scene_c.specs.declared.open_scene.OpenScene.{OpenScene}

-- its number
pub number_told : (outcome : Outcome ℕ Interpreter) (old number : ℕ) (q : Interpreter) → outcome ≡ Ok (number, q) → number ≡ number_in old outcome
number_told outcome old number q is = ap (number_in old) (sym is)

module _ (k : List ℕ × Shape) (old new : OpenScene) where
  -- it was declared
  pub declared_played : (number : ℕ) → declared_by k (interpreter_of old.interpreter) ≡ Ok (number, interpreter_of new.interpreter)
      → new.answer ≡ answer.Taken → string_bytes new.text ≡ [] → Played old new (declare_said k (interpreter_of old.interpreter)) [] 0
  declared_played number is answered text =
      let told = declared (interpreter_of old.interpreter) (interpreter_of new.interpreter) (declared_by k (interpreter_of old.interpreter)) number is in
      record {
        came = Ok tt;
        coded = ap said_code told.0;
        answered = (subst (λ a. Tells a (interpreter_of new.interpreter) (declare_said k (interpreter_of old.interpreter))) (sym answered) told, text);
        halted = tt;
      }

  -- or refused
  pub refused_played : (r : Refusal) → (interpreter_of new.interpreter ≡ interpreter_of old.interpreter)
      × (r ≢ refusal_of NoMemory → declared_by k (interpreter_of old.interpreter) ≡ Err r) → r ≢ refusal_of NoMemory
      → new.answer ≡ answer.Replied (Refused r) → string_bytes new.text ≡ [] → Played old new (declare_said k (interpreter_of old.interpreter)) [] 3
  refused_played r is other answered text =
      let told = undeclared (interpreter_of old.interpreter) (interpreter_of new.interpreter) (declared_by k (interpreter_of old.interpreter)) r new.answer answered other is in
      record {
        came = Ok tt;
        coded = ap (λ a. said_code (said_of a)) (sym answered) ∙ ap said_code told.0;
        answered = (told, text);
        halted = tt;
      }

  -- or no memory was found
  pub wanting_played : interpreter_of new.interpreter ≡ interpreter_of old.interpreter → KeepsAnswer old new
      → Played old new (declare_said k (interpreter_of old.interpreter)) [] 1
  wanting_played is kept = record { came = Err Before; coded = refl; answered = tt; halted = (is, kept) }
