-- A spawn that is queued with its name, as the line of it.
use Rattle.std.proofs.Common.{◌≡◌, ◌≢◌, ℕ, Bool, true, false, List, [], ◌∷◌, ◌++◌, Ok, Err, Some, refl, ap, sym, subst, ◌∙◌}
use Rattle.std.specs.Prelude.{if◌then◌else◌, length, nat_lt, string_bytes}
use Rattle.scene_kinds.specs.Answers.{Outcome, refusal_of, refuse}
use Rattle.scene_kinds.specs.declared.fault.Fault.TheVariants.{NoMemory, QueueFull}
use Rattle.scene_kinds.specs.declared.refusal.Refusal.{Refusal}
use Rattle.scene_kinds.specs.declared.value.Value.{Value}
use Rattle.scene_commands.specs.declared.command.Command.TheVariants.{Spawn}
use Rattle.scene_commands.specs.declared.target.Target.{Target}
use Rattle.scene_commands.specs.declared.target.Target.TheVariants.{New}
use Rattle.scene_queue.specs.Queue.{QueueState, spawns}
use Rattle.scene_script.specs.declared.script_line.Line.TheVariants.{Do}
use Rattle.scene_session.specs.declared.call.Reply.TheVariants.{Refused}
use Rattle.scene_interpreter.specs.declared.answer.LineAnswer.TheVariants as answer
use Rattle.scene_interpreter.specs.declared.halt.Halt.TheVariants.{Before}
use Rattle.scene_interpreter.specs.Interpreter.{Interpreter, Playing, Tells, interpreter_kinds, interpreter_of, played}
use Rattle.scene_interpreter.specs.OpenFrame.{Opened, and_last}
use Rattle.scene_interpreter.specs.Play.{PlayState, StateReply, query_reply, queued_reply, reply_within, with_frame}
use Rattle.scene_interpreter.specs.Said.{Queued, refused, said_text}
use Rattle.scene_interpreter.specs.WholeFrame.{IsSpawnQueued, and_state}
use Rattle.scene_c.specs.Calls.{Played, said_code, says}
use Rattle.scene_c.specs.Given.{next_name, shown_target}
use Rattle.scene_c.specs.OpenScene.{KeepsAnswer}
use Rattle.scene_c.specs.declared.open_scene.OpenScene.{OpenScene}

-- what a queue with a spawn more makes of an answer, where there was room for it and where there wasn't
abbrev pushed : {A : Type 0} → QueueState → A → Bool → Outcome A QueueState
pushed q answer has_room = if has_room then Ok (answer, q) else refuse QueueFull

module _ (s : PlayState) (f : Opened) (q : QueueState) (name : Target) where
  -- it has the name, and the line is queued
  named : (has_room : Bool) (target : Target) (next : PlayState) → and_state s (and_last f (pushed q name has_room)) ≡ Ok (target, next)
      → (queued_reply s f (and_last f (pushed q tt has_room)) ≡ query_reply next Queued) × (target ≡ name)
  named true target next is =
      let made : Target × PlayState = (name, with_frame s (Some (record f { last = q }))) in
      let both : made ≡ (target, next) = cc in
      (ap (λ p. query_reply p.1 Queued) both, sym (ap (λ p. p.0) both))
  named false target next is = absurd (let no : Err (refusal_of QueueFull) ≡ Ok (target, next) = is in cc)

  -- it is refused, and so is the line
  turned_back : (has_room : Bool) (r : Refusal) → and_state s (and_last f (pushed q name has_room)) ≡ Err r
      → queued_reply s f (and_last f (pushed q tt has_room)) ≡ query_reply (with_frame s (Some f)) (refused r)
  turned_back true r is = absurd (let no : Ok (name, with_frame s (Some (record f { last = q }))) ≡ Err r = is in cc)
  turned_back false r is =
      let same : refusal_of QueueFull ≡ r = cc in
      ap (λ why. query_reply (with_frame s (Some f)) (refused why)) same

module _ (p next : Interpreter) (cells : List (ℕ × Value)) where
  -- the reply to the line, by what the queue makes of it
  line_is : (s : PlayState) (f : Opened) (r : StateReply) → p ≡ Playing s → s.frame ≡ Some f
      → queued_reply s f (and_last f (pushed (record f.last { commands = f.last.commands ++ Spawn cells ∷ [] }) tt (nat_lt (length f.last.commands) f.last.limit))) ≡ r
      → says (Do (Spawn cells)) p ≡ played r
  line_is s f r is is_open reply = ap (says (Do (Spawn cells))) is ∙ ap (λ frame. played (reply_within s (Do (Spawn cells)) frame)) is_open ∙ ap played reply

  queued : (target : Target) → IsSpawnQueued p next cells (Ok target)
      → Tells answer.Queued next (says (Do (Spawn cells)) p) × (shown_target target ≡ next_name p)
  queued target is =
      let s = is.before in
      let f = is.queued.frame in
      let both = named s f (record f.last { commands = f.last.commands ++ Spawn cells ∷ [] }) (New (spawns f.last.commands))
      (nat_lt (length f.last.commands) f.last.limit) target is.after is.queued.queued in
      let line = line_is s f (query_reply is.after Queued) is.old_is is.queued.is_open both.0 in (
        subst (λ r. Tells answer.Queued next r) (sym line) (refl, is.new_is, refl, refl),
        ap shown_target both.1 ∙ ap (λ frame. next_name (Playing (with_frame s frame))) (sym is.queued.is_open) ∙ ap next_name (sym is.old_is),
      )

  not_queued : (r : Refusal) → IsSpawnQueued p next cells (Err r) → r ≢ refusal_of NoMemory → Tells (answer.Replied (Refused r)) next (says (Do (Spawn cells)) p)
  not_queued r is not_memory =
      let s = is.before in
      let f = is.queued.frame in
      let why = turned_back s f (record f.last { commands = f.last.commands ++ Spawn cells ∷ [] }) (New (spawns f.last.commands))
      (nat_lt (length f.last.commands) f.last.limit) r (is.queued.queued.1 not_memory) in
      let line = line_is s f (query_reply (with_frame s (Some f)) (refused r)) is.old_is is.queued.is_open why in
      let same : next ≡ Playing (with_frame s (Some f)) = is.new_is ∙ ap Playing is.queued.queued.0 ∙ ap (λ frame. Playing (with_frame s frame)) is.queued.is_open in
      subst (λ x. Tells (answer.Replied (Refused r)) next x) (sym line)
      (refl, same, ap (λ x. said_text (interpreter_kinds x) (refused r)) same, refl)

  stays : (r : Refusal) → IsSpawnQueued p next cells (Err r) → next ≡ p
  stays r is = is.new_is ∙ ap Playing is.queued.queued.0 ∙ sym is.old_is

module _ (old new : OpenScene) (cells : List (ℕ × Value)) where
  pub queued_played : (target : Target) → IsSpawnQueued (interpreter_of old.interpreter) (interpreter_of new.interpreter) cells (Ok target)
      → new.answer ≡ answer.Queued → string_bytes new.text ≡ [] → Played old new (says (Do (Spawn cells)) (interpreter_of old.interpreter)) [] 0
  queued_played target is answered text =
      let told = (queued (interpreter_of old.interpreter) (interpreter_of new.interpreter) cells target is).0 in
      record {
        came = Ok tt;
        coded = ap said_code told.0;
        answered = (subst (λ a. Tells a (interpreter_of new.interpreter) (says (Do (Spawn cells)) (interpreter_of old.interpreter))) (sym answered) told, text);
        halted = tt;
      }

  pub queued_named : (target : Target) → IsSpawnQueued (interpreter_of old.interpreter) (interpreter_of new.interpreter) cells (Ok target)
      → shown_target target ≡ next_name (interpreter_of old.interpreter)
  queued_named target is = (queued (interpreter_of old.interpreter) (interpreter_of new.interpreter) cells target is).1

  pub refused_played : (r : Refusal) → IsSpawnQueued (interpreter_of old.interpreter) (interpreter_of new.interpreter) cells (Err r) → r ≢ refusal_of NoMemory
      → new.answer ≡ answer.Replied (Refused r) → string_bytes new.text ≡ [] → Played old new (says (Do (Spawn cells)) (interpreter_of old.interpreter)) [] 3
  refused_played r is not_memory answered text =
      let told = not_queued (interpreter_of old.interpreter) (interpreter_of new.interpreter) cells r is not_memory in
      record {
        came = Ok tt;
        coded = ap said_code told.0;
        answered = (subst (λ a. Tells a (interpreter_of new.interpreter) (says (Do (Spawn cells)) (interpreter_of old.interpreter))) (sym answered) told, text);
        halted = tt;
      }

  pub wanting_played : (r : Refusal) → IsSpawnQueued (interpreter_of old.interpreter) (interpreter_of new.interpreter) cells (Err r) → KeepsAnswer old new
      → Played old new (says (Do (Spawn cells)) (interpreter_of old.interpreter)) [] 1
  wanting_played r is kept = record {
    came = Err Before;
    coded = refl;
    answered = tt;
    halted = (stays (interpreter_of old.interpreter) (interpreter_of new.interpreter) cells r is, kept);
  }
