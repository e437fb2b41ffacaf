-- The machine of a history: it comes after those of the history's beginnings, and its worlds are in order.
use Rattle.std.proofs.Common.{◌≡◌, List, [], ◌∷◌, ◌++◌, refl, ap, sym, ◌∙◌, subst, Some, None, Ok, map as each}
use Rattle.std.specs.Prelude.{Err}
use Rattle.scene_kinds.specs.declared.entity.Entity.{Entity}
use Rattle.scene_kinds.specs.Answers.{Outcome}
use Rattle.scene_model.specs.World.{World}
use Rattle.scene_model.specs.Valid.{IsValid}
use Rattle.scene_machine.specs.Machine.{Machine}
use Rattle.scene_machine.specs.Frame.{Call, call, replied, after_calls}
use Rattle.scene_editor.specs.GoesOn.{HasSoundRows}
use Rattle.scene_editor.specs.Order.{GoesBack, GoesForth, IsInOrder, ComesAfter, IsPlain, ArePlain}
use Rattle.scene_editor.proofs.MachinesGoOn.{machines_go_on}
use Rattle.scene_journal.specs.Records.{redone, undone}
use Rattle.scene_undo.specs.Editor.{EditorState, worlds_along, machine_of}
use Rattle.scene_session.specs.declared.entry.Entry.{Entry}
use Rattle.scene_session.specs.Calls.{Asked, Submit, Advance, Undo, Redo, machine_call, asked}
use Rattle.scene_session.specs.History.{replay}
use Rattle.scene_session.specs.Whole.{Whole, whole_of, accepted_whole, stepped, next}
use Rattle.scene_session.specs.State.{StateView, replayed}
use Rattle.scene_session.specs.Queries.{machine_at}
use Rattle.scene_editor.specs.Since.{IsNew, machine_after}
use Rattle.scene_editor.proofs.Advances.{advance_stays}

-- ---- entries as calls of the machine

abbrev call_of : Entry → Call
call_of e = machine_call (asked e.call)

accepted_machine : (w : Whole) (a : Asked) (m : Machine World) → (accepted_whole w a m).machine ≡ m
accepted_machine w (Submit queues) m = refl
accepted_machine w (Advance schedule) m = refl
accepted_machine w Undo m = refl
accepted_machine w Redo m = refl

stepped_machine : (w : Whole) (a : Asked) (o : Outcome (List Entity) (Machine World)) → (stepped w a o).0.machine ≡ (replied w.machine o).0
stepped_machine w a (Ok p) = accepted_machine w a p.1
stepped_machine w a (Err r) = refl

replay_machine : (es : List Entry) (w : Whole) → (replay next w es).machine ≡ after_calls w.machine (each call_of es)
replay_machine [] w = refl
replay_machine (e ∷ es) w =
    replay_machine es (next w e) ∙ ap (λ m. after_calls m (each call_of es)) (stepped_machine w (asked e.call) (call w.machine (call_of e)))

replay_append : (before after : List Entry) (w : Whole) → replay next w (before ++ after) ≡ replay next (replay next w before) after
replay_append [] after w = refl
replay_append (e ∷ es) after w = replay_append es after (next w e)

plain : (a : Asked) → IsPlain (machine_call a)
plain (Submit queues) = tt
plain (Advance schedule) = advance_stays schedule
plain Undo = tt
plain Redo = tt

all_plain : (es : List Entry) → ArePlain (each call_of es)
all_plain [] = tt
all_plain (e ∷ es) = (plain (asked e.call), all_plain es)

-- ---- a new editor

valid_sound : (w : World) → IsValid w → HasSoundRows w
valid_sound w v = record {
  schema = v.schema;
  slots = v.slots;
  tick = v.tick;
  rows = v.rows;
  accounted = v.accounted;
  links = v.links;
  resources = λ name cell at. absurd (let k : None ≡ Some cell = at in cc);
}

new_in_order : (e : EditorState) → IsNew e → IsInOrder (machine_of e)
new_in_order e new = record {
  sound = valid_sound e.world new.valid;
  past = subst (λ rs. GoesBack e.world (worlds_along undone rs e.world)) (sym new.past) tt;
  future = subst (λ rs. GoesForth e.world (worlds_along redone rs e.world)) (sym new.future) tt;
}

-- ---- histories

-- the machine after entries that go on from a whole
on_from : (es : List Entry) (w : Whole) → IsInOrder w.machine
    → IsInOrder (replay next w es).machine × ComesAfter w.machine (replay next w es).machine
on_from es w order =
    subst (λ m. IsInOrder m × ComesAfter w.machine m) (sym (replay_machine es w)) (machines_go_on (each call_of es) w.machine (all_plain es) order)

-- the machines of a state then and now
pub record AreThenAndNow (old now : Machine World) : Type 0 where
  pub order_old : IsInOrder old
  pub order_now : IsInOrder now
  pub after : ComesAfter old now

pub then_and_now : (s : StateView) (before after : List Entry) → IsNew s.opening.editor → s.history ≡ before ++ after
    → AreThenAndNow (machine_after s before) (machine_at s)
then_and_now s before after new begins =
    let start : Whole = whole_of s.opening.editor in
    let there = on_from before start (new_in_order s.opening.editor new) in
    let here = on_from after (replay next start before) there.0 in
    let same : replay next (replay next start before) after ≡ replayed s.opening s.history =
    sym (ap (replay next start) begins ∙ replay_append before after start) in
    record {
      order_old = there.0;
      order_now = subst (λ (w : Whole). IsInOrder w.machine) same here.0;
      after = subst (λ (w : Whole). ComesAfter (machine_after s before) w.machine) same here.1;
    }
