-- Owners that differ only in which calls there were: their further calls have the same answers, and leave them so.
use Rattle.std.proofs.Common.{◌≡◌, ℕ, zero, suc, ◌+◌, List, [], ◌∷◌, Bool, true, false, if◌then◌else◌, length, Ok, refl, sym, ap, subst, ◌∙◌}
use Rattle.std.specs.Prelude.{Err, nat_lt}
use Rattle.std.proofs.lemmas.List.{length-append}
use Rattle.scene_kinds.specs.declared.fault.Fault.TheVariants.{HistoryFull}
use Rattle.scene_kinds.specs.declared.shape.Shape.{Shape}
use Rattle.scene_kinds.specs.Answers.{Outcome, refusal_of}
use Rattle.scene_model.specs.Commands.{and_then}
use Rattle.scene_model.specs.World.{World}
use Rattle.scene_world.specs.FurtherKind.{declare}
use Rattle.scene_session.specs.declared.way.Way.{Way}
use Rattle.scene_session.specs.Calls.{Answer, Asked, Done, Refused, Redone, Undone}
use Rattle.scene_session.specs.FurtherKind.{declare_owner, declared_owner, whole_with_kind}
use Rattle.scene_session.specs.Owner.{MadeCall, OwnerState, entered, machine_at, next, performed, whole_at}
use Rattle.scene_session.specs.Resumed.{OwnersAlike}
use Rattle.scene_session.specs.Turns.{call_along, done, owner_by, unless_refused}
use Rattle.scene_session.specs.Whole.{Whole, step}
use Rattle.scene_session.proofs.Replays.{replay_entered}

pub owners_same : (h : OwnerState) → OwnersAlike h h
owners_same h = record { whole = refl; limit = refl; count = refl; session = refl }

pub owners_back : (g h : OwnerState) → OwnersAlike g h → OwnersAlike h g
owners_back g h same = record { whole = sym same.whole; limit = sym same.limit; count = sym same.count; session = sym same.session }

-- ---- one call

abbrev call_of : OwnerState → Asked → MadeCall
call_of h a = record { session = h.session; call = a; answer = (step (whole_at h) a).1 }

entered_alike : (g h : OwnerState) (a : Asked) → OwnersAlike g h → OwnersAlike (entered g a) (entered h a)
entered_alike g h a same = record {
  whole = replay_entered next g.opening g.history (call_of g a) ∙ ap (λ (w : Whole). (step w a).0) same.whole
      ∙ sym (replay_entered next h.opening h.history (call_of h a));
  limit = same.limit;
  count = length-append g.history (call_of g a ∷ []) ∙ ap (λ n. n + 1) same.count ∙ sym (length-append h.history (call_of h a ∷ []));
  session = same.session;
}

-- an owner and an answer
abbrev BothAlike : OwnerState × Answer → OwnerState × Answer → Type 0
BothAlike p q = OwnersAlike p.0 q.0 × (p.1 ≡ q.1)

-- what a call comes to, by whether there may be one more
abbrev by_room : OwnerState → Asked → Bool → OwnerState × Answer
by_room h a room = if room then (entered h a, (step (whole_at h) a).1) else (h, Refused (refusal_of (HistoryFull h.limit)))

pub performed_alike : (g h : OwnerState) (a : Asked) → OwnersAlike g h → BothAlike (performed g a) (performed h a)
performed_alike g h a same =
    subst (λ room. BothAlike (performed g a) (by_room h a room)) (λ i. nat_lt (same.count i) (same.limit i)) (by (nat_lt (length g.history) g.limit))
  where
    by : (room : Bool) → BothAlike (by_room g a room) (by_room h a room)
    by true = (entered_alike g h a same, ap (λ (w : Whole). (step w a).1) same.whole)
    by false = (same, ap (λ n. Refused (refusal_of (HistoryFull n))) same.limit)

-- ---- several calls, and declarations

-- both refused so, or both accepted, and the owners behind it differ only in which calls there were
abbrev pub OutcomesAlike : {A : Type 0} → Outcome A OwnerState → Outcome A OwnerState → Type 0
OutcomesAlike (Ok p) (Ok q) = (p.0 ≡ q.0) × OwnersAlike p.1 q.1
OutcomesAlike (Err r) (Err s) = r ≡ s
OutcomesAlike o u = ⊥

unless_alike : (g h : OwnerState) (answer : Answer) → OwnersAlike g h → OutcomesAlike (unless_refused g answer) (unless_refused h answer)
unless_alike g h (Done es) same = (refl, same)
unless_alike g h Undone same = (refl, same)
unless_alike g h Redone same = (refl, same)
unless_alike g h (Refused r) same = refl

done_alike : (g h : OwnerState) (a : Asked) → OwnersAlike g h → OutcomesAlike (done a g) (done a h)
done_alike g h a same =
    let both = performed_alike g h a same in
    subst (λ answer. OutcomesAlike (done a g) (unless_refused (performed h a).0 answer)) both.1
    (unless_alike (performed g a).0 (performed h a).0 (performed g a).1 both.0)

pub turns_alike : (way : Way) (n : ℕ) (g h : OwnerState) → OwnersAlike g h → OutcomesAlike (owner_by way n g) (owner_by way n h)
turns_alike way zero g h same = (refl, same)
turns_alike way (suc n) g h same =
    by (λ x y alike. turns_alike way n x y alike) (done (call_along way) g) (done (call_along way) h) (done_alike g h (call_along way) same)
  where
    Rest : Type 0
    Rest = (x y : OwnerState) → OwnersAlike x y → OutcomesAlike (owner_by way n x) (owner_by way n y)

    by : Rest → (o u : Outcome (Unit {0}) OwnerState) → OutcomesAlike o u
        → OutcomesAlike (and_then o (λ a. owner_by way n)) (and_then u (λ a. owner_by way n))
    by rest (Ok p) (Ok q) alike = rest p.1 q.1 alike.1
    by rest (Ok p) (Err r) alike = absurd alike
    by rest (Err r) (Ok p) alike = absurd alike
    by rest (Err r) (Err s) alike = alike

pub declared_alike : (name : List ℕ) (shape : Shape) (g h : OwnerState) → OwnersAlike g h → OutcomesAlike (declare_owner name shape g) (declare_owner name shape h)
declared_alike name shape g h same =
    subst (λ o. OutcomesAlike (declare_owner name shape g) (declared_owner name shape h o))
    (ap (λ (w : Whole). declare w.machine.now name shape) same.whole) (by (declare (machine_at g).now name shape))
  where
    by : (o : Outcome ℕ World) → OutcomesAlike (declared_owner name shape g o) (declared_owner name shape h o)
    by (Ok p) = (refl, record { whole = ap (whole_with_kind name shape) same.whole; limit = same.limit; count = refl; session = same.session })
    by (Err r) = refl
