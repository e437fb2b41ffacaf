-- How the values of an owner are told apart.
use Rattle.std.specs.Prelude.{◌≡◌, ◌⊎◌, ℕ, List, refl}
use mathlib.Core.Logic.{inl, inr}
use base.Stored.{coded_unit}
use Rattle.std.specs.Coded.{Coded, code_by, coded×, coded⊎, coded_list, coded_ℕ}
use Rattle.scene_kinds.specs.declared.entity.Entity.{Entity}
use Rattle.scene_kinds.specs.declared.refusal.Refusal.{Refusal as Reason}
use Rattle.scene_kinds.specs.contracts.entity.Entity as entity
use Rattle.scene_kinds.specs.contracts.refusal.Refusal as refusal
use Rattle.scene_queue.specs.contracts.queue.Queue as queue
use Rattle.scene_queue.specs.Queue.{QueueState}
use Rattle.scene_schedule.specs.contracts.schedule.Schedule as schedule
use Rattle.scene_schedule.specs.Schedule.{ScheduleState}
use Rattle.scene_session.specs.Calls.{Answer, Asked, Submit, Advance, Undo, Redo, Done, Undone, Redone, Refused}
use Rattle.scene_session.specs.Codes.{whole_code}
use Rattle.scene_session.specs.Whole.{Whole}
use Rattle.scene_session.specs.Owner.{OwnerState, MadeCall}

-- what a call asks
abbrev Question : Type 0
Question = List QueueState ⊎ (ScheduleState ⊎ (Unit {0} ⊎ Unit {0}))

abbrev of_asked : Asked → Question
of_asked (Submit queues) = inl queues
of_asked (Advance s) = inr (inl s)
of_asked Undo = inr (inr (inl tt))
of_asked Redo = inr (inr (inr tt))

abbrev to_asked : Question → Asked
to_asked (inl queues) = Submit queues
to_asked (inr (inl s)) = Advance s
to_asked (inr (inr (inl _))) = Undo
to_asked (inr (inr (inr _))) = Redo

pub asked_back : (a : Asked) → to_asked (of_asked a) ≡ a
asked_back (Submit queues) = refl
asked_back (Advance s) = refl
asked_back Undo = refl
asked_back Redo = refl

-- an asked call, by its question
abbrev pub asked_code : Coded Asked
asked_code = code_by Question (coded⊎ (coded_list queue.the_row.coded) (coded⊎ schedule.the_row.coded (coded⊎ coded_unit coded_unit)))
    of_asked to_asked asked_back

-- what a reply tells
abbrev Told : Type 0
Told = List Entity ⊎ (Reason ⊎ (Unit {0} ⊎ Unit {0}))

abbrev of_answer : Answer → Told
of_answer (Done es) = inl es
of_answer (Refused r) = inr (inl r)
of_answer Undone = inr (inr (inl tt))
of_answer Redone = inr (inr (inr tt))

abbrev to_answer : Told → Answer
to_answer (inl es) = Done es
to_answer (inr (inl r)) = Refused r
to_answer (inr (inr (inl _))) = Undone
to_answer (inr (inr (inr _))) = Redone

pub answer_back : (a : Answer) → to_answer (of_answer a) ≡ a
answer_back (Done es) = refl
answer_back (Refused r) = refl
answer_back Undone = refl
answer_back Redone = refl

-- an answer, by what it tells
abbrev pub answer_code : Coded Answer
answer_code = code_by Told (coded⊎ (coded_list entity.the_row.coded) (coded⊎ refusal.the_row.coded (coded⊎ coded_unit coded_unit)))
    of_answer to_answer answer_back

-- a call that was made
abbrev pub made_code : Coded MadeCall
made_code = code_by (ℕ × (Asked × Answer)) (coded× coded_ℕ (coded× asked_code answer_code))
    (λ c. (c.session, (c.call, c.answer))) (λ p. record { session = p.0; call = p.1.0; answer = p.1.1 }) (λ _. refl)

-- an owner by its parts
abbrev pub owner_code : Coded OwnerState
owner_code = code_by (Whole × (ℕ × (List MadeCall × ℕ)))
    (coded× whole_code (coded× coded_ℕ (coded× (coded_list made_code) coded_ℕ)))
    (λ h. (h.opening, (h.limit, (h.history, h.session))))
    (λ p. record { opening = p.0; limit = p.1.0; history = p.1.1.0; session = p.1.1.1 }) (λ _. refl)
