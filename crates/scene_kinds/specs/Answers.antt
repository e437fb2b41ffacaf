-- What a call may answer, against a function of the model.
use Rattle.std.specs.Prelude.{◌≡◌, ◌≢◌, Result, Ok, Err, MatchResult, None}
use Rattle.scene_kinds.specs.declared.fault.Fault.{Fault}
use Rattle.scene_kinds.specs.declared.fault.Fault.TheVariants.{NoMemory}
use Rattle.scene_kinds.specs.declared.refusal.Refusal.{Refusal}

-- a refusal without a place
abbrev pub refusal_of : Fault → Refusal
refusal_of fault = record { fault = fault; place = None }

-- what a call of the model gives: an answer with the state after it, or the first refusal that applies
abbrev pub Outcome : Type 0 → Type 0 → Type 0
Outcome A W = Result (A × W) Refusal

-- the model's refusal
abbrev pub refuse : {A W : Type 0} → Fault → Outcome A W
refuse fault = Err (refusal_of fault)

-- the call answered what the model gives, its refusal included, or found no memory; and after any refusal the
-- state is as it was
abbrev pub Answers : {A W : Type 0} → Result A Refusal → (old new : W) → Outcome A W → Type 0
Answers result old new outcome =
    MatchResult result (λ a. outcome ≡ Ok (a, new)) (λ r. (new ≡ old) × (r ≢ refusal_of NoMemory → outcome ≡ Err r))

-- the same of a call that takes no memory: it always answers what the model gives
abbrev pub Gives : {A W : Type 0} → Result A Refusal → (old new : W) → Outcome A W → Type 0
Gives result old new outcome = MatchResult result (λ a. outcome ≡ Ok (a, new)) (λ r. (new ≡ old) × (outcome ≡ Err r))
