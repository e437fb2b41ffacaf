use Rattle.std.proofs.Common.{◌≡◌, ℕ, refl, ap}
use Rattle.std.specs.Prelude.{max}
use Rattle.scene_session.specs.Owner.{OwnerState}
use Rattle.scene_interpreter.specs.declared.progress.Progress.{Progress}
use Rattle.scene_interpreter.specs.Interpreter.{Interpreter, Playing, interpreter_of, mode_by}
use Rattle.scene_interpreter.specs.Play.{PlayState, state_by}
use Rattle.scene_interpreter.specs.Progress.{Resumes, StateResumes}
use Rattle.scene_interpreter.proofs.progress.Interpreter+LoneOwner.resume.Goals as goal

-- an interpreter whose state goes on does so
goes_on : (x : Progress) (before after : PlayState) (p : Interpreter) → p ≡ Playing before → StateResumes x before after → Resumes x p (Playing after)
goes_on x before after p is on = record { before = before; after = after; old_is = is; new_is = refl; resumed = on }

pub returns-in-Playing-clause-resumed : goal.returns-in-Playing-clause-resumed
returns-in-Playing-clause-resumed c = λ yes.
    goes_on c.args.progress (state_by {O = OwnerState} (λ owner. owner) c.in-Playing.state) (state_by {O = OwnerState} (λ owner. owner) c.resume.new.self)
    (interpreter_of c.args.self.now) (ap (mode_by {O = OwnerState} {L = ℕ} (λ owner. owner) (λ limit. max limit 1)) c.in-Playing.is)
    (c.resume.ensures.resumed yes)
