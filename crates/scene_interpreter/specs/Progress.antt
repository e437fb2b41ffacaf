-- How far an interpreter has come, and one that goes on from there.
use Rattle.std.specs.Prelude.{◌≡◌, ℕ, Bool, false, not, ◌&&◌, Option, Some, None, is_some, length, nat_le}
use Rattle.scene_session.specs.Owner.{machine_at}
use Rattle.scene_session.specs.Resumed.{IsResumed}
use Rattle.scene_interpreter.specs.Interpreter.{Interpreter, Playing, Setting}
use Rattle.scene_interpreter.specs.Play.{PlayState}
use Rattle.scene_interpreter.specs.declared.progress.Progress.{Progress}

-- how many calls a state has made, how many undos there were, and its cursor
abbrev pub progress_of : PlayState → Progress
progress_of s = record { calls = length s.owner.history; rewinds = (machine_at s.owner).rewinds; cursor = s.cursor }

-- the same of an interpreter; in the setup there is none
abbrev pub progress_in : Interpreter → Option Progress
progress_in (Setting s) = None
progress_in (Playing s) = Some (progress_of s)

-- whether a state can go on from there: no frame is open, and there may be so many calls
abbrev pub state_may_resume : Progress → PlayState → Bool
state_may_resume x s = not (is_some s.frame) && nat_le x.calls s.owner.limit

-- and an interpreter: only behind the setup
abbrev pub may_resume : Progress → Interpreter → Bool
may_resume x (Setting s) = false
may_resume x (Playing s) = state_may_resume x s

-- A state goes on from there: its owner does, and the cursor is that one. All else stays.
pub record StateResumes (x : Progress) (old new : PlayState) : Type 0 where
  pub owner : IsResumed x.rewinds x.calls old.owner new.owner
  pub besides : new ≡ record old { owner = new.owner; cursor = x.cursor }

-- and so does an interpreter, which is behind its setup
pub record Resumes (x : Progress) (old new : Interpreter) : Type 0 where
  pub before : PlayState
  pub after : PlayState
  pub old_is : old ≡ Playing before
  pub new_is : new ≡ Playing after
  pub resumed : StateResumes x before after
