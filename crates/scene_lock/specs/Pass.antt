-- What contracts see of a lock and of its passes.
use Rattle.std.specs.Prelude.{◌≡◌, ◌++◌, ◌∷◌, [], zero, suc, ℕ, List, Option, Some}
use Rattle.std.specs.List.{All}
use Rattle.atomic_table.specs.Seated.{TableId}
use Rattle.scene_lock.specs.declared.knowledge.Step.{Step}
use Rattle.scene_lock.specs.declared.knowledge.Terms.{Terms}
use Rattle.scene_lock.specs.History.{Continues, IsLegal}

-- which lock it is, with the opening of its state and the number of its passes
pub record LockView (O : Type 0) : Type 0 where
  pub id : TableId
  pub terms : Terms O

-- which lock a pass is of, its session, the history that it has seen, and the steps on the word that were made through it
pub record PassView (E O : Type 0) : Type 0 where
  pub id : TableId
  pub terms : Option (Terms O)
  pub session : ℕ
  pub seen : List E
  pub steps : List Step

module _ {E O : Type 0} where
  -- the pass is one of this lock
  abbrev pub IsPassOf : LockView O → PassView E O → Type 0
  IsPassOf lock pass = (pass.id ≡ lock.id) × (pass.terms ≡ Some lock.terms)

  -- the same pass of this lock, whatever it has seen
  abbrev pub IsStill : LockView O → PassView E O → PassView E O → Type 0
  IsStill lock before after = IsPassOf lock after × (after.session ≡ before.session)

  -- The same pass of this lock has seen a legal history that goes on from what it had seen, with no entry of its session more
  abbrev pub Follows : (O → List E → Type 0) → (E → ℕ) → LockView O → PassView E O → PassView E O → Type 0
  Follows legal by lock before after = IsStill lock before after × Continues by before.session before.seen after.seen
      × IsLegal legal by lock.terms after.seen

  -- The same pass has seen such a history, and after it one entry of its session, of which `asked` holds. With that entry too it is legal
  abbrev pub Enters : (O → List E → Type 0) → (E → ℕ) → LockView O → PassView E O → (E → Type 0) → PassView E O → Type 0
  Enters legal by lock before asked after = IsStill lock before after
      × ((history : List E) × (e : E) × Continues by before.session before.seen history × IsLegal legal by lock.terms history
      × (after.seen ≡ history ++ e ∷ []) × (by e ≡ before.session) × asked e × IsLegal legal by lock.terms after.seen)

  -- a pass that has seen nothing yet
  abbrev pub first_pass : LockView O → ℕ → PassView E O
  first_pass lock session = record { id = lock.id; terms = Some lock.terms; session = session; seen = []; steps = [] }

  -- the passes 0, 1, .. of a new lock
  abbrev pub first_passes : LockView O → ℕ → List (PassView E O)
  first_passes lock zero = []
  first_passes lock (suc n) = first_passes lock n ++ first_pass lock n ∷ []

  -- these passes have now seen this history
  abbrev pub all_seen : List E → List (PassView E O) → List (PassView E O)
  all_seen history [] = []
  all_seen history (p ∷ ps) = record p { seen = history } ∷ all_seen history ps

  -- these passes have seen one legal history, which goes on from what each had seen, with no entry more of any of their sessions
  abbrev pub HaveMet : (O → List E → Type 0) → (E → ℕ) → LockView O → (before after : List (PassView E O)) → Type 0
  HaveMet legal by lock before after = (history : List E) × (after ≡ all_seen history before)
      × All (λ p. Follows legal by lock p (record p { seen = history })) before
