-- The state, also behind a shared pointer: the rule of the lock says nothing of how many shares there are.
use Rattle.std.specs.Prelude.{◌≡◌, ◌∷◌, [], ℕ, List, Option, Some}
use Rattle.std.specs.Arc.{arc_value}
use Rattle.std.specs.declared.sync.Arc.{Arc}
use Rattle.scene_lock.specs.History.{Continues, IsLegal}
use Rattle.scene_lock.specs.Pass.{LockView, PassView, Follows}

-- a good state with this opening
abbrev pub IsStateOf : {X O : Type 0} → (X → Type 0) → (X → O) → O → X → Type 0
IsStateOf good opening o x = good x × (opening x ≡ o)

-- P holds of a good state with this opening and this history
abbrev pub AtState : {X E O : Type 0} → (X → Type 0) → (X → O) → (X → List E) → O → List E → (X → Type 0) → Type 0
AtState {X} good opening entries o history P = (x : X) × IsStateOf good opening o x × (entries x ≡ history) × P x

-- the same of a shared state: it is good and has this opening
abbrev pub shared_good : {X Z O : Type 0} → (X → Type 0) → (X → O) → O → Arc X Z → Type 0
shared_good good opening o share = IsStateOf good opening o (arc_value share)

-- the history of a shared state
abbrev pub shared_entries : {X Z E : Type 0} → (X → List E) → Arc X Z → List E
shared_entries entries share = entries (arc_value share)

-- a pass took a shared state: it has seen just the history of that state, which is good and has the lock's opening
abbrev pub HasTaken : {X Z E O : Type 0} → (X → Type 0) → (X → O) → (X → List E) → (O → List E → Type 0) → (E → ℕ) → LockView O → PassView E O
    → Arc X Z → PassView E O → Type 0
HasTaken good opening entries legal by lock before share after =
    Follows legal by lock before after × (after.seen ≡ entries (arc_value share)) × IsStateOf good opening lock.terms.opening (arc_value share)

-- what came out of the slot of a lock that was taken apart, the state being at home: it is good and has the lock's opening, and its
-- history is legal and goes on from what the pass had seen, with no entry of its session more
abbrev pub HasEnded : {X Z E O : Type 0} → (X → Type 0) → (X → O) → (X → List E) → (O → List E → Type 0) → (E → ℕ) → LockView O → PassView E O
    → Option (Arc X Z) → Type 0
HasEnded {X} {Z} good opening entries legal by lock pass slot = (share : Arc X Z) × (slot ≡ Some share)
    × IsStateOf good opening lock.terms.opening (arc_value share) × Continues by pass.session pass.seen (entries (arc_value share))
    × IsLegal legal by lock.terms (entries (arc_value share))

-- a pass has seen more of the history or the same, and P holds of a state with just what it has seen
abbrev pub FollowsTo : {X E O : Type 0} → (X → Type 0) → (X → O) → (X → List E) → (O → List E → Type 0) → (E → ℕ) → LockView O → PassView E O
    → (X → Type 0) → PassView E O → Type 0
FollowsTo good opening entries legal by lock before P after = Follows legal by lock before after
    × AtState good opening entries lock.terms.opening after.seen P

-- a seat carries the value of the one slot
abbrev pub Carries : {X : Type 0} → List (ℕ × Option X) → Type 0
Carries {X} slots = (x : X) × (slots ≡ (0, Some x) ∷ [])
