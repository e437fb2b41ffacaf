-- The rule of a lock: one word, one slot, one state with a history.
--
-- The word is 0 (free), 1 (the state is out) or 2 (free, and a `write` wants it). A seat stands for passes, and knows of each
-- the history that it has seen and the steps that were made through it. A pass is a seat with one member.
use Rattle.std.specs.Prelude.{◌≡◌, ◌≢◌, ◌⊎◌, ◌<◌, ℕ, true, false, List, [], ◌∷◌, length, slice_index, Option, Some}
use Rattle.std.specs.List.{All}
use mathlib.Core.Option.{Option as Maybe, some, none}
use lib.ListN.{get_elem?}
use Rattle.atomic_table.specs.Table.{State, Me, Step as AtomicStep}
use Rattle.scene_lock.specs.declared.knowledge.Kind.{Kind}
use Rattle.scene_lock.specs.declared.knowledge.Knowledge.{Knowledge}
use Rattle.scene_lock.specs.declared.knowledge.Member.{Member}
use Rattle.scene_lock.specs.declared.knowledge.Step.{Step}
use Rattle.scene_lock.specs.declared.knowledge.Terms.{Terms}
use Rattle.scene_lock.specs.History.{BeginsWith, entries_of, Continues, IsLegal}
use Rattle.scene_lock.specs.Members.{IsMember, AreDistinct, all_stepping, holding_seat, seeing}
use Rattle.scene_lock.specs.Steps.{IsFree, Turns, Moves, Leads, steps_of}

module _ {E O : Type 0} (legal : O → List E → Type 0) (by : E → ℕ) (terms : Terms O) (whole : List E)
    (made : List Step) (owner : ℕ → ℕ) (seat : ℕ) where
  -- What a seat knows of a pass is true: it is a pass of this lock and of no other seat. What it has seen is legal, is a beginning
  -- of the whole history, and has all entries of its session. The steps made through it are all steps of its session
  pub record IsTrueOfPass (named : Option (Terms O)) (pass : Member E) : Type 0 where
    pub lock : named ≡ Some terms
    pub seated : owner pass.session ≡ seat
    pub below : pass.session < terms.passes
    pub lawful : IsLegal legal by terms pass.seen
    pub early : BeginsWith whole pass.seen
    pub own : entries_of by pass.session pass.seen ≡ entries_of by pass.session whole
    pub steps : pass.steps ≡ steps_of pass.session made

  -- what a seat knows is true of each of its passes, which are of different sessions
  pub record IsTrueOf (k : Knowledge E O) : Type 0 where
    pub each : (p : Member E) → IsMember k.members p → IsTrueOfPass k.terms p
    pub distinct : AreDistinct k.members

module _ {X E O : Type 0} (good : O → X → Type 0) (history : X → List E) (terms : Terms O)
    (homes : List (Maybe (Option X))) (views : List (Knowledge E O)) (whole : List E) where
  -- The state is at home: the slot has a good state with the whole history, and no seat holds
  pub record IsHome : Type 0 where
    pub state : X
    pub there : get_elem? homes 0 ≡ some (some (Some state))
    pub is_good : good terms.opening state
    pub kept : history state ≡ whole
    pub idle : (seat : ℕ) (k : Knowledge E O) → get_elem? views seat ≡ some k → k.holding ≡ false

  -- The state is out: the slot is empty, and just one seat holds, a seat of one pass, which has seen the whole history
  pub record IsOut : Type 0 where
    pub gone : get_elem? homes 0 ≡ some none
    pub holder : ℕ
    pub pass : Member E
    pub held : get_elem? views holder ≡ some (holding_seat terms pass)
    pub seen : pass.seen ≡ whole
    pub alone : (seat : ℕ) (k : Knowledge E O) → get_elem? views seat ≡ some k → k.holding ≡ true → seat ≡ holder

  -- the state is at home at word 0 and at word 2 and out at word 1, and there is no other word
  abbrev pub IsPlaced : ℕ → Type 0
  IsPlaced word = (IsFree word × IsHome) ⊎ ((word ≡ 1) × IsOut)

module _ {X E O : Type 0} (good : O → X → Type 0) (history : X → List E) (legal : O → List E → Type 0) (by : E → ℕ) (terms : Terms O) where
  -- There is one whole history, which is legal. The steps of the sessions so far lead from word 0 to the word now, which says
  -- where the state is. What each seat knows is true
  pub record IsKept (s : State (Option X) (Knowledge E O)) : Type 0 where
    pub whole : List E
    pub made : List Step
    pub owner : ℕ → ℕ
    pub one_word : length s.words ≡ 1
    pub lawful : IsLegal legal by terms whole
    pub leads : Leads 0 made (slice_index s.words 0)
    pub sessions : All (λ t. t.session < terms.passes) made
    pub placed : IsPlaced good history terms s.homes s.views whole (slice_index s.words 0)
    pub seats : (seat : ℕ) (k : Knowledge E O) → get_elem? s.views seat ≡ some k → IsTrueOf legal by terms whole made owner seat k

-- each member is told that the history goes on from what it has seen, and is legal
abbrev pub Tells : {E O : Type 0} → (O → List E → Type 0) → (E → ℕ) → Knowledge E O → List E → Type 0
Tells {E} {O} legal by k whole = (p : Member E) → IsMember k.members p
    → Continues by p.session p.seen whole × ((terms : Terms O) → k.terms ≡ Some terms → IsLegal legal by terms whole)

module _ {X E O : Type 0} (legal : O → List E → Type 0) (by : E → ℕ) where
  -- a look at the whole history
  abbrev pub Sees : Me (Option X) (Knowledge E O) → Me (Option X) (Knowledge E O) → Type 0
  Sees before after = (whole : List E) × (after ≡ (seeing whole before.0, before.1)) × Tells legal by before.0 whole

  -- a step that is a look, whatever word it finds, and leaves it
  abbrev pub looked : AtomicStep (Option X) → Me (Option X) (Knowledge E O) → ℕ → Me (Option X) (Knowledge E O) → Type 0
  looked step before found after = Sees before after

module _ {X E O : Type 0} (good : O → X → Type 0) (history : X → List E) (legal : O → List E → Type 0) (by : E → ℕ) where
  -- the state was taken out, and it is good
  abbrev pub TakesOut : Kind → ℕ → Me (Option X) (Knowledge E O) → Me (Option X) (Knowledge E O) → Type 0
  TakesOut kind found before after = (x : X)
      × (after ≡ (record before.0 { members = all_stepping (history x) kind found 1 before.0.members; holding = true }, (0, Some x) ∷ []))
      × Tells legal by before.0 (history x) × ((p : Member E) (terms : Terms O) → IsMember before.0.members p → before.0.terms ≡ Some terms
      → good terms.opening x)

  -- A step of this kind takes the state out where it finds the word that it expects, one of its kind. Else it is a look
  abbrev pub taken : Kind → AtomicStep (Option X) → Me (Option X) (Knowledge E O) → ℕ → Me (Option X) (Knowledge E O) → Type 0
  taken kind step before found after = (found ≡ step.first → Turns kind found step.second × TakesOut kind found before after)
      × (found ≢ step.first → Sees legal by before after)

module _ {X E O : Type 0} (history : X → List E) (legal : O → List E → Type 0) (by : E → ℕ) where
  -- the state that was carried is home again, with the history that this kind of step gives it, which was seen and is legal
  abbrev pub PutsHome : Kind → ℕ → X → Me (Option X) (Knowledge E O) → Me (Option X) (Knowledge E O) → Type 0
  PutsHome kind word x before after =
      (after ≡ (record before.0 { members = all_stepping (history x) kind 1 word before.0.members; holding = false }, []))
      × ((p : Member E) → IsMember before.0.members p → Moves by kind p.session p.seen (history x)
      × ((terms : Terms O) → before.0.terms ≡ Some terms → IsLegal legal by terms (history x)))

  -- a step of this kind puts the state back: it finds word 1, and leaves the word of its kind
  abbrev pub put : Kind → AtomicStep (Option X) → Me (Option X) (Knowledge E O) → ℕ → Me (Option X) (Knowledge E O) → Type 0
  put kind step before found after = Turns kind found step.first × ((x : X) → before.1 ≡ (0, Some x) ∷ [] → PutsHome kind step.first x before after)
