-- The passes that a seat of a lock stands for, and what becomes of them.
use Rattle.std.specs.Prelude.{◌≡◌, ◌≢◌, ◌⊎◌, ◌+◌, ◌++◌, ℕ, zero, suc, true, false, List, [], ◌∷◌, map, Some, None}
use Rattle.scene_lock.specs.declared.knowledge.Kind.{Kind}
use Rattle.scene_lock.specs.declared.knowledge.Knowledge.{Knowledge}
use Rattle.scene_lock.specs.declared.knowledge.Member.{Member}
use Rattle.scene_lock.specs.declared.knowledge.Step.{Step}
use Rattle.scene_lock.specs.declared.knowledge.Terms.{Terms}
use Rattle.scene_lock.specs.Steps.{step_of}

module _ {E : Type 0} where
  -- a pass of this session, with what it has seen and the steps made through it
  abbrev pub member : ℕ → List E → List Step → Member E
  member session seen steps = record { session = session; seen = seen; steps = steps }

  -- a pass is one of these
  abbrev pub IsMember : List (Member E) → Member E → Type 0
  IsMember [] p = ⊥
  IsMember (m ∷ ms) p = (m ≡ p) ⊎ IsMember ms p

  -- no two are of one session
  abbrev pub AreDistinct : List (Member E) → Type 0
  AreDistinct [] = Unit {0}
  AreDistinct (m ∷ ms) = ((p : Member E) → IsMember ms p → p.session ≢ m.session) × AreDistinct ms

  -- each has now seen this history
  abbrev pub all_seeing : List E → List (Member E) → List (Member E)
  all_seeing history ms = map (λ (m : Member E). record m { seen = history }) ms

  -- each has made this step, and has seen this history by it
  abbrev pub all_stepping : List E → Kind → ℕ → ℕ → List (Member E) → List (Member E)
  all_stepping history kind before after ms =
      map (λ (m : Member E). member m.session history (m.steps ++ step_of m.session kind before after ∷ [])) ms

  -- n passes from this session on, which have seen nothing
  abbrev pub new_members : ℕ → ℕ → List (Member E)
  new_members zero session = []
  new_members (suc n) session = member session [] [] ∷ new_members n (session + 1)

  -- what the first has seen
  abbrev pub seen_of : List (Member E) → List E
  seen_of [] = []
  seen_of (m ∷ ms) = m.seen

  -- the steps made through the first
  abbrev pub made_by : List (Member E) → List Step
  made_by [] = []
  made_by (m ∷ ms) = m.steps

  -- the first alone, where there is one
  abbrev pub first_member : List (Member E) → List (Member E)
  first_member [] = []
  first_member (m ∷ ms) = m ∷ []

  -- those after the first
  abbrev pub other_members : List (Member E) → List (Member E)
  other_members [] = []
  other_members (m ∷ ms) = ms

module _ {E O : Type 0} where
  -- the seat of n passes from this session on, which have seen nothing
  abbrev pub new_seat : Terms O → ℕ → ℕ → Knowledge E O
  new_seat terms n session = record { terms = Some terms; members = new_members n session; holding = false }

  -- Making a lock: its one seat, for all passes
  abbrev pub opening_seat : Terms O → Knowledge E O
  opening_seat terms = new_seat terms terms.passes 0

  -- Parting: the seat of the first pass, and that of the others
  abbrev pub first_seat : Knowledge E O → Knowledge E O
  first_seat k = record k { members = first_member k.members; holding = false }

  -- the seat of all passes but the first
  abbrev pub others_seat : Knowledge E O → Knowledge E O
  others_seat k = record k { members = other_members k.members; holding = false }

  -- Joining: the seat of two, and what is left of the second, which stands for no pass
  abbrev pub joined_seat : Knowledge E O → Knowledge E O → Knowledge E O
  joined_seat k l = record k { members = k.members ++ l.members; holding = false }

  -- a seat that stands for no pass
  abbrev pub spent_seat : Knowledge E O
  spent_seat = record { terms = None; members = []; holding = false }

  -- the seat of a pass that has the state out
  abbrev pub holding_seat : Terms O → Member E → Knowledge E O
  holding_seat terms pass = record { terms = Some terms; members = pass ∷ []; holding = true }

  -- the members have seen this history
  abbrev pub seeing : List E → Knowledge E O → Knowledge E O
  seeing history k = record k { members = all_seeing history k.members }
