-- Histories: lists of entries, each of which a session entered.
use Rattle.std.specs.Prelude.{◌≡◌, ◌<◌, ◌==◌, ◌++◌, ◌∷◌, [], ℕ, List, filter}
use Rattle.std.specs.List.{All}
use Rattle.scene_lock.specs.declared.knowledge.Terms.{Terms}

module _ {E : Type 0} where
  -- the history begins with what was seen
  abbrev pub BeginsWith : List E → List E → Type 0
  BeginsWith history seen = (later : List E) × (history ≡ seen ++ later)

  -- the entries of one session, in their order
  abbrev pub entries_of : (E → ℕ) → ℕ → List E → List E
  entries_of by session history = filter (λ e. by e == session) history

  -- the history goes on from what was seen, with no entry of this session more
  abbrev pub Continues : (E → ℕ) → ℕ → List E → List E → Type 0
  Continues by session seen history = BeginsWith history seen × (entries_of by session history ≡ entries_of by session seen)

  -- the history has one entry more, of this session, of which `asked` holds
  abbrev pub HasOneMore : (E → ℕ) → ℕ → List E → (E → Type 0) → List E → Type 0
  HasOneMore by session before asked after = (e : E) × (after ≡ before ++ e ∷ []) × (by e ≡ session) × asked e

-- the history is legal from the opening, and each entry is of a session of this lock
abbrev pub IsLegal : {E O : Type 0} → (O → List E → Type 0) → (E → ℕ) → Terms O → List E → Type 0
IsLegal legal by terms history = legal terms.opening history × All (λ e. by e < terms.passes) history
