-- The steps by which the state leaves the slot of a lock and comes back, and which of them each call makes.
use Rattle.std.specs.Prelude.{◌≡◌, ◌⊎◌, ◌==◌, ◌++◌, ◌∷◌, [], ℕ, zero, suc, List, filter, Option, Some, None, Result, Ok, Err}
use Rattle.std.specs.List.{All}
use Rattle.scene_lock.specs.declared.knowledge.Kind.{Kind}
use Rattle.scene_lock.specs.declared.knowledge.Kind.TheVariants.{TakeToChange, TakeToShare, PutChanged, PutAsItWas, PutWanted}
use Rattle.scene_lock.specs.declared.knowledge.Step.{Step}
use Rattle.scene_lock.specs.History.{HasOneMore}

-- at such a word the state is at home: free, or free and wanted by a `write`
abbrev pub IsFree : ℕ → Type 0
IsFree word = (word ≡ 0) ⊎ (word ≡ 2)

-- the word before and after a step of each kind
abbrev pub Turns : Kind → ℕ → ℕ → Type 0
Turns TakeToChange before after = IsFree before × (after ≡ 1)
Turns TakeToShare before after = (before ≡ 0) × (after ≡ 1)
Turns PutChanged before after = (before ≡ 1) × (after ≡ 0)
Turns PutAsItWas before after = (before ≡ 1) × (after ≡ 0)
Turns PutWanted before after = (before ≡ 1) × (after ≡ 2)

-- what a step of each kind does to the history of the state: one alone enters something
abbrev pub Moves : {E : Type 0} → (E → ℕ) → Kind → ℕ → List E → List E → Type 0
Moves by TakeToChange session before after = after ≡ before
Moves by TakeToShare session before after = after ≡ before
Moves by PutChanged session before after = HasOneMore by session before (λ e. Unit {0}) after
Moves by PutAsItWas session before after = after ≡ before
Moves by PutWanted session before after = after ≡ before

-- a step by its four parts: whose, its kind, the words before and after
abbrev pub step_of : ℕ → Kind → ℕ → ℕ → Step
step_of session kind before after = record { session = session; kind = kind; before = before; after = after }

-- The steps lead from one word to another, each of them by the words of its kind
abbrev pub Leads : ℕ → List Step → ℕ → Type 0
Leads word [] last = word ≡ last
Leads word (s ∷ ss) last = (s.before ≡ word) × Turns s.kind s.before s.after × Leads s.after ss last

-- the steps of one session, in their order
abbrev pub steps_of : ℕ → List Step → List Step
steps_of session steps = filter (λ s. s.session == session) steps

-- the state is taken out at this word, and put back
abbrev pub visit : ℕ → Kind → ℕ → Kind → ℕ → List Step
visit session take from put to = step_of session take from 1 ∷ step_of session put 1 to ∷ []

-- how a job puts the state back: changed where it was done, and as it was where it was stopped
abbrev pub put_after : {D Y : Type 0} → Result D Y → Kind
put_after (Ok done) = PutChanged
put_after (Err stopped) = PutAsItWas

-- A try to write, once at word 0: it goes in and does its job, or is turned away and leaves the word as it was
abbrev pub TriesToWrite : {D Y J : Type 0} → ℕ → List Step → Result (Result D Y) J → List Step → Type 0
TriesToWrite session before (Ok reply) after = after ≡ before ++ visit session TakeToChange 0 (put_after reply) 0
TriesToWrite session before (Err job) after = (after ≡ before) ⊎ (after ≡ before ++ visit session TakeToChange 0 PutAsItWas 0)

-- One round of a `write`: it goes in and does its job, or finds the state out, or leaves it wanted
abbrev pub Attempts : {D Y J : Type 0} → ℕ → List Step → Result (Result D Y) J → List Step → Type 0
Attempts session before (Ok reply) after = (from : ℕ) × IsFree from × (after ≡ before ++ visit session TakeToChange from (put_after reply) 0)
Attempts session before (Err job) after = (after ≡ before)
    ⊎ ((from : ℕ) × IsFree from × (after ≡ before ++ visit session TakeToChange from PutWanted 2))

-- rounds that did no job, by the words that they found: each leaves the state wanted
abbrev pub rounds : ℕ → List ℕ → List Step
rounds session [] = []
rounds session (from ∷ rest) = visit session TakeToChange from PutWanted 2 ++ rounds session rest

-- such rounds, and no other step
abbrev pub Waits : ℕ → List Step → List Step → Type 0
Waits session before after = (found : List ℕ) × All IsFree found × (after ≡ before ++ rounds session found)

-- a `write`: such rounds, and then one that goes in
abbrev pub Writes : {D Y : Type 0} → ℕ → List Step → Result D Y → List Step → Type 0
Writes session before reply after = (waited : List Step) × (from : ℕ) × Waits session before waited × IsFree from
    × (after ≡ waited ++ visit session TakeToChange from (put_after reply) 0)

-- so many shares were taken, each at word 0
abbrev pub shares : ℕ → ℕ → List Step
shares session zero = []
shares session (suc n) = shares session n ++ visit session TakeToShare 0 PutAsItWas 0

-- a `read`: it takes shares at word 0 alone
abbrev pub Reads : ℕ → List Step → List Step → Type 0
Reads session before after = (n : ℕ) × (after ≡ before ++ shares session (suc n))

-- A try to read: it takes one share, or finds another word than 0, or is refused its share
abbrev pub TriesToRead : {A : Type 0} → ℕ → List Step → Option A → List Step → Type 0
TriesToRead session before (Some answer) after = after ≡ before ++ visit session TakeToShare 0 PutAsItWas 0
TriesToRead session before None after = (after ≡ before) ⊎ (after ≡ before ++ visit session TakeToShare 0 PutAsItWas 0)
