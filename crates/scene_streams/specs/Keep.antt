-- What is kept of lines.
use Rattle.std.specs.Prelude.{ℕ, List, ◌++◌}

-- these bytes were kept behind those that were
abbrev pub Grows : {K : Type 0} → (K → List ℕ → Type 0) → K → K → List ℕ → Type 0
Grows keeps old new more = (text : List ℕ) → keeps old text → keeps new (text ++ more)

-- what was kept stays
abbrev pub StaysKept : {K : Type 0} → (K → List ℕ → Type 0) → K → K → Type 0
StaysKept keeps old new = (text : List ℕ) → keeps old text → keeps new text
