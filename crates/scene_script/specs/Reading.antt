-- Reading a line from the left: what it says so far, or the reason why it is bad.
use Rattle.std.specs.Prelude.{ℕ, ◌≡◌, List, [], ◌∷◌, Bool, Option, Some, None, Result, Ok, Err, ⊤, if◌then◌else◌}
use Rattle.scene_script.specs.declared.form.LineForm.{LineForm}
use Rattle.scene_script.specs.declared.bad_line.BadLine.{BadLine}
use Rattle.scene_script.specs.declared.bad_line.BadLine.TheVariants as bad
use Rattle.scene_script.specs.declared.bad_line.LineError.{LineError}
use Rattle.scene_script.specs.declared.bad_line.LineError.TheVariants.{Bad, NoMemory}

-- what is read next, where there was no mistake so far; the first mistake is the reason
infixl 10 ◌>>=◌
abbrev pub ◌>>=◌ : {A B : Type 0} → Result A BadLine → (A → Result B BadLine) → Result B BadLine
(Ok a) >>= next = next a
(Err reason) >>= next = Err reason

-- what is there, or else the reason
abbrev pub or_bad : {A : Type 0} → BadLine → Option A → Result A BadLine
or_bad reason None = Err reason
or_bad reason (Some a) = Ok a

-- the next word of a line, and those behind it
abbrev pub next_word : LineForm → List (List ℕ) → Result (List ℕ × List (List ℕ)) BadLine
next_word form [] = Err (bad.MissingWord form)
next_word form (w ∷ ws) = Ok (w, ws)

-- what a line says that has no more words
abbrev pub ended : {A : Type 0} → LineForm → List (List ℕ) → A → Result A BadLine
ended form [] a = Ok a
ended form (w ∷ ws) a = Err (bad.ExtraWord w form)

-- what a line says that has no more words behind a text; a further word was meant as a part of it
abbrev pub text_ended : {A : Type 0} → List (List ℕ) → A → Result A BadLine
text_ended [] a = Ok a
text_ended (w ∷ ws) a = Err (bad.BehindText w)

-- what a line says that has no more words behind a value, which may be a text
abbrev pub ended_behind : {A : Type 0} → Bool → LineForm → List (List ℕ) → A → Result A BadLine
ended_behind behind_text form words a = if behind_text then text_ended words a else ended form words a

-- what a body that reads answers: what was said, or want of memory
abbrev pub Reads : {A : Type 0} → Result A LineError → Result A BadLine → Type 0
Reads (Ok a) said = said ≡ Ok a
Reads (Err NoMemory) said = ⊤
Reads (Err (Bad reason)) said = said ≡ Err reason
