-- What a store keeps that says when its lines were kept.
use Rattle.std.specs.Prelude.{⊤, ◌≡◌, ℕ, ◌==◌, List, [], ◌∷◌, ◌++◌, Bool, true, false}
use Rattle.std.specs.List.{list_any}
use Rattle.std.specs.Str.{is_utf8}
use Rattle.std.specs.Str.Lines.{lines}
use Rattle.scene_interpreter.specs.Interpreter.{Interpreter}
use Rattle.scene_shell.specs.Kept.{IsWhole, ended}
use Rattle.scene_shell.specs.Shell.{bad_count, interpreter_after}
use Rattle.scene_kept_lines.specs.declared.dated_store.DatedStore.{DatedStore}

-- a comment: a line of UTF-8 that begins with a number sign (35), and has no line feed (10)
pub record IsComment (l : List ℕ) : Type 0 where
  pub utf8 : is_utf8 l ≡ true
  pub rest : List ℕ
  pub begins : l ≡ 35 ∷ rest
  pub one : list_any (λ b. b == 10) l ≡ false

-- nothing, or what ends with a line feed
abbrev pub EndsLine : List ℕ → Type 0
EndsLine [] = ⊤
EndsLine (b ∷ []) = b ≡ 10
EndsLine (b ∷ c ∷ bs) = EndsLine (c ∷ bs)

-- a text is lines behind a comment
pub record IsDated (lines all : List ℕ) : Type 0 where
  pub comment : List ℕ
  pub is : IsComment comment
  pub parted : all ≡ ended comment ++ lines

-- two texts play alike, whatever stands behind them: from each interpreter they lead to the same one, and as many of
-- their lines are bad
abbrev pub PlayAlike : List ℕ → List ℕ → Type 0
PlayAlike one other = (p : Interpreter) (more : List ℕ)
    → (interpreter_after p (lines (one ++ more)) ≡ interpreter_after p (lines (other ++ more)))
    × (bad_count p (lines (one ++ more)) ≡ bad_count p (lines (other ++ more)))

-- a text that another one plays alike is kept; and it ends a line, unless it may not
abbrev pub KeepsAlike : (kept : List ℕ → Type 0) → (ends_within : Bool) → List ℕ → Type 0
KeepsAlike kept ends_within text =
    (found : List ℕ) × kept found × PlayAlike found text × (ends_within ≡ false → IsWhole text)

-- so a dated store keeps a text
abbrev pub KeepsDated : {S C : Type 0} → (S → List ℕ → Type 0) → DatedStore S C → List ℕ → Type 0
KeepsDated keeps s text = KeepsAlike (keeps s.store) s.ends_within text
