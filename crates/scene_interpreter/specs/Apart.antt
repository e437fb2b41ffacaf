-- Interpreters that are the same in all but which calls there were: their number is the same.
use Rattle.std.specs.Prelude.{◌≡◌, ℕ, List}
use Rattle.scene_session.specs.Resumed.{OwnersAlike}
use Rattle.scene_interpreter.specs.Interpreter.{Interpreter, LineReply, Playing, Setting, interpreter_reply}
use Rattle.scene_interpreter.specs.Play.{PlayState, with_owner}

-- Two states are the same but for their owners, which differ only in which calls there were.
pub record StatesApart (s t : PlayState) : Type 0 where
  pub owners : OwnersAlike s.owner t.owner
  pub besides : with_owner s t.owner ≡ t

-- Two interpreters are the same, history apart: in the setup there are no calls, and they are the same
abbrev pub SameApart : (p q : Interpreter) → Type 0
SameApart (Setting s) (Setting t) = s ≡ t
SameApart (Playing s) (Playing t) = StatesApart s t
SameApart p q = ⊥

-- Two replies are the same in their meaning, in their text, and in why the line is bad, and the interpreters behind them
-- are the same, history apart.
pub record RepliesApart (r u : LineReply) : Type 0 where
  pub said : r.said ≡ u.said
  pub text : r.text ≡ u.text
  pub bad : r.bad ≡ u.bad
  pub interpreter : SameApart r.interpreter u.interpreter

-- a line is answered so by two interpreters
abbrev pub AnswersApart : (p q : Interpreter) → List ℕ → Type 0
AnswersApart p q bytes = RepliesApart (interpreter_reply p bytes) (interpreter_reply q bytes)
