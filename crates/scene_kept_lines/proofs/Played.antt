-- How far lines were played.
use Rattle.std.proofs.Common.{◌≡◌, ℕ, ◌+◌, List, [], ◌∷◌, ◌++◌, Option, Some, None, Err, is_some, if◌then◌else◌, length, length-append, refl, sym, ap, subst, ◌∙◌, append_assoc, append-nil, arith}
use Rattle.scene_interpreter.specs.Interpreter.{Interpreter, halted}
use Rattle.scene_shell.specs.declared.bad_shell_line.BadShellLine.{BadShellLine}
use Rattle.scene_shell.specs.ShellLine.{shell_reply}
use Rattle.scene_shell.specs.Shell.{bad_count, interpreter_after}
use Rattle.scene_kept_lines.specs.declared.line_fault.KeptLineFault.{KeptLineFault}
use Rattle.scene_kept_lines.specs.declared.line_fault.KeptLineFault.TheVariants.{Bad, Halted, NoMemory, Unwritten}
use Rattle.scene_kept_lines.specs.Replayed.{IsPlayedAs, NoneIsBad, StopsBy}

-- the first lines of all are played, of which none is bad, and these are left
pub record HasPlayed (first now : Interpreter) (all rest : List (List ℕ)) (count : ℕ) : Type 0 where
  pub front : List (List ℕ)
  pub parted : all ≡ front ++ rest
  pub counted : count ≡ length front
  pub good : NoneIsBad first front
  pub reached : now ≡ interpreter_after first front

-- before the first line
pub played_none : (first : Interpreter) (all : List (List ℕ)) → HasPlayed first first all all 0
played_none first all = record { front = []; parted = refl; counted = refl; good = refl; reached = refl }

after_more : (p : Interpreter) (ls : List (List ℕ)) (l : List ℕ) → interpreter_after p (ls ++ l ∷ []) ≡ (shell_reply (interpreter_after p ls) l).interpreter
after_more p [] l = refl
after_more p (k ∷ ls) l = after_more (shell_reply p k).interpreter ls l

-- whether a line counts as bad
abbrev count_bad : Option BadShellLine → ℕ
count_bad bad = if is_some bad then 1 else 0

bad_more : (p : Interpreter) (ls : List (List ℕ)) (l : List ℕ) → NoneIsBad p ls → (shell_reply (interpreter_after p ls) l).bad ≡ None → NoneIsBad p (ls ++ l ∷ [])
bad_more p [] l good none = ap (λ (bad : Option BadShellLine). count_bad bad + 0) none
bad_more p (k ∷ ls) l good none =
    let sum : count_bad (shell_reply p k).bad + bad_count (shell_reply p k).interpreter ls ≡ 0 = good in
    let later : bad_count (shell_reply p k).interpreter ls ≡ 0 = omega (arith, sum) in
    let more : bad_count (shell_reply p k).interpreter (ls ++ l ∷ []) ≡ 0 = bad_more (shell_reply p k).interpreter ls l later none in
    let whole : count_bad (shell_reply p k).bad + bad_count (shell_reply p k).interpreter (ls ++ l ∷ []) ≡ 0 = omega (arith, sum, more) in
    whole

-- a line more
pub played_more : (first now after : Interpreter) (all rest more : List (List ℕ)) (l : List ℕ) (count next : ℕ) → HasPlayed first now all rest count → rest ≡ l ∷ more
    → next ≡ count + 1 → (after ≡ (shell_reply now l).interpreter) × ((shell_reply now l).bad ≡ None) → HasPlayed first after all more next
played_more first now after all rest more l count next so is counts played =
    let at : interpreter_after first so.front ≡ now = sym so.reached in
    record {
      front = so.front ++ l ∷ [];
      parted = so.parted ∙ ap (λ ls. so.front ++ ls) is ∙ sym (append_assoc so.front (l ∷ []) more);
      counted = omega (arith, counts, so.counted, length-append so.front (l ∷ []));
      good = bad_more first so.front l so.good (subst (λ p. (shell_reply p l).bad ≡ None) so.reached played.1);
      reached = played.0 ∙ ap (λ p. (shell_reply p l).interpreter) so.reached ∙ sym (after_more first so.front l);
    }

-- the line that stops them
pub played_stop : (first now left : Interpreter) (all rest more : List (List ℕ)) (l : List ℕ) (count number : ℕ) (fault : KeptLineFault)
    → HasPlayed first now all rest count → rest ≡ l ∷ more → number ≡ count + 1 → IsPlayedAs now left number l (Err fault) → StopsBy first left all fault
played_stop first now left all rest more l count number (Bad n reason) so is counts played =
    record {
      front = so.front;
      line = l;
      back = more;
      parted = so.parted ∙ ap (λ ls. so.front ++ ls) is;
      counted = omega (arith, played.0, counts, so.counted);
      good = so.good;
      holds = subst (λ p. ((shell_reply p l).bad ≡ Some reason) × (left ≡ (shell_reply p l).interpreter)) so.reached (played.1, played.2);
    }
played_stop first now left all rest more l count number (Halted n halt) so is counts played =
    record {
      front = so.front;
      line = l;
      back = more;
      parted = so.parted ∙ ap (λ ls. so.front ++ ls) is;
      counted = omega (arith, played.0, counts, so.counted);
      good = so.good;
      holds = subst (λ p. left ≡ halted halt p (shell_reply p l).interpreter) so.reached played.1;
    }
played_stop first now left all rest more l count number NoMemory so is counts played = absurd played
played_stop first now left all rest more l count number Unwritten so is counts played = absurd played

-- all lines are played
pub record IsPlayed (first now : Interpreter) (all : List (List ℕ)) (count : ℕ) : Type 0 where
  pub reached : now ≡ interpreter_after first all
  pub good : NoneIsBad first all
  pub counted : count ≡ length all

pub played_all : (first now : Interpreter) (all : List (List ℕ)) (count : ℕ) → HasPlayed first now all [] count → IsPlayed first now all count
played_all first now all count so =
    let whole : so.front ≡ all = sym (so.parted ∙ append-nil so.front) in
    record {
      reached = so.reached ∙ ap (interpreter_after first) whole;
      good = subst (NoneIsBad first) whole so.good;
      counted = so.counted ∙ ap length whole;
    }
