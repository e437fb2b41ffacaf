-- Stores stay honest as lines and checkpoints are kept.
use Rattle.std.proofs.Common.{◌≡◌, ◌≢◌, ℕ, List, [], ◌∷◌, ◌++◌, Some, length, map, inl, inr, arith, refl, sym, ap, subst, ◌∙◌, append_assoc, length-append}
use Rattle.std.specs.List.{AllByRecursion}
use Rattle.std.proofs.lemmas.List.{length-map}
use Rattle.scene_interpreter.specs.declared.progress.Progress.{Progress}
use Rattle.scene_interpreter.specs.Apart.{SameApart}
use Rattle.scene_interpreter.specs.Interpreter.{Interpreter, Playing, Setting}
use Rattle.scene_interpreter.specs.Play.{PlayState, SetupState}
use Rattle.scene_interpreter.specs.Progress.{progress_in}
use Rattle.scene_interpreter.proofs.Apart.{frames_apart, kinds_apart}
use Rattle.scene_kept_lines.specs.Checkpoints.{AllHonest, Checkpoint, EndsNone, IsCheckpointOf, IsCheckpointText, IsHonest, IsLedTo, end_of, marked}
use Rattle.scene_kept_lines.specs.Compacted.{Agrees, unrewound}
use Rattle.scene_shell.specs.Shell.{interpreter_after}
use Rattle.scene_kept_lines.proofs.CheckpointLines.{marked_ends_none, same_ends, unmark_all}
use Rattle.scene_kept_lines.proofs.Lists.{Place, cons_head, cons_tail, ends_alike, placed}

-- ---- the same interpreter, history apart

agrees_apart : (p q r : Interpreter) → SameApart p q → Agrees p r → Agrees q r
agrees_apart (Setting s) (Setting t) r same agrees = subst (λ (x : SetupState). Agrees (Setting x) r) same agrees
agrees_apart (Setting s) (Playing t) r same agrees = absurd same
agrees_apart (Playing s) (Setting t) r same agrees = absurd same
agrees_apart (Playing s) (Playing t) r same agrees = record {
  machine = ap unrewound (sym same.owners.whole) ∙ agrees.machine;
  kinds = sym (kinds_apart (Playing s) (Playing t) same) ∙ agrees.kinds;
  systems = ap (λ (x : PlayState). x.phases) (sym same.besides) ∙ agrees.systems;
  session = sym same.owners.session ∙ agrees.session;
  calls = sym same.owners.limit ∙ agrees.calls;
  first_closed = sym (frames_apart (Playing s) (Playing t) same) ∙ agrees.first_closed;
  second_closed = agrees.second_closed;
}

progress_apart : (p q : Interpreter) → SameApart p q → progress_in p ≡ progress_in q
progress_apart (Setting s) (Setting t) same = refl
progress_apart (Setting s) (Playing t) same = absurd same
progress_apart (Playing s) (Setting t) same = absurd same
progress_apart (Playing s) (Playing t) same = λ i. Some (record {
  calls = same.owners.count i;
  rewinds = (same.owners.whole i).machine.rewinds;
  cursor = (same.besides i).cursor;
})

led_apart : (first p q : Interpreter) (ls : List (List ℕ)) (x : Progress) → SameApart p q → IsLedTo first p ls x → IsLedTo first q ls x
led_apart first p q ls x same led = record {
  lead = (led.lead.0, agrees_apart p q (interpreter_after first ls) same led.lead.1);
  progress = sym (progress_apart p q same) ∙ led.progress;
}

-- ---- lines that end a checkpoint

-- a line that is none of them, and stands in a checkpoint's text, ends it
only_end : (ls before behind : List (List ℕ)) (end line : List ℕ) → ((l : List ℕ) → marked l ≢ line)
    → map marked ls ++ end ∷ [] ≡ before ++ line ∷ behind → (before ≡ map marked ls) × (end ≡ line)
only_end [] [] behind end line none is = (refl, cons_head end line [] behind is)
only_end [] (b ∷ before) behind end line none is = absurd (omega (arith, ap length is, length-append before (line ∷ behind)))
only_end (l ∷ ls) [] behind end line none is = absurd (none l (cons_head (marked l) line (map marked ls ++ end ∷ []) behind is))
only_end (l ∷ ls) (b ∷ before) behind end line none is =
    let rest = only_end ls before behind end line none (cons_tail (marked l) b (map marked ls ++ end ∷ []) (before ++ line ∷ behind) is) in
    ((λ i. sym (cons_head (marked l) b (map marked ls ++ end ∷ []) (before ++ line ∷ behind) is) i ∷ rest.0 i), rest.1)

-- where no line ends a checkpoint, none of them does
none_ends : (more others behind : List (List ℕ)) (count : ℕ) (x : Progress) → AllByRecursion EndsNone more
    → more ≡ others ++ end_of count x ∷ behind → ⊥
none_ends [] others behind count x none is = omega (arith, ap length is, length-append others (end_of count x ∷ behind))
none_ends (l ∷ more) [] behind count x none is = none.0 count x (cons_head l (end_of count x) more behind is)
none_ends (l ∷ more) (o ∷ others) behind count x none is =
    none_ends more others behind count x none.1 (cons_tail l o more (others ++ end_of count x ∷ behind) is)

-- ---- checkpoints of more lines

module _ (first : Interpreter) (all more rest : List (List ℕ)) (honest : AllHonest first all) (c : Checkpoint (all ++ more) rest) where
  abbrev before : List (List ℕ)
  before = c.front ++ map marked c.ls

  abbrev end : List ℕ
  end = end_of (length c.ls) c.progress

  where_it_ends : Place before end rest all more
  where_it_ends = placed before end rest all more (append_assoc c.front (map marked c.ls) (end ∷ rest) ∙ sym c.parted)

  -- one that ends among the lines is one of them
  honest_within : (behind : List (List ℕ)) → all ≡ before ++ end ∷ behind → IsHonest first c
  honest_within behind here = honest behind (record {
    front = c.front;
    ls = c.ls;
    progress = c.progress;
    sayable = c.sayable;
    parted = here ∙ append_assoc c.front (map marked c.ls) (end ∷ behind);
  })

  honest_without : AllByRecursion EndsNone more → Place before end rest all more → IsHonest first c
  honest_without none (inl (behind, here)) = honest_within behind here
  honest_without none (inr (others, here, there)) = absurd (none_ends more others rest (length c.ls) c.progress none there)

  module _ (ls : List (List ℕ)) (x : Progress) (is : IsCheckpointText ls x more) (led : IsLedTo first (interpreter_after first all) ls x) where
    -- one that ends among others is the one that they are
    honest_at : (others : List (List ℕ)) → before ≡ all ++ others → more ≡ others ++ end ∷ rest → IsHonest first c
    honest_at others here there =
        let last = only_end ls others rest (end_of (length ls) x) end (λ l. marked_ends_none l (length c.ls) c.progress) (sym is ∙ there) in
        let says = same_ends (length ls) (length c.ls) x c.progress c.sayable last.1 in
        let size : length (map marked c.ls) ≡ length (map marked ls) = length-map c.ls marked ∙ sym says.0 ∙ sym (length-map ls marked) in
        let parts = ends_alike c.front all (map marked c.ls) (map marked ls) size (here ∙ ap (λ others. all ++ others) last.0) in
        let front : c.front ≡ all = parts.0 in
        let lines : c.ls ≡ ls = unmark_all c.ls ls parts.1 in
        subst (λ front. IsLedTo first (interpreter_after first front) c.ls c.progress) (sym front)
        (subst (λ ls. IsLedTo first (interpreter_after first all) ls c.progress) (sym lines)
        (subst (IsLedTo first (interpreter_after first all) ls) says.1 led))

    honest_with : Place before end rest all more → IsHonest first c
    honest_with (inl (behind, here)) = honest_within behind here
    honest_with (inr (others, here, there)) = honest_at others here there

-- no line at all has a checkpoint
pub none_honest : (first : Interpreter) → AllHonest first []
none_honest first rest c =
    let block = map marked c.ls ++ end_of (length c.ls) c.progress ∷ rest in
    absurd (omega (arith, ap length c.parted, length-append c.front block, length-append (map marked c.ls) (end_of (length c.ls) c.progress ∷ rest)))

pub lines_stay_honest : (first : Interpreter) (all more : List (List ℕ)) → AllHonest first all → AllByRecursion EndsNone more
    → AllHonest first (all ++ more)
lines_stay_honest first all more honest none rest c =
    honest_without first all more rest honest c none (where_it_ends first all more rest honest c)

pub checkpoint_stays_honest : (first : Interpreter) (all : List (List ℕ)) (p : Interpreter) (text : List (List ℕ)) → AllHonest first all
    → IsCheckpointOf first p text → SameApart p (interpreter_after first all) → AllHonest first (all ++ text)
checkpoint_stays_honest first all p text honest new same rest c =
    honest_with first all text rest honest c new.ls new.progress new.is
    (led_apart first p (interpreter_after first all) new.ls new.progress same new.led)
    (where_it_ends first all text rest honest c)
