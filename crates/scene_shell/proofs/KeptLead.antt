-- The lines that a shell keeps lead to the interpreter that it had.
use Rattle.std.proofs.Common.{◌≡◌, ℕ, ◌-◌, List, [], ◌∷◌, ◌++◌, Bool, true, false, cond, All, if◌then◌else◌, length, take, codes, arith, refl, sym, ap, subst, ◌∙◌, append_assoc, append-nil}
use Rattle.std.specs.Prelude.{◌==◌, slice_index}
use Rattle.std.specs.List.{AllByRecursion, onto_first, slice_split}
use Rattle.std.specs.Str.Lines.{lines, lines_of_parts, strip_carriage_return}
use Rattle.std.proofs.lemmas.List.Elements.{All-append, All-cons, All-nil, All-take}
use Rattle.std.proofs.lemmas.List.Splits.{slice_split_at, slice_split-cons_no, slice_split-cons_yes}
use Rattle.std.proofs.lemmas.Grind.{common_steps}
use Rattle.scene_interpreter.specs.Interpreter.{Interpreter}
use Rattle.scene_interpreter.specs.Changes.{frame_is_open}
use Rattle.scene_shell.specs.ShellLine.{shell_changes, shell_reply}
use Rattle.scene_shell.specs.Shell.{interpreter_after}
use Rattle.scene_shell.specs.Kept.{IsWhole, Keeping, ended, kept_after, kept_line, kept_of, noted, starting}
use Rattle.scene_shell.proofs.Requests.{shell_unchanged}
use Rattle.scene_shell.proofs.Lines.{HasPart, has_part, is_end, line_before}

-- no byte of a line ends a line
abbrev pub IsLine : List ℕ → Type 0
IsLine l = All (λ b. is_end b ≡ false) l

-- the carriage return behind a line is dropped
stripped_one : (l : List ℕ) → strip_carriage_return (l ++ 13 ∷ []) ≡ l
stripped_one l =
    let x = l ++ 13 ∷ [] in
    let last : slice_index x (length x - 1) ≡ 13 = grind (arith, common_steps) in
    let front : take (length x - 1) x ≡ l = grind (arith, common_steps) in
    ap (λ t. cond (t == 13) (take (length x - 1) x) x) last ∙ front

-- a line, ended so or so, is the first of what stands there
ended_by : (b : Bool) (l ys : List ℕ) → (slice_index l (length l - 1) == 13) ≡ b → IsLine l
    → lines ((l ++ (if b then codes "\r\n" else codes "\n")) ++ ys) ≡ l ∷ lines ys
ended_by true l ys is line =
    let x = l ++ 13 ∷ [] in
    let parts = slice_split_at is_end x 10 ys (All-append (λ b. is_end b ≡ false) l (13 ∷ []) line (All-cons (λ b. is_end b ≡ false) 13 [] refl (All-nil (λ b. is_end b ≡ false)))) refl in
    ap lines (append_assoc l (codes "\r\n") ys ∙ sym (append_assoc l (13 ∷ []) (10 ∷ ys))) ∙ ap lines_of_parts parts ∙ line_before x ys (has_part is_end ys) ∙ ap (λ t. t ∷ lines ys) (stripped_one l)
ended_by false l ys is line =
    let parts = slice_split_at is_end l 10 ys line refl in
    ap lines (append_assoc l (10 ∷ []) ys) ∙ ap lines_of_parts parts ∙ line_before l ys (has_part is_end ys) ∙ ap (λ t. (cond t (take (length l - 1) l) l) ∷ lines ys) is

pub ended_first : (l ys : List ℕ) → IsLine l → lines (ended l ++ ys) ≡ l ∷ lines ys
ended_first l ys line = ended_by (slice_index l (length l - 1) == 13) l ys refl line

pub whole_more : (t l : List ℕ) → IsWhole t → IsLine l → IsWhole (t ++ ended l)
whole_more t l whole line ys =
    let one : lines (ended l) ≡ l ∷ [] = ap lines (sym (append-nil (ended l))) ∙ ended_first l [] line in
    ap lines (append_assoc t (ended l) ys) ∙ whole (ended l ++ ys) ∙ ap (λ ls. lines t ++ ls) (ended_first l ys line)
    ∙ ap (λ ls. lines t ++ (ls ++ lines ys)) (sym one) ∙ sym (append_assoc (lines t) (lines (ended l)) (lines ys)) ∙ ap (λ ls. ls ++ lines ys) (sym (whole (ended l)))

pub after_append : (p : Interpreter) (xs ys : List (List ℕ)) → interpreter_after p (xs ++ ys) ≡ interpreter_after (interpreter_after p xs) ys
after_append p [] ys = refl
after_append p (x ∷ xs) ys = after_append (shell_reply p x).interpreter xs ys

-- all that was noted
abbrev pub all_of : Keeping → List ℕ
all_of k = k.due ++ k.held

released_all : (b : Bool) (p : Interpreter) (due held : List ℕ)
    → all_of (cond {A = Keeping} b (record { interpreter = p; due = due; held = held }) (record { interpreter = p; due = due ++ held; held = [] })) ≡ due ++ held
released_all true p due held = refl
released_all false p due held = append-nil (due ++ held)

line_all : (k : Keeping) (l : List ℕ) → all_of (kept_line k l) ≡ all_of k ++ (if shell_changes k.interpreter l then ended l else [])
line_all k l =
    let r = shell_reply k.interpreter l in
    released_all (frame_is_open r.interpreter) r.interpreter k.due (noted k.interpreter l k.held) ∙ sym (append_assoc k.due k.held (if shell_changes k.interpreter l then ended l else []))

released_interpreter : (b : Bool) (p : Interpreter) (due held : List ℕ)
    → (cond {A = Keeping} b (record { interpreter = p; due = due; held = held }) (record { interpreter = p; due = due ++ held; held = [] })).interpreter ≡ p
released_interpreter true p due held = refl
released_interpreter false p due held = refl

-- what was noted leads from an interpreter to the one that is kept with it
abbrev Leads : Interpreter → Keeping → Type 0
Leads first k = IsWhole (all_of k) × (interpreter_after first (lines (all_of k)) ≡ k.interpreter)

module _ (first : Interpreter) where
  noted_leads : (b : Bool) (k : Keeping) (l : List ℕ) → shell_changes k.interpreter l ≡ b → IsLine l → Leads first k
      → IsWhole (all_of k ++ (if b then ended l else [])) × (interpreter_after first (lines (all_of k ++ (if b then ended l else []))) ≡ (shell_reply k.interpreter l).interpreter)
  noted_leads true k l is line so = (
    whole_more (all_of k) l so.0 line,
    ap (interpreter_after first) (so.0 (ended l) ∙ ap (λ ls. lines (all_of k) ++ ls) (ap lines (sym (append-nil (ended l))) ∙ ended_first l [] line))
        ∙ after_append first (lines (all_of k)) (l ∷ []) ∙ ap (λ q. (shell_reply q l).interpreter) so.1,
  )
  noted_leads false k l is line so =
      let none : all_of k ++ [] ≡ all_of k = append-nil (all_of k) in
      (subst IsWhole (sym none) so.0, ap (λ t. interpreter_after first (lines t)) none ∙ so.1 ∙ sym (shell_unchanged k.interpreter l is))

  line_leads : (k : Keeping) (l : List ℕ) → IsLine l → Leads first k → Leads first (kept_line k l)
  line_leads k l line so =
      let r = shell_reply k.interpreter l in
      let led = noted_leads (shell_changes k.interpreter l) k l refl line so in
      let all = line_all k l in (
        subst IsWhole (sym all) led.0,
        ap (λ t. interpreter_after first (lines t)) all ∙ led.1 ∙ sym (released_interpreter (frame_is_open r.interpreter) r.interpreter k.due (noted k.interpreter l k.held)),
      )

  after_leads : (k : Keeping) (ls : List (List ℕ)) → AllByRecursion IsLine ls → Leads first k → Leads first (kept_after k ls)
  after_leads k [] are so = so
  after_leads k (l ∷ ls) are so = after_leads (kept_line k l) ls are.1 (line_leads k l are.0 so)

  pub kept_leads : (ls : List (List ℕ)) → AllByRecursion IsLine ls → Leads first (kept_after (starting first) ls)
  kept_leads ls are = after_leads (starting first) ls are (λ ys. refl, refl)

-- ---- the lines of a text

part_line : (b : Bool) (x : ℕ) (xs : List ℕ) → is_end x ≡ b → HasPart is_end xs → AllByRecursion IsLine (slice_split is_end xs) → AllByRecursion IsLine (slice_split is_end (x ∷ xs))
part_line true x xs is h so = subst (AllByRecursion IsLine) (sym (slice_split-cons_yes is_end x xs is)) (All-nil (λ b. is_end b ≡ false), so)
part_line false x xs is h so =
    let was = subst (AllByRecursion IsLine) h.2 so in
    subst (AllByRecursion IsLine) (sym (slice_split-cons_no is_end x xs is ∙ ap (onto_first x) h.2)) (All-cons (λ b. is_end b ≡ false) x h.0 is was.0, was.1)

parts_are : (xs : List ℕ) → AllByRecursion IsLine (slice_split is_end xs)
parts_are [] = (All-nil (λ b. is_end b ≡ false), tt)
parts_are (x ∷ xs) = part_line (is_end x) x xs refl (has_part is_end xs) (parts_are xs)

stripped_is : (b : Bool) (y : List ℕ) → IsLine y → IsLine (if b then take (length y - 1) y else y)
stripped_is true y line = All-take (λ b. is_end b ≡ false) (length y - 1) y line
stripped_is false y line = line

last_is : (b : Bool) (x : List ℕ) → IsLine x → AllByRecursion IsLine (if b then [] else x ∷ [])
last_is true x line = tt
last_is false x line = (line, tt)

of_parts : (parts : List (List ℕ)) → AllByRecursion IsLine parts → AllByRecursion IsLine (lines_of_parts parts)
of_parts [] are = tt
of_parts (x ∷ []) are = last_is (length x == 0) x are.0
of_parts (x ∷ y ∷ more) are = (stripped_is (slice_index x (length x - 1) == 13) x are.0, of_parts (y ∷ more) are.1)

pub lines_are : (text : List ℕ) → AllByRecursion IsLine (lines text)
lines_are text = of_parts (slice_split is_end text) (parts_are text)

-- ---- and where no frame is open, all is due

released_held : (b : Bool) (p : Interpreter) (due held : List ℕ) → b ≡ false
    → (cond {A = Keeping} b (record { interpreter = p; due = due; held = held }) (record { interpreter = p; due = due ++ held; held = [] })).held ≡ []
released_held true p due held is = absurd cc
released_held false p due held is = refl

held_after : (k : Keeping) (ls : List (List ℕ)) → k.held ≡ [] → frame_is_open (interpreter_after k.interpreter ls) ≡ false → (kept_after k ls).held ≡ []
held_after k [] none closed = none
held_after k (l ∷ []) none closed =
    let r = shell_reply k.interpreter l in
    released_held (frame_is_open r.interpreter) r.interpreter k.due (noted k.interpreter l k.held) closed
held_after k (l ∷ l₂ ∷ ls) none closed =
    let r = shell_reply k.interpreter l in
    let next = kept_line k l in
    held_last next l₂ ls (subst (λ p. frame_is_open (interpreter_after p (l₂ ∷ ls)) ≡ false) (sym (released_interpreter (frame_is_open r.interpreter) r.interpreter k.due (noted k.interpreter l k.held))) closed)
  where
    held_last : (j : Keeping) (m : List ℕ) (ms : List (List ℕ)) → frame_is_open (interpreter_after j.interpreter (m ∷ ms)) ≡ false → (kept_after j (m ∷ ms)).held ≡ []
    held_last j m [] closed = let r = shell_reply j.interpreter m in released_held (frame_is_open r.interpreter) r.interpreter j.due (noted j.interpreter m j.held) closed
    held_last j m (m₂ ∷ ms) closed =
        let r = shell_reply j.interpreter m in
        held_last (kept_line j m) m₂ ms (subst (λ p. frame_is_open (interpreter_after p (m₂ ∷ ms)) ≡ false) (sym (released_interpreter (frame_is_open r.interpreter) r.interpreter j.due (noted j.interpreter m j.held))) closed)

-- the law: where no frame is open, the lines that are kept lead to the interpreter that all lines lead to
pub kept_lines_lead : (p : Interpreter) (text : List ℕ)
    → frame_is_open (interpreter_after p (lines text)) ≡ false → interpreter_after p (lines (kept_of p (lines text))) ≡ interpreter_after p (lines text)
kept_lines_lead p text closed =
    let k = kept_after (starting p) (lines text) in
    let led = kept_leads p (lines text) (lines_are text) in
    let none = held_after (starting p) (lines text) refl closed in
    let due : all_of k ≡ k.due = ap (λ t. k.due ++ t) none ∙ append-nil k.due in
    ap (λ t. interpreter_after p (lines t)) (sym due) ∙ led.1 ∙ kept_interpreter (starting p) (lines text)
  where
    kept_interpreter : (j : Keeping) (ls : List (List ℕ)) → (kept_after j ls).interpreter ≡ interpreter_after j.interpreter ls
    kept_interpreter j [] = refl
    kept_interpreter j (l ∷ ls) =
        let r = shell_reply j.interpreter l in
        kept_interpreter (kept_line j l) ls ∙ ap (λ q. interpreter_after q ls) (released_interpreter (frame_is_open r.interpreter) r.interpreter j.due (noted j.interpreter l j.held))
