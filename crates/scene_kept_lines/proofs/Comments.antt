-- Comments among lines.
use Rattle.std.proofs.Common.{◌≡◌, ◌⊎◌, ◌<◌, ◌-◌, ℕ, List, [], ◌∷◌, ◌++◌, Bool, true, false, Option, Some, None, OnOk, Result, Ok, Err, option_map, ◌+◌, arith, drop, take, inl, inr, length, refl, sym, ap, subst, ◌∙◌, append_assoc, append-nil}
use Rattle.std.specs.Prelude.{◌==◌, if◌then◌else◌, is_some, nat_lt, slice_index_or}
use Rattle.std.proofs.lemmas.Bool.{or_parts}
use Rattle.std.proofs.lemmas.Bool.Decides.{nat_tests}
use Rattle.std.proofs.lemmas.List.Elements.{All-cons, All-nil}
use Rattle.std.proofs.lemmas.Grind.{common_steps}
use Rattle.std.proofs.lemmas.List.{take-append-drop}
use Rattle.std.proofs.Math.Seq.{take-length, drop-length}
use Rattle.std.specs.List.{list_any}
use Rattle.std.specs.Str.{IsUtf8, is_utf8}
use Rattle.std.proofs.lemmas.Str.{is_utf8-from_IsUtf8}
use Rattle.std.specs.List.{slice_split, onto_first}
use Rattle.std.specs.Str.Lines.{lines, lines_of_parts, strip_carriage_return}
use Rattle.std.proofs.lemmas.List.Splits.{slice_split-cons_no, slice_split-cons_yes}
use Rattle.scene_kinds.specs.Schema.{Kinds}
use Rattle.scene_script.specs.declared.script_line.Line.TheVariants.{Empty}
use Rattle.scene_script.specs.declared.bad_line.BadLine.TheVariants.{NotUtf8}
use Rattle.scene_script.specs.Script.{line_in, line_of_words}
use Rattle.scene_script.specs.Words.{words_of}
use Rattle.scene_streams.specs.Keep.{Grows}
use Rattle.scene_requests.specs.Request.{is_request, request_in}
use Rattle.scene_interpreter.specs.Changes.{changes, changes_within, said_changes}
use Rattle.scene_interpreter.specs.OpenFrame.{Opened}
use Rattle.scene_interpreter.specs.Play.{PlayState, reply_within}
use Rattle.scene_interpreter.specs.Said.{Nothing, bad_in}
use Rattle.scene_interpreter.specs.Interpreter.{Interpreter, Setting, Playing, interpreter_kinds, interpreter_said}
use Rattle.scene_kept_lines.specs.Dated.{EndsLine, IsComment, IsDated, KeepsAlike, PlayAlike}
use Rattle.scene_kept_lines.specs.FirstLines.{IsCut}
use Rattle.scene_shell.specs.Kept.{IsWhole, ended}
use Rattle.scene_shell.specs.Shell.{bad_count, interpreter_after}
use Rattle.scene_shell.specs.ShellLine.{ShellReply, request_changes, shell_reply}
use Rattle.scene_shell.specs.declared.bad_shell_line.BadShellLine.TheVariants as why
use Rattle.scene_shell.proofs.KeptLead.{IsLine, after_append, ended_first}
use Rattle.scene_shell.proofs.Requests.{reply_to_line, shell_unchanged}
use Rattle.scene_shell.proofs.Lines.{has_part, is_end}

-- ---- a comment says nothing

abbrev is_space : ℕ → Bool
is_space b = b == 32

sign_first : (xs : List ℕ) → (y : List ℕ) × (ys : List (List ℕ)) × (slice_split is_space (35 ∷ xs) ≡ (35 ∷ y) ∷ ys)
sign_first xs =
    let later = has_part is_space xs in
    (later.0, later.1, slice_split-cons_no is_space 35 xs refl ∙ ap (onto_first 35) later.2)

by_words : (kinds : Kinds) (xs : List ℕ) → line_of_words kinds (35 ∷ xs) (words_of (35 ∷ xs)) ≡ Ok Empty
by_words kinds xs =
    let first = sign_first xs in
    let some : nat_lt 0 (length (35 ∷ first.0)) ≡ true = grind (arith, nat_tests) in
    rw (first.2, some) refl

pub comment_is_empty : (kinds : Kinds) (l : List ℕ) → IsComment l → line_in kinds l ≡ Ok Empty
comment_is_empty kinds l is = ap (λ b. if b then line_of_words kinds l (words_of l) else Err NotUtf8) is.utf8 ∙ (subst (λ t. line_of_words kinds t (words_of t) ≡ Ok Empty) (sym is.begins) (by_words kinds is.rest))

-- ---- what ends a line

-- the parts of a text that ends a line are those of it and of what stands behind
record Parted (t : List ℕ) : Type 0 where
  first : List ℕ
  more : List (List ℕ)
  parts : (ys : List ℕ) → slice_split is_end (t ++ ys) ≡ first ∷ more ++ slice_split is_end ys

parted_at : (b : Bool) (x : ℕ) (t : List ℕ) → is_end x ≡ b → Parted t → Parted (x ∷ t)
parted_at true x t e p = record { first = []; more = p.first ∷ p.more; parts = λ ys. slice_split-cons_yes is_end x (t ++ ys) e ∙ ap (λ ps. [] ∷ ps) (p.parts ys) }
parted_at false x t e p = record { first = x ∷ p.first; more = p.more; parts = λ ys. slice_split-cons_no is_end x (t ++ ys) e ∙ ap (onto_first x) (p.parts ys) }

parted : (x : ℕ) (t : List ℕ) → EndsLine (x ∷ t) → Parted (x ∷ t)
parted x [] ends = record { first = []; more = []; parts = λ ys. slice_split-cons_yes is_end x ys (ap is_end ends) }
parted x (y ∷ t) ends = parted_at (is_end x) x (y ∷ t) refl (parted y t ends)

-- parts before others are lines without their carriage returns
abbrev as_lines : List (List ℕ) → List (List ℕ)
as_lines [] = []
as_lines (p ∷ ps) = strip_carriage_return p ∷ as_lines ps

lines_before : (p : List ℕ) (ps : List (List ℕ)) (y : List ℕ) (ys : List (List ℕ)) → lines_of_parts (p ∷ ps ++ y ∷ ys) ≡ as_lines (p ∷ ps) ++ lines_of_parts (y ∷ ys)
lines_before p [] y ys = refl
lines_before p (q ∷ ps) y ys = ap (λ ls. strip_carriage_return p ∷ ls) (lines_before q ps y ys)

whole_parts : (t : List ℕ) → (p : Parted t) → (ys : List ℕ) → lines (t ++ ys) ≡ as_lines (p.first ∷ p.more) ++ lines ys
whole_parts t p ys =
    let later = has_part is_end ys in
    ap lines_of_parts (p.parts ys ∙ ap (λ ps. p.first ∷ p.more ++ ps) later.2)
    ∙ lines_before p.first p.more later.0 later.1
    ∙ ap (λ ps. as_lines (p.first ∷ p.more) ++ lines_of_parts ps) (sym later.2)

pub ends_whole : (t : List ℕ) → EndsLine t → IsWhole t
ends_whole [] ends ys = refl
ends_whole (x ∷ t) ends ys =
    let p = parted x t ends in
    let alone : lines (x ∷ t) ≡ as_lines (p.first ∷ p.more) = ap lines (sym (append-nil (x ∷ t))) ∙ whole_parts (x ∷ t) p [] ∙ append-nil _ in
    whole_parts (x ∷ t) p ys ∙ ap (λ ls. ls ++ lines ys) (sym alone)

-- with more behind it that ends a line, a text is whole
pub ends_behind : (t more : List ℕ) → IsWhole t → EndsLine more → IsWhole (t ++ more)
ends_behind t more whole ends ys =
    ap lines (append_assoc t more ys) ∙ whole (more ++ ys) ∙ ap (λ ls. lines t ++ ls) (ends_whole more ends ys)
    ∙ sym (append_assoc (lines t) (lines more) (lines ys)) ∙ ap (λ ls. ls ++ lines ys) (sym (whole more))

-- ---- a text that is cut

cut_parts : (t : List ℕ) (n : ℕ) → lines t ≡ lines (take n t ++ drop n t)
cut_parts t n = ap lines (sym (take-append-drop n t))

pub cut_behind : (t : List ℕ) (n : ℕ) → n < length t → EndsLine (take n t) → IsCut t n
cut_behind t n below ends = record { within = omega (arith, below); whole = cut_parts t n ∙ ends_whole (take n t) ends (drop n t) }

pub cut_nowhere : (t : List ℕ) → IsCut t (length t)
cut_nowhere t = record {
  within = omega arith;
  whole = rw (take-length t, drop-length t) (sym (append-nil (lines t)));
}

-- ---- as code finds it

last_behind : (b c : ℕ) (bs : List ℕ) → slice_index_or (b ∷ c ∷ bs) (length (b ∷ c ∷ bs) - 1) 0 ≡ slice_index_or (c ∷ bs) (length (c ∷ bs) - 1) 0
last_behind b c bs = grind (arith, common_steps)

pub ends_by_last : (t : List ℕ) → (length t ≡ 0) ⊎ (slice_index_or t (length t - 1) 0 ≡ 10) → EndsLine t
ends_by_last [] is = tt
ends_by_last (b ∷ []) (inl none) = absurd (omega (arith, none))
ends_by_last (b ∷ []) (inr is) = is
ends_by_last (b ∷ c ∷ bs) (inl none) = absurd (omega (arith, none))
ends_by_last (b ∷ c ∷ bs) (inr is) = ends_by_last (c ∷ bs) (inr (sym (last_behind b c bs) ∙ is))

pub begins_with : (l : List ℕ) → 0 < length l → slice_index_or l 0 0 ≡ 35 → l ≡ 35 ∷ drop 1 l
begins_with [] some is = absurd (omega (arith, some))
begins_with (b ∷ bs) some is = ap (λ x. x ∷ bs) is

pub comment_by : (l : List ℕ) → 0 < length l → slice_index_or l 0 0 ≡ 35 → list_any (λ b. b == 10) l ≡ false → is_utf8 l ≡ true → IsComment l
comment_by l some first one utf8 = record { utf8 = utf8; rest = drop 1 l; begins = begins_with l some first; one = one }

pub is_utf8_text : (l : List ℕ) → IsUtf8 l → is_utf8 l ≡ true
is_utf8_text l is = is_utf8-from_IsUtf8 l is

-- ---- comments among lines that are kept

-- what says nothing is answered so, whether a frame is open or not
nothing_within : (s : PlayState) (frame : Option Opened) → (reply_within s Empty frame).said ≡ Nothing
nothing_within s None = refl
nothing_within s (Some f) = refl

nothing_said : (p : Interpreter) → (interpreter_said p (Ok Empty)).bad ≡ None
nothing_said (Setting s) = refl
nothing_said (Playing s) = ap bad_in (nothing_within s s.frame)

no_change_within : (frame : Option Opened) → changes_within frame Empty ≡ false
no_change_within None = refl
no_change_within (Some f) = refl

no_change : (p : Interpreter) → said_changes p (Ok Empty) ≡ false
no_change (Setting s) = refl
no_change (Playing s) = no_change_within s.frame

bad_changes_nothing : (p : Interpreter) → said_changes p (Err NotUtf8) ≡ false
bad_changes_nothing (Setting s) = refl
bad_changes_nothing (Playing s) = refl

no_request : (l : List ℕ) → IsComment l → is_request l ≡ false
no_request l is = rw is.begins refl

-- a line that begins as a comment does changes nothing, whatever else it has
sign_says_nothing : (b : Bool) (p : Interpreter) (l : List ℕ) → is_utf8 l ≡ b → (xs : List ℕ) → l ≡ 35 ∷ xs
    → said_changes p (line_in (interpreter_kinds p) l) ≡ false
sign_says_nothing true p l utf8 xs begins =
    ap (λ t. said_changes p (if t then line_of_words (interpreter_kinds p) l (words_of l) else Err NotUtf8)) utf8
    ∙ ap (said_changes p) (subst (λ t. line_of_words (interpreter_kinds p) t (words_of t) ≡ Ok Empty) (sym begins) (by_words (interpreter_kinds p) xs))
    ∙ no_change p
sign_says_nothing false p l utf8 xs begins =
    ap (λ t. said_changes p (if t then line_of_words (interpreter_kinds p) l (words_of l) else Err NotUtf8)) utf8 ∙ bad_changes_nothing p

pub sign_leaves : (p : Interpreter) (l xs : List ℕ) → l ≡ 35 ∷ xs → (shell_reply p l).interpreter ≡ p
sign_leaves p l xs begins =
    let no : is_request l ≡ false = rw begins refl in
    shell_unchanged p l
    (
    ap (λ b. if b then request_changes p (request_in (interpreter_kinds p) l) else changes p l) no
    ∙ sign_says_nothing (is_utf8 l) p l refl xs begins
    )

-- a comment changes nothing, and isn't bad
comment_stays : (p : Interpreter) (c : List ℕ) → IsComment c → (shell_reply p c).interpreter ≡ p
comment_stays p c is = sign_leaves p c is.rest is.begins

comment_good : (p : Interpreter) (c : List ℕ) → IsComment c → (shell_reply p c).bad ≡ None
comment_good p c is =
    ap (λ (r : ShellReply). r.bad) (reply_to_line p c (no_request c is))
    ∙ ap (option_map why.Line) (ap (λ said. (interpreter_said p said).bad) (comment_is_empty (interpreter_kinds p) c is) ∙ nothing_said p)

-- lines behind a comment play as they do without it
pub comment_first : (c : List ℕ) → IsComment c → (p : Interpreter) (ls : List (List ℕ)) → (interpreter_after p (c ∷ ls) ≡ interpreter_after p ls) × (bad_count p (c ∷ ls) ≡ bad_count p ls)
comment_first c is p ls = (
  ap (λ q. interpreter_after q ls) (comment_stays p c is),
  ap (λ bad. (if is_some bad then 1 else 0) + bad_count (shell_reply p c).interpreter ls) (comment_good p c is)
      ∙ (omega arith ∙ ap (λ q. bad_count q ls) (comment_stays p c is)),
)

pub bad_append : (p : Interpreter) (xs ys : List (List ℕ)) → bad_count p (xs ++ ys) ≡ bad_count p xs + bad_count (interpreter_after p xs) ys
bad_append p [] ys = omega arith
bad_append p (x ∷ xs) ys =
    ap (λ n. (if is_some (shell_reply p x).bad then 1 else 0) + n) (bad_append (shell_reply p x).interpreter xs ys)
    ∙ omega arith

-- a comment is a line: no byte of it ends one
none_ends : (l : List ℕ) → list_any is_end l ≡ false → IsLine l
none_ends [] none = All-nil (λ b. is_end b ≡ false)
none_ends (x ∷ xs) none =
    let parts = or_parts (is_end x) (list_any is_end xs) none in
    All-cons (λ b. is_end b ≡ false) x xs parts.0 (none_ends xs parts.1)

pub comment_is_line : (c : List ℕ) → IsComment c → IsLine c
comment_is_line c is = none_ends c is.one

comment_line : (c ys : List ℕ) → IsComment c → lines (ended c ++ ys) ≡ c ∷ lines ys
comment_line c ys is = ended_first c ys (comment_is_line c is)

-- a text is followed by lines behind a comment as by the lines
dated_behind : (t c ls : List ℕ) → IsWhole t → IsComment c → PlayAlike (t ++ (ended c ++ ls)) (t ++ ls)
dated_behind t c ls whole is p more =
    let with_it : lines ((t ++ (ended c ++ ls)) ++ more) ≡ lines t ++ c ∷ lines (ls ++ more) =
    ap lines (append_assoc t (ended c ++ ls) more ∙ ap (λ x. t ++ x) (append_assoc (ended c) ls more))
    ∙ (whole (ended c ++ (ls ++ more)) ∙ ap (λ x. lines t ++ x) (comment_line c (ls ++ more) is)) in
    let without : lines ((t ++ ls) ++ more) ≡ lines t ++ lines (ls ++ more) = ap lines (append_assoc t ls more) ∙ whole (ls ++ more) in
    let q = interpreter_after p (lines t) in
    let first = comment_first c is q (lines (ls ++ more)) in (
      ap (interpreter_after p) with_it ∙ after_append p (lines t) (c ∷ lines (ls ++ more)) ∙ first.0
          ∙ sym (after_append p (lines t) (lines (ls ++ more))) ∙ ap (interpreter_after p) (sym without),
      ap (bad_count p) with_it ∙ bad_append p (lines t) (c ∷ lines (ls ++ more)) ∙ ap (λ n. bad_count p (lines t) + n) first.1
          ∙ sym (bad_append p (lines t) (lines (ls ++ more))) ∙ ap (bad_count p) (sym without),
    )

pub alike_more : (one other more : List ℕ) → PlayAlike one other → PlayAlike (one ++ more) (other ++ more)
alike_more one other more alike p rest =
    let so = alike p (more ++ rest) in (
      ap (λ t. interpreter_after p (lines t)) (append_assoc one more rest) ∙ so.0 ∙ ap (λ t. interpreter_after p (lines t)) (sym (append_assoc other more rest)),
      ap (λ t. bad_count p (lines t)) (append_assoc one more rest) ∙ so.1 ∙ ap (λ t. bad_count p (lines t)) (sym (append_assoc other more rest)),
    )

pub alike_on : (one two three : List ℕ) → PlayAlike one two → PlayAlike two three → PlayAlike one three
alike_on one two three first second p more = ((first p more).0 ∙ (second p more).0, (first p more).1 ∙ (second p more).1)

-- ---- what a dated store keeps

-- it may end within a line only where it could before, or where what came last does
abbrev NotWithin : (old new : Bool) → List ℕ → Type 0
NotWithin old new end = (new ≡ false → old ≡ false) × (new ≡ false → EndsLine end)

module _ {S : Type 0} (keeps : S → List ℕ → Type 0) (old new : S) (was is : Bool) where
  -- the same lines were kept
  pub grows_plain : {A E : Type 0} (r : Result A E) (ls : List ℕ) → OnOk r (Grows keeps old new ls) → NotWithin was is ls
      → OnOk r ((text : List ℕ) → KeepsAlike (keeps old) was text → KeepsAlike (keeps new) is (text ++ ls))
  grows_plain (Err e) ls grows within = tt
  grows_plain (Ok a) ls grows within = λ text so.
      (so.0 ++ ls, grows so.0 so.1, alike_more so.0 text ls so.2, λ no. ends_behind text ls (so.3 (within.0 no)) (within.1 no))

  -- or they behind a comment
  pub grows_dated : {A E : Type 0} (r : Result A E) (ls all : List ℕ) → OnOk r (Grows keeps old new all) → was ≡ false → IsDated ls all → NotWithin was is ls
      → OnOk r ((text : List ℕ) → KeepsAlike (keeps old) was text → KeepsAlike (keeps new) is (text ++ ls))
  grows_dated (Err e) ls all grows outside dated within = tt
  grows_dated (Ok a) ls all grows outside dated within = λ text so.
      let more = ended dated.comment ++ ls in
      let alike = alike_on (so.0 ++ more) (text ++ more) (text ++ ls) (alike_more so.0 text more so.2) (dated_behind text dated.comment ls (so.3 outside) dated.is) in (
        so.0 ++ all,
        grows so.0 so.1,
        subst (λ t. PlayAlike (so.0 ++ t) (text ++ ls)) (sym dated.parted) alike,
        λ end. ends_behind text ls (so.3 (within.0 end)) (within.1 end),
      )

-- a text that is kept as it is
pub keeps_found : {S : Type 0} (keeps : S → List ℕ → Type 0) (s : S) (is : Bool) (text : List ℕ) → keeps s text → (is ≡ false → EndsLine text) → KeepsAlike (keeps s) is text
keeps_found keeps s is text kept within = (text, kept, (λ p more. (refl, refl)), λ no. ends_whole text (within no))
