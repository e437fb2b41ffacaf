-- Checkpoints as they are found, and their lines.
use Rattle.std.proofs.Common.{◌≡◌, ◌≢◌, ◌⊎◌, All, ℕ, ◌+◌, List, [], ◌∷◌, ◌++◌, length, map, codes, false, inl, inr, arith, refl, sym, ap, subst, ◌∙◌, append_assoc, append-nil, length-append}
use Rattle.std.specs.Prelude.{Bool, IfSome, Option, Some, None, MatchOption, is_some, true, Result, Ok, Err, OnOk}
use denote.Ref.{Bor}
use Rattle.std.specs.List.{AllByRecursion}
use Rattle.std.specs.Str.Lines.{lines}
use Rattle.std.proofs.lemmas.List.{map-append, length-map}
use Rattle.std.proofs.lemmas.List.Elements.{All-drop, All-take}
use Rattle.std.proofs.Math.Seq.{drop-append_seam, take-append_seam}
use Rattle.scene_interpreter.specs.declared.progress.Progress.{Progress}
use Rattle.scene_interpreter.specs.Interpreter.{Interpreter}
use Rattle.scene_interpreter.specs.Progress.{Resumes}
use Rattle.scene_streams.specs.Keep.{Grows}
use Rattle.scene_kept_lines.specs.declared.checkpoints.Checkpoint.{Checkpoint as Code}
use Rattle.scene_kept_lines.specs.declared.checkpoints.Scan.{Scan}
use Rattle.scene_kept_lines.specs.Checkpoints.{AreNotes, Checkpoint, IsCheckpointText, IsSayable, Starts, end_of, marked}
use Rattle.scene_kept_lines.specs.Dated.{IsComment, KeepsAlike, PlayAlike}
use Rattle.scene_shell.specs.Kept.{IsWhole, ended}
use Rattle.scene_kept_lines.specs.Replayed.{NoneIsBad}
use Rattle.scene_kept_lines.specs.Scans.{IsFound, IsScanned, TakesLine}
use Rattle.scene_shell.specs.Shell.{bad_count, interpreter_after}
use Rattle.scene_kept_lines.proofs.CheckpointLines.{unmark}
use Rattle.scene_kept_lines.proofs.Comments.{alike_more, alike_on, bad_append, comment_first, comment_is_line}
use Rattle.scene_shell.proofs.Lines.{is_end}
use Rattle.scene_kept_lines.proofs.Lists.{cons_head, cons_tail}
use Rattle.scene_shell.proofs.KeptLead.{IsLine, after_append, ended_first, lines_are, whole_more}

-- ---- a scan of lines

-- before the first line
pub scanned_none : (s : Scan) → s.count ≡ 0 → s.number ≡ 0 → s.run.now ≡ s.rest.now → IsScanned (lines s.rest.now) s
scanned_none s count number run = record {
  front = [];
  ls = [];
  parted = ap lines (sym run);
  run = ap lines run;
  counted = count;
  number = number;
}

module _ (all : List (List ℕ)) (old new : Scan) (line : List ℕ) where
  -- a line more of a checkpoint
  pub scanned_marked : (said : List ℕ) → IsScanned all old → lines old.rest.now ≡ line ∷ lines new.rest.now → line ≡ marked said
      → new.run.now ≡ old.run.now → new.count ≡ old.count + 1 → new.number ≡ old.number + 1 → IsScanned all new
  scanned_marked said so first is run count number = record {
    front = so.front;
    ls = so.ls ++ said ∷ [];
    parted = so.parted ∙ ap (λ t. so.front ++ lines t) (sym run);
    run = ap lines run ∙ so.run ∙ ap (λ ls. map marked so.ls ++ ls) (first ∙ ap (λ l. l ∷ lines new.rest.now) is)
        ∙ sym (append_assoc (map marked so.ls) (marked said ∷ []) (lines new.rest.now))
        ∙ ap (λ ls. ls ++ lines new.rest.now) (sym (map-append marked so.ls (said ∷ [])));
    counted = omega (arith, count, so.counted, length-append so.ls (said ∷ []));
    number = omega (arith, number, so.number, length-append so.ls (said ∷ []));
  }

  -- as code finds it
  pub scanned_if : (said : Option (Bor (List ℕ))) → is_some said ≡ true
      → MatchOption said ((said : List ℕ) → line ≢ marked said) (λ said. line ≡ marked said.now)
      → IsScanned all old → lines old.rest.now ≡ line ∷ lines new.rest.now
      → new.run.now ≡ old.run.now → new.count ≡ old.count + 1 → new.number ≡ old.number + 1 → IsScanned all new
  scanned_if None some is so first run count number = absurd (cc some)
  scanned_if (Some said) some is so first run count number = scanned_marked said.now so first is run count number

  -- another line, behind which none stands marked
  pub scanned_other : IsScanned all old → lines old.rest.now ≡ line ∷ lines new.rest.now → new.run.now ≡ new.rest.now → new.count ≡ 0
      → new.number ≡ old.number + 1 → IsScanned all new
  scanned_other so first run count number =
      let seen = map marked so.ls ++ line ∷ [] in
      let size : length seen ≡ length so.ls + 1 = length-append (map marked so.ls) (line ∷ []) ∙ ap (λ n. n + 1) (length-map so.ls marked) in
      record {
        front = so.front ++ seen;
        ls = [];
        parted = so.parted ∙ ap (λ ls. so.front ++ ls) (so.run ∙ ap (λ ls. map marked so.ls ++ ls) first ∙ sym (append_assoc (map marked so.ls) (line ∷ []) (lines new.rest.now)))
            ∙ sym (append_assoc so.front seen (lines new.rest.now)) ∙ ap (λ t. (so.front ++ seen) ++ lines t) (sym run);
        run = ap lines run;
        counted = count;
        number = omega (arith, number, so.number, length-append so.front seen, size);
      }

  -- the line that ends a checkpoint
  pub found_here : (c : Code) → IsScanned all old → lines old.rest.now ≡ line ∷ lines c.rest.now → line ≡ end_of old.count c.progress
      → c.block.now ≡ old.run.now → c.count ≡ old.count → c.skipped ≡ old.number + 1 → IsFound all c
  found_here c so first is block count skipped = record {
    front = so.front;
    ls = so.ls;
    parted = so.parted ∙ ap (λ t. so.front ++ lines t) (sym block);
    block = ap lines block ∙ so.run
        ∙ ap (λ ls. map marked so.ls ++ ls) (first ∙ ap (λ l. l ∷ lines c.rest.now) (is ∙ ap (λ n. end_of n c.progress) so.counted));
    counted = count ∙ so.counted;
    skipped = omega (arith, skipped, so.number);
  }

-- ---- the lines of a checkpoint

said_line : (said : List ℕ) → IsLine (marked said) → IsLine said
said_line said line = All-drop (λ b. is_end b ≡ false) (length (codes "# checkpoint: ")) (marked said) line

-- some lines of a checkpoint were taken, and these are left
pub record Unmarks (block : List ℕ) (count : ℕ) (text rest : List ℕ) (left : ℕ) : Type 0 where
  pub whole : IsWhole text
  pub on : (ls more : List (List ℕ)) → lines block ≡ map marked ls ++ more → count ≡ length ls
      → (todo : List (List ℕ)) × (ls ≡ lines text ++ todo) × (lines rest ≡ map marked todo ++ more) × (left ≡ length todo)

pub unmarks_none : (block : List ℕ) (count : ℕ) → Unmarks block count [] block count
unmarks_none block count = record {
  whole = λ ys. refl;
  on = λ ls more parted counted. (ls, refl, parted, counted);
}

one_line : (t said : List ℕ) → IsWhole t → IsLine said → lines (t ++ ended said) ≡ lines t ++ said ∷ []
one_line t said whole line = whole (ended said) ∙ ap (λ ls. lines t ++ ls) (ap lines (sym (append-nil (ended said))) ∙ ended_first said [] line)

first_is_line : (rest line more : List ℕ) → lines rest ≡ line ∷ lines more → IsLine line
first_is_line rest line more first = (subst (AllByRecursion IsLine) first (lines_are rest)).0

module _ (block : List ℕ) (count : ℕ) (text rest more line : List ℕ) (left next : ℕ) where
  -- a line more was taken
  pub unmarks_more : (said : List ℕ) → Unmarks block count text rest left → left ≡ next + 1 → lines rest ≡ line ∷ lines more → line ≡ marked said
      → Unmarks block count (text ++ ended said) more next
  unmarks_more said so counts first is =
      let line_is : IsLine said = said_line said (subst IsLine is (first_is_line rest line more first)) in
      record {
        whole = whole_more text said so.whole line_is;
        on = λ ls others parted counted. by line_is ls others (so.on ls others parted counted);
      }
    where
      by : IsLine said → (ls others : List (List ℕ))
          → (todo : List (List ℕ)) × (ls ≡ lines text ++ todo) × (lines rest ≡ map marked todo ++ others) × (left ≡ length todo)
          → (todo : List (List ℕ)) × (ls ≡ lines (text ++ ended said) ++ todo) × (lines more ≡ map marked todo ++ others) × (next ≡ length todo)
      by line_is ls others ([], taken, here, size) = absurd (omega (arith, size, counts))
      by line_is ls others (t ∷ todo, taken, here, size) =
          let both : line ∷ lines more ≡ marked t ∷ (map marked todo ++ others) = sym first ∙ here in
          let same : t ≡ said = unmark t said (sym (cons_head line (marked t) (lines more) (map marked todo ++ others) both) ∙ is) in (
            todo,
            taken ∙ ap (λ x. lines text ++ x ∷ todo) same ∙ sym (append_assoc (lines text) (said ∷ []) todo)
                ∙ ap (λ x. x ++ todo) (sym (one_line text said so.whole line_is)),
            cons_tail line (marked t) (lines more) (map marked todo ++ others) both,
            omega (arith, size, counts),
          )

  -- a line that isn't marked isn't one of them
  pub unmarks_other : Unmarks block count text rest left → left ≡ next + 1 → lines rest ≡ line ∷ lines more → ((said : List ℕ) → line ≢ marked said)
      → Unmarks block count text more next
  unmarks_other so counts first none = record {
    whole = so.whole;
    on = λ ls others parted counted. by ls others (so.on ls others parted counted);
  }
    where
      by : (ls others : List (List ℕ))
          → (todo : List (List ℕ)) × (ls ≡ lines text ++ todo) × (lines rest ≡ map marked todo ++ others) × (left ≡ length todo)
          → (todo : List (List ℕ)) × (ls ≡ lines text ++ todo) × (lines more ≡ map marked todo ++ others) × (next ≡ length todo)
      by ls others ([], taken, here, size) = absurd (omega (arith, size, counts))
      by ls others (t ∷ todo, taken, here, size) =
          absurd (none t (cons_head line (marked t) (lines more) (map marked todo ++ others) (sym first ∙ here)))

  -- as code finds it
  pub unmarks_step : (new : List ℕ) → Unmarks block count text rest left → left ≡ next + 1 → lines rest ≡ line ∷ lines more → TakesLine line text new
      → Unmarks block count new more next
  unmarks_step new so counts first (inl (said, is, taken)) = subst (λ t. Unmarks block count t more next) (sym taken) (unmarks_more said so counts first is)
  unmarks_step new so counts first (inr (none, same)) = subst (λ t. Unmarks block count t more next) (sym same) (unmarks_other so counts first none)

-- all were taken where none is left to take, or nothing to take it from
pub unmarks_all : (block : List ℕ) (count : ℕ) (text rest : List ℕ) (left : ℕ) → Unmarks block count text rest left → (left ≡ 0) ⊎ (length rest ≡ 0)
    → (ls more : List (List ℕ)) → lines block ≡ map marked ls ++ more → count ≡ length ls → lines text ≡ ls
unmarks_all block count text rest left so over ls more parted counted = by over (so.on ls more parted counted)
  where
    by : (left ≡ 0) ⊎ (length rest ≡ 0)
        → (todo : List (List ℕ)) × (ls ≡ lines text ++ todo) × (lines rest ≡ map marked todo ++ more) × (left ≡ length todo) → lines text ≡ ls
    by over ([], taken, here, size) = sym (taken ∙ append-nil (lines text))
    by (inl none) (t ∷ todo, taken, here, size) = absurd (omega (arith, none, size))
    by (inr none) (t ∷ todo, taken, here, size) = absurd (no_line rest none (marked t) (map marked todo ++ more) here)
      where
        no_line : (xs : List ℕ) → length xs ≡ 0 → (y : List ℕ) (ys : List (List ℕ)) → lines xs ≡ y ∷ ys → ⊥
        no_line [] empty y ys is = cc is
        no_line (x ∷ xs) empty y ys is = omega (arith, empty)

-- ---- a text of comments

-- comments stand behind others, each a line
pub notes_none : AreNotes []
notes_none = (λ ys. refl, tt)

all_behind : (P : List ℕ → Type 0) (xs ys : List (List ℕ)) → AllByRecursion P xs → AllByRecursion P ys → AllByRecursion P (xs ++ ys)
all_behind P [] ys of_first of_last = of_last
all_behind P (x ∷ xs) ys of_first of_last = (of_first.0, all_behind P xs ys of_first.1 of_last)

pub notes_more : (text comment : List ℕ) → AreNotes text → IsComment comment → AreNotes (text ++ ended comment)
notes_more text comment so is = (
  whole_more text comment so.0 (comment_is_line comment is),
  subst (AllByRecursion IsComment) (sym (one_line text comment so.0 (comment_is_line comment is))) (all_behind IsComment (lines text) (comment ∷ []) so.1 (is, tt)),
)

pub note_lines : (text comment : List ℕ) → AreNotes text → IsComment comment → lines (text ++ ended comment) ≡ lines text ++ comment ∷ []
note_lines text comment so is = one_line text comment so.0 (comment_is_line comment is)

-- some lines of a text stand in another as comments
pub record Marks (fewer text rest : List ℕ) (count : ℕ) : Type 0 where
  pub notes : AreNotes text
  pub done : List (List ℕ)
  pub parted : lines fewer ≡ done ++ lines rest
  pub here : lines text ≡ map marked done
  pub counted : count ≡ length done

pub marks_none : (fewer : List ℕ) → Marks fewer [] fewer 0
marks_none fewer = record { notes = notes_none; done = []; parted = refl; here = refl; counted = refl }

pub marks_more : (fewer text rest more line : List ℕ) (count next : ℕ) → Marks fewer text rest count → lines rest ≡ line ∷ lines more → IsComment (marked line)
    → next ≡ count + 1 → Marks fewer (text ++ ended (marked line)) more next
marks_more fewer text rest more line count next so first is counts = record {
  notes = notes_more text (marked line) so.notes is;
  done = so.done ++ line ∷ [];
  parted = so.parted ∙ ap (λ ls. so.done ++ ls) first ∙ sym (append_assoc so.done (line ∷ []) (lines more));
  here = note_lines text (marked line) so.notes is ∙ ap (λ ls. ls ++ marked line ∷ []) so.here ∙ sym (map-append marked so.done (line ∷ []));
  counted = omega (arith, counts, so.counted, length-append so.done (line ∷ []));
}

-- as code finds it
pub marks_pushed : (fewer text new rest more line comment : List ℕ) (count : ℕ) → Marks fewer text rest count → lines rest ≡ line ∷ lines more → comment ≡ marked line
    → IsComment comment × (new ≡ text ++ ended comment) → Marks fewer new more (count + 1)
marks_pushed fewer text new rest more line comment count so first is pushed =
    subst (λ t. Marks fewer t more (count + 1)) (sym (pushed.1 ∙ ap (λ x. text ++ ended x) is))
    (marks_more fewer text rest more line count (count + 1) so first (subst IsComment is pushed.0) refl)

pub marks_all : (fewer text rest : List ℕ) (count : ℕ) → Marks fewer text rest count → length rest ≡ 0
    → (lines text ≡ map marked (lines fewer)) × (count ≡ length (lines fewer))
marks_all fewer text rest count so none =
    let whole : lines fewer ≡ so.done = so.parted ∙ ap (λ ls. so.done ++ ls) (empty rest none) ∙ append-nil so.done in
    (so.here ∙ ap (map marked) (sym whole), so.counted ∙ ap length (sym whole))
  where
    empty : (xs : List ℕ) → length xs ≡ 0 → lines xs ≡ []
    empty [] is = refl
    empty (x ∷ xs) is = absurd (omega (arith, is))

-- a checkpoint's text, with the comment that ends it
pub checkpoint_text : (text comment : List ℕ) (ls : List (List ℕ)) (count : ℕ) (x : Progress) → AreNotes text → lines text ≡ map marked ls → count ≡ length ls
    → IsComment comment → comment ≡ end_of count x → IsCheckpointText ls x (lines (text ++ ended comment))
checkpoint_text text comment ls count x so here counted is end =
    note_lines text comment so is ∙ ap (λ ms. ms ++ comment ∷ []) here ∙ ap (λ e. map marked ls ++ e ∷ []) (end ∙ ap (λ n. end_of n x) counted)

-- as code finds it
pub ended_notes : (text new comment : List ℕ) → AreNotes text → IsComment comment × (new ≡ text ++ ended comment) → AreNotes new
ended_notes text new comment so pushed = subst AreNotes (sym pushed.1) (notes_more text comment so pushed.0)

pub ended_text : (text new comment : List ℕ) (count : ℕ) (x : Progress) → AreNotes text → comment ≡ end_of count x → IsComment comment × (new ≡ text ++ ended comment)
    → (ls : List (List ℕ)) → lines text ≡ map marked ls → count ≡ length ls → IsCheckpointText ls x (lines new)
ended_text text new comment count x so end pushed ls here counted =
    subst (λ t. IsCheckpointText ls x (lines t)) (sym pushed.1) (checkpoint_text text comment ls count x so here counted pushed.0 end)

-- ---- comments among lines that are kept

notes_first : (p : Interpreter) (cs ls : List (List ℕ)) → AllByRecursion IsComment cs
    → (interpreter_after p (cs ++ ls) ≡ interpreter_after p ls) × (bad_count p (cs ++ ls) ≡ bad_count p ls)
notes_first p [] ls are = (refl, refl)
notes_first p (c ∷ cs) ls are =
    let one = comment_first c are.0 p (cs ++ ls) in
    let others = notes_first p cs ls are.1 in
    (one.0 ∙ others.0, one.1 ∙ others.1)

-- a text plays as it does with comments behind it
noted_alike : (t notes : List ℕ) → IsWhole t → AreNotes notes → PlayAlike (t ++ notes) t
noted_alike t notes whole are p more =
    let with_them : lines ((t ++ notes) ++ more) ≡ lines t ++ (lines notes ++ lines more) =
    ap lines (append_assoc t notes more) ∙ whole (notes ++ more) ∙ ap (λ ls. lines t ++ ls) (are.0 more) in
    let without : lines (t ++ more) ≡ lines t ++ lines more = whole more in
    let q = interpreter_after p (lines t) in
    let behind = notes_first q (lines notes) (lines more) are.1 in (
      ap (interpreter_after p) with_them ∙ after_append p (lines t) (lines notes ++ lines more) ∙ behind.0
          ∙ sym (after_append p (lines t) (lines more)) ∙ ap (interpreter_after p) (sym without),
      ap (bad_count p) with_them ∙ bad_append p (lines t) (lines notes ++ lines more) ∙ ap (λ n. bad_count p (lines t) + n) behind.1
          ∙ sym (bad_append p (lines t) (lines more)) ∙ ap (bad_count p) (sym without),
    )

pub stays_noted : {S A E : Type 0} (keeps : S → List ℕ → Type 0) (old new : S) (within : Bool) (r : Result A E) (notes : List ℕ)
    → OnOk r (Grows keeps old new notes) → within ≡ false → AreNotes notes
    → OnOk r ((text : List ℕ) → KeepsAlike (keeps old) within text → KeepsAlike (keeps new) within text)
stays_noted keeps old new within (Err e) notes grows outside are = tt
stays_noted keeps old new within (Ok a) notes grows outside are = λ text so. (
  so.0 ++ notes,
  grows so.0 so.1,
  alike_on (so.0 ++ notes) (text ++ notes) text (alike_more so.0 text notes so.2) (noted_alike text notes (so.3 outside) are),
  so.3,
)

-- ---- where playing begins

-- at a checkpoint that was found
pub starts_there : (first start : Interpreter) (all : List (List ℕ)) (c : Code) (text : List ℕ) → IsFound all c → IsSayable c.count c.progress
    → ((ls more : List (List ℕ)) → lines c.block.now ≡ map marked ls ++ more → c.count ≡ length ls → lines text ≡ ls)
    → NoneIsBad first (lines text) → Resumes c.progress (interpreter_after first (lines text)) start
    → Starts first all start c.skipped (lines c.rest.now)
starts_there first start all c text found sayable taken good on =
    let here : lines text ≡ found.ls = taken found.ls (end_of (length found.ls) c.progress ∷ lines c.rest.now) found.block found.counted in
    let block = map marked found.ls ++ end_of (length found.ls) c.progress ∷ [] in
    let parted : all ≡ found.front ++ (map marked found.ls ++ end_of (length found.ls) c.progress ∷ lines c.rest.now) =
    found.parted ∙ ap (λ ls. found.front ++ ls) found.block in
    let size : length block ≡ length found.ls + 1 =
    length-append (map marked found.ls) (end_of (length found.ls) c.progress ∷ []) ∙ ap (λ n. n + 1) (length-map found.ls marked) in
    let checkpoint : Checkpoint all (lines c.rest.now) =
    record {
      front = found.front;
      ls = found.ls;
      progress = c.progress;
      sayable = subst (λ n. IsSayable n c.progress) found.counted sayable;
      parted = parted;
    } in
    record {
      before = found.front ++ block;
      parted = parted
          ∙ ap (λ ls. found.front ++ ls) (sym (append_assoc (map marked found.ls) (end_of (length found.ls) c.progress ∷ []) (lines c.rest.now)))
          ∙ sym (append_assoc found.front block (lines c.rest.now));
      counted = omega (arith, found.skipped, size, length-append found.front block);
      begins = inr (
        checkpoint,
        record {
          good = subst (NoneIsBad first) here good;
          resumed = subst (λ ls. Resumes c.progress (interpreter_after first ls) start) here on;
        },
      );
    }

-- at the first line
pub starts_first : (first start : Interpreter) (all : List (List ℕ)) (skipped : ℕ) → start ≡ first → skipped ≡ 0 → Starts first all start skipped all
starts_first first start all skipped is none = record { before = []; parted = refl; counted = none; begins = inl (refl, is) }

-- ---- as code tries them, the newest first

pub popped_all : {A : Type 0} (P : A → Type 0) (xs new : List A) (x : A) → All P xs → xs ≡ new ++ x ∷ [] → All P new × P x
popped_all P xs new x are is =
    let both = subst (All P) is are in (
      subst (All P) (take-append_seam new (x ∷ [])) (All-take P (length new) (new ++ x ∷ []) both),
      (subst (All P) (drop-append_seam new (x ∷ [])) (All-drop P (length new) (new ++ x ∷ []) both)) 0 x (omega arith),
    )

pub some_is : {A : Type 0} (P : A → Type 0) (o : Option A) (a : A) → o ≡ Some a → IfSome o P → P a
some_is P o a is so = subst (λ x. IfSome x P) is so
