-- How far a shell that keeps its lines has come.
use Rattle.std.proofs.Common.{◌≡◌, ◌≢◌, ℕ, ◌+◌, ◌-◌, ◌^◌, ◌≤◌, ◌<◌, List, [], ◌∷◌, ◌++◌, Bool, true, false, cond, Option, Some, None, Result, Ok, Err, IfSome, is_some, if◌then◌else◌, length, length-append, take, drop, take-append-drop, eqb, arith, refl, sym, ap, subst, ◌∙◌, append_assoc, append-nil}
use Rattle.std.specs.Io.{StopsAt}
use Rattle.std.specs.Io.BufRead.{DropsThrough, drop_through, take_through}
use Rattle.std.specs.Io.KnownBytes.{Appends, Consumes}
use Rattle.std.specs.Str.Lines.{lines}
use Rattle.std.proofs.BufReadLemmas.{take_through-append, take_through-nil, take_through_nonempty}
use Rattle.std.proofs.KnownBytes.{Appends-nil, Appends-kept, Appends-trans}
use Rattle.std.proofs.lemmas.List.{length-drop, nil_from_length}
use Rattle.std.proofs.lemmas.List.Elements.{All-nil}
use Rattle.std.proofs.lemmas.List.Sums.{fold-append}
use Rattle.scene_streams.specs.declared.app_fault.AppFault.{AppFault}
use Rattle.scene_streams.specs.declared.app_fault.AppFault.TheVariants.{NoMemory, ReadFault, WriteFault, TooLong}
use Rattle.scene_interpreter.specs.Interpreter.{Interpreter}
use Rattle.scene_interpreter.specs.Changes.{frame_is_open}
use Rattle.scene_shell.specs.declared.kept_fault.KeptFault.{KeptFault}
use Rattle.scene_shell.specs.declared.kept_fault.KeptFault.TheVariants.{Ended, Keep}
use Rattle.scene_shell.specs.declared.waiting.Waiting.{Waiting}
use Rattle.scene_shell.specs.ShellLine.{shell_reply}
use Rattle.scene_shell.specs.Shell.{AddsAnswer, Answers, AnswerStyle, Exchange, HasSaid, IsSaid, Parts, Stops, StopsWith, bad_count, interpreter_after}
use Rattle.scene_streams.specs.Keep.{Grows, StaysKept}
use Rattle.scene_shell.specs.Kept.{Beginning, Continues, EndsAs, HasAnswered, HasKept, IsSettled, Keeping, Meaning, StopsBy, behind, kept_after, kept_line, kept_of, noted, released, starting}
use Rattle.scene_shell.specs.Waits.{FailsToSettle, HasCome, IsBad, IsPlayed, IsStop, IsUnread, LeadsTo, MaySettle, Pending, Standing, stands_with}
use Rattle.scene_shell.proofs.Lines.{first_line_of}

released_behind : (b : Bool) (p : Interpreter) (t due held : List ℕ)
    → ◌≡◌ {A = Keeping} (if b then record { interpreter = p; due = t ++ due; held = held } else record { interpreter = p; due = (t ++ due) ++ held; held = [] })
    (behind t (if b then record { interpreter = p; due = due; held = held } else record { interpreter = p; due = due ++ held; held = [] }))
released_behind true p t due held = refl
released_behind false p t due held = ap (λ d. record { interpreter = p; due = d; held = [] }) (append_assoc t due held)

pub line_behind : (t : List ℕ) (k : Keeping) (l : List ℕ) → kept_line (behind t k) l ≡ behind t (kept_line k l)
line_behind t k l =
    let r = shell_reply k.interpreter l in
    released_behind (frame_is_open r.interpreter) r.interpreter t k.due (noted k.interpreter l k.held)

-- ---- lists of lines

-- answers to lines, and answers to the next ones
said_append : (style : AnswerStyle) (p : Interpreter) (xs ys : List (List ℕ)) (t u : List ℕ) → IsSaid style p xs t → IsSaid style (interpreter_after p xs) ys u → IsSaid style p (xs ++ ys) (t ++ u)
said_append style p [] ys t u said next = subst (IsSaid style p ys) (ap (λ x. x ++ u) (sym said)) next
said_append style p (x ∷ xs) ys t u said next =
    let r = shell_reply p x in
    (said.0, said.1 ++ u, said.2, said_append style r.interpreter xs ys said.1 u said.3 next, ap (λ z. z ++ u) said.4 ∙ append_assoc said.0 said.1 u)

bad_append : (p : Interpreter) (xs ys : List (List ℕ)) → bad_count p (xs ++ ys) ≡ bad_count p xs + bad_count (interpreter_after p xs) ys
bad_append p [] ys = let none : bad_count p ys ≡ 0 + bad_count p ys = omega arith in none
bad_append p (x ∷ xs) ys =
    let r = shell_reply p x in
    let more = bad_append r.interpreter xs ys in
    let b = (if is_some r.bad then 1 else 0) in
    let sum : b + bad_count r.interpreter (xs ++ ys) ≡ (b + bad_count r.interpreter xs) + bad_count (interpreter_after r.interpreter xs) ys = omega (arith, more) in
    sum

after_append : (p : Interpreter) (xs ys : List (List ℕ)) → interpreter_after p (xs ++ ys) ≡ interpreter_after (interpreter_after p xs) ys
after_append p [] ys = refl
after_append p (x ∷ xs) ys = after_append (shell_reply p x).interpreter xs ys

released_interpreter : (b : Bool) (p : Interpreter) (due held : List ℕ)
    → (cond {A = Keeping} b (record { interpreter = p; due = due; held = held }) (record { interpreter = p; due = due ++ held; held = [] })).interpreter ≡ p
released_interpreter true p due held = refl
released_interpreter false p due held = refl

-- what is kept follows the interpreter
kept_interpreter : (k : Keeping) (ls : List (List ℕ)) → (kept_after k ls).interpreter ≡ interpreter_after k.interpreter ls
kept_interpreter k [] = refl
kept_interpreter k (l ∷ ls) =
    let r = shell_reply k.interpreter l in
    kept_interpreter (kept_line k l) ls ∙ ap (λ p. interpreter_after p ls) (released_interpreter (frame_is_open r.interpreter) r.interpreter k.due (noted k.interpreter l k.held))

-- ---- the reader

-- no byte is a part of a line
pub stops_none : StopsAt [] 10
stops_none = All-nil (λ x. x ≢ 10)

-- before the first line
parts_first : (script : Option (List ℕ)) → Parts script script [] []
parts_first None = tt
parts_first (Some s) = refl

short_whole : (xs : List ℕ) → length xs ≤ 1 → take_through 10 xs ≡ xs
short_whole [] few = refl
short_whole (x ∷ []) few = one (eqb x 10)
  where
    one : (b : Bool) → cond b (x ∷ []) (x ∷ []) ≡ x ∷ []
    one true = refl
    one false = refl
short_whole (x ∷ y ∷ xs) few = absurd (omega (arith, few))

-- what was read of a line has no line feed but at its end
stops_whole : (xs : List ℕ) → StopsAt xs 10 → take_through 10 xs ≡ xs
stops_whole xs stops =
    let n = length xs - 1 in
    let parts : take n xs ++ drop n xs ≡ xs = take-append-drop n xs in
    let few : length (drop n xs) ≤ 1 = omega (arith, length-drop n xs) in
    ap (take_through 10) (sym parts) ∙ take_through-append 10 (take n xs) (drop n xs) stops ∙ ap (λ ys. take n xs ++ ys) (short_whole (drop n xs) few) ∙ parts

-- a line that was read goes behind the others
parts_line : (script rest more : Option (List ℕ)) (ls : List (List ℕ)) (line l : List ℕ) → lines line ≡ l ∷ []
    → Parts script rest ls [] → IfSome rest (λ r. line ≡ take_through 10 r) → DropsThrough rest more 10 → 0 < length line
    → Parts script more (ls ++ l ∷ []) []
parts_line None rest more ls line l is parted taken left some = tt
parts_line (Some s) None more ls line l is parted taken left some = absurd parted
parts_line (Some s) (Some r) more ls line l is parted taken left some =
    let it = first_line_of r (take_through_nonempty 10 r (subst (λ t. 0 < length t) taken some)) in
    let one : it.0 ∷ [] ≡ l ∷ [] = sym it.1.0 ∙ ap lines (sym taken) ∙ is in
    subst (λ m. Parts (Some s) m (ls ++ l ∷ []) []) (sym left)
    (parted ∙ ap (λ x. ls ++ x) it.1.1 ∙ sym (append_assoc ls (it.0 ∷ []) (lines (drop_through 10 r))) ∙ ap (λ x. (ls ++ x) ++ lines (drop_through 10 r)) one)

-- and one that isn't played stands before the rest
parts_unplayed : (script rest more : Option (List ℕ)) (ls : List (List ℕ)) (line : List ℕ)
    → Parts script rest ls [] → Consumes rest more line → Parts script more ls line
parts_unplayed None rest more ls line parted taken = tt
parts_unplayed (Some s) None more ls line parted taken = absurd parted
parts_unplayed (Some s) (Some r) None ls line parted taken = absurd taken
parts_unplayed (Some s) (Some r) (Some m) ls line parted taken = parted ∙ ap (λ x. ls ++ lines x) taken

-- nothing is left at the end
rest_ended : (script rest more : Option (List ℕ)) (ls : List (List ℕ)) (line : List ℕ) → length line ≡ 0
    → Parts script rest ls [] → IfSome rest (λ r. line ≡ take_through 10 r) → DropsThrough rest more 10
    → IfSome script (λ _. more ≡ Some [])
rest_ended None rest more ls line none parted taken left = tt
rest_ended (Some s) None more ls line none parted taken left = absurd parted
rest_ended (Some s) (Some r) more ls line none parted taken left =
    left ∙ ap (λ x. Some (drop_through 10 x)) (take_through-nil 10 r (sym (ap length taken) ∙ none))

-- then all lines were played
parts_all : (script rest : Option (List ℕ)) (ls : List (List ℕ)) → IfSome script (λ _. rest ≡ Some []) → Parts script rest ls [] → IfSome script (λ s. lines s ≡ ls)
parts_all None rest ls ended parted = tt
parts_all (Some s) rest ls ended parted = let so : Parts (Some s) (Some []) ls [] = subst (λ r. Parts (Some s) r ls []) ended parted in so ∙ append-nil ls

-- the first lines of all
parts_front : (script rest : Option (List ℕ)) (front next : List (List ℕ)) (last : List ℕ) → Parts script rest (front ++ next) last
    → (others : List (List ℕ)) × IfSome script (λ s. lines s ≡ front ++ others)
parts_front None rest front next last parted = ([], tt)
parts_front (Some s) None front next last parted = absurd parted
parts_front (Some s) (Some r) front next last parted = (next ++ lines (last ++ r), parted ∙ append_assoc front next (lines (last ++ r)))

-- ---- what was written and kept

pub Grows-trans : {K : Type 0} (keeps : K → List ℕ → Type 0) (a b c : K) (x y z : List ℕ) → z ≡ x ++ y → Grows keeps a b x → Grows keeps b c y → Grows keeps a c z
Grows-trans keeps a b c x y z is first next text has =
    subst (keeps c) (append_assoc text x y ∙ ap (λ t. text ++ t) (sym is)) (next (text ++ x) (first text has))

Grows-stays : {K : Type 0} (keeps : K → List ℕ → Type 0) (a b c : K) (x : List ℕ) → Grows keeps a b x → StaysKept keeps b c → Grows keeps a c x
Grows-stays keeps a b c x first stays text has = stays (text ++ x) (first text has)

-- why a line wasn't read
unread_stops : {K : Type 0} (script : Option (List ℕ)) (here : Standing K) (fault : AppFault) → IsUnread fault → IsStop script here (Err fault)
unread_stops script here NoMemory h = tt
unread_stops script here ReadFault h = tt
unread_stops script here WriteFault h = absurd h
unread_stops script here TooLong h = absurd h

-- between two lines
abbrev pub between : {K : Type 0} → (now : K) → (rest : Option (List ℕ)) → Pending → (count number : ℕ) → Standing K
between now rest pending count number = record { now = now; rest = rest; last = []; pending = pending; count = count; number = number }

-- behind a line more, which counts so much as a bad one
abbrev pub line_on : {K : Type 0} → Standing K → (rest : Option (List ℕ)) → Pending → (bad : ℕ) → Standing K
line_on here rest pending bad = between here.now rest pending (here.count + bad) (here.number + 1)

-- behind a line that isn't played
abbrev pub unplayed : {K : Type 0} → Standing K → (rest : Option (List ℕ)) → (last answers : List ℕ) → Standing K
unplayed here rest last answers = record here { rest = rest; last = last; pending = record here.pending { answers = answers } }

module _ {K : Type 0} (m : Meaning K) (shell : Beginning K) where
  abbrev Come : Standing K → Type 0
  Come here = HasCome m shell here

  abbrev Leads : Type 0 → K → Option (List ℕ) → Waiting → Result ℕ AppFault → Type 0
  Leads F now rest waiting played = LeadsTo m {F = F} shell now rest waiting (Ok played)

  -- before the first line
  abbrev first_at : (due held answers : List ℕ) → Standing K
  first_at due held answers = between shell.start shell.script (record { keeping = record { interpreter = shell.first; due = due; held = held }; answers = answers }) 0 1

  pub comes_first : (due held answers : List ℕ) → due ≡ [] → held ≡ [] → answers ≡ [] → m.begun shell.start shell.start shell.first shell.style
      → Come (first_at due held answers)
  comes_first due held answers none unheld nothing is_of =
      subst (λ d. Come (first_at d held answers)) (sym none)
      (subst (λ h. Come (first_at [] h answers)) (sym unheld)
      (subst (λ t. Come (first_at [] [] t)) (sym nothing) record {
        is_of = is_of;
        front = [];
        next = [];
        parted = parts_first shell.script;
        said = [];
        is_said = refl;
        written = Appends-nil (m.contents shell.start);
        grown = λ text has. subst (m.keeps shell.start) (sym (append-nil text)) has;
        waits = refl;
        reached = refl;
        counted = refl;
        numbered = refl;
      }))

  -- the interpreter is that of the lines so far
  interpreter_now : (front next : List (List ℕ)) (keeping : Keeping) → kept_after (starting shell.first) (front ++ next) ≡ behind (kept_of shell.first front) keeping
      → interpreter_after (interpreter_after shell.first front) next ≡ keeping.interpreter
  interpreter_now front next keeping reached =
      sym (after_append shell.first front next) ∙ sym (kept_interpreter (starting shell.first) (front ++ next)) ∙ ap (λ (k : Keeping). k.interpreter) reached

  -- a line that is played and noted
  come_line : (l : List ℕ) (here : Standing K) (more : Option (List ℕ)) (said : List ℕ)
      → AddsAnswer shell.style here.pending.keeping.interpreter l here.pending.answers said
      → (so : Come here) → Parts shell.script more ((so.front ++ so.next) ++ l ∷ []) []
      → Come (line_on here more (record { keeping = kept_line here.pending.keeping l; answers = said })
      (if is_some (shell_reply here.pending.keeping.interpreter l).bad then 1 else 0))
  come_line l here more said adds so parted =
      let keeping = here.pending.keeping in
      let next = so.next ++ l ∷ [] in
      let first = shell.first in
      let interpreter = interpreter_now so.front so.next keeping so.reached in
      let all : so.front ++ next ≡ (so.front ++ so.next) ++ l ∷ [] = sym (append_assoc so.front so.next (l ∷ [])) in
      let bad : ℕ = (if is_some (shell_reply keeping.interpreter l).bad then 1 else 0) in
      record {
        is_of = so.is_of;
        front = so.front;
        next = next;
        parted = subst (λ ls. Parts shell.script more ls []) (sym all) parted;
        written = so.written;
        grown = so.grown;
        said = so.said;
        is_said = so.is_said;
        waits =
            let one : IsSaid shell.style keeping.interpreter (l ∷ []) adds.0 = (adds.0, [], adds.1, refl, sym (append-nil adds.0)) in
            subst (IsSaid shell.style (interpreter_after first so.front) next) (sym adds.2)
            (said_append shell.style (interpreter_after first so.front) so.next (l ∷ []) here.pending.answers adds.0 so.waits (subst (λ p. IsSaid shell.style p (l ∷ []) adds.0) (sym interpreter) one));
        reached =
            ap (kept_after (starting first)) all ∙ fold-append kept_line (starting first) (so.front ++ so.next) (l ∷ []) ∙ ap (λ k. kept_line k l) so.reached
            ∙ line_behind (kept_of first so.front) keeping l;
        counted =
            let before : interpreter_after first (so.front ++ so.next) ≡ keeping.interpreter = after_append first so.front so.next ∙ interpreter in
            let more_bad : bad_count first (so.front ++ next) ≡ bad_count first (so.front ++ so.next) + bad_count keeping.interpreter (l ∷ []) =
            ap (bad_count first) all ∙ bad_append first (so.front ++ so.next) (l ∷ []) ∙ ap (λ p. bad_count first (so.front ++ so.next) + bad_count p (l ∷ [])) before in
            let is : here.count + bad ≡ bad_count first (so.front ++ so.next) + (bad + 0) = omega (arith, so.counted) in
            is ∙ sym more_bad;
        numbered =
            let longer : length (so.front ++ next) ≡ length (so.front ++ so.next) + 1 = ap length all ∙ length-append (so.front ++ so.next) (l ∷ []) in
            omega (arith, so.numbered, longer);
      }

  -- a line of a reader that is read, played and noted
  pub comes_line : (here : Standing K) (more : Option (List ℕ)) (next : Pending) (bad : ℕ) (line : List ℕ)
      → Come (record here { last = [] })
      → IfSome here.rest (λ r. line ≡ take_through 10 r) → DropsThrough here.rest more 10 → StopsAt line 10 → 0 < length line
      → IsPlayed shell.style line here.pending next → IsBad line here.pending.keeping.interpreter bad
      → Come (line_on here more next bad)
  comes_line here more next bad line so taken left part some played is_bad =
      let it = first_line_of line some in
      let l = it.0 in
      let one : lines line ≡ l ∷ [] = ap lines (sym (stops_whole line part)) ∙ it.1.0 in
      let did = played l [] one in
      let come = come_line l (record here { last = [] }) more next.answers did.1 so (parts_line shell.script here.rest more (so.front ++ so.next) line l one so.parted taken left some) in
      subst (λ n. Come (line_on here more next n)) (sym (is_bad l [] one))
      (subst (λ k. Come (line_on here more (record { keeping = k; answers = next.answers }) (if is_some (shell_reply here.pending.keeping.interpreter l).bad then 1 else 0))) (sym did.0) come)

  -- one that isn't played
  come_unplayed : (here : Standing K) (more : Option (List ℕ)) (line said : List ℕ)
      → Come (record here { last = [] }) → Consumes here.rest more line → said ≡ here.pending.answers → Come (unplayed here more line said)
  come_unplayed here more line said so taken unsaid =
      subst (λ t. Come (unplayed here more line t)) (sym unsaid) record {
        is_of = so.is_of;
        front = so.front;
        next = so.next;
        parted = parts_unplayed shell.script here.rest more (so.front ++ so.next) line so.parted taken;
        said = so.said;
        is_said = so.is_said;
        written = so.written;
        grown = so.grown;
        waits = so.waits;
        reached = so.reached;
        counted = so.counted;
        numbered = so.numbered;
      }

  -- what waited is kept and written
  come_settled : (here : Standing K) (later : K)
      → Come here → Grows m.keeps here.now later here.pending.keeping.due → Appends (m.contents here.now) (m.contents later) here.pending.answers
      → Continues m here.now later
      → Come (record here { now = later; pending = record { keeping = record here.pending.keeping { due = [] }; answers = [] } })
  come_settled here later so grew wrote goes_on =
      let first = shell.first in
      let keeping = here.pending.keeping in
      let all = so.front ++ so.next in
      let none : all ++ [] ≡ all = append-nil all in
      let due : kept_of first all ≡ kept_of first so.front ++ keeping.due = ap (λ (k : Keeping). k.due) so.reached in
      record {
        is_of = goes_on shell.start first shell.style so.is_of;
        front = all;
        next = [];
        parted = subst (λ ls. Parts shell.script here.rest ls here.last) (sym none) so.parted;
        said = so.said ++ here.pending.answers;
        is_said = said_append shell.style first so.front so.next so.said here.pending.answers so.is_said so.waits;
        written = Appends-trans (m.contents shell.start) (m.contents here.now) (m.contents later) so.said here.pending.answers so.written wrote;
        grown = Grows-trans m.keeps shell.start here.now later (kept_of first so.front) keeping.due (kept_of first all) due so.grown grew;
        waits = refl;
        reached = ap (kept_after (starting first)) none ∙ so.reached ∙ ap (λ d. record keeping { due = d }) (sym due ∙ sym (append-nil (kept_of first all)));
        counted = so.counted ∙ ap (bad_count first) (sym none);
        numbered = so.numbered ∙ ap (λ ls. length ls + 1) (sym none);
      }

  -- the same by its parts
  abbrev later_at : Standing K → (later : K) → (due held answers : List ℕ) → Standing K
  later_at here later due held answers =
      record here { now = later; pending = record { keeping = record { interpreter = here.pending.keeping.interpreter; due = due; held = held }; answers = answers } }

  pub comes_on : (here : Standing K) (now later : K) (old new : Waiting)
      → Grows m.keeps now later old.due.items → Appends (m.contents now) (m.contents later) old.answers.items → Continues m now later
      → new.due.items ≡ [] → new.held.items ≡ old.held.items → new.answers.items ≡ []
      → Come (stands_with here now old) → Come (stands_with here later new)
  comes_on here now later old new grew wrote goes_on none same nothing so =
      subst (λ x. Come (later_at here later x new.held.items new.answers.items)) (sym none)
      (subst (λ x. Come (later_at here later [] x new.answers.items)) (sym same)
      (subst (λ x. Come (later_at here later [] old.held.items x)) (sym nothing)
      (come_settled (stands_with here now old) later so grew wrote goes_on)))

  -- what all lines so far have to keep
  all_due : (here : Standing K) (due : List ℕ) → here.pending.keeping.due ≡ due → (so : Come here)
      → kept_of shell.first (so.front ++ so.next) ≡ kept_of shell.first so.front ++ due
  all_due here due is so = ap (λ (k : Keeping). k.due) so.reached ∙ ap (λ d. kept_of shell.first so.front ++ d) is

  -- what waits may be settled
  pub come_may : (here : Standing K) (due : List ℕ) → here.pending.keeping.due ≡ due
      → Come here → MaySettle m here.now due here.pending.answers
  come_may here due is so later grew same goes_on = record {
    start = shell.start;
    first = shell.first;
    style = shell.style;
    is_of = goes_on shell.start shell.first shell.style so.is_of;
    front = so.front ++ so.next;
    said = so.said;
    written = Appends-kept (m.contents shell.start) (m.contents here.now) (m.contents later) so.said so.written same;
    are_answers = said_append shell.style shell.first so.front so.next so.said here.pending.answers so.is_said so.waits;
    grown =
        Grows-trans m.keeps shell.start here.now later (kept_of shell.first so.front) due (kept_of shell.first (so.front ++ so.next)) (all_due here due is so) so.grown grew;
  }

  -- a line that isn't played stops it
  pub come_stops : (F : Type 0) (fault : AppFault) (here : Standing K) (more : Option (List ℕ)) (line : List ℕ) (waiting : Waiting)
      → Come (record here { last = [] }) → here.pending.keeping.due ≡ waiting.due.items → waiting.answers.items ≡ here.pending.answers
      → StopsAt line 10 → Consumes here.rest more line → IsUnread fault → Leads F here.now more waiting (Err fault)
  come_stops F fault here more line waiting so is unsaid part taken unread = (
    line,
    here.pending.keeping,
    here.count,
    here.number,
    record {
      come = come_unplayed here more line waiting.answers.items so taken unsaid;
      part = part;
      is_due = is;
      stop = unread_stops shell.script (unplayed here more line waiting.answers.items) fault unread;
    },
  )

  -- and so does the reader's end
  pub nothing_left : (F : Type 0) (here : Standing K) (more : Option (List ℕ)) (line : List ℕ) (waiting : Waiting)
      → Come (record here { last = [] }) → here.pending.keeping.due ≡ waiting.due.items → waiting.answers.items ≡ here.pending.answers
      → length line ≡ 0 → IfSome here.rest (λ r. line ≡ take_through 10 r) → DropsThrough here.rest more 10 → Consumes here.rest more line
      → Leads F here.now more waiting (Ok here.count)
  nothing_left F here more line waiting so is unsaid none taken left gone =
      let empty : line ≡ [] = nil_from_length line none in (
        [],
        here.pending.keeping,
        here.count,
        here.number,
        record {
          come = come_unplayed here more [] waiting.answers.items so (subst (Consumes here.rest more) empty gone) unsaid;
          part = stops_none;
          is_due = is;
          stop = (refl, rest_ended shell.script here.rest more (so.front ++ so.next) line none so.parted taken left, refl);
        },
      )

  -- and the number of lines
  pub too_long : (F : Type 0) (here : Standing K) (waiting : Waiting)
      → Come (record here { last = [] }) → here.pending.keeping.due ≡ waiting.due.items → waiting.answers.items ≡ here.pending.answers
      → 2 ^ 64 ≤ here.number + 1 → Leads F here.now here.rest waiting (Err TooLong)
  too_long F here waiting so is unsaid many = (
    [],
    here.pending.keeping,
    here.count,
    here.number,
    record {
      come = subst (λ t. Come (unplayed here here.rest [] t)) (sym unsaid) so;
      part = stops_none;
      is_due = is;
      stop = many;
    },
  )

  -- ---- how it ends

  -- what waits isn't settled
  pub come_fails : {F : Type 0} (fault : KeptFault F) (here : Standing K) (later : K) (due : List ℕ)
      → Come here → StopsAt here.last 10 → here.pending.keeping.due ≡ due
      → FailsToSettle m here.now later due fault
      → EndsAs m shell later here.rest (Err fault)
  come_fails (Ended WriteFault) here later due so part is fails = (
    so.front ++ so.next,
    here.last,
    part,
    so.parted,
    Grows-trans m.keeps shell.start here.now later (kept_of shell.first so.front) due (kept_of shell.first (so.front ++ so.next)) (all_due here due is so) so.grown fails.1,
  )
  come_fails (Ended NoMemory) here later due so part is fails = absurd (let e = fails.0 in cc)
  come_fails (Ended ReadFault) here later due so part is fails = absurd (let e = fails.0 in cc)
  come_fails (Ended TooLong) here later due so part is fails = absurd (let e = fails.0 in cc)
  come_fails (Keep fault) here later due so part is fails =
      let front = parts_front shell.script here.rest so.front so.next here.last so.parted in
      (so.front, front.0, front.1, (so.said, so.is_said, Appends-kept (m.contents shell.start) (m.contents here.now) (m.contents later) so.said so.written fails))

  -- what waits is settled
  settled : (here : Standing K) (later : K) (due : List ℕ)
      → (so : Come here) → here.pending.keeping.due ≡ due → Grows m.keeps here.now later due → Appends (m.contents here.now) (m.contents later) here.pending.answers
      → IsSettled m shell later (so.front ++ so.next)
  settled here later due so is grew wrote = (
    (
      so.said ++ here.pending.answers,
      said_append shell.style shell.first so.front so.next so.said here.pending.answers so.is_said so.waits,
      Appends-trans (m.contents shell.start) (m.contents here.now) (m.contents later) so.said here.pending.answers so.written wrote,
    ),
    Grows-trans m.keeps shell.start here.now later (kept_of shell.first so.front) due (kept_of shell.first (so.front ++ so.next)) (all_due here due is so) so.grown grew,
  )

  -- where it has stopped
  abbrev stopped_at : (now : K) → (rest : Option (List ℕ)) → Waiting → (last : List ℕ) → Keeping → (count number : ℕ) → Standing K
  stopped_at now rest waiting last keeping count number =
      record { now = now; rest = rest; last = last; pending = record { keeping = keeping; answers = waiting.answers.items }; count = count; number = number }

  -- behind the last line
  pub ends_ok : (F : Type 0) (bad : ℕ) (now later : K) (rest : Option (List ℕ)) (waiting : Waiting) → Leads F now rest waiting (Ok bad)
      → Grows m.keeps now later waiting.due.items → Appends (m.contents now) (m.contents later) waiting.answers.items
      → EndsAs m {F = F} shell later rest (Ok bad)
  ends_ok F bad now later rest waiting (last, keeping, count, number, it) grew wrote =
      let so = it.come in (
        so.front ++ so.next,
        parts_all shell.script rest (so.front ++ so.next) it.stop.1 (subst (λ l. Parts shell.script rest (so.front ++ so.next) l) it.stop.2 so.parted),
        settled (stopped_at now rest waiting last keeping count number) later waiting.due.items so it.is_due grew wrote,
        it.stop.0 ∙ so.counted,
      )

  -- behind a line that something stopped
  stops : (fault : AppFault) (later : K) (here : Standing K) (ls : List (List ℕ)) → here.number ≡ length ls + 1
      → IsSettled m shell later ls → IsStop shell.script here (Err fault) → StopsBy m shell later ls fault
  stops NoMemory later here ls numbered so stop = so
  stops ReadFault later here ls numbered so stop = so
  stops WriteFault later here ls numbered so stop = absurd stop
  stops TooLong later here ls numbered so stop = (so, omega (arith, numbered, stop))

  pub ends_stopped : (F : Type 0) (fault : AppFault) (now later : K) (rest : Option (List ℕ)) (waiting : Waiting) → Leads F now rest waiting (Err fault)
      → Grows m.keeps now later waiting.due.items → Appends (m.contents now) (m.contents later) waiting.answers.items
      → EndsAs m {F = F} shell later rest (Err (Ended fault))
  ends_stopped F fault now later rest waiting (last, keeping, count, number, it) grew wrote =
      let here = stopped_at now rest waiting last keeping count number in
      let so = it.come in (
        so.front ++ so.next,
        last,
        it.part,
        so.parted,
        stops fault later here (so.front ++ so.next) so.numbered (settled here later waiting.due.items so it.is_due grew wrote) it.stop,
      )

  -- or what waits isn't settled
  pub ends_unsettled : {F : Type 0} (played : Result ℕ AppFault) (fault : KeptFault F) (now later : K) (rest : Option (List ℕ)) (waiting : Waiting)
      → Leads F now rest waiting played → FailsToSettle m now later waiting.due.items fault
      → EndsAs m {F = F} shell later rest (Err fault)
  ends_unsettled played fault now later rest waiting (last, keeping, count, number, it) fails =
      come_fails fault (stopped_at now rest waiting last keeping count number) later waiting.due.items it.come it.part it.is_due fails

  -- and it may be
  pub led_may : (F : Type 0) (played : Result ℕ AppFault) (now : K) (rest : Option (List ℕ)) (waiting : Waiting)
      → Leads F now rest waiting played → MaySettle m now waiting.due.items waiting.answers.items
  led_may F played now rest waiting (last, keeping, count, number, it) =
      come_may (stopped_at now rest waiting last keeping count number) waiting.due.items it.is_due it.come

-- ---- from the call on

module _ {K : Type 0} (m : Meaning K) (shell : Beginning K) (old now : K)
    (stays : StaysKept m.keeps old shell.start) (same : m.contents shell.start ≡ m.contents old) where
  abbrev called : Beginning K
  called = record shell { start = old }

  kept_from : (ls : List (List ℕ)) → HasKept m shell now ls → HasKept m called now ls
  kept_from ls grew text has = grew text (stays text has)

  answered_from : (ls : List (List ℕ)) → HasAnswered m shell now ls → HasAnswered m called now ls
  answered_from ls said = subst (λ o. HasSaid shell.style shell.first ls o (m.contents now)) same said

  settled_from : (ls : List (List ℕ)) → IsSettled m shell now ls → IsSettled m called now ls
  settled_from ls so = (answered_from ls so.0, kept_from ls so.1)

  stops_from : (ls : List (List ℕ)) (fault : AppFault) → StopsBy m shell now ls fault → StopsBy m called now ls fault
  stops_from ls NoMemory so = settled_from ls so
  stops_from ls ReadFault so = settled_from ls so
  stops_from ls WriteFault so = kept_from ls so
  stops_from ls TooLong so = (settled_from ls so.0, so.1)

  -- what a shell did since it began it did since it was called
  pub ends_from : {F : Type 0} (rest : Option (List ℕ)) (r : Result ℕ (KeptFault F))
      → EndsAs m shell now rest r → EndsAs m (record shell { start = old }) now rest r
  ends_from rest (Ok count) (ls, all, so, counted) = (ls, all, settled_from ls so, counted)
  ends_from rest (Err (Ended fault)) (ls, last, part, parted, so) = (ls, last, part, parted, stops_from ls fault so)
  ends_from rest (Err (Keep fault)) (ls, others, parted, said) = (ls, others, parted, answered_from ls said)

-- ---- parts

-- nothing more is kept
pub grows_none : {K : Type 0} (keeps : K → List ℕ → Type 0) (k : K) (due : List ℕ) → due ≡ [] → Grows keeps k k due
grows_none keeps k due none text has = subst (keeps k) (sym (append-nil text) ∙ ap (λ t. text ++ t) (sym none)) has

released_parts : (b : Bool) (p : Interpreter) (due held d h : List ℕ) → d ≡ (if b then due else due ++ held) → h ≡ (if b then held else [])
    → ◌≡◌ {A = Keeping} (record { interpreter = p; due = d; held = h }) (if b then record { interpreter = p; due = due; held = held } else record { interpreter = p; due = due ++ held; held = [] })
released_parts true p due held d h is_due is_held = ap (λ x. record { interpreter = p; due = x; held = h }) is_due ∙ ap (λ x. record { interpreter = p; due = due; held = x }) is_held
released_parts false p due held d h is_due is_held = ap (λ x. record { interpreter = p; due = x; held = h }) is_due ∙ ap (λ x. record { interpreter = p; due = due ++ held; held = x }) is_held

-- a line that was played and noted, by its parts
pub noted_line : (k : Keeping) (l : List ℕ) (p : Interpreter) (d h : List ℕ) → p ≡ (shell_reply k.interpreter l).interpreter
    → d ≡ (if frame_is_open p then k.due else k.due ++ noted k.interpreter l k.held)
    → h ≡ (if frame_is_open p then noted k.interpreter l k.held else []) → ◌≡◌ {A = Keeping} (record { interpreter = p; due = d; held = h }) (kept_line k l)
noted_line k l p d h is is_due is_held = released_parts (frame_is_open p) p k.due (noted k.interpreter l k.held) d h is_due is_held ∙ ap (λ q. released q k.due (noted k.interpreter l k.held)) is

-- ---- without a store

module _ {K : Type 0} (m : Meaning K) (shell : Beginning K) (now : K) (rest : Option (List ℕ)) where
  -- what went in and out
  abbrev pub exchanged : Exchange
  exchanged = record { style = shell.style; first = shell.first; before = m.contents shell.start; after = m.contents now; script = shell.script; rest = rest }

  pub ends_answered : (F : Type 0) (count : ℕ) → EndsAs m {F = F} shell now rest (Ok count) → Answers exchanged count
  ends_answered F count (ls, all, so, counted) = (ls, all, so.0, counted)

  with_fault : (ls : List (List ℕ)) (fault : AppFault) → StopsBy m shell now ls fault → StopsWith exchanged ls fault
  with_fault ls NoMemory so = so.0
  with_fault ls ReadFault so = so.0
  with_fault ls WriteFault so = tt
  with_fault ls TooLong so = (so.0.0, so.1)

  pub ends_unanswered : (F : Type 0) (fault : AppFault) → EndsAs m {F = F} shell now rest (Err (Ended fault)) → Stops exchanged fault
  ends_unanswered F fault (ls, last, part, parted, so) = (ls, last, part, parted, with_fault ls fault so)
