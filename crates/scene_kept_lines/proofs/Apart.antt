-- Lines of a shell, and interpreters that are the same in all but which calls there were.
use Rattle.std.proofs.Common.{◌≡◌, ℕ, ◌+◌, List, [], ◌∷◌, ◌++◌, Bool, true, false, Option, Some, None, Result, Ok, if◌then◌else◌, refl, sym, ap, subst, ◌∙◌}
use Rattle.std.specs.Prelude.{Err, is_some, option_map}
use Rattle.scene_requests.specs.declared.bad_request.BadRequest.{BadRequest}
use Rattle.scene_requests.specs.declared.request.Request.{Request}
use Rattle.scene_requests.specs.Request.{is_request, request_in}
use Rattle.scene_script.specs.Script.{line_in}
use Rattle.scene_session.specs.Owner.{machine_at, whole_at}
use Rattle.scene_session.specs.Resumed.{whole_rewound}
use Rattle.scene_interpreter.specs.declared.progress.Progress.{Progress}
use Rattle.scene_interpreter.specs.Apart.{RepliesApart, SameApart, StatesApart}
use Rattle.scene_interpreter.specs.Changes.{changes, frame_is_open, said_changes}
use Rattle.scene_interpreter.specs.Interpreter.{Interpreter, LineReply, Playing, Setting, interpreter_kinds, interpreter_reply, interpreter_said}
use Rattle.scene_interpreter.specs.JsonLine.{AddsJson, asked_by}
use Rattle.scene_interpreter.specs.OpenFrame.{Opened}
use Rattle.scene_interpreter.specs.Play.{PlayState}
use Rattle.scene_interpreter.specs.Progress.{Resumes, StateResumes, progress_in, progress_of}
use Rattle.scene_interpreter.proofs.Apart.{answers_apart, changes_apart, frames_apart, json_apart, kinds_apart}
use Rattle.scene_answers.specs.Asked.{asked_reply}
use Rattle.scene_answers.proofs.Apart.{adds_apart, asked_apart, asked_changes_apart}
use Rattle.scene_streams.specs.Keep.{Grows}
use Rattle.scene_streams.specs.declared.app_fault.AppFault.{AppFault}
use Rattle.scene_streams.specs.declared.app_fault.AppFault.TheVariants.{NoMemory, ReadFault, WriteFault, TooLong}
use Rattle.scene_shell.specs.declared.bad_shell_line.BadShellLine.TheVariants as why
use Rattle.scene_shell.specs.declared.kept_fault.KeptFault.{KeptFault}
use Rattle.scene_shell.specs.declared.kept_fault.KeptFault.TheVariants.{Ended, Keep}
use Rattle.scene_kept_lines.specs.Apart.{EndsApart, LinesApart}
use Rattle.scene_kept_lines.specs.Compacted.{Agrees}
use Rattle.scene_shell.specs.Kept.{Beginning, EndsAs, HasAnswered, HasKept, IsSettled, Keeping, Meaning, StopsBy, ended, kept_after, kept_line, kept_of, noted, released, starting}
use Rattle.scene_shell.specs.declared.style.AnswerStyle.{AnswerStyle}
use Rattle.scene_shell.specs.Shell.{IsSaid, IsSent, bad_count, interpreter_after}
use Rattle.scene_shell.specs.ShellLine.{IsAnswerBy, IsLineAnswer, IsRequestAnswer, ShellReply, of_line, of_request, request_changes, shell_changes, shell_reply}

-- ---- one line

-- replies of which the same is bad, and behind which the interpreters are the same, history apart
abbrev ShellRepliesApart : ShellReply → ShellReply → Type 0
ShellRepliesApart r u = (r.bad ≡ u.bad) × SameApart r.interpreter u.interpreter

line_replies : (r u : LineReply) → RepliesApart r u → ShellRepliesApart (of_line r) (of_line u)
line_replies r u same = (ap (option_map why.Line) same.bad, same.interpreter)

module _ (p q : Interpreter) (same : SameApart p q) where
  request_replies : (o : Result Request BadRequest) → ShellRepliesApart (of_request p o) (of_request q o)
  request_replies (Ok asked) = line_replies (asked_reply p asked) (asked_reply q asked) (asked_apart p q asked same)
  request_replies (Err reason) = (refl, same)

  -- by whether the line is a request
  abbrev by_kind : Interpreter → List ℕ → Bool → ShellReply
  by_kind x l b = if b then of_request x (request_in (interpreter_kinds x) l) else of_line (interpreter_reply x l)

  replies_by : (l : List ℕ) (b : Bool) → ShellRepliesApart (by_kind p l b) (by_kind q l b)
  replies_by l true =
      subst (λ kinds. ShellRepliesApart (of_request p (request_in (interpreter_kinds p) l)) (of_request q (request_in kinds l))) (kinds_apart p q same)
      (request_replies (request_in (interpreter_kinds p) l))
  replies_by l false = line_replies (interpreter_reply p l) (interpreter_reply q l) (answers_apart p q l same)

  line_apart : (l : List ℕ) → ShellRepliesApart (shell_reply p l) (shell_reply q l)
  line_apart l = replies_by l (is_request l)

  -- ---- its answer

  request_answered : (text : List ℕ) (o : Result Request BadRequest) → IsRequestAnswer p o text → IsRequestAnswer q o text
  request_answered text (Ok asked) is = adds_apart p q asked [] text same is
  request_answered text (Err reason) is = is

  line_answered : (is_json : Bool) (l text : List ℕ) → IsLineAnswer is_json p l text → IsLineAnswer is_json q l text
  line_answered false l text is = is ∙ (answers_apart p q l same).text
  line_answered true l text is = (
    refl,
    refl,
    subst (λ says. AddsJson [] text q (interpreter_said q says).interpreter says (asked_by q says)) (ap (λ kinds. line_in kinds l) (kinds_apart p q same))
        (json_apart p q (line_in (interpreter_kinds p) l) [] text same is.2),
  )

  answered_by : (b is_json : Bool) (l text : List ℕ) → IsAnswerBy b is_json p l text → IsAnswerBy b is_json q l text
  answered_by true is_json l text is =
      subst (λ kinds. IsRequestAnswer q (request_in kinds l) text) (kinds_apart p q same) (request_answered text (request_in (interpreter_kinds p) l) is)
  answered_by false is_json l text is = line_answered is_json l text is

  sent_apart : (style : AnswerStyle) (l sent : List ℕ) → IsSent style p l sent → IsSent style q l sent
  sent_apart style l sent is = (is.0, answered_by (is_request l) style.is_json l is.0 is.1, is.2)

-- ---- lines

bad_apart : (p q : Interpreter) → SameApart p q → (ls : List (List ℕ)) → bad_count p ls ≡ bad_count q ls
bad_apart p q same [] = refl
bad_apart p q same (l ∷ ls) =
    let line = line_apart p q same l in
    let rest = bad_apart (shell_reply p l).interpreter (shell_reply q l).interpreter line.1 ls in
    λ i. (if is_some (line.0 i) then 1 else 0) + rest i

said_by_both : (style : AnswerStyle) (p q : Interpreter) → SameApart p q → (ls : List (List ℕ)) (text : List ℕ) → IsSaid style p ls text → IsSaid style q ls text
said_by_both style p q same [] text is = is
said_by_both style p q same (l ∷ ls) text is = (
  is.0,
  is.1,
  sent_apart p q same style l is.0 is.2,
  said_by_both style (shell_reply p l).interpreter (shell_reply q l).interpreter (line_apart p q same l).1 ls is.1 is.3,
  is.4,
)

after_apart : (p q : Interpreter) → SameApart p q → (ls : List (List ℕ)) → SameApart (interpreter_after p ls) (interpreter_after q ls)
after_apart p q same [] = same
after_apart p q same (l ∷ ls) = after_apart (shell_reply p l).interpreter (shell_reply q l).interpreter (line_apart p q same l).1 ls

-- ---- what is kept

changed_by_both : (p q : Interpreter) → SameApart p q → (l : List ℕ) → shell_changes p l ≡ shell_changes q l
changed_by_both p q same l = by (is_request l)
  where
    asked : (o : Result Request BadRequest) → request_changes p o ≡ request_changes q o
    asked (Ok request) = asked_changes_apart p q request same
    asked (Err reason) = refl

    by : (b : Bool) → (if b then request_changes p (request_in (interpreter_kinds p) l) else changes p l)
        ≡ (if b then request_changes q (request_in (interpreter_kinds q) l) else changes q l)
    by true = asked (request_in (interpreter_kinds p) l) ∙ ap (λ kinds. request_changes q (request_in kinds l)) (kinds_apart p q same)
    by false = changes_apart p q (line_in (interpreter_kinds p) l) same ∙ ap (λ kinds. said_changes q (line_in kinds l)) (kinds_apart p q same)

-- the same lines are due and held
record KeepingsApart (j k : Keeping) : Type 0 where
  due : j.due ≡ k.due
  held : j.held ≡ k.held
  interpreter : SameApart j.interpreter k.interpreter

-- the lines of a frame are due where none is open
abbrev by_frame : Interpreter → List ℕ → List ℕ → Bool → Keeping
by_frame x d h b = if b then record { interpreter = x; due = d; held = h } else record { interpreter = x; due = d ++ h; held = [] }

released_apart : (p q : Interpreter) (due held others behind : List ℕ) → due ≡ others → held ≡ behind → SameApart p q
    → KeepingsApart (released p due held) (released q others behind)
released_apart p q due held others behind dues helds same =
    subst (λ b. KeepingsApart (released p due held) (by_frame q others behind b)) (frames_apart p q same) (by (frame_is_open p))
  where
    by : (b : Bool) → KeepingsApart (by_frame p due held b) (by_frame q others behind b)
    by true = record { due = dues; held = helds; interpreter = same }
    by false = record { due = λ i. dues i ++ helds i; held = refl; interpreter = same }

line_kept : (j k : Keeping) (l : List ℕ) → KeepingsApart j k → KeepingsApart (kept_line j l) (kept_line k l)
line_kept j k l same =
    let changed = changed_by_both j.interpreter k.interpreter same.interpreter l in
    released_apart (shell_reply j.interpreter l).interpreter (shell_reply k.interpreter l).interpreter
    j.due (noted j.interpreter l j.held) k.due (noted k.interpreter l k.held) same.due
    (λ i. same.held i ++ (if changed i then ended l else [])) (line_apart j.interpreter k.interpreter same.interpreter l).1

all_kept : (j k : Keeping) (ls : List (List ℕ)) → KeepingsApart j k → KeepingsApart (kept_after j ls) (kept_after k ls)
all_kept j k [] same = same
all_kept j k (l ∷ ls) same = all_kept (kept_line j l) (kept_line k l) ls (line_kept j k l same)

kept_by_both : (p q : Interpreter) → SameApart p q → (ls : List (List ℕ)) → kept_of p ls ≡ kept_of q ls
kept_by_both p q same ls = (all_kept (starting p) (starting q) ls (record { due = refl; held = refl; interpreter = same })).due

pub lines_apart : (p q : Interpreter) (ls : List (List ℕ)) → SameApart p q → LinesApart p q ls
lines_apart p q ls same = record {
  bad = bad_apart p q same ls;
  answers = λ style text is. said_by_both style p q same ls text is;
  kept = kept_by_both p q same ls;
  interpreter = after_apart p q same ls;
}

-- ---- how a shell ends

module _ {K : Type 0} (m : Meaning K) (shell : Beginning K) (q : Interpreter) (same : SameApart shell.first q) where
  abbrev other : Beginning K
  other = record shell { first = q }

  answered : (now : K) (ls : List (List ℕ)) → HasAnswered m shell now ls → HasAnswered m other now ls
  answered now ls is = (is.0, said_by_both shell.style shell.first q same ls is.0 is.1, is.2)

  kept : (now : K) (ls : List (List ℕ)) → HasKept m shell now ls → HasKept m other now ls
  kept now ls is = subst (λ due. Grows m.keeps shell.start now due) (kept_by_both shell.first q same ls) is

  settled : (now : K) (ls : List (List ℕ)) → IsSettled m shell now ls → IsSettled m other now ls
  settled now ls is = (answered now ls is.0, kept now ls is.1)

  stopped : (now : K) (ls : List (List ℕ)) (fault : AppFault) → StopsBy m shell now ls fault → StopsBy m other now ls fault
  stopped now ls WriteFault is = kept now ls is
  stopped now ls NoMemory is = settled now ls is
  stopped now ls ReadFault is = settled now ls is
  stopped now ls TooLong is = (settled now ls is.0, is.1)

  ends : {F : Type 0} (now : K) (rest : Option (List ℕ)) (r : Result ℕ (KeptFault F)) → EndsAs m shell now rest r → EndsAs m other now rest r
  ends now rest (Ok count) is = (is.0, is.1, settled now is.0 is.2, is.3 ∙ bad_apart shell.first q same is.0)
  ends now rest (Err (Ended fault)) is = (is.0, is.1, is.2, is.3, stopped now is.0 fault is.4)
  ends now rest (Err (Keep fault)) is = (is.0, is.1, is.2, answered now is.0 is.3)

pub ends_apart : {K F : Type 0} (m : Meaning K) (shell : Beginning K) (now : K) (rest : Option (List ℕ)) (r : Result ℕ (KeptFault F))
    → EndsAs m shell now rest r → EndsApart m shell now rest r
ends_apart m shell now rest r is q same = ends m shell q same now rest r is

-- ---- an interpreter that goes on from where another one has come

closed : (s : PlayState) → frame_is_open (Playing s) ≡ false → s.frame ≡ None
closed s is = by s.frame refl is
  where
    by : (f : Option Opened) → s.frame ≡ f → is_some f ≡ false → s.frame ≡ None
    by None none so = none
    by (Some f) some so = absurd (cc so)

states_meet : (s b a : PlayState) (x : Progress) → progress_of s ≡ x → Agrees (Playing s) (Playing b) → StateResumes x b a → StatesApart s a
states_meet s b a x came agrees on =
    let rewinds = (machine_at s.owner).rewinds in
    let frames : s.frame ≡ b.frame = closed s agrees.first_closed ∙ sym (closed b agrees.second_closed) in
    record {
      owners = record {
        whole = ap (whole_rewound rewinds) agrees.machine
            ∙ ap (λ (y : Progress). whole_rewound y.rewinds (whole_at b.owner)) came
            ∙ sym on.owner.whole;
        limit = agrees.calls ∙ sym on.owner.limit;
        count = ap (λ (y : Progress). y.calls) came ∙ sym on.owner.count;
        session = agrees.session ∙ sym on.owner.session;
      };
      besides =
          (λ i. record s { owner = a.owner; schema = agrees.kinds i; cursor = (came i).cursor; frame = frames i; phases = agrees.systems i })
          ∙ sym on.besides;
    }

pub resumed_apart : (p q r : Interpreter) (x : Progress) → Agrees p q → progress_in p ≡ Some x → Resumes x q r → SameApart p r
resumed_apart (Setting s) q r x agrees came on = absurd (cc came)
resumed_apart (Playing s) q r x agrees came on =
    let here : progress_of s ≡ x = cc came in
    let met : Agrees (Playing s) (Playing on.before) = subst (Agrees (Playing s)) on.old_is agrees in
    subst (SameApart (Playing s)) (sym on.new_is) (states_meet s on.before on.after x here met on.resumed)
