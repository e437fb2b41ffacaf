-- What waits in a shell between two settlings. Nothing that a shell promises is said with these words.
use Rattle.std.specs.Prelude.{Result, Ok, Err, ◌≡◌, is_some, ℕ, ◌+◌, ◌^◌, ◌≤◌, List, [], ◌∷◌, ◌++◌, ⊤, Option, Some, IfSome, if◌then◌else◌, length}
use Rattle.std.specs.Io.{StopsAt}
use Rattle.std.specs.Io.KnownBytes.{Appends, Keeps}
use Rattle.std.specs.Str.Lines.{lines}
use Rattle.scene_interpreter.specs.Interpreter.{Interpreter, LoneCode, interpreter_of}
use Rattle.scene_streams.specs.declared.app_fault.AppFault.{AppFault}
use Rattle.scene_streams.specs.declared.app_fault.AppFault.TheVariants.{NoMemory, ReadFault, WriteFault, TooLong}
use Rattle.scene_shell.specs.declared.kept_fault.KeptFault.{KeptFault}
use Rattle.scene_shell.specs.declared.kept_fault.KeptFault.TheVariants.{Ended, Keep}
use Rattle.scene_shell.specs.declared.waiting.Waiting.{Waiting}
use Rattle.scene_streams.specs.Keep.{Grows}
use Rattle.scene_shell.specs.Kept.{Beginning, Continues, EndsAs, Keeping, Meaning, MaySend, behind, kept_after, kept_line, kept_of, starting}
use Rattle.scene_shell.specs.ShellLine.{shell_reply}
use Rattle.scene_shell.specs.Shell.{AddsAnswer, AnswerStyle, IsSaid, Parts, bad_count, interpreter_after}

-- an interpreter, with the lines that wait
abbrev pub waiting_of : Interpreter → Waiting → Keeping
waiting_of p w = record { interpreter = p; due = w.due.items; held = w.held.items }

-- that of the code
abbrev pub keeping_of : LoneCode → Waiting → Keeping
keeping_of p w = waiting_of (interpreter_of p) w

-- What waits: lines with the interpreter that they led to, and answers
pub record Pending : Type 0 where
  pub keeping : Keeping
  pub answers : List ℕ

-- an interpreter, with all that waits
abbrev pub pending_of : Interpreter → Waiting → Pending
pending_of p w = record { keeping = waiting_of p w; answers = w.answers.items }

module _ {K : Type 0} (m : Meaning K) where
  -- once these lines are kept, the answers may be sent
  abbrev pub MaySettle : (now : K) → (due answers : List ℕ) → Type 0
  MaySettle now due answers =
      (later : K) → Grows m.keeps now later due → Keeps (m.contents now) (m.contents later) → Continues m now later
      → MaySend m later answers

  -- why what waits wasn't kept and sent: the writer failed, behind what was kept; or nothing was sent, since it wasn't
  -- kept
  abbrev pub FailsToSettle : {F : Type 0} → (old new : K) → (due : List ℕ) → KeptFault F → Type 0
  FailsToSettle old new due (Ended fault) = (fault ≡ WriteFault) × Grows m.keeps old new due
  FailsToSettle old new due (Keep fault) = Keeps (m.contents old) (m.contents new)

-- Where a shell stands between two lines
pub record Standing (K : Type 0) : Type 0 where
  -- the writer
  pub now : K
  -- what is left of the reader, where that is known, and the part of a line that was read of it and not played
  pub rest : Option (List ℕ)
  pub last : List ℕ
  -- what waits
  pub pending : Pending
  -- how many lines were bad, and the number of the next one
  pub count : ℕ
  pub number : ℕ

-- the same with this writer, and with what waits here
abbrev pub stands_with : {K : Type 0} → Standing K → K → Waiting → Standing K
stands_with here now w = record here { now = now; pending = pending_of here.pending.keeping.interpreter w }

module _ {K : Type 0} (m : Meaning K) where
  -- How far a shell has come: the answers to the first lines are written and what they have to keep is kept, and of the
  -- next ones both wait.
  pub record HasCome (shell : Beginning K) (here : Standing K) : Type 0 where
    pub is_of : m.begun here.now shell.start shell.first shell.style
    pub front : List (List ℕ)
    pub next : List (List ℕ)
    pub parted : Parts shell.script here.rest (front ++ next) here.last
    pub said : List ℕ
    pub is_said : IsSaid shell.style shell.first front said
    pub written : Appends (m.contents shell.start) (m.contents here.now) said
    pub grown : Grows m.keeps shell.start here.now (kept_of shell.first front)
    pub waits : IsSaid shell.style (interpreter_after shell.first front) next here.pending.answers
    pub reached : kept_after (starting shell.first) (front ++ next)
        ≡ behind (kept_of shell.first front) here.pending.keeping
    pub counted : here.count ≡ bad_count shell.first (front ++ next)
    pub numbered : here.number ≡ length (front ++ next) + 1

-- a line of a text is played and noted, and its answer waits
abbrev pub IsPlayed : AnswerStyle → List ℕ → (old new : Pending) → Type 0
IsPlayed style line old new = (l : List ℕ) (others : List (List ℕ)) → lines line ≡ l ∷ others
    → (new.keeping ≡ kept_line old.keeping l) × AddsAnswer style old.keeping.interpreter l old.answers new.answers

-- and it is known whether it is bad
abbrev pub IsBad : List ℕ → Interpreter → ℕ → Type 0
IsBad line p bad = (l : List ℕ) (others : List (List ℕ)) → lines line ≡ l ∷ others
    → bad ≡ (if is_some (shell_reply p l).bad then 1 else 0)

-- ---- while it waits for its last settling

-- why a line wasn't read
abbrev pub IsUnread : AppFault → Type 0
IsUnread NoMemory = ⊤
IsUnread ReadFault = ⊤
IsUnread WriteFault = ⊥
IsUnread TooLong = ⊥

-- why no further line of a script is played: the input has ended, or what stopped it
abbrev pub IsStop : {K : Type 0} → (script : Option (List ℕ)) → Standing K → Result ℕ AppFault → Type 0
IsStop script here (Ok bad) = (bad ≡ here.count) × IfSome script (λ _. here.rest ≡ Some []) × (here.last ≡ [])
IsStop script here (Err WriteFault) = ⊥
IsStop script here (Err NoMemory) = ⊤
IsStop script here (Err ReadFault) = ⊤
IsStop script here (Err TooLong) = 2 ^ 64 ≤ here.number + 1

module _ {K : Type 0} (m : Meaning K) where
  -- A shell has come here, these lines are due, and no further line is played.
  pub record HasStopped (shell : Beginning K) (due : List ℕ) (played : Result ℕ AppFault) (here : Standing K)
      : Type 0 where
    pub come : HasCome m shell here
    pub part : StopsAt here.last 10
    pub is_due : here.pending.keeping.due ≡ due
    pub stop : IsStop shell.script here played

  -- where the lines of a reader have led: the shell has ended, or it has come to what waits here
  abbrev pub LeadsTo : {F : Type 0} → Beginning K → (now : K) → (rest : Option (List ℕ)) → Waiting
      → Result (Result ℕ AppFault) (KeptFault F) → Type 0
  LeadsTo shell now rest waiting (Ok played) =
      (last : List ℕ) × (keeping : Keeping) × (count : ℕ) × (number : ℕ)
      × HasStopped shell waiting.due.items played record {
        now = now;
        rest = rest;
        last = last;
        pending = record { keeping = keeping; answers = waiting.answers.items };
        count = count;
        number = number;
      }
  LeadsTo shell now rest waiting (Err fault) = EndsAs m shell now rest (Err fault)
