-- What a shell says to the lines that it is given.
use Rattle.std.specs.Prelude.{◌≡◌, ℕ, ◌+◌, ◌^◌, ◌≤◌, List, [], ◌∷◌, ◌++◌, ⊤, Bool, false, Option, Some, None, IfSome, Result, Ok, Err, is_some, if◌then◌else◌, codes, length}
use Rattle.std.specs.Io.{StopsAt}
use Rattle.std.specs.Io.KnownBytes.{Appends}
use Rattle.std.specs.List.{AllByRecursion}
use Rattle.std.specs.Str.Lines.{lines}
use Rattle.scene_requests.specs.Request.{is_request}
use Rattle.scene_interpreter.specs.Interpreter.{Interpreter, interpreter_reply}
use Rattle.scene_streams.specs.declared.app_fault.AppFault.{AppFault}
use Rattle.scene_streams.specs.declared.app_fault.AppFault.TheVariants.{NoMemory, ReadFault, WriteFault, TooLong}
pub use Rattle.scene_shell.specs.declared.style.AnswerStyle.{AnswerStyle}
use Rattle.scene_shell.specs.ShellLine.{IsAnswerBy, shell_reply}

-- ---- one line

-- an answer to a line: that of a script, or JSON; a request is answered as JSON in any case
abbrev pub IsAnswer : (is_json : Bool) → Interpreter → List ℕ → List ℕ → Type 0
IsAnswer is_json p l text = IsAnswerBy (is_request l) is_json p l text

-- an answer as it is sent; a frame ends with an empty line
abbrev pub IsSent : AnswerStyle → Interpreter → List ℕ → List ℕ → Type 0
IsSent style p l sent =
    (text : List ℕ) × IsAnswer style.is_json p l text × (sent ≡ text ++ (if style.is_framed then codes "\n" else []))

-- a line's answer goes behind others
abbrev pub AddsAnswer : AnswerStyle → Interpreter → List ℕ → List ℕ → List ℕ → Type 0
AddsAnswer style p l old new = (sent : List ℕ) × IsSent style p l sent × (new ≡ old ++ sent)

-- ---- lines

-- the interpreter after lines
abbrev pub interpreter_after : Interpreter → List (List ℕ) → Interpreter
interpreter_after p [] = p
interpreter_after p (l ∷ ls) = interpreter_after (shell_reply p l).interpreter ls

-- how many of the lines are bad
abbrev pub bad_count : Interpreter → List (List ℕ) → ℕ
bad_count p [] = 0
bad_count p (l ∷ ls) = (if is_some (shell_reply p l).bad then 1 else 0) + bad_count (shell_reply p l).interpreter ls

-- answers as a script has them
abbrev pub plain_style : AnswerStyle
plain_style = record { is_json = false; is_framed = false }

-- the answers to lines, one after another
abbrev pub IsSaid : AnswerStyle → Interpreter → List (List ℕ) → List ℕ → Type 0
IsSaid style p [] text = text ≡ []
IsSaid style p (l ∷ ls) text =
    (first : List ℕ) × (others : List ℕ) × IsSent style p l first × IsSaid style (shell_reply p l).interpreter ls others
    × (text ≡ first ++ others)

-- none of the lines is a request
abbrev pub NoRequests : List (List ℕ) → Type 0
NoRequests ls = AllByRecursion (λ l. is_request l ≡ false) ls

-- the same in the plain style, where none is
abbrev pub said_of : Interpreter → List (List ℕ) → List ℕ
said_of p [] = []
said_of p (l ∷ ls) = (interpreter_reply p l).text ++ said_of (interpreter_reply p l).interpreter ls

-- just the answers to these lines are written
abbrev pub HasSaid : AnswerStyle → Interpreter → List (List ℕ) → (old new : Option (List ℕ)) → Type 0
HasSaid style p ls old new = (text : List ℕ) × IsSaid style p ls text × Appends old new text

-- ---- the lines of a reader

-- where the reader tells its bytes: these lines were read of it, then this part of one; the others are still to be read
abbrev pub Parts : (script rest : Option (List ℕ)) → List (List ℕ) → List ℕ → Type 0
Parts None rest ls last = ⊤
Parts (Some script) None ls last = ⊥
Parts (Some script) (Some rest) ls last = lines script ≡ ls ++ lines (last ++ rest)

-- What went in and out of a shell, each text where it is known
pub record Exchange : Type 0 where
  -- how its answers are written
  pub style : AnswerStyle
  -- the interpreter before the first line
  pub first : Interpreter
  -- what was written before it, and what is written after it
  pub before : Option (List ℕ)
  pub after : Option (List ℕ)
  -- what its reader was to give, and what is left of it
  pub script : Option (List ℕ)
  pub rest : Option (List ℕ)

-- all lines of a reader are answered, of which so many are bad
abbrev pub Answers : Exchange → ℕ → Type 0
Answers x count =
    (ls : List (List ℕ)) × IfSome x.script (λ s. lines s ≡ ls) × HasSaid x.style x.first ls x.before x.after
    × (count ≡ bad_count x.first ls)

-- what is known of the answers to the lines before the one that was read when something stopped a shell
abbrev pub StopsWith : Exchange → List (List ℕ) → AppFault → Type 0
StopsWith x ls WriteFault = ⊤
StopsWith x ls NoMemory = HasSaid x.style x.first ls x.before x.after
StopsWith x ls ReadFault = HasSaid x.style x.first ls x.before x.after
StopsWith x ls TooLong = HasSaid x.style x.first ls x.before x.after × (2 ^ 64 ≤ length ls + 2)

-- all lines are answered before the one that was read, or a part of it, when something stopped a shell
abbrev pub Stops : Exchange → AppFault → Type 0
Stops x fault =
    (ls : List (List ℕ)) × (last : List ℕ) × StopsAt last 10 × Parts x.script x.rest ls last × StopsWith x ls fault

-- how a shell ends: all lines are answered, or something stopped it
abbrev pub AnswersOrStops : Exchange → Result ℕ AppFault → Type 0
AnswersOrStops x (Ok count) = Answers x count
AnswersOrStops x (Err fault) = Stops x fault
