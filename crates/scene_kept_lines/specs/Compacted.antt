-- Fewer lines that lead to the same scene.
use Rattle.std.specs.Prelude.{◌≡◌, ⊤, ℕ, List, false}
use Rattle.std.specs.Str.Lines.{lines}
use Rattle.scene_session.specs.Whole.{Whole}
use Rattle.scene_session.specs.Owner.{whole_at}
use Rattle.scene_interpreter.specs.Changes.{frame_is_open}
use Rattle.scene_interpreter.specs.Interpreter.{Interpreter, owner_of, interpreter_kinds, systems_of}
use Rattle.scene_shell.specs.Shell.{interpreter_after}
use Rattle.scene_kept_lines.specs.Replayed.{NamesFirst, NoneIsBad}
use Rattle.scene_kept_lines.specs.declared.line_fault.CompactFault.{CompactFault}
use Rattle.scene_kept_lines.specs.declared.line_fault.CompactFault.TheVariants.{Lines}

-- a machine with its records, as if nothing had been undone so far
abbrev pub unrewound : Whole → Whole
unrewound w = record w { machine = record w.machine { rewinds = 0 } }

-- Two interpreters agree in all but the calls so far, the count of rewinds and the cursor: in the world, the past and
-- the future with their records and the depth; in the kinds, the systems, whose turn it is and how many calls there may
-- be. No frame is open.
pub record Agrees (p q : Interpreter) : Type 0 where
  pub machine : unrewound (whole_at (owner_of p)) ≡ unrewound (whole_at (owner_of q))
  pub kinds : interpreter_kinds p ≡ interpreter_kinds q
  pub systems : systems_of p ≡ systems_of q
  pub session : (owner_of p).session ≡ (owner_of q).session
  pub calls : (owner_of p).limit ≡ (owner_of q).limit
  pub first_closed : frame_is_open p ≡ false
  pub second_closed : frame_is_open q ≡ false

-- none of the lines is bad, and they lead from a first interpreter to one with which this one agrees
abbrev pub LeadTo : (first : Interpreter) → List (List ℕ) → Interpreter → Type 0
LeadTo first ls p = NoneIsBad first ls × Agrees p (interpreter_after first ls)

-- lines may stand in the place of those of a text, which are played from a first interpreter on
abbrev pub IsCompacted : (first : Interpreter) → List ℕ → (again : Interpreter) → List ℕ → Type 0
IsCompacted first text again fewer = LeadTo again (lines fewer) (interpreter_after first (lines text))

-- where a fault names a bad line, that is the first one
abbrev pub IsLineFault : Interpreter → List (List ℕ) → CompactFault → Type 0
IsLineFault first ls (Lines fault) = NamesFirst first ls fault
IsLineFault first ls fault = ⊤

-- two interpreters agree, but that nothing is said of the machine
abbrev pub AgreesBesides : Interpreter → Interpreter → Type 0
AgreesBesides p q = unrewound (whole_at (owner_of p)) ≡ unrewound (whole_at (owner_of q)) → Agrees p q

-- a fault that has nothing to do with a line
abbrev pub IsOfNoLine : CompactFault → Type 0
IsOfNoLine (Lines fault) = ⊥
IsOfNoLine fault = ⊤
