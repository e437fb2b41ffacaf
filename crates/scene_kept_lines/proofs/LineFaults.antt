-- Faults that name a line.
use Rattle.std.proofs.Common.{ℕ, List}
use Rattle.scene_interpreter.specs.Interpreter.{Interpreter}
use Rattle.scene_kept_lines.specs.declared.line_fault.CompactFault.{CompactFault}
use Rattle.scene_kept_lines.specs.declared.line_fault.CompactFault.TheVariants.{Differs, FrameOpen, Lines, NoMemory as ScenesMemory, OverMost, TooLong}
use Rattle.scene_kept_lines.specs.declared.line_fault.KeptLineFault.{KeptLineFault}
use Rattle.scene_kept_lines.specs.declared.line_fault.KeptLineFault.TheVariants.{Bad, Halted, NoMemory, Unwritten}
use Rattle.scene_kept_lines.specs.Compacted.{IsLineFault, IsOfNoLine}
use Rattle.scene_kept_lines.specs.Replayed.{NamesFirst, StopsBy}

-- what stopped the lines
pub names_first : (first left : Interpreter) (ls : List (List ℕ)) (fault : KeptLineFault) → StopsBy first left ls fault → NamesFirst first ls fault
names_first first left ls (Bad number reason) so =
    record { front = so.front; line = so.line; back = so.back; parted = so.parted; counted = so.counted; good = so.good; holds = so.holds.0 }
names_first first left ls (Halted number halt) so = tt
names_first first left ls NoMemory so = tt
names_first first left ls Unwritten so = tt

-- another fault names none
pub no_line_fault : (first : Interpreter) (ls : List (List ℕ)) (fault : CompactFault) → IsOfNoLine fault → IsLineFault first ls fault
no_line_fault first ls (Lines fault) none = absurd none
no_line_fault first ls ScenesMemory none = tt
no_line_fault first ls TooLong none = tt
no_line_fault first ls (OverMost most) none = tt
no_line_fault first ls FrameOpen none = tt
no_line_fault first ls Differs none = tt
