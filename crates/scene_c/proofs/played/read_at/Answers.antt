use Rattle.std.proofs.Common.{Some, refl}
use Rattle.scene_c.proofs.played.read_at.Goals as goal

pub returns-in-Err : goal.returns-in-Err
returns-in-Err c = record {
  came = Some c.in-Err.halt;
  shown = (c.in-Err.ensures.undone, c.halt_code.ensures, refl, c.in-Err.ensures.kept, c.in-Err.ensures.halted);
  cells = c.in-Err.ensures.cells;
}
