use Rattle.std.proofs.Common.{All, refl, subst, sym, arith}
use Rattle.std.proofs.lemmas.List.Elements.{All-nil}
use Rattle.std.specs.Str.Lines.{lines}
use Rattle.scene_kept_lines.specs.Scans.{IsFound}
use Rattle.scene_kept_lines.proofs.Scans.{scanned_none}
use Rattle.scene_kept_lines.proofs.checkpoints.checkpoints_in.Goals as goal

pub lines-init : goal.lines-init
lines-init c = (
  subst (All (IsFound (lines c.args.text.now))) (sym c.new-found.ensures.items) (All-nil (IsFound (lines c.args.text.now))),
  scanned_none (record { run = c.args.text; count = 0; number = 0; rest = c.args.text }) refl refl refl,
  omega arith,
  omega arith,
)
