use Rattle.std.proofs.Common.{refl, sym, ◌∙◌}
use Rattle.scene_kept_lines.proofs.Scans.{scanned_if, scanned_other}
use Rattle.scene_kept_lines.proofs.checkpoints.Scan.step.Goals as goal

pub returns-then-is_some-clause-scanned : goal.returns-then-is_some-clause-scanned
returns-then-is_some-clause-scanned c = λ all so.
    scanned_if all c.args.self.now _ c.first_line.result.0.now c.unmarked.result (sym c.is_some.ensures ∙ c.if-is_some.true) c.unmarked.ensures so
    c.first_line.ensures.first refl refl refl

pub returns-in-Some-clause-scanned : goal.returns-in-Some-clause-scanned
returns-in-Some-clause-scanned c = λ all so.
    scanned_other all c.args.self.now _ c.first_line.result.0.now so c.first_line.ensures.first refl refl refl

pub returns-in-None-clause-scanned : goal.returns-in-None-clause-scanned
returns-in-None-clause-scanned c = λ all so.
    scanned_other all c.args.self.now _ c.first_line.result.0.now so c.first_line.ensures.first refl refl refl
