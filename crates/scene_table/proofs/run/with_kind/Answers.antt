use Rattle.std.proofs.Common.{◌∙◌, ap}
use Rattle.scene_kinds.specs.KindSet.{has_kind}
use Rattle.scene_table.proofs.ApartSteps.{kind_with}
use Rattle.scene_table.proofs.run.with_kind.Goals as goal

pub returns-then-kind-lt64 : goal.returns-then-kind-lt64
returns-then-kind-lt64 c k = ap (λ set. has_kind set k) c.set_with.ensures ∙ kind_with c.args.kinds c.args.kind k c.if-kind-lt64.true
