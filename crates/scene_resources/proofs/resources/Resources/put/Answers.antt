use Rattle.std.proofs.Common.{subst, sym}
use Rattle.scene_resources.specs.Resources.{IsWider}
use Rattle.scene_resources.proofs.resources.Resources.put.Goals as goal

pub returns-clause-wide : goal.returns-clause-wide
returns-clause-wide c = subst (IsWider c.args.self.now.kept) (sym c.restore_reserved.ensures.kept) c.reserve.ensures.wide
