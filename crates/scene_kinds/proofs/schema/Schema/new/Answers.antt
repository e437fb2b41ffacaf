use Rattle.std.proofs.Common.{ap, sym, subst}
use Rattle.scene_kinds.specs.Schema.{IsSchema, named}
use Rattle.scene_kinds.proofs.Schemas.{IsSchema-nil}
use Rattle.scene_kinds.proofs.schema.Schema.new.Goals as goal

pub invariant_of-result : goal.invariant_of-result
invariant_of-result c = subst IsSchema (sym (ap named c.new.ensures.empty)) IsSchema-nil
