use Rattle.std.proofs.Common.{◌∷◌, Some, ap, ◌∙◌}
use Rattle.atomic_table.specs.Table.{rest}
use Rattle.scene_lock.proofs.lock.WordLock.fill.Goals as goal

pub returns-clause-carries : goal.returns-clause-carries
returns-clause-carries g c = let s = c.args.state in
    ap (λ m. m.1) c.exchange-old.ensures.3 ∙ ap (λ l. (0, Some s) ∷ rest l) c.holder.invariant.1
