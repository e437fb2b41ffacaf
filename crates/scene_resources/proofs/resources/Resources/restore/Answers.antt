use Rattle.std.proofs.Common.{subst, sym}
use Rattle.scene_resources.specs.Resources.{StoredResources, IsWider}
use Rattle.scene_resources.proofs.resources.Resources.restore.Goals.{then-is_some+in_ok-reserve, else-is_some}
use Rattle.scene_resources.proofs.resources.Resources.restore.Goals as goal

pub returns-clause-wide : goal.returns-clause-wide
returns-clause-wide c =
    let old = c.args.self.now.kept in
    let wide : IsWider old c.if-is_some.self.kept = elim c.if-is_some.branch [
      | then-is_some+in_ok-reserve w ↦ subst (λ (s : StoredResources). IsWider old s.kept) (sym w.self-is) w.reserve.ensures.wide
      | else-is_some w ↦ subst (λ (s : StoredResources). IsWider old s.kept) (sym w.self-is) (record { each = λ name h. h })
    ] in
    subst (IsWider old) (sym c.restore_reserved-old.ensures.kept) wide
