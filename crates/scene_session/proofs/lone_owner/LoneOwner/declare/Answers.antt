use Rattle.std.proofs.Common.{ap, string_bytes, ◌∙◌}
use Rattle.scene_session.specs.Owner.{OwnerState, whole_at}
use Rattle.scene_session.proofs.FurtherKind.{owner_refused}
use Rattle.scene_session.proofs.lone_owner.LoneOwner.declare.Goals as goal

pub returns-in-Err : goal.returns-in-Err
returns-in-Err c = (
  c.self.view_is,
  λ other. owner_refused (string_bytes c.args.name) c.args.shape c.args.self.now c.self.inside.editor
      (c.self.invariant.0 ∙ ap (λ (h : OwnerState). whole_at h) c.self.view_is) c.in-Err.refusal (c.in-Err.ensures.machine.1 other),
)
