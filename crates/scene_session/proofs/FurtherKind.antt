-- An owner whose editor was refused a kind.
use Rattle.std.proofs.Common.{◌≡◌, ℕ, List, ap, sym, ◌∙◌}
use Rattle.std.specs.Prelude.{Err}
use Rattle.scene_kinds.specs.declared.refusal.Refusal.{Refusal}
use Rattle.scene_kinds.specs.declared.shape.Shape.{Shape}
use Rattle.scene_world.specs.FurtherKind.{declare}
use Rattle.scene_undo.specs.FurtherKind.{declare_throughout}
use Rattle.scene_undo.specs.Editor.{EditorState, machine_of}
use Rattle.scene_undo.proofs.FurtherKind.{refused_now}
use Rattle.scene_session.specs.FurtherKind.{declare_owner, declared_owner}
use Rattle.scene_session.specs.Owner.{OwnerState, whole_at}
use Rattle.scene_session.specs.Whole.{Whole, whole_of}

-- the machine's refusal is the owner's
pub owner_refused : (name : List ℕ) (shape : Shape) (h : OwnerState) (e : EditorState) → whole_of e ≡ whole_at h → (r : Refusal)
    → declare_throughout name shape (machine_of e) ≡ Err r → declare_owner name shape h ≡ Err r
owner_refused name shape h e is r g =
    ap (declared_owner name shape h)
    (ap (λ (w : Whole). declare w.machine.now name shape) (sym is) ∙ refused_now name shape (declare e.world name shape) (machine_of e) r g)
