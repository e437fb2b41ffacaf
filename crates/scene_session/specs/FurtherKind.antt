-- A kind that is declared by an owner: no call, so the calls begin anew.
use Rattle.std.specs.Prelude.{ℕ, List, [], Ok, Err}
use Rattle.scene_kinds.specs.declared.shape.Shape.{Shape}
use Rattle.scene_kinds.specs.Answers.{Outcome}
use Rattle.scene_model.specs.World.{World}
use Rattle.scene_world.specs.FurtherKind.{declare}
use Rattle.scene_undo.specs.FurtherKind.{with_kind_throughout}
use Rattle.scene_session.specs.Owner.{OwnerState, machine_at, whole_at}
use Rattle.scene_session.specs.Whole.{Whole}

-- the machine of which each world has a further kind, with the same records
abbrev pub whole_with_kind : List ℕ → Shape → Whole → Whole
whole_with_kind name shape w = record w { machine = with_kind_throughout name shape w.machine }

-- an owner of it: what it is now, with the kind, is the opening
abbrev pub owner_with_kind : List ℕ → Shape → OwnerState → OwnerState
owner_with_kind name shape h = record h { opening = whole_with_kind name shape (whole_at h); history = [] }

-- the owner with the kind, or as it was where the world now refuses the kind
abbrev pub declared_owner : List ℕ → Shape → OwnerState → Outcome ℕ World → Outcome ℕ OwnerState
declared_owner name shape h (Ok p) = Ok (p.0, owner_with_kind name shape h)
declared_owner name shape h (Err r) = Err r

-- a declaration: the kind's number, and the owner with it
abbrev pub declare_owner : List ℕ → Shape → OwnerState → Outcome ℕ OwnerState
declare_owner name shape h = declared_owner name shape h (declare (machine_at h).now name shape)
