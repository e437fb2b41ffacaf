-- A kind that is declared in the setup, or behind it.
use Rattle.std.proofs.Common.{◌≡◌, ℕ, List, Ok, ap, sym, ◌∙◌}
use Rattle.std.specs.Prelude.{Err, OnErr, OnOk, Result}
use Rattle.scene_kinds.specs.declared.refusal.Refusal.{Refusal}
use Rattle.scene_kinds.specs.declared.shape.Shape.{Shape}
use Rattle.scene_kinds.specs.Answers.{Answers, Outcome}
use Rattle.scene_kinds.specs.Schema.{Kinds, with_kind}
use Rattle.scene_model.specs.World.{World}
use Rattle.scene_model.proofs.Outcomes.{not_ok, same_world}
use Rattle.scene_world.specs.FurtherKind.{declare, with_kind_in, with_schema_of}
use Rattle.scene_world.proofs.FurtherKind.{declared_is}
use Rattle.scene_undo.specs.Editor.{EditorState, machine_of}
use Rattle.scene_undo.specs.FurtherKind.{declare_throughout, with_kind_now}
use Rattle.scene_undo.proofs.FurtherKind.{accepted_now, refused_now}
use Rattle.scene_session.specs.FurtherKind.{declare_owner, declared_owner, owner_with_kind}
use Rattle.scene_session.specs.Owner.{OwnerState, machine_at}
use Rattle.scene_interpreter.specs.FurtherKind.{declare_base, declare_in, declare_state, kinds_declared, loaded_declared, play_declared, playing_declared, set_declared}
use Rattle.scene_interpreter.specs.Interpreter.{Playing, Setting}
use Rattle.scene_interpreter.specs.Play.{Base, Declared, Loaded, PlayState, SetupState, with_base}

-- the schema's answer is that of the setup with these kinds
pub kinds_answer : (result : Result ℕ Refusal) (old new : Kinds) (limit : ℕ) (name : List ℕ) (shape : Shape) → Answers result old new (with_kind old name shape)
    → Answers result (Declared old limit) (Declared new limit) (declare_base name shape (Declared old limit))
kinds_answer (Ok kind) old new limit name shape h = ap (kinds_declared limit) h
kinds_answer (Err r) old new limit name shape h = (ap (λ kinds. Declared kinds limit) h.0, λ other. ap (kinds_declared limit) (h.1 other))

-- the editor's answer is that of the setup that loaded it
pub loaded_answer : (result : Result ℕ Refusal) (old new : EditorState) (name : List ℕ) (shape : Shape)
    → Answers result (machine_of old) (machine_of new) (declare_throughout name shape (machine_of old)) → OnOk result (new ≡ with_kind_now name shape old) → OnErr result (new ≡ old)
    → Answers result (Loaded old) (Loaded new) (declare_base name shape (Loaded old))
loaded_answer (Ok kind) old new name shape h made same =
    ap (loaded_declared name shape old) (accepted_now name shape (declare old.world name shape) (machine_of old) (machine_of new) kind h).1 ∙ ap (λ e. Ok (kind, Loaded e)) (sym made)
loaded_answer (Err r) old new name shape h made same =
    (ap Loaded same, λ other. ap (loaded_declared name shape old) (refused_now name shape (declare old.world name shape) (machine_of old) r (h.1 other)))

-- and that of the interpreter in its setup
pub set_answer : (result : Result ℕ Refusal) (s : SetupState) (new : Base) (name : List ℕ) (shape : Shape) → Answers result s.base new (declare_base name shape s.base)
    → Answers result (Setting s) (Setting (with_base s new)) (declare_in name shape (Setting s))
set_answer (Ok kind) s new name shape h = ap (set_declared s) h
set_answer (Err r) s new name shape h = (ap (λ base. Setting (with_base s base)) h.0, λ other. ap (set_declared s) (h.1 other))

-- ---- behind the setup

-- an owner that declared a kind is the one with it
owner_is : (h new : OwnerState) (name : List ℕ) (shape : Shape) (kind : ℕ) → declare_owner name shape h ≡ Ok (kind, new) → new ≡ owner_with_kind name shape h
owner_is h new name shape kind is = by_outcome (declare (machine_at h).now name shape) is
  where
    by_outcome : (o : Outcome ℕ World) → declared_owner name shape h o ≡ Ok (kind, new) → new ≡ owner_with_kind name shape h
    by_outcome (Ok p) g = sym (same_world p.0 kind (owner_with_kind name shape h) new g).1
    by_outcome (Err r) g = absurd (not_ok _ _ g)

-- the state with the owner that declared the kind, and with a copy of its kinds to which the kind was added
pub state_declared : (s : PlayState) (h : OwnerState) (kinds schema : Kinds) (name : List ℕ) (shape : Shape) (kind first : ℕ) → kinds ≡ (machine_at s.owner).now.schema
    → with_kind kinds name shape ≡ Ok (first, schema) → declare_owner name shape s.owner ≡ Ok (kind, h)
    → declare_state name shape s ≡ Ok (kind, record s { owner = h; schema = schema })
state_declared s h kinds schema name shape kind first same added done =
    let w = (machine_at s.owner).now in
    let here : with_kind w.schema name shape ≡ Ok (first, schema) = ap (λ ks. with_kind ks name shape) (sym same) ∙ added in
    let last : record w { schema = schema } ≡ with_kind_in name shape w = declared_is w (record w { schema = schema }) name shape first (ap (with_schema_of w) here) in
    let known : (machine_at h).now.schema ≡ schema =
    ap (λ (x : OwnerState). (machine_at x).now.schema) (owner_is s.owner h name shape kind done) ∙ sym (ap (λ (v : World). v.schema) last) in
    ap (play_declared s) done ∙ (λ i. Ok (kind, record s { owner = h; schema = known i }))

-- the kinds refuse what the owner would
pub state_refused : (s : PlayState) (kinds : Kinds) (name : List ℕ) (shape : Shape) (r : Refusal) → kinds ≡ (machine_at s.owner).now.schema
    → with_kind kinds name shape ≡ Err r → declare_state name shape s ≡ Err r
state_refused s kinds name shape r same refused =
    ap (λ o. play_declared s (declared_owner name shape s.owner (with_schema_of (machine_at s.owner).now o))) (ap (λ ks. with_kind ks name shape) (sym same) ∙ refused)

-- the state's answer is the interpreter's
pub play_answer : (result : Result ℕ Refusal) (s t : PlayState) (name : List ℕ) (shape : Shape) → Answers result s t (declare_state name shape s)
    → Answers result (Playing s) (Playing t) (declare_in name shape (Playing s))
play_answer (Ok kind) s t name shape h = ap playing_declared h
play_answer (Err r) s t name shape h = (ap Playing h.0, λ other. ap playing_declared (h.1 other))
