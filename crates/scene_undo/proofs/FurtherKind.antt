-- An editor in whose world a kind was declared: its records can be undone and redone as before, and lead to the worlds of
-- before with the kind.
use Rattle.std.proofs.Common.{◌≡◌, ℕ, List, [], ◌∷◌, refl, ap, sym, subst, ◌∙◌, Ok, map}
use Rattle.std.specs.Prelude.{Result, Err, OnErr, OnOk}
use Rattle.scene_kinds.specs.declared.refusal.Refusal.{Refusal}
use Rattle.scene_kinds.specs.declared.shape.Shape.{Shape}
use Rattle.scene_kinds.specs.Answers.{Answers, Outcome}
use Rattle.scene_machine.specs.Machine.{Machine}
use Rattle.scene_model.specs.World.{World}
use Rattle.scene_model.proofs.Outcomes.{not_ok, same_world}
use Rattle.scene_world.specs.FurtherKind.{declare, with_kind_in}
use Rattle.scene_world.specs.Room.{Room}
use Rattle.scene_world.proofs.FurtherKind.{declared_is}
use Rattle.scene_deltas.proofs.FurtherKind.{are_ready_also, are_ready_on_also, may_other}
use Rattle.scene_journal.specs.Records.{Record, raised, redone, undone}
use Rattle.scene_journal.proofs.FurtherKind.{record_fits_back_also, record_fits_on_also, redone_also, undone_also}
use Rattle.scene_undo.specs.FurtherKind.{declare_throughout, declared_throughout, with_kind_now, with_kind_throughout}
use Rattle.scene_undo.specs.Editor.{EditorState, machine_of, worlds_along}
use Rattle.scene_undo.specs.Kept.{CanRedo, CanRedoAll, CanUndo, CanUndoAll}

-- the editor with another world
abbrev pub in_world : EditorState → World → EditorState
in_world s w = record s { world = w }

module _ (name : List ℕ) (shape : Shape) where
  abbrev also : World → World
  also w = with_kind_in name shape w

  -- ---- what can be undone and redone

  undo_also : (room : Room) (r : Record) (w : World) → CanUndo room r w → CanUndo room r (also w)
  undo_also room r w can = record { fits = record_fits_back_also name shape r w can.fits; ready = are_ready_also name shape room r.deltas w can.ready }

  redo_also : (room : Room) (r : Record) (w : World) → CanRedo room r w → CanRedo room r (also w)
  redo_also room r w can = record { fits = record_fits_on_also name shape r w can.fits; ready = are_ready_on_also name shape room r.deltas (raised w) can.ready }

  both_also : (room : Room) (past future : List Record) (w : World) → CanUndoAll room past w × CanRedoAll room future w
      → CanUndoAll room past (also w) × CanRedoAll room future (also w)
  both_also room past future w both = (
    may_other also undone (undone_also name shape) (CanUndo room) (undo_also room) past w both.0,
    may_other also redone (redone_also name shape) (CanRedo room) (redo_also room) future w both.1,
  )

  -- ---- the worlds of the machine

  worlds_also : (step : Record → World → World) → ((r : Record) (w : World) → step r (also w) ≡ also (step r w)) → (rs : List Record) (w : World)
      → worlds_along step rs (also w) ≡ map also (worlds_along step rs w)
  worlds_also step same [] w = refl
  worlds_also step same (r ∷ rs) w =
      ap (λ v. v ∷ worlds_along step rs v) (same r w) ∙ ap (λ ws. also (step r w) ∷ ws) (worlds_also step same rs (step r w))

  pub machine_also : (s : EditorState) → machine_of (with_kind_now name shape s) ≡ with_kind_throughout name shape (machine_of s)
  machine_also s = λ i. record {
    past = worlds_also undone (undone_also name shape) s.past s.world i;
    now = also s.world;
    future = worlds_also redone (redone_also name shape) s.future s.world i;
    rewinds = s.rewinds;
    depth = s.depth;
  }

  -- ---- after a call, by what it answered

  pub declared_can : (result : Result ℕ Refusal) (room : Room) (past future : List Record) (old new : World) → Answers result old new (declare old name shape)
      → CanUndoAll room past old × CanRedoAll room future old → CanUndoAll room past new × CanRedoAll room future new
  declared_can (Ok kind) room past future old new h both =
      subst (λ w. CanUndoAll room past w × CanRedoAll room future w) (sym (declared_is old new name shape kind h)) (both_also room past future old both)
  declared_can (Err r) room past future old new h both = subst (λ w. CanUndoAll room past w × CanRedoAll room future w) (sym h.0) both

  pub machine_declared : (result : Result ℕ Refusal) (s : EditorState) (new : World) → Answers result s.world new (declare s.world name shape)
      → Answers result (machine_of s) (machine_of (in_world s new)) (declare_throughout name shape (machine_of s))
  machine_declared (Ok kind) s new h =
      ap (declared_throughout name shape (machine_of s)) h
      ∙ ap (λ m. Ok (kind, m)) (sym (machine_also s) ∙ ap (λ w. machine_of (in_world s w)) (sym (declared_is s.world new name shape kind h)))
  machine_declared (Err r) s new h = (ap (λ w. machine_of (in_world s w)) h.0, λ other. ap (declared_throughout name shape (machine_of s)) (h.1 other))

  pub records_declared : (result : Result ℕ Refusal) (s : EditorState) (new : World) → Answers result s.world new (declare s.world name shape)
      → OnOk result (in_world s new ≡ with_kind_now name shape s)
  records_declared (Ok kind) s new h = ap (in_world s) (declared_is s.world new name shape kind h)
  records_declared (Err r) s new h = tt

  pub same_refused : (result : Result ℕ Refusal) (s : EditorState) (new : World) → Answers result s.world new (declare s.world name shape)
      → OnErr result (in_world s new ≡ s)
  same_refused (Ok kind) s new h = tt
  same_refused (Err r) s new h = ap (in_world s) h.0

  -- ---- what the machine's answer says of the world's

  pub accepted_now : (o : Outcome ℕ World) (m n : Machine World) (kind : ℕ) → declared_throughout name shape m o ≡ Ok (kind, n) → (v : World) × (o ≡ Ok (kind, v))
  accepted_now (Ok p) m n kind g = (p.1, ap (λ k. Ok (k, p.1)) (same_world p.0 kind (with_kind_throughout name shape m) n g).0)
  accepted_now (Err r) m n kind g = absurd (not_ok _ _ g)

  pub refused_now : (o : Outcome ℕ World) (m : Machine World) (r : Refusal) → declared_throughout name shape m o ≡ Err r → o ≡ Err r
  refused_now (Ok p) m r g = absurd (not_ok _ _ (sym g))
  refused_now (Err q) m r g = cc
