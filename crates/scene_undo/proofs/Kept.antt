-- Records that were undone can be redone, and the other way round; and none of them asks for more room than there was.
use Rattle.std.proofs.Common.{◌≡◌, ℕ, ◌+◌, List, sym, subst}
use Rattle.scene_model.specs.World.{World}
use Rattle.scene_model.specs.Raw.{set_tick}
use Rattle.scene_model.specs.Valid.{IsValid}
use Rattle.scene_world.specs.Room.{Room, Holds, IsWider}
use Rattle.scene_deltas.specs.Ready.{AreReadyOn}
use Rattle.scene_journal.specs.Records.{Record, raised, redone, undone}
use Rattle.scene_deltas.specs.Deltas.{back_all}
use Rattle.scene_journal.proofs.Records.{raised_again, raised_valid, records_come_back}
use Rattle.scene_deltas.proofs.Lists.{may_more}
use Rattle.scene_journal.proofs.Recorded.{on_wider, ready_wider}
use Rattle.scene_deltas.proofs.Turns.{ready_turns, ready_returns, start_held, end_held}
use Rattle.scene_undo.specs.Kept.{CanUndo, CanRedo, CanUndoAll, CanRedoAll}

-- ---- wider room

module _ (room wider : Room) (wide : IsWider room wider) where
  pub one_undo_wider : (r : Record) (w : World) → CanUndo room r w → CanUndo wider r w
  one_undo_wider r w can = record { fits = can.fits; ready = ready_wider room wider r.deltas w wide can.ready }

  pub one_redo_wider : (r : Record) (w : World) → CanRedo room r w → CanRedo wider r w
  one_redo_wider r w can = record { fits = can.fits; ready = on_wider room wider r.deltas (raised w) wide can.ready }

pub undo_wider : (room wider : Room) (rs : List Record) (w : World) → IsWider room wider → CanUndoAll room rs w → CanUndoAll wider rs w
undo_wider room wider rs w wide = may_more (CanUndo room) undone (CanUndo wider) (one_undo_wider room wider wide) rs w

pub redo_wider : (room wider : Room) (rs : List Record) (w : World) → IsWider room wider → CanRedoAll room rs w → CanRedoAll wider rs w
redo_wider room wider rs w wide = may_more (CanRedo room) redone (CanRedo wider) (one_redo_wider room wider wide) rs w

-- the tick takes no room
held_tick : (room : Room) (w : World) (tick : ℕ) → Holds room w → Holds room (set_tick w tick)
held_tick room w tick h = record { slots = h.slots; rows = h.rows; links = h.links; names = h.names }

-- ---- one record

module _ (room : Room) (r : Record) (w : World) (valid : IsValid w) (held : Holds room w) where
  -- undone, it can be redone, which gives the world back
  pub undone_can : CanUndo room r w → CanRedo room r (undone r w)
  undone_can can =
      let law = (records_come_back r).1 in
      let turned = ready_turns room r.deltas w valid held can.ready in
      record { fits = law.can_come_back w valid can.fits; ready = subst (AreReadyOn room r.deltas) (sym (law_raised can)) turned }
    where
      -- the tick before the frame is raised to the one of the world without the deltas
      law_raised : (can : CanUndo room r w) → raised (undone r w) ≡ back_all r.deltas w
      law_raised can = raised_again r w valid can.fits

  pub undone_held : CanUndo room r w → Holds room (undone r w)
  undone_held can = held_tick room (back_all r.deltas w) r.tick_before (start_held room r.deltas w held can.ready)

  -- redone, it can be undone, which gives the world back
  pub redone_can : CanRedo room r w → CanUndo room r (redone r w)
  redone_can can = record {
    fits = (records_come_back r).0.can_come_back w valid can.fits;
    ready = ready_returns room r.deltas (raised w) (raised_valid r w valid can.fits) (held_tick room w (w.tick + 1) held) can.ready;
  }

  pub redone_held : CanRedo room r w → Holds room (redone r w)
  redone_held can = end_held room r.deltas (raised w) (held_tick room w (w.tick + 1) held) can.ready
