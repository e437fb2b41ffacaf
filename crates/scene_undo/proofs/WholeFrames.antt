-- A frame that a recorder accepted, as a record: the deltas that it noted, and the way back.
use Rattle.std.proofs.Common.{◌≡◌, ℕ, ◌+◌, true, List, [], ◌∷◌, ◌++◌, take, refl, ap, sym, subst, ◌∙◌, Option, Some, None, Ok}
use Rattle.std.specs.Prelude.{Result, Err, IfOk, OnOk}
use Rattle.scene_kinds.specs.declared.entity.Entity.{Entity}
use Rattle.scene_kinds.specs.declared.refusal.Refusal.{Refusal}
use Rattle.scene_kinds.specs.Answers.{Outcome}
use Rattle.scene_model.specs.World.{World}
use Rattle.scene_model.specs.Can.{can_set_tick}
use Rattle.scene_model.specs.Commands.{and_then, raise_tick}
use Rattle.scene_machine.specs.Frame.{all_or_refused, framed, queues_from}
use Rattle.scene_machine.specs.Queue.{Request, play}
use Rattle.scene_model.specs.Raw.{set_tick}
use Rattle.scene_model.specs.Valid.{IsValid}
use Rattle.scene_model.proofs.Outcomes.{not_ok, same_world}
use Rattle.scene_model.proofs.PartCommands.{raise_sets_tick}
use Rattle.scene_model.proofs.ResourceBack.{ticks_come_back}
use Rattle.scene_world.specs.Room.{Room}
use Rattle.scene_world.specs.Stage.{Opening, Staged, Note, act}
use Rattle.scene_deltas.specs.declared.delta.Delta.{Delta}
use Rattle.scene_journal.specs.Frames.{after_queues, frame_record}
use Rattle.scene_deltas.specs.Notes.{deltas_of}
use Rattle.scene_deltas.specs.Ready.{AreReady}
use Rattle.scene_journal.specs.Records.{Record, record_of, raised, undone}
use Rattle.scene_journal.specs.Recorder.{Recording, began, opening_of, staged_of}
use Rattle.scene_deltas.specs.Deltas.{back_all}
use Rattle.scene_deltas.proofs.ComeBack.{back_all_keeps_tick}
use Rattle.scene_deltas.proofs.Turns.{ready_fits_back}
use Rattle.scene_undo.specs.declared.made.Made.{Made}
use Rattle.scene_undo.specs.Editor.{IsRecordOf}
use Rattle.scene_undo.specs.Kept.{CanUndo, CanUndoWhereReady}

-- ---- a frame that was accepted is the fold of its queues

rest_of : {S : Type 0} (q : ℕ) (s t : S) (es fs : List Entity) (r : Option (ℕ × Refusal)) (rest : List Entity → S → Outcome (List Entity) S)
    → and_then (all_or_refused q s es r) rest ≡ Ok (fs, t) → rest es s ≡ Ok (fs, t)
rest_of q s t es fs None rest h = h
rest_of q s t es fs (Some x) rest h = absurd (not_ok (fs, t) _ h)

others_of : {S : Type 0} (t : S) (es fs : List Entity) (o : Outcome (List Entity) S) → and_then o (λ gs u. Ok (es ++ gs, u)) ≡ Ok (fs, t)
    → (gs : List Entity) × (o ≡ Ok (gs, t))
others_of t es fs (Ok p) h = (p.0, λ i. Ok (p.0, (same_world (es ++ p.0) fs p.1 t h).1 i))
others_of t es fs (Err r) h = absurd (not_ok (fs, t) r h)

pub after_whole : {N : Type 0} (note : Note N) (q : ℕ) (rss : List (List Request)) (s t : Staged N) (es : List Entity)
    → queues_from (act note) q rss s ≡ Ok (es, t) → after_queues note rss s ≡ t
after_whole note q [] s t es h = (same_world [] es s t h).1
after_whole note q (rs ∷ rss) s t es h =
    let e = play (act note) rs s in
    let u = e.progress.state in
    let rest = rest_of q u t e.progress.spawned es e.refused (λ fs v. and_then (queues_from (act note) (q + 1) rss v) (λ gs w. Ok (fs ++ gs, w))) h in
    let others = others_of t e.progress.spawned es (queues_from (act note) (q + 1) rss u) rest in
    after_whole note (q + 1) rss u t others.0 others.1

-- ---- the frame of a world whose tick was raised

module _ (w u : World) (valid : IsValid w) (raises : raise_tick w ≡ Ok (tt, u)) where
  is_raised : u ≡ raised w
  is_raised = (raise_sets_tick w u valid raises).1

  can : (w.tick ≡ w.tick) × (can_set_tick w (w.tick + 1) ≡ true)
  can = (refl, (raise_sets_tick w u valid raises).0)

  -- the tick can be set back, which gives the world from before
  pub lowers : can_set_tick u w.tick ≡ true
  lowers = subst (λ x. can_set_tick x w.tick ≡ true) (sym is_raised) ((ticks_come_back w.tick (w.tick + 1)).can_come_back w valid can).1

  pub lowered : set_tick u w.tick ≡ w
  lowered = ap (λ x. set_tick x w.tick) is_raised ∙ (ticks_come_back w.tick (w.tick + 1)).comes_back w valid can

  -- what was noted on the way is what its record tells
  pub record_is : (plays : Staged Delta → Outcome (List Entity) (Staged Delta)) (es : List Entity) (v : World) (ds : List Delta)
      → plays (record { world = u; notes = [] }) ≡ Ok (es, record { world = v; notes = ds })
      → IsRecordOf plays w v es (record_of w.tick ds)
  record_is plays es v ds whole =
      record { tick = refl; noted = ap (λ x. plays (record { world = x; notes = [] })) (sym is_raised) ∙ whole }

  -- and it can be undone, which gives the world from before
  module _ (room : Room) (v : World) (ds : List Delta) (ready : AreReady room ds v) (back : back_all ds v ≡ u) where
    pub record_can : CanUndo room (record_of w.tick ds) v
    record_can = record {
      fits = record {
        tick = sym (back_all_keeps_tick ds v) ∙ ap (λ (x : World). x.tick) (back ∙ is_raised);
        deltas = ready_fits_back room ds v ready;
        timely = subst (λ x. can_set_tick x w.tick ≡ true) (sym back) lowers;
      };
      ready = ready;
    }

-- ---- a frame that a recorder recorded, from where it began

module _ (w : World) (u v : Recording) (valid : IsValid w) (raises : raise_tick w ≡ Ok (tt, u.world)) (fresh : u.frame ≡ record_of w.tick []) (way : began v ≡ began u) where
  starts : opening_of v ≡ u.world
  starts = ap (λ (o : Opening). o.world) way ∙ ap (λ (r : Record). back_all r.deltas u.world) fresh

  ticks : v.frame.tick_before ≡ w.tick
  ticks = ap (λ (o : Opening). o.tick) way ∙ ap (λ (r : Record). r.tick_before) fresh

  whole : v.frame ≡ record_of w.tick v.frame.deltas
  whole = λ i. record_of (ticks i) v.frame.deltas

  -- it can be taken back, which gives the world from before
  pub cancels : can_set_tick (opening_of v) v.frame.tick_before ≡ true
  cancels = (λ i. can_set_tick (starts i) (ticks i)) ∙ lowers w u.world valid raises

  cancelled : undone v.frame v.world ≡ w
  cancelled = ap (λ x. set_tick x v.frame.tick_before) starts ∙ ap (set_tick u.world) ticks ∙ lowered w u.world valid raises

  -- what was noted on the way is what its record tells, and it can be undone, which gives the world from before
  module _ (kept : Record) (x : World) (is : kept ≡ v.frame) (same : x ≡ v.world) where
    pub kept_is : (plays : Staged Delta → Outcome (List Entity) (Staged Delta)) (es : List Entity)
        → plays (staged_of u) ≡ Ok (es, staged_of v) → IsRecordOf plays w x es kept
    kept_is plays es played = record {
      tick = ap (λ (r : Record). r.tick_before) is ∙ ticks;
      noted =
          ap (λ y. plays (record { world = y; notes = [] })) (sym (is_raised w u.world valid raises))
          ∙ ap (λ (r : Record). plays (record { world = u.world; notes = r.deltas })) (sym fresh)
          ∙ played
          ∙ (λ i. Ok (es, record { world = sym same i; notes = (sym is i).deltas }));
    }

    pub kept_can : (room : Room) → AreReady room kept.deltas x → CanUndo room kept x
    kept_can room ready = subst (λ r. CanUndo room r x) (sym (is ∙ whole))
        (record_can w u.world valid raises room x v.frame.deltas (subst (λ (r : Record). AreReady room r.deltas x) is ready)
        (ap (back_all v.frame.deltas) same ∙ starts))

    pub kept_undoes : undone kept x ≡ w
    kept_undoes = ap (λ r. undone r x) is ∙ ap (undone v.frame) same ∙ cancelled

-- what the frame of a world comes to where its tick was raised
module _ (does : World → Outcome (List Entity) World) (w u : World) (raises : raise_tick w ≡ Ok (tt, u)) where
  pub done_with : (es : List Entity) (v x : World) → x ≡ v → does u ≡ Ok (es, v) → framed does w ≡ Ok (es, x)
  done_with es v x same done = ap (λ o. and_then o (λ _ y. does y)) raises ∙ done ∙ (λ i. Ok (es, sym same i))

-- ---- what a recorder had noted, once it is handed out with its world

module _ (v f : Recording) (kept : Record) (is : kept ≡ v.frame) (same : f.world ≡ v.world) where
  out : (P : Record → World → Type 0) → P v.frame v.world → P kept f.world
  out P h = subst (P kept) (sym same) (subst (λ r. P r v.world) (sym is) h)

  pub out_can : CanUndoWhereReady v.frame v.world → AreReady f.room kept.deltas f.world → CanUndo f.room kept f.world
  out_can can ready =
      let there = subst (AreReady f.room v.frame.deltas) same (subst (λ (r : Record). AreReady f.room r.deltas f.world) is ready) in
      out (CanUndo f.room) (can f.room there)

  pub out_back : (w : World) → undone v.frame v.world ≡ w → undone kept f.world ≡ w
  out_back w back = (λ i. undone (is i) (same i)) ∙ back

  pub out_noted : (plays : Staged Delta → Outcome (List Entity) (Staged Delta)) (w : World) (es : List Entity)
      → IsRecordOf plays w v.world es v.frame → IsRecordOf plays w f.world es kept
  out_noted plays w es = out (λ r x. IsRecordOf plays w x es r)

-- ---- the record of a frame of queues

pub record_of_queues : (queues : List (List Request)) (w v : World) (es : List Entity) (r : Record)
    → IsRecordOf (queues_from (act deltas_of) 0 queues) w v es r → r ≡ frame_record queues w
record_of_queues queues w v es r is =
    (λ i. record_of (is.tick i) r.deltas)
    ∙ ap (record_of w.tick) (sym (ap (λ (s : Staged Delta). s.notes)
    (after_whole deltas_of 0 queues (record { world = raised w; notes = [] }) (record { world = v; notes = r.deltas }) es is.noted)))

-- and where it comes first in the past, so does the frame's
pub record_kept : (queues : List (List Request)) (w v : World) (depth : ℕ) (new_past old_past new_future : List Record) (result : Result Made Refusal)
    → IfOk result (λ m. (r : Record) × (IsRecordOf (queues_from (act deltas_of) 0 queues) w v m.entities.items r
    × ((new_past ≡ take depth (r ∷ old_past)) × (new_future ≡ []))))
    → OnOk result ((new_past ≡ take depth (frame_record queues w ∷ old_past)) × (new_future ≡ []))
record_kept queues w v depth new_past old_past new_future (Ok m) h =
    (h.1.1.0 ∙ ap (λ r. take depth (r ∷ old_past)) (record_of_queues queues w v m.entities.items h.0 h.1.0), h.1.1.1)
record_kept queues w v depth new_past old_past new_future (Err r) h = tt
