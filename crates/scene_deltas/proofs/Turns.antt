-- Deltas that were taken back can be made again without memory, and those that were made can be taken back.
use Rattle.std.proofs.Common.{◌≡◌, List, [], ◌∷◌, ap, sym, subst, ◌∙◌}
use Rattle.scene_model.specs.World.{World}
use Rattle.scene_model.specs.Valid.{IsValid}
use Rattle.scene_world.specs.Room.{Room, Holds}
use Rattle.scene_deltas.specs.declared.delta.Delta.{Delta}
use Rattle.scene_deltas.specs.Deltas.{fwd, back, FitsBack, fwd_all, back_all, AllFitBack, AllFitOn}
use Rattle.scene_deltas.specs.Ready.{AreReady, AreReadyOn}
use Rattle.scene_deltas.proofs.ComeBack.{deltas_come_back, delta_lists_come_back}

pub ready_fits_back : (room : Room) (ds : List Delta) (w : World) → AreReady room ds w → AllFitBack ds w
ready_fits_back room [] w h = tt
ready_fits_back room (d ∷ ds) w h = (ready_fits_back room ds w h.0, h.1.fits)

pub ready_fits_on : (room : Room) (ds : List Delta) (w : World) → AreReadyOn room ds w → AllFitOn ds w
ready_fits_on room [] w h = tt
ready_fits_on room (d ∷ ds) w h = (h.0.fits, ready_fits_on room ds (fwd d w) h.1)

-- the world before deltas that can be taken back is held
pub start_held : (room : Room) (ds : List Delta) (w : World) → Holds room w → AreReady room ds w → Holds room (back_all ds w)
start_held room [] w held h = held
start_held room (d ∷ ds) w held h = h.1.held

pub end_held : (room : Room) (ds : List Delta) (w : World) → Holds room w → AreReadyOn room ds w → Holds room (fwd_all ds w)
end_held room [] w held h = held
end_held room (d ∷ ds) w held h = end_held room ds (fwd d w) h.0.held h.1

pub ready_turns : (room : Room) (ds : List Delta) (w : World) → IsValid w → Holds room w → AreReady room ds w → AreReadyOn room ds (back_all ds w)
ready_turns room [] w valid held h = tt
ready_turns room (d ∷ ds) w valid held h =
    let u = back_all ds w in
    let sound : IsValid u = (delta_lists_come_back ds).1.keeps w valid (ready_fits_back room ds w h.0) in
    let again : fwd d (back d u) ≡ u = (deltas_come_back d).1.comes_back u sound h.1.fits in (
      record { fits = (deltas_come_back d).1.can_come_back u sound h.1.fits; held = subst (Holds room) (sym again) (start_held room ds w held h.0) },
      subst (AreReadyOn room ds) (sym again) (ready_turns room ds w valid held h.0),
    )

pub ready_returns : (room : Room) (ds : List Delta) (w : World) → IsValid w → Holds room w → AreReadyOn room ds w → AreReady room ds (fwd_all ds w)
ready_returns room [] w valid held h = tt
ready_returns room (d ∷ ds) w valid held h =
    let v = fwd d w in
    let sound : IsValid v = (deltas_come_back d).0.keeps w valid h.0.fits in
    let from : back_all ds (fwd_all ds v) ≡ v = (delta_lists_come_back ds).0.comes_back v sound (ready_fits_on room ds v h.1) in
    let gone : back d (back_all ds (fwd_all ds v)) ≡ w = ap (back d) from ∙ (deltas_come_back d).0.comes_back w valid h.0.fits in (
      ready_returns room ds v sound h.0.held h.1,
      record { fits = subst (FitsBack d) (sym from) ((deltas_come_back d).0.can_come_back w valid h.0.fits); held = subst (Holds room) (sym gone) held },
    )

-- for the search: what is ready fits
pub ruleset ready_fits = (ready_fits_on, ready_fits_back)
