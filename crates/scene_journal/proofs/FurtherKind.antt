-- Records under a further kind: each leads to the world with it, and where one fits, it still does.
use Rattle.std.proofs.Common.{◌≡◌, ℕ, true, List, ap, sym, subst}
use Rattle.scene_kinds.specs.declared.shape.Shape.{Shape}
use Rattle.scene_model.specs.World.{World}
use Rattle.scene_model.specs.Can.{can_set_tick}
use Rattle.scene_model.specs.Raw.{set_tick}
use Rattle.scene_world.specs.FurtherKind.{with_kind_in}
use Rattle.scene_deltas.proofs.FurtherKind.{all_fit_back_also, all_fit_on_also, back_all_also, fwd_all_also}
use Rattle.scene_journal.specs.Records.{Record, RecordFitsBack, RecordFitsOn, raised, redone, undone}

module _ (name : List ℕ) (shape : Shape) where
  abbrev also : World → World
  also w = with_kind_in name shape w

  pub redone_also : (r : Record) (w : World) → redone r (also w) ≡ also (redone r w)
  redone_also r w = fwd_all_also name shape r.deltas (raised w)

  pub undone_also : (r : Record) (w : World) → undone r (also w) ≡ also (undone r w)
  undone_also r w = ap (λ v. set_tick v r.tick_before) (back_all_also name shape r.deltas w)

  pub record_fits_on_also : (r : Record) (w : World) → RecordFitsOn r w → RecordFitsOn r (also w)
  record_fits_on_also r w fits = record { tick = fits.tick; low = fits.low; deltas = all_fit_on_also name shape r.deltas (raised w) fits.deltas }

  pub record_fits_back_also : (r : Record) (w : World) → RecordFitsBack r w → RecordFitsBack r (also w)
  record_fits_back_also r w fits = record {
    tick = fits.tick;
    deltas = all_fit_back_also name shape r.deltas w fits.deltas;
    timely = subst (λ v. can_set_tick v r.tick_before ≡ true) (sym (back_all_also name shape r.deltas w)) fits.timely;
  }
