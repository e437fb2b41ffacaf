-- Records take each other's direction back.
use Rattle.std.proofs.Common.{◌≡◌, ◌+◌, ◌<◌, true, false, refl, ap, subst, sym, ◌∙◌, arith, Ok, nat_eq, if◌then◌else◌}
use Rattle.std.proofs.lemmas.Bool.Decides.{nat_tests}
use Rattle.scene_kinds.specs.declared.fault.Fault.TheVariants.{TickFull}
use Rattle.scene_kinds.specs.Answers.{refuse}
use Rattle.scene_model.specs.World.{World}
use Rattle.scene_model.specs.Commands.{highest_tick, raise_tick}
use Rattle.scene_model.specs.Raw.{set_tick}
use Rattle.scene_model.specs.Can.{can_set_tick}
use Rattle.scene_model.specs.Valid.{IsValid}
use Rattle.scene_model.proofs.PartCommands.{raise_sets_tick}
use Rattle.scene_model.proofs.ResourceBack.{ticks_come_back}
use Rattle.scene_journal.specs.Records.{Record, raised, redone, undone, RecordFitsOn, RecordFitsBack}
use Rattle.scene_deltas.specs.Deltas.{fwd_all, back_all, AllFitOn}
use Rattle.scene_journal.specs.Laws.{RecordsComeBack}
use Rattle.scene_deltas.proofs.ComeBack.{delta_lists_come_back, fwd_all_keeps_tick, back_all_keeps_tick}

-- a tick that can be raised
pub raises : (w : World) → w.tick < highest_tick → raise_tick w ≡ Ok (tt, raised w)
raises w low =
    let apart : nat_eq w.tick highest_tick ≡ false = grind (arith, nat_tests) in
    ap (λ b. if b then refuse TickFull else Ok (tt, raised w)) apart

pub can_raise : (w : World) → IsValid w → w.tick < highest_tick → can_set_tick w (w.tick + 1) ≡ true
can_raise w v low = (raise_sets_tick w (raised w) v (raises w low)).0

-- ---- redone, and undone again

module _ (r : Record) (w : World) (v : IsValid w) (fits : RecordFitsOn r w) where
  can_tick : (w.tick ≡ w.tick) × (can_set_tick w (w.tick + 1) ≡ true)
  can_tick = (refl, can_raise w v fits.low)

  pub raised_valid : IsValid (raised w)
  raised_valid = (ticks_come_back w.tick (w.tick + 1)).keeps w v can_tick

  redone_valid : IsValid (redone r w)
  redone_valid = (delta_lists_come_back r.deltas).0.keeps (raised w) raised_valid fits.deltas

  deltas_back : back_all r.deltas (redone r w) ≡ raised w
  deltas_back = (delta_lists_come_back r.deltas).0.comes_back (raised w) raised_valid fits.deltas

  redone_fits_back : RecordFitsBack r (redone r w)
  redone_fits_back = record {
    tick = fwd_all_keeps_tick r.deltas (raised w) ∙ ap (λ n. n + 1) fits.tick;
    deltas = (delta_lists_come_back r.deltas).0.can_come_back (raised w) raised_valid fits.deltas;
    timely = subst (λ u. can_set_tick u r.tick_before ≡ true) (sym deltas_back) (subst (λ t. can_set_tick (raised w) t ≡ true) fits.tick ((ticks_come_back w.tick (w.tick + 1)).can_come_back w v can_tick).1);
  }

  redone_comes_back : undone r (redone r w) ≡ w
  redone_comes_back =
      ap (λ u. set_tick u r.tick_before) deltas_back
      ∙ ap (set_tick (raised w)) (sym fits.tick)
      ∙ (ticks_come_back w.tick (w.tick + 1)).comes_back w v can_tick

-- ---- undone, and redone again

module _ (r : Record) (w : World) (v : IsValid w) (fits : RecordFitsBack r w) where
  abbrev bare : World
  bare = back_all r.deltas w

  bare_valid : IsValid bare
  bare_valid = (delta_lists_come_back r.deltas).1.keeps w v fits.deltas

  can_lower : (bare.tick ≡ r.tick_before + 1) × (can_set_tick bare r.tick_before ≡ true)
  can_lower = (back_all_keeps_tick r.deltas w ∙ fits.tick, fits.timely)

  undone_valid : IsValid (undone r w)
  undone_valid = (ticks_come_back (r.tick_before + 1) r.tick_before).keeps bare bare_valid can_lower

  pub raised_again : raised (undone r w) ≡ bare
  raised_again = (ticks_come_back (r.tick_before + 1) r.tick_before).comes_back bare bare_valid can_lower

  undone_fits : RecordFitsOn r (undone r w)
  undone_fits = record {
    tick = refl;
    low = let most = v.tick in let is = fits.tick in omega (arith, most, is);
    deltas = subst (AllFitOn r.deltas) (sym raised_again) ((delta_lists_come_back r.deltas).1.can_come_back w v fits.deltas);
  }

  undone_comes_back : redone r (undone r w) ≡ w
  undone_comes_back = ap (fwd_all r.deltas) raised_again ∙ (delta_lists_come_back r.deltas).1.comes_back w v fits.deltas

pub records_come_back : RecordsComeBack
records_come_back r = (
  record { keeps = redone_valid r; can_come_back = redone_fits_back r; comes_back = redone_comes_back r },
  record { keeps = undone_valid r; can_come_back = undone_fits r; comes_back = undone_comes_back r },
)
