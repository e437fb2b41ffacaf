-- What the functions find of one record, and of a past with a future.
use Rattle.std.proofs.Common.{◌≡◌, ℕ, ◌+◌, Bool, true, false, List, length, refl, ap, sym, ◌∙◌, Option, Some, None, Decides, option_map, is_none, MatchOption, nat_eq, nat_lt, ltb-true, lt-ltb}
use Rattle.std.specs.Prelude.{IsTrue, ◌↔◌}
use Rattle.std.specs.Cmp.{unsigned_Decides}
use Rattle.std.specs.Option.{option_or}
use Rattle.std.proofs.lemmas.Bool.{and_parts, and_from}
use Rattle.scene_model.specs.World.{World}
use Rattle.scene_model.specs.Commands.{highest_tick}
use Rattle.scene_model.specs.Can.{can_set_tick}
use Rattle.scene_deltas.specs.Deltas.{AllFitOn, AllFitBack, back_all}
use Rattle.scene_journal.specs.Faults.{CanRaiseFor, IsFirstUnfit, IsLastUnfit, IsFaultOn, IsFaultBack}
use Rattle.scene_journal.specs.Records.{Record, raised, redone, undone, RecordFitsOn, RecordFitsBack}
use Rattle.scene_journal.specs.Unfit.{unless, first_unfit, last_unfit, can_raise_for, first_unfit_on, first_unfit_back}
use Rattle.scene_journal.specs.FirstFaults.{PastFits, FutureFits, IsPastFault, IsFutureFault, IsFaultOf, past_fault, future_fault, first_fault}
use Rattle.scene_journal.specs.FaultLaws.{Finds, RecordsAreTested, RecordFaultsAreFound, FirstFaultsAreFound}
use Rattle.scene_journal.proofs.FirstFinds.{finds, found, not_none, first_finds, last_finds, in_turn_finds}

-- ---- a record that is redone

module _ (r : Record) (w : World) where
  abbrev count : ℕ
  count = length r.deltas

  tick_raises : Decides (can_raise_for r w) (CanRaiseFor r w)
  tick_raises = (
    λ h. let t = and_parts (nat_eq w.tick r.tick_before) (nat_lt w.tick highest_tick) h in
        ((unsigned_Decides w.tick r.tick_before).0 t.0, ltb-true w.tick highest_tick t.1),
    λ c. and_from (nat_eq w.tick r.tick_before) (nat_lt w.tick highest_tick) ((unsigned_Decides w.tick r.tick_before).1 c.0) (lt-ltb w.tick highest_tick c.1),
  )

  on : Finds (first_unfit r.deltas (raised w)) (AllFitOn r.deltas (raised w)) (IsFirstUnfit r.deltas (raised w))
  on = first_finds r.deltas (raised w)

  on_found : (b : Bool) → can_raise_for r w ≡ b → (o : Option ℕ) → MatchOption o (AllFitOn r.deltas (raised w)) (IsFirstUnfit r.deltas (raised w))
      → MatchOption (option_or (unless b count) o) (RecordFitsOn r w) (IsFaultOn r w)
  on_found false fails o rest = record {
    tick = λ unfit. refl;
    delta = λ can. let wrong : true ≡ false = sym (tick_raises.1 can) ∙ fails in absurd (cc);
  }
  on_found true passes None rest = let can = tick_raises.0 passes in record { tick = can.0; low = can.1; deltas = rest }
  on_found true passes (Some k) rest = record { tick = λ other. absurd (other (tick_raises.0 passes)); delta = λ can. rest }

  on_some : (k : ℕ) → IsFaultOn r w k → (b : Bool) → can_raise_for r w ≡ b → first_unfit_on r w ≡ Some k
  on_some k fault true passes = λ i. option_or (unless (passes i) count) ((on.some k).1 (fault.delta (tick_raises.0 passes)) i)
  on_some k fault false fails =
      ap (λ b. option_or (unless b count) (first_unfit r.deltas (raised w))) fails
      ∙ ap Some (sym (fault.tick (λ can. let wrong : true ≡ false = sym (tick_raises.1 can) ∙ fails in absurd (cc))))

  pub on_finds : Finds (first_unfit_on r w) (RecordFitsOn r w) (IsFaultOn r w)
  on_finds =
      finds (first_unfit_on r w) (RecordFitsOn r w) (IsFaultOn r w) (on_found (can_raise_for r w) refl (first_unfit r.deltas (raised w)) (found (first_unfit r.deltas (raised w)) on))
      (λ fits i. option_or (unless (tick_raises.1 (fits.tick, fits.low) i) count) (on.none.1 fits.deltas i))
      (λ k fault. on_some k fault (can_raise_for r w) refl)

-- ---- a record that is undone

module _ (r : Record) (w : World) where
  abbrev is_its_tick : Bool
  is_its_tick = nat_eq w.tick (r.tick_before + 1)

  its_tick : Decides is_its_tick (w.tick ≡ r.tick_before + 1)
  its_tick = unsigned_Decides w.tick (r.tick_before + 1)

  back : Finds (last_unfit r.deltas w) (AllFitBack r.deltas w) (IsLastUnfit r.deltas w)
  back = last_finds r.deltas w

  abbrev opening : World
  opening = back_all r.deltas w

  back_found : (b : Bool) → is_its_tick ≡ b → (o : Option ℕ) → last_unfit r.deltas w ≡ o → MatchOption o (AllFitBack r.deltas w) (IsLastUnfit r.deltas w)
      → (c : Bool) → can_set_tick opening r.tick_before ≡ c
      → MatchOption (option_or (unless b (count r w)) (option_or o (unless c (count r w)))) (RecordFitsBack r w) (IsFaultBack r w)
  back_found false fails o is rest c late = record {
    tick = λ other. refl;
    delta = λ same. let wrong : true ≡ false = sym (its_tick.1 same) ∙ fails in absurd (cc);
    late = λ same. let wrong : true ≡ false = sym (its_tick.1 same) ∙ fails in absurd (cc);
  }
  back_found true passes (Some k) is rest c late = record {
    tick = λ other. absurd (other (its_tick.0 passes));
    delta = λ same unfit. rest;
    late = λ same fit. absurd (not_none (last_unfit r.deltas w) k is (back.none.1 fit));
  }
  back_found true passes None is rest true late = record { tick = its_tick.0 passes; deltas = rest; timely = late }
  back_found true passes None is rest false late = record {
    tick = λ other. absurd (other (its_tick.0 passes));
    delta = λ same unfit. absurd (unfit rest);
    late = λ same fit. (refl, late);
  }

  back_some : (k : ℕ) → IsFaultBack r w k → (b : Bool) → is_its_tick ≡ b → (o : Option ℕ) → last_unfit r.deltas w ≡ o → first_unfit_back r w ≡ Some k
  back_some k fault false fails o is =
      ap (λ b. option_or (unless b (count r w)) (option_or (last_unfit r.deltas w) (unless (can_set_tick opening r.tick_before) (count r w)))) fails
      ∙ ap Some (sym (fault.tick (λ same. let wrong : true ≡ false = sym (its_tick.1 same) ∙ fails in absurd (cc))))
  back_some k fault true passes (Some j) is =
      let unfit : AllFitBack r.deltas w → ⊥ = λ fit. not_none (last_unfit r.deltas w) j is (back.none.1 fit) in
      λ i. option_or (unless (passes i) (count r w))
      (option_or ((back.some k).1 (fault.delta (its_tick.0 passes) unfit) i) (unless (can_set_tick opening r.tick_before) (count r w)))
  back_some k fault true passes None is =
      let late = fault.late (its_tick.0 passes) (back.none.0 is) in
      (λ i. option_or (unless (passes i) (count r w))
      (option_or (is i) (unless (late.1 i) (count r w))))
      ∙ ap Some (sym late.0)

  pub back_finds : Finds (first_unfit_back r w) (RecordFitsBack r w) (IsFaultBack r w)
  back_finds =
      finds (first_unfit_back r w) (RecordFitsBack r w) (IsFaultBack r w)
      (back_found is_its_tick refl (last_unfit r.deltas w) refl (found (last_unfit r.deltas w) back) (can_set_tick opening r.tick_before) refl)
      (λ fits i. option_or (unless (its_tick.1 fits.tick i) (count r w)) (option_or (back.none.1 fits.deltas i) (unless (fits.timely i) (count r w))))
      (λ k fault. back_some k fault is_its_tick refl (last_unfit r.deltas w) refl)

-- ---- the laws of one record

pub record_faults_are_found : RecordFaultsAreFound
record_faults_are_found = record { on = on_finds; back = back_finds }

-- nothing is found just where it is so
tested : {X : Type 0} {Good : Type 0} {IsBad : X → Type 0} (o : Option X) → Finds o Good IsBad → IsTrue (is_none o) ↔ Good
tested None f = (λ h. f.none.0 refl, λ good. refl)
tested (Some x) f = (λ h. absurd (let wrong : false ≡ true = h in cc), λ good. absurd (let wrong : None ≡ Some x = sym (f.none.1 good) in cc))

pub records_are_tested : RecordsAreTested
records_are_tested = record { on = λ r w. tested (first_unfit_on r w) (on_finds r w); back = λ r w. tested (first_unfit_back r w) (back_finds r w) }

-- ---- a past and a future

past_finds : (rs : List Record) (w : World) → Finds (past_fault rs w) (PastFits rs w) (λ p. IsPastFault rs w p.0 p.1)
past_finds = in_turn_finds first_unfit_back undone RecordFitsBack IsFaultBack back_finds

future_finds : (rs : List Record) (w : World) → Finds (future_fault rs w) (FutureFits rs w) (λ p. IsFutureFault rs w p.0 p.1)
future_finds = in_turn_finds first_unfit_on redone RecordFitsOn IsFaultOn on_finds

module _ (past future : List Record) (w : World) where
  abbrev gone_on : ℕ × ℕ → ℕ × ℕ
  gone_on p = (length past + p.0, p.1)

  in_past : Finds (past_fault past w) (PastFits past w) (λ p. IsPastFault past w p.0 p.1)
  in_past = past_finds past w

  in_future : Finds (future_fault future w) (FutureFits future w) (λ p. IsFutureFault future w p.0 p.1)
  in_future = future_finds future w

  both_found : (o : Option (ℕ × ℕ)) → past_fault past w ≡ o → MatchOption o (PastFits past w) (λ p. IsPastFault past w p.0 p.1)
      → (q : Option (ℕ × ℕ)) → MatchOption q (FutureFits future w) (λ p. IsFutureFault future w p.0 p.1)
      → MatchOption (option_or o (option_map gone_on q)) (PastFits past w × FutureFits future w) (λ p. IsFaultOf past future w p.0 p.1)
  both_found (Some p) is fault q rest =
      record { in_past = λ unfit. fault; in_future = λ fit. absurd (not_none (past_fault past w) p is (in_past.none.1 fit)) }
  both_found None is fit None rest = (fit, rest)
  both_found None is fit (Some p) rest = record { in_past = λ unfit. absurd (unfit fit); in_future = λ _. (p.0, (refl, rest)) }

  both_some : (x : ℕ × ℕ) → IsFaultOf past future w x.0 x.1 → (o : Option (ℕ × ℕ)) → past_fault past w ≡ o → first_fault past future w ≡ Some x
  both_some x fault None is =
      let rest = fault.in_future (in_past.none.0 is) in
      (λ i. option_or (is i) (option_map gone_on ((in_future.some (rest.0, x.1)).1 rest.1.1 i))) ∙ ap (λ n. Some (n, x.1)) (sym rest.1.0)
  both_some x fault (Some p) is =
      ap (λ o. option_or o (option_map gone_on (future_fault future w)))
      ((in_past.some x).1 (fault.in_past (λ fit. not_none (past_fault past w) p is (in_past.none.1 fit))))

  both_finds : Finds (first_fault past future w) (PastFits past w × FutureFits future w) (λ p. IsFaultOf past future w p.0 p.1)
  both_finds =
      finds (first_fault past future w) (PastFits past w × FutureFits future w) (λ p. IsFaultOf past future w p.0 p.1)
      (both_found (past_fault past w) refl (found (past_fault past w) in_past) (future_fault future w) (found (future_fault future w) in_future))
      (λ fits i. option_or (in_past.none.1 fits.0 i) (option_map gone_on (in_future.none.1 fits.1 i)))
      (λ x fault. both_some x fault (past_fault past w) refl)

pub first_faults_are_found : FirstFaultsAreFound
first_faults_are_found = record { past = past_finds; future = future_finds; both = both_finds }
