-- What the functions find in lists of deltas, and in lists of records.
use Rattle.std.proofs.Common.{◌≡◌, ℕ, suc, Bool, true, false, List, [], ◌∷◌, ◌++◌, length, refl, ap, sym, ◌∙◌, subst, Option, Some, None, option_map, MatchOption}
use Rattle.std.specs.Option.{option_or}
use Rattle.scene_model.specs.World.{World}
use Rattle.scene_model.specs.RawLists.{MayAll, after_all}
use Rattle.scene_deltas.specs.declared.delta.Delta.{Delta}
use Rattle.scene_deltas.specs.Deltas.{fits_on, fits_back, fwd, fwd_all, back_all, AllFitOn, AllFitBack}
use Rattle.scene_journal.specs.Faults.{IsFirstUnfit, IsLastUnfit}
use Rattle.scene_journal.specs.Records.{Record}
use Rattle.scene_journal.specs.Unfit.{unless, first_unfit, last_unfit}
use Rattle.scene_journal.specs.FirstFaults.{IsFirstFault, first_fault_in}
use Rattle.scene_journal.specs.FaultLaws.{Finds}

-- ---- what is found

-- it is enough that what is found is so, and that what is so is found
pub finds : {X : Type 0} (o : Option X) (Good : Type 0) (IsBad : X → Type 0) → MatchOption o Good IsBad → (Good → o ≡ None) → ((x : X) → IsBad x → o ≡ Some x)
    → Finds o Good IsBad
finds o Good IsBad is none some = record {
  none = (λ e. subst (λ p. MatchOption p Good IsBad) e is, none);
  some = λ x. (λ e. subst (λ p. MatchOption p Good IsBad) e is, some x);
}

-- and the other way round
pub found : {X : Type 0} {Good : Type 0} {IsBad : X → Type 0} (o : Option X) → Finds o Good IsBad → MatchOption o Good IsBad
found None f = f.none.0 refl
found (Some x) f = (f.some x).0 refl

-- something isn't nothing
pub not_none : {X : Type 0} (o : Option X) (x : X) → o ≡ Some x → o ≡ None → ⊥
not_none o x some none = let wrong : None ≡ Some x = sym none ∙ some in absurd (cc)

-- ---- deltas that are made

first_found : (ds : List Delta) (w : World) → MatchOption (first_unfit ds w) (AllFitOn ds w) (IsFirstUnfit ds w)
first_found [] w = tt
first_found (d ∷ ds) w = from (fits_on d w) refl (first_unfit ds (fwd d w)) (first_found ds (fwd d w))
  where
    from : (b : Bool) → fits_on d w ≡ b → (o : Option ℕ) → MatchOption o (AllFitOn ds (fwd d w)) (IsFirstUnfit ds (fwd d w))
        → MatchOption (option_or (unless b 0) (option_map (λ k. suc k) o)) (AllFitOn (d ∷ ds) w) (IsFirstUnfit (d ∷ ds) w)
    from false fails o rest = record {
      before = [];
      delta = d;
      behind = ds;
      cut = refl;
      number = refl;
      fit = tt;
      unfit = fails;
    }
    from true passes None rest = (passes, rest)
    from true passes (Some k) rest = record {
      before = d ∷ rest.before;
      delta = rest.delta;
      behind = rest.behind;
      cut = ap (λ l. d ∷ l) rest.cut;
      number = ap (λ n. suc n) rest.number;
      fit = (passes, rest.fit);
      unfit = rest.unfit;
    }

none_unfit : (ds : List Delta) (w : World) → AllFitOn ds w → first_unfit ds w ≡ None
none_unfit [] w fit = refl
none_unfit (d ∷ ds) w fit =
    λ i. option_or (unless (fit.0 i) 0) (option_map (λ k. suc k) (none_unfit ds (fwd d w) fit.1 i))

first_is : (before : List Delta) (d : Delta) (behind : List Delta) (w : World) → AllFitOn before w → fits_on d (fwd_all before w) ≡ false
    → first_unfit (before ++ d ∷ behind) w ≡ Some (length before)
first_is [] d behind w fit unfit =
    ap (λ b. option_or (unless b 0) (option_map (λ k. suc k) (first_unfit behind (fwd d w)))) unfit
first_is (b ∷ bs) d behind w fit unfit =
    λ i. option_or (unless (fit.0 i) 0) (option_map (λ k. suc k) (first_is bs d behind (fwd b w) fit.1 unfit i))

pub first_finds : (ds : List Delta) (w : World) → Finds (first_unfit ds w) (AllFitOn ds w) (IsFirstUnfit ds w)
first_finds ds w =
    finds (first_unfit ds w) (AllFitOn ds w) (IsFirstUnfit ds w) (first_found ds w) (none_unfit ds w)
    (λ k u. ap (λ l. first_unfit l w) u.cut ∙ (first_is u.before u.delta u.behind w u.fit u.unfit ∙ ap Some (sym u.number)))

-- ---- deltas that are taken back

last_found : (ds : List Delta) (w : World) → MatchOption (last_unfit ds w) (AllFitBack ds w) (IsLastUnfit ds w)
last_found [] w = tt
last_found (d ∷ ds) w = from (fits_back d (back_all ds w)) refl (last_unfit ds w) (last_found ds w)
  where
    from : (b : Bool) → fits_back d (back_all ds w) ≡ b → (o : Option ℕ) → MatchOption o (AllFitBack ds w) (IsLastUnfit ds w)
        → MatchOption (option_or (option_map (λ k. suc k) o) (unless b 0)) (AllFitBack (d ∷ ds) w) (IsLastUnfit (d ∷ ds) w)
    from b is (Some k) rest = record {
      before = d ∷ rest.before;
      delta = rest.delta;
      behind = rest.behind;
      cut = ap (λ l. d ∷ l) rest.cut;
      number = ap (λ n. suc n) rest.number;
      fit = rest.fit;
      unfit = rest.unfit;
    }
    from true passes None rest = (rest, passes)
    from false fails None rest = record {
      before = [];
      delta = d;
      behind = ds;
      cut = refl;
      number = refl;
      fit = rest;
      unfit = fails;
    }

none_unfit_back : (ds : List Delta) (w : World) → AllFitBack ds w → last_unfit ds w ≡ None
none_unfit_back [] w fit = refl
none_unfit_back (d ∷ ds) w fit =
    λ i. option_or (option_map (λ k. suc k) (none_unfit_back ds w fit.0 i)) (unless (fit.1 i) 0)

last_is : (before : List Delta) (d : Delta) (behind : List Delta) (w : World) → AllFitBack behind w → fits_back d (back_all behind w) ≡ false
    → last_unfit (before ++ d ∷ behind) w ≡ Some (length before)
last_is [] d behind w fit unfit =
    λ i. option_or (option_map (λ k. suc k) (none_unfit_back behind w fit i)) (unless (unfit i) 0)
last_is (b ∷ bs) d behind w fit unfit =
    ap (λ o. option_or (option_map (λ k. suc k) o) (unless (fits_back b (back_all (bs ++ d ∷ behind) w)) 0)) (last_is bs d behind w fit unfit)

pub last_finds : (ds : List Delta) (w : World) → Finds (last_unfit ds w) (AllFitBack ds w) (IsLastUnfit ds w)
last_finds ds w =
    finds (last_unfit ds w) (AllFitBack ds w) (IsLastUnfit ds w) (last_found ds w) (none_unfit_back ds w)
    (λ k u. ap (λ l. last_unfit l w) u.cut ∙ (last_is u.before u.delta u.behind w u.fit u.unfit ∙ ap Some (sym u.number)))

-- ---- records that go one after another

module _ (unfit : Record → World → Option ℕ) (step : Record → World → World) (Fits : Record → World → Type 0) (IsFault : Record → World → ℕ → Type 0)
    (each : (r : Record) (w : World) → Finds (unfit r w) (Fits r w) (IsFault r w)) where
  abbrev AllFit : List Record → World → Type 0
  AllFit rs w = MayAll Fits step rs w

  abbrev IsFirst : List Record → World → ℕ × ℕ → Type 0
  IsFirst rs w p = IsFirstFault step Fits IsFault rs w p.0 p.1

  in_turn_found : (rs : List Record) (w : World) → MatchOption (first_fault_in unfit step rs w) (AllFit rs w) (IsFirst rs w)
  in_turn_found [] w = tt
  in_turn_found (r ∷ rs) w = from (unfit r w) (found (unfit r w) (each r w)) (first_fault_in unfit step rs (step r w)) (in_turn_found rs (step r w))
    where
      from : (o : Option ℕ) → MatchOption o (Fits r w) (IsFault r w) → (q : Option (ℕ × ℕ)) → MatchOption q (AllFit rs (step r w)) (IsFirst rs (step r w))
          → MatchOption (option_or (option_map (λ delta. (0, delta)) o) (option_map (λ p. (suc p.0, p.1)) q)) (AllFit (r ∷ rs) w) (IsFirst (r ∷ rs) w)
      from (Some k) fault q rest = record { before = []; unfit = r; behind = rs; cut = refl; number = refl; fit = tt; fault = fault }
      from None fits None rest = (fits, rest)
      from None fits (Some p) rest = record {
        before = r ∷ rest.before;
        unfit = rest.unfit;
        behind = rest.behind;
        cut = ap (λ l. r ∷ l) rest.cut;
        number = ap (λ n. suc n) rest.number;
        fit = (fits, rest.fit);
        fault = rest.fault;
      }

  none_in_turn : (rs : List Record) (w : World) → AllFit rs w → first_fault_in unfit step rs w ≡ None
  none_in_turn [] w fit = refl
  none_in_turn (r ∷ rs) w fit =
      λ i. option_or (option_map (λ delta. (0, delta)) ((each r w).none.1 fit.0 i)) (option_map (λ p. (suc p.0, p.1)) (none_in_turn rs (step r w) fit.1 i))

  first_in_turn : (before : List Record) (r : Record) (behind : List Record) (w : World) (k : ℕ) → AllFit before w → IsFault r (after_all step before w) k
      → first_fault_in unfit step (before ++ r ∷ behind) w ≡ Some (length before, k)
  first_in_turn [] r behind w k fit fault =
      ap (λ o. option_or (option_map (λ delta. (0, delta)) o) (option_map (λ p. (suc p.0, p.1)) (first_fault_in unfit step behind (step r w)))) (((each r w).some k).1 fault)
  first_in_turn (b ∷ bs) r behind w k fit fault =
      λ i. option_or (option_map (λ delta. (0, delta)) ((each b w).none.1 fit.0 i))
      (option_map (λ p. (suc p.0, p.1)) (first_in_turn bs r behind (step b w) k fit.1 fault i))

  pub in_turn_finds : (rs : List Record) (w : World) → Finds (first_fault_in unfit step rs w) (AllFit rs w) (IsFirst rs w)
  in_turn_finds rs w =
      finds (first_fault_in unfit step rs w) (AllFit rs w) (IsFirst rs w) (in_turn_found rs w) (none_in_turn rs w)
      (λ p u. ap (λ l. first_fault_in unfit step l w) u.cut
      ∙ (first_in_turn u.before u.unfit u.behind w p.1 u.fit u.fault ∙ ap (λ n. Some (n, p.1)) (sym u.number)))
