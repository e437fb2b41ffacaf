-- Deltas that are made, or taken back, up to one of them.
use Rattle.std.proofs.Common.{◌≡◌, ℕ, Bool, true, false, ◌+◌, ◌-◌, List, [], ◌∷◌, ◌++◌, length, length-append, append_assoc, refl, ap, sym, subst, ◌∙◌, arith}
use Rattle.std.proofs.lemmas.List.{append-nil}
use Rattle.scene_model.specs.World.{World}
use Rattle.scene_deltas.specs.declared.delta.Delta.{Delta}
use Rattle.scene_deltas.specs.Deltas.{fwd, back, fits_on, fits_back, FitsOn, FitsBack, fwd_all, back_all, AllFitOn, AllFitBack}
use Rattle.scene_kinds.specs.declared.refusal.Refusal.{Refusal}
use Rattle.scene_journal.specs.Records.{Record}
use Rattle.scene_journal.specs.Faults.{IsFirstUnfit, IsLastUnfit, IsFaultBack, FaultsAreFaults, IsAfterSome, IsBeforeSome, Names}
use Rattle.scene_world.specs.Room.{Room, Holds, IsWider}
use Rattle.scene_deltas.specs.Ready.{AreReady, AreReadyOn, IsReadyOn}
use Rattle.scene_deltas.proofs.Lists.{after_appended, may_appended, may_parts, one_more, undo_parts}
use Rattle.scene_deltas.proofs.Lists.{IsTakenTo as IsListTakenTo, taken_next as list_taken}
use Rattle.scene_journal.proofs.Recorded.{on_wider, ready_wider}

-- ---- made, the first first

-- deltas before the left ones are made
abbrev pub IsMadeTo : List Delta → World → List Delta → World → List Delta → Type 0
IsMadeTo ds w left v made = (ds ≡ made ++ left) × (v ≡ fwd_all made w)

module _ (ds : List Delta) (w v : World) (left behind made : List Delta) (d : Delta) (cut : left ≡ d ∷ behind) (now : IsMadeTo ds w left v made) where
  there : ds ≡ made ++ d ∷ behind
  there = now.0 ∙ ap (λ es. made ++ es) cut

  pub fits_next : AllFitOn ds w → FitsOn d v
  fits_next all = subst (FitsOn d) (sym now.1) (may_parts FitsOn fwd made (d ∷ behind) w (subst (λ es. AllFitOn es w) there all)).1.0

  pub made_next : (u : World) → u ≡ fwd d v → IsMadeTo ds w behind u (made ++ d ∷ [])
  made_next u by = (there ∙ sym (append_assoc made (d ∷ []) behind), by ∙ ap (fwd d) now.1 ∙ sym (after_appended fwd made (d ∷ []) w))

  -- the world after one more is held by its own room, which may be wider
  pub ready_next : (room wider : Room) (u : World) → u ≡ fwd d v → FitsOn d v → Holds wider u → IsWider room wider → AreReadyOn room made w
      → AreReadyOn wider (made ++ d ∷ []) w
  ready_next room wider u by fits held wide before =
      may_appended (IsReadyOn wider) fwd made (d ∷ []) w (on_wider room wider made w wide before)
      (subst (IsReadyOn wider d) now.1 (record { fits = fits; held = subst (Holds wider) by held }), tt)

  pub unfit_here : AllFitOn made w → fits_on d v ≡ false → IsFirstUnfit ds w (length made)
  unfit_here before unfit = record {
    before = made;
    delta = d;
    behind = behind;
    cut = there;
    number = refl;
    fit = before;
    unfit = ap (fits_on d) (sym now.1) ∙ unfit;
  }

  -- how many are made, by how many are left
  pub number_made : length ds - 1 - length behind ≡ length made
  number_made = let count = ap length there ∙ length-append made (d ∷ behind) in omega (arith, count)

pub some_made : (ds : List Delta) (w v : World) (left made : List Delta) → IsMadeTo ds w left v made → IsAfterSome ds w v
some_made ds w v left made now = record { made = made; left = left; cut = now.0; after = now.1 }

pub all_made : (ds : List Delta) (w v : World) (left made : List Delta) → left ≡ [] → IsMadeTo ds w left v made → (ds ≡ made) × (v ≡ fwd_all ds w)
all_made ds w v left made none now =
    let whole = now.0 ∙ ap (λ es. made ++ es) none ∙ append-nil made in
    (whole, now.1 ∙ ap (λ es. fwd_all es w) (sym whole))

-- ---- taken back, the last first

-- deltas up to the left ones are taken back
abbrev pub IsTakenTo : List Delta → World → List Delta → World → List Delta → Type 0
IsTakenTo = IsListTakenTo back

module _ (ds : List Delta) (w v : World) (left before taken : List Delta) (d : Delta) (cut : left ≡ before ++ d ∷ []) (now : IsTakenTo ds w left v taken) where
  here : ds ≡ before ++ d ∷ taken
  here = one_more back ds w v left before taken d cut now

  pub fits_back_next : AllFitBack ds w → FitsBack d v
  fits_back_next all = subst (FitsBack d) (sym now.1) (undo_parts FitsBack back before (d ∷ taken) w (subst (λ es. AllFitBack es w) here all)).0.1

  pub taken_next : (u : World) → u ≡ back d v → IsTakenTo ds w before u (d ∷ taken)
  taken_next = list_taken back ds w v left before taken d cut now

  -- the world before one more is held by its own room, which may be wider
  pub ready_taken : (room wider : Room) (u : World) → u ≡ back d v → FitsBack d v → Holds wider u → IsWider room wider → AreReady room taken w
      → AreReady wider (d ∷ taken) w
  ready_taken room wider u by fits held wide before = (
    ready_wider room wider taken w wide before,
    record { fits = subst (FitsBack d) now.1 fits; held = subst (Holds wider) (by ∙ ap (back d) now.1) held },
  )

  pub unfit_next : AllFitBack taken w → fits_back d v ≡ false → IsLastUnfit ds w (length before)
  unfit_next fit unfit = record { before = before; delta = d; behind = taken; cut = here; number = refl; fit = fit; unfit = ap (fits_back d) (sym now.1) ∙ unfit }

pub some_taken : (ds : List Delta) (w v : World) (left taken : List Delta) → IsTakenTo ds w left v taken → IsBeforeSome ds w v
some_taken ds w v left taken now = record { left = left; taken = taken; cut = now.0; before = now.1 }

pub all_taken : (ds : List Delta) (w v : World) (left taken : List Delta) → left ≡ [] → IsTakenTo ds w left v taken → (ds ≡ taken) × (v ≡ back_all ds w)
all_taken ds w v left taken none now =
    let whole = now.0 ∙ ap (λ es. es ++ taken) none in
    (whole, now.1 ∙ ap (λ es. back_all es w) (sym whole))

-- ---- faults

-- no test passes and fails
not_both : {b : Bool} → b ≡ true → b ≡ false → ⊥
not_both passes fails = let wrong : true ≡ false = sym passes ∙ fails in cc

unfit_on : (ds : List Delta) (w : World) (k : ℕ) → IsFirstUnfit ds w k → AllFitOn ds w → ⊥
unfit_on ds w k u all = not_both (may_parts FitsOn fwd u.before (u.delta ∷ u.behind) w (subst (λ es. AllFitOn es w) u.cut all)).1.0 u.unfit

unfit_back : (ds : List Delta) (w : World) (k : ℕ) → IsLastUnfit ds w k → AllFitBack ds w → ⊥
unfit_back ds w k u all = not_both (undo_parts FitsBack back u.before (u.delta ∷ u.behind) w (subst (λ es. AllFitBack es w) u.cut all)).0.1 u.unfit

-- a delta that doesn't fit back is the record's fault, where the tick is right
pub fault_of_delta : (r : Record) (w : World) (refusal : Refusal) → w.tick ≡ r.tick_before + 1 → Names (IsLastUnfit r.deltas w) refusal → Names (IsFaultBack r w) refusal
fault_of_delta r w refusal right named other =
    let k = named other in (
      k.0,
      (
        k.1.0,
        record {
          tick = λ wrong. absurd (wrong right);
          delta = λ same unfit. k.1.1;
          late = λ same all. absurd (unfit_back r.deltas w k.0 k.1.1 all);
        },
      ),
    )

pub faults_are_faults : FaultsAreFaults
faults_are_faults r w k = (
  λ f fits. unfit_on r.deltas _ k (f.delta (fits.tick, fits.low)) fits.deltas,
  λ f fits. not_both fits.timely (f.late fits.tick fits.deltas).1,
)
