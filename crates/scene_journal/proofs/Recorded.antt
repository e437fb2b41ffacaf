-- A world that a command leads to can be taken back too, with the deltas that it noted.
use Rattle.std.proofs.Common.{◌≡◌, List, [], ◌∷◌, ◌++◌, ap, subst, sym, ◌∙◌, Option, Some, None, Ok}
use Rattle.std.proofs.lemmas.List.{append-nil}
use Rattle.scene_kinds.specs.Answers.{Outcome}
use Rattle.scene_model.specs.World.{World}
use Rattle.scene_model.specs.Perform.{Command}
use Rattle.scene_model.specs.Valid.{IsValid}
use Rattle.scene_world.specs.Room.{Room, Holds, IsWider}
use Rattle.scene_world.specs.Stage.{Staged, noting}
use Rattle.scene_world.proofs.Room.{holds_wider}
use Rattle.scene_deltas.specs.declared.delta.Delta.{Delta}
use Rattle.scene_deltas.specs.Deltas.{back, fwd, FitsBack, back_all}
use Rattle.scene_deltas.specs.CommandLaws.{LeadTo}
use Rattle.scene_deltas.specs.Notes.{deltas_of, listed_delta}
use Rattle.scene_deltas.specs.Ready.{AreReady, AreReadyOn}
use Rattle.scene_deltas.proofs.ComeBack.{deltas_come_back}
use Rattle.scene_deltas.proofs.Ready.{back_pushed, ready_appended}
use Rattle.scene_deltas.proofs.Truncated.{found_ready}

-- in wider room deltas can be taken back as before
pub ready_wider : (room wider : Room) (ds : List Delta) (w : World) → IsWider room wider → AreReady room ds w → AreReady wider ds w
ready_wider room wider [] w wide h = tt
ready_wider room wider (d ∷ ds) w wide h = (ready_wider room wider ds w wide h.0, record { fits = h.1.fits; held = holds_wider room wider (back d (back_all ds w)) wide h.1.held })

-- and made again
pub on_wider : (room wider : Room) (ds : List Delta) (w : World) → IsWider room wider → AreReadyOn room ds w → AreReadyOn wider ds w
on_wider room wider [] w wide h = tt
on_wider room wider (d ∷ ds) w wide h = (record { fits = h.0.fits; held = holds_wider room wider (fwd d w) wide h.0.held }, on_wider room wider ds (fwd d w) wide h.1)

-- the world from before, and that it can come back, where one delta at most leads on
pub opening_kept : (ds : List Delta) (o : Option Delta) (w v : World) → IsValid w → LeadTo (listed_delta o) w v → back_all (ds ++ listed_delta o) v ≡ back_all ds w
opening_kept ds None w v valid lead = ap (λ xs. back_all xs v) (append-nil ds) ∙ ap (back_all ds) lead.made
opening_kept ds (Some d) w v valid lead =
    back_pushed ds d v ∙ ap (back_all ds) (ap (back d) lead.made ∙ (deltas_come_back d).0.comes_back w valid lead.fit.0)

pub ready_kept : (room wider : Room) (ds : List Delta) (o : Option Delta) (w v : World) → IsValid w → Holds room w → IsWider room wider → LeadTo (listed_delta o) w v
    → AreReady room ds w → AreReady wider (ds ++ listed_delta o) v
ready_kept room wider ds None w v valid held wide lead ready =
    subst (λ xs. AreReady wider xs v) (sym (append-nil ds)) (subst (AreReady wider ds) (sym lead.made) (ready_wider room wider ds w wide ready))
ready_kept room wider ds (Some d) w v valid held wide lead ready =
    let came = ap (back d) lead.made ∙ (deltas_come_back d).0.comes_back w valid lead.fit.0 in
    ready_appended wider ds (d ∷ []) v (
      tt,
      record {
        fits = subst (FitsBack d) (sym lead.made) ((deltas_come_back d).0.can_come_back w valid lead.fit.0);
        held = subst (Holds wider) (sym came) (holds_wider room wider w wide held);
      },
    )
    (subst (AreReady wider ds) (sym came) (ready_wider room wider ds w wide ready))

-- ---- as a recorder has it

-- after a refusal, by which room may have grown
pub stays_ready : (room wider : Room) (ds es : List Delta) (w v : World) → ∥ AreReady room ds w ∥₁ → IsWider room wider → v ≡ w → es ≡ ds → ∥ AreReady wider es v ∥₁
stays_ready room wider ds es w v ready wide same kept =
    ∣ subst (AreReady wider es) (sym same) (subst (λ xs. AreReady wider xs w) (sym kept) (ready_wider room wider ds w wide (found_ready room ds w ready))) ∣₁

-- in the same world
pub same_ready : (room : Room) (ds es : List Delta) (w : World) → ∥ AreReady room ds w ∥₁ → es ≡ ds → ∥ AreReady room es w ∥₁
same_ready room ds es w ready kept = subst (λ xs. ∥ AreReady room xs w ∥₁) (sym kept) ready

-- where there are no deltas
pub none_ready : (room : Room) (ds : List Delta) (w : World) → ds ≡ [] → ∥ AreReady room ds w ∥₁
none_ready room ds w none = ∣ subst (λ xs. AreReady room xs w) (sym none) tt ∣₁

-- after a command
module _ (room wider : Room) (ds es : List Delta) (w v : World) (c : Command) (o : Option Delta) (valid : IsValid w) (noted : listed_delta o ≡ deltas_of w c)
    (lead : LeadTo (deltas_of w c) w v) (kept : es ≡ ds ++ listed_delta o) where
  leads : LeadTo (listed_delta o) w v
  leads = subst (λ xs. LeadTo xs w v) (sym noted) lead

  pub goes_ready : Holds room w → IsWider room wider → ∥ AreReady room ds w ∥₁ → ∥ AreReady wider es v ∥₁
  goes_ready held wide ready =
      ∣ subst (λ xs. AreReady wider xs v) (sym kept) (ready_kept room wider ds o w v valid held wide leads (found_ready room ds w ready)) ∣₁

  pub goes_back : back_all es v ≡ back_all ds w
  goes_back = ap (λ xs. back_all xs v) kept ∙ opening_kept ds o w v valid leads

-- the stage after an accepted command
pub noted_ok : {A : Type 0} (s : Staged Delta) (ns : List Delta) (o : Outcome A World) (a : A) (v u : World) (es : List Delta) → o ≡ Ok (a, u) → v ≡ u → es ≡ s.notes ++ ns
    → noting s ns o ≡ Ok (a, record { world = v; notes = es })
noted_ok s ns o a v u es is same kept = ap (noting s ns) is ∙ (λ i. Ok (a, record { world = sym same i; notes = sym kept i }))
