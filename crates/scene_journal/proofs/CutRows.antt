-- Rows that are cut one after another, as far as that has come.
use Rattle.std.proofs.Common.{◌≡◌, ℕ, ◌+◌, ◌<◌, ◌≤◌, true, List, [], ◌∷◌, ◌++◌, map, length, drop, get_or, refl, ap, sym, subst, ◌∙◌, Option, Ok}
use Rattle.std.proofs.lemmas.List.{append_assoc, drop_more, drop_all, append-nil}
use Rattle.scene_kinds.specs.declared.entity.Entity.{Entity}
use Rattle.scene_alloc.specs.Slots.{retires}
use Rattle.scene_links.specs.Forest.{children_of, link_in, post}
use Rattle.scene_model.specs.World.{World, is_live}
use Rattle.scene_model.specs.Commands.{despawn_recursive}
use Rattle.scene_model.specs.Perform.{Despawn}
use Rattle.scene_model.specs.Raw.{cut_row}
use Rattle.scene_model.specs.RawLists.{CutNote, CanCutNoted, cut_noted, MayAll, after_all}
use Rattle.scene_model.specs.Valid.{IsValid}
use Rattle.scene_model.proofs.CanParts.{cut_out}
use Rattle.scene_model.proofs.DespawnEach.{recursive_is_whole}
use Rattle.scene_model.proofs.ListBack.{recursive_cuts}
use Rattle.scene_world.specs.Room.{Room, Holds}
use Rattle.scene_world.proofs.Room.{wider_self}
use Rattle.scene_deltas.specs.declared.delta.Delta.{Delta}
use Rattle.scene_deltas.specs.declared.delta.Delta.TheVariants.{Despawned}
use Rattle.scene_deltas.specs.CommandLaws.{LeadTo}
use Rattle.scene_deltas.specs.Notes.{listed_delta, of_row, deltas_of, despawned_each, cut_each, CanCutEach}
use Rattle.scene_deltas.specs.Ready.{AreReady}
use Rattle.scene_deltas.specs.Deltas.{back_all}
use Rattle.scene_deltas.proofs.Commands.{one_leads}
use Rattle.scene_journal.proofs.Recorded.{ready_kept, opening_kept}

abbrev entities : List CutNote → List Entity
entities ns = map (λ (n : CutNote). n.entity) ns

can_each : (ns : List CutNote) (w : World) → MayAll CanCutNoted cut_noted ns w → CanCutEach (entities ns) w
can_each [] w h = tt
can_each (n ∷ ns) w h = ((n, (refl, h.0)), can_each ns (cut_noted n w) h.1)

made_each : (ns : List CutNote) (w : World) → after_all cut_noted ns w ≡ cut_each (entities ns) w
made_each [] w = refl
made_each (n ∷ ns) w = made_each ns (cut_noted n w)

-- a recursive despawn of a live entity cuts it and those below it
pub recursive_each : (w : World) (e : Entity) → IsValid w → is_live w e ≡ true → CanCutEach (post w.children e) w × (despawn_recursive w e ≡ Ok (tt, cut_each (post w.children e) w))
recursive_each w e valid live =
    let whole = recursive_is_whole w e valid live in
    let cuts = recursive_cuts w whole.0 e valid whole.1 in (
      subst (λ es. CanCutEach es w) cuts.1.0 (can_each cuts.0 w cuts.1.1.0),
      whole.1 ∙ (λ i. Ok (tt, (cuts.1.1.1 ∙ made_each cuts.0 w ∙ ap (λ es. cut_each es w) cuts.1.0) i)),
    )

-- a row that may be cut is a delta that leads on
cut_leads : (w : World) (e : Entity) (n : CutNote) → n.entity ≡ e → CanCutNoted n w → LeadTo (deltas_of w (Despawn e)) w (cut_row w e)
cut_leads w e n same can =
    let one = (cut_out w n.entity n.place n.cells n.link n.retired).0 can in
    subst (λ x. LeadTo (deltas_of w (Despawn x)) w (cut_row w x)) same
    (one_leads (Despawned n.entity n.place n.cells n.link n.retired) (deltas_of w (Despawn n.entity)) w (cut_row w n.entity)
    (ap (λ o. of_row o (λ place cells. Despawned n.entity place cells (link_in w.children n.entity) (retires n.entity) ∷ [])) one.row
    ∙ (λ i. Despawned n.entity n.place n.cells (one.linked i) (sym one.retires i) ∷ []))
    can refl)

-- the first entities are cut, the others can be, and the deltas lead back
pub record UnderWay (room : Room) (start : World) (order : List Entity) (i : ℕ) (w : World) (ds : List Delta) : Type 0 where
  pub can : CanCutEach (drop i order) w
  pub ends : cut_each (drop i order) w ≡ cut_each order start
  pub noted : ds ++ despawned_each (drop i order) w ≡ despawned_each order start
  pub ready : AreReady room ds w
  pub back : back_all ds w ≡ start

pub none_cut : (room : Room) (start : World) (order : List Entity) (ds : List Delta) → CanCutEach order start → ds ≡ [] → UnderWay room start order 0 start ds
none_cut room start order ds can none =
    subst (UnderWay room start order 0 start) (sym none) (record { can = can; ends = refl; noted = refl; ready = tt; back = refl })

module _ (room : Room) (start : World) (order : List Entity) (i : ℕ) (w : World) (ds : List Delta) (d : Entity) (low : i < length order) (now : UnderWay room start order i w ds) where
  abbrev e : Entity
  e = get_or order i d

  rest : drop i order ≡ e ∷ drop (i + 1) order
  rest = drop_more order i d low

  pub can_next : CanCutEach (e ∷ drop (i + 1) order) w
  can_next = subst (λ es. CanCutEach es w) rest now.can

  pub childless_next : children_of w.children e ≡ []
  childless_next = let n = can_next.0.0 in subst (λ x. children_of w.children x ≡ []) can_next.0.1.0 ((cut_out w n.entity n.place n.cells n.link n.retired).0 can_next.0.1.1).childless

  -- one more is cut
  pub next_cut : (o : Option Delta) (v : World) (es : List Delta) → IsValid w → Holds room w → listed_delta o ≡ deltas_of w (Despawn e) → v ≡ cut_row w e → es ≡ ds ++ listed_delta o → UnderWay room start order (i + 1) v es
  next_cut o v es valid held noted made kept =
      let n = can_next.0 in
      let lead : LeadTo (listed_delta o) w (cut_row w e) = subst (λ xs. LeadTo xs w (cut_row w e)) (sym noted) (cut_leads w e n.0 n.1.0 n.1.1) in
      subst (λ u. UnderWay room start order (i + 1) u es) (sym made)
      (subst (UnderWay room start order (i + 1) (cut_row w e)) (sym kept)
      (record {
        can = can_next.1;
        ends = ap (λ xs. cut_each xs w) (sym rest) ∙ now.ends;
        noted = append_assoc ds (listed_delta o) (despawned_each (drop (i + 1) order) (cut_row w e))
            ∙ ap (λ xs. ds ++ (xs ++ despawned_each (drop (i + 1) order) (cut_row w e))) noted
            ∙ ap (λ xs. ds ++ despawned_each xs w) (sym rest) ∙ now.noted;
        ready = ready_kept room room ds o w (cut_row w e) valid held (wider_self room) lead now.ready;
        back = opening_kept ds o w (cut_row w e) valid lead ∙ now.back;
      }))

pub all_cut : (room : Room) (start : World) (order : List Entity) (i : ℕ) (w : World) (ds : List Delta) → length order ≤ i → UnderWay room start order i w ds
    → (w ≡ cut_each order start) × (ds ≡ despawned_each order start)
all_cut room start order i w ds past now =
    let none = drop_all i order past in (
      ap (λ es. cut_each es w) (sym none) ∙ now.ends,
      sym (append-nil ds) ∙ ap (λ es. ds ++ despawned_each es w) (sym none) ∙ now.noted,
    )
