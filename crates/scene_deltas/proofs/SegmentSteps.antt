-- Lists of deltas that are taken back or made again in two parts, and the copies of some of them.
use Rattle.std.proofs.Common.{◌≡◌, Bool, List, ◌++◌, reverse, ap, subst, sym, ◌∙◌}
use Rattle.std.specs.List.{filter}
use Rattle.std.proofs.lemmas.List.{append_assoc, append_cancel_right, reverse-append}
use Rattle.std.proofs.lemmas.List.Elements.{filter-append}
use Rattle.scene_model.specs.World.{World}
use Rattle.scene_world.specs.Room.{Room}
use Rattle.scene_deltas.specs.declared.delta.Delta.{Delta}
use Rattle.scene_deltas.specs.Deltas.{back, back_all, fwd, fwd_all}
use Rattle.scene_deltas.specs.Ready.{AreReady, AreReadyOn, IsReady, IsReadyOn}
use Rattle.scene_deltas.proofs.Lists.{after_appended, may_parts, undo_parts}
use Rattle.scene_deltas.proofs.Ready.{back_appended}

module _ (room : Room) (w : World) (left ds es : List Delta) (cut : left ≡ ds ++ es) where
  -- the last ones first
  pub back_ready : AreReady room left w → AreReady room es w × AreReady room ds (back_all es w)
  back_ready ready = undo_parts (IsReady room) back ds es w (subst (λ xs. AreReady room xs w) cut ready)

  pub back_rest : back_all left w ≡ back_all ds (back_all es w)
  back_rest = ap (λ xs. back_all xs w) cut ∙ back_appended ds es w

  -- the first ones first
  pub on_ready : AreReadyOn room left w → AreReadyOn room ds w × AreReadyOn room es (fwd_all ds w)
  on_ready ready = may_parts (IsReadyOn room) fwd ds es w (subst (λ xs. AreReadyOn room xs w) cut ready)

  pub on_rest : fwd_all left w ≡ fwd_all es (fwd_all ds w)
  on_rest = ap (λ xs. fwd_all xs w) cut ∙ after_appended fwd ds es w

module _ (p : Delta → Bool) (left ds es : List Delta) (cut : left ≡ ds ++ es) where
  pub kept_parts : filter p left ≡ filter p ds ++ filter p es
  kept_parts = ap (filter p) cut ∙ filter-append p ds es

  pub turned_parts : reverse (filter p left) ≡ reverse (filter p es) ++ reverse (filter p ds)
  turned_parts = ap reverse kept_parts ∙ reverse-append (filter p ds) (filter p es)

-- copies of a list behind which those of more are put
pub copied_more : {X : Type 0} (old new own rest part whole : List X) → old ++ part ≡ whole → part ≡ own ++ rest → new ≡ old ++ own → new ++ rest ≡ whole
copied_more old new own rest part whole done is made =
    ap (λ xs. xs ++ rest) made ∙ append_assoc old own rest ∙ ap (λ xs. old ++ xs) (sym is) ∙ done

-- what is left of copies of which the last were taken out
pub left_over : {X : Type 0} (old new own rest : List X) → old ≡ rest ++ own → old ≡ new ++ own → new ≡ rest
left_over old new own rest is was = append_cancel_right new rest own (sym was ∙ is)
