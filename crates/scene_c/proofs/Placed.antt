-- A handle that a call made, in the memory of C.
use Rattle.std.proofs.Common.{◌≡◌, ℕ, List, [], ◌∷◌, refl}
use seplogic.Ra.Ura.{Ura}
use mir.Syntax.{Ty}
use mir.Raw.{raw as bare}
use mir.Val.{Val}
use base.Fraction.{full_share}
use base.Fml.{fat, fsep}
use base.Logic.{ent, sep}
use types.Logic.{Logic, sem}
use types.Kit.{Item, Goal, Seq, ‵, ◌$◌, ◌∵◌, !, qed, use1, fjoin, fpack, rewrite, done}
use denote.Laws.{Is, Typed, shows}
use denote.Memory.{cell_at, part_at, part_of}
use denote.Param.{layout}
use denote.Steps.{peeks}
use Rattle.std.proofs.cell.Inside.{Good}
use Rattle.scene_c.proofs.HandleValues.{Handle}
use Rattle.scene_c.proofs.handle.Handle.TheLaws.{the_row_laws}

one_of : (τ : Ty) (vs : List Val) → Typed (τ ∷ []) vs → (v : Val) × ((vs ≡ v ∷ []) × Good τ v)
one_of τ [] t = absurd t
one_of τ (v ∷ []) t = (v, (refl, t.0))
one_of τ (v ∷ w ∷ vs) t = absurd t.1

module _ {M : Type 1} {𝓤 : Ura M} {𝓛 : Logic 𝓤} {K : Type 0} {Γ : List (Item 𝓤)} {G : Goal 𝓤 𝓛.H} where
  -- a handle is one machine value
  pub handle_is : K → (d : Handle.Denot) (vs : List Val) → ((v : Val) → vs ≡ v ∷ [] → Good (layout Handle) v → Seq K 𝓛 (‵ (Handle.own_val d (v ∷ [])) ∷ Γ) G) → Seq K 𝓛 (‵ (Handle.own_val d vs) ∷ Γ) G
  handle_is t d vs k =
      peeks t Handle (Is Handle) (shows 𝓛 Handle) d vs (λ is.
      let one = one_of (layout Handle) vs ((the_row_laws.lawful 𝓛).typed d vs is) in
      rewrite t 0 (λ (us : List Val). ‵ (Handle.own_val d us)) one.1.0 refl $ k one.0 one.1.0 one.1.1)

module _ {M : Type 1} {𝓤 : Ura M} (𝓛 : Logic 𝓤) where
  open 𝓛 use {H}

  pub placed : (d : Handle.Denot) (b o : ℕ) (v : Val) → ent 𝓤 (sep 𝓤 (H.at full_share (layout Handle) b o v) (sem 𝓛 (Handle.own_val d (v ∷ [])))) (sem 𝓛 (part_at Handle full_share d b o))
  unfolding part_of
  placed d b o v =
      qed 𝓛 (‵ (fat full_share (layout Handle) b o v) ∷ ‵ (Handle.own_val d (v ∷ [])) ∷ []) ∵
      use1 𝓛 (‵ (fat full_share (bare (layout Handle)) b o v)) (𝓛.laws.at_raw full_share (layout Handle) b o v) $ fjoin ! $
      fpack ! (List Val) (λ vs. fsep (cell_at full_share Handle.mir vs b o) (Handle.own_val d vs)) (v ∷ []) $ done !
