-- What an accepted outcome says of its parts.
use Rattle.std.proofs.Common.{◌≡◌, refl, ap, sym, ◌∙◌, Option, Some, None, Ok}
use Rattle.std.specs.Prelude.{Result, Err, option_map, option_and_then}
use Rattle.scene_kinds.specs.declared.entity.Entity.{Entity}
use Rattle.scene_kinds.specs.declared.cells.Row.{Row}
use Rattle.scene_kinds.specs.declared.fault.Fault.{Fault}
use Rattle.scene_kinds.specs.Answers.{Outcome}
use Rattle.scene_table.specs.declared.home.Home.{Home}
use Rattle.scene_model.specs.World.{World, home_of, row_of}
use Rattle.scene_table.specs.Tables.{row_at}
use Rattle.scene_model.specs.Commands.{unless, with_live}
use Rattle.scene_table.proofs.Homes.{home_found}

pub not_ok : {A E : Type 0} (x : A) (r : E) → ◌≡◌ {A = Result A E} (Err r) (Ok x) → ⊥
not_ok x r e = absurd (cc)

-- what no fault hinders
pub no_fault : {A W : Type 0} (f : Option Fault) (r : Outcome A W) (p : A × W) → unless f r ≡ Ok p → (f ≡ None) × (r ≡ Ok p)
no_fault None r p h = (refl, h)
no_fault (Some f) r p h = absurd (not_ok p _ h)

-- the worlds of two equal answers
pub same_world : {A W : Type 0} (a b : A) (v w : W) → ◌≡◌ {A = Outcome A W} (Ok (a, v)) (Ok (b, w)) → (a ≡ b) × (v ≡ w)
same_world {A} {W} a b v w e =
    let p : ◌≡◌ {A = A × W} (a, v) (b, w) = cc in (ap (λ (x : A × W). x.0) p, ap (λ (x : A × W). x.1) p)

-- the row of a live entity, from what is done with it
pub with_row_of : {A : Type 0} (P : Type 0) (w : World) (e : Entity) (rest : Home → Row → Outcome A World) (p : A × World) → with_live (row_of w e) rest ≡ Ok p
    → ((h : Home) (r : Row) → row_at w.tables h ≡ Some r → r.entity ≡ e → rest h r ≡ Ok p → P) → P
with_row_of {A} P w e rest p is then =
    elim (home_of w e) as (λ o. home_of w e ≡ o → with_live (option_and_then (λ h. option_map (λ (row : Row). (h, row)) (row_at w.tables h)) o) rest ≡ Ok p → P) [
      | None ↦ λ q s. absurd (not_ok p _ s)
      | Some h ↦ λ q s.
          let k = home_found w.tables e h q in
          then h k.row k.there k.same (sym (ap (λ o. with_live (option_map (λ (row : Row). (h, row)) o) rest) k.there) ∙ s)
    ] refl is
