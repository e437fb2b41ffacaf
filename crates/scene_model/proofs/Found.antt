-- The home of a live entity, in a world.
use Rattle.std.proofs.Common.{◌≡◌, ap, sym, ◌∙◌, Option, Some, None}
use Rattle.std.specs.Prelude.{option_map, option_and_then, IfSome}
use Rattle.std.proofs.lemmas.Option.{slice_get_within}
use Rattle.scene_kinds.specs.declared.entity.Entity.{Entity}
use Rattle.scene_kinds.specs.declared.cells.Row.{Row}
use Rattle.scene_table.specs.declared.home.Home.{Home}
use Rattle.scene_model.specs.World.{World, home_of, IsHomeOf}
use Rattle.scene_table.specs.Tables.{rows_at, row_at, StandsIn}
use Rattle.scene_table.proofs.Homes.{home_found}

home_facts : (w : World) (e : Entity) (h : Home) → Some h ≡ home_of w e → IsHomeOf w e h
home_facts w e h is =
    let k = home_found w.tables e h (sym is) in
    record {
      row = k.row;
      there = k.there;
      same = k.same;
      within = slice_get_within (rows_at w.tables h.mask) h.place k.row k.there;
      found = ap (λ (o : Option Home). option_and_then (λ (g : Home). option_map (λ (row : Row). (g, row)) (row_at w.tables g)) o) (sym is) ∙ ap (λ (o : Option Row). option_map (λ (row : Row). (h, row)) o) k.there;
    }

pub some_home : (w : World) (e : Entity) (o : Option Home) → o ≡ home_of w e → IfSome o (IsHomeOf w e)
some_home w e None is = tt
some_home w e (Some h) is = home_facts w e h is

-- its row stands there
pub stands_in : (w : World) (e : Entity) (h : Home) → IsHomeOf w e h → StandsIn w.tables e h
stands_in w e h is = ap (option_map (λ (row : Row). row.entity)) is.there ∙ ap Some is.same
