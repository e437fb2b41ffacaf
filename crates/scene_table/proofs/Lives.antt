-- Who is alive after a row was added, taken out or written.
use Rattle.std.proofs.Common.{◌≡◌, true, ap, sym, ◌∙◌, Some}
use Rattle.std.proofs.lemmas.Option.{same_Some}
use Rattle.scene_kinds.specs.declared.entity.Entity.{Entity}
use Rattle.scene_kinds.specs.declared.cells.Row.{Row}
use Rattle.scene_table.specs.declared.home.Home.{Home}
use Rattle.scene_table.specs.Tables.{Tables, row_at, lives, with_row, without_row, with_row_at}
use Rattle.scene_table.proofs.Homes.{here_live, live_here}
use Rattle.scene_table.proofs.Standing.{added_stays, removed_stays, rewritten_stays}

pub lives_added : (t : Tables) (row : Row) (e : Entity) → lives t e ≡ true → lives (with_row t row) e ≡ true
lives_added t row e l = let h = here_live t e l in live_here (with_row t row) e h.0 h.1.row (added_stays t row h.0 h.1.row h.1.there) h.1.same

-- everybody but the entity whose row was taken out lives on
pub lives_removed : (t : Tables) (h : Home) (gone : Row) (e : Entity) → row_at t h ≡ Some gone → (gone.entity ≡ e → ⊥) → lives t e ≡ true → lives (without_row t h) e ≡ true
lives_removed t h gone e at ne l =
    let g = here_live t e l in
    let k = removed_stays t h gone g.0 g.1.row at (λ s. ne (ap (λ (r : Row). r.entity) (same_Some gone g.1.row (sym at ∙ ap (row_at t) (sym s) ∙ g.1.there)) ∙ g.1.same)) g.1.there in
    live_here (without_row t h) e k.0 g.1.row k.1 g.1.same

pub lives_rewritten : (t : Tables) (h : Home) (was row : Row) (e : Entity) → row_at t h ≡ Some was → row.entity ≡ was.entity → lives t e ≡ true → lives (with_row_at t h row) e ≡ true
lives_rewritten t h was row e at same l =
    let g = here_live t e l in
    let k = rewritten_stays t h was row g.0 g.1.row at same g.1.there in
    live_here (with_row_at t h row) e g.0 k.0 k.1.0 (k.1.1 ∙ g.1.same)
