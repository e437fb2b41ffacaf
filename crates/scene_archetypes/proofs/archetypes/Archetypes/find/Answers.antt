use Rattle.std.proofs.Common.{◌≡◌, ◌∙◌, ap, sym, true, false, Some, None}
use Rattle.std.specs.Prelude.{option_map}
use Rattle.scene_kinds.specs.declared.cells.Row.{Row}
use Rattle.scene_table.specs.Tables.{row_at, home_in, StandsIn}
use Rattle.scene_archetypes.proofs.WrittenHomes.{found_home, dead_home, home_lent, same_parts, same_itself}
use Rattle.scene_archetypes.proofs.archetypes.Archetypes.find.Goals as goal

-- the home that is looked at is that of the entity's index
pub returns-in_err-home-clause-home : goal.returns-in_err-home-clause-home
returns-in_err-home-clause-home c =
    let dead = dead_home c.self.inside.tables.tables c.self.inside.homes.items c.args.entity c.self.invariant (λ h at stands.
    let k : None ≡ Some h = sym c.in_err-home.was ∙ home_lent c.self.inside.homes.items c.as_slice.result.now c.args.entity.index h c.home_at.result c.as_slice.ensures.value c.home_at.ensures at in absurd (cc)) in
    c.from_residual.ensures ∙ sym dead ∙ ap (λ a. home_in c.args.entity a.tables.entries) c.self.view_is

pub returns-in_err-other-clause-home : goal.returns-in_err-other-clause-home
returns-in_err-other-clause-home c =
    let t = c.self.inside.tables.tables in
    let dead = dead_home t c.self.inside.homes.items c.args.entity c.self.invariant (λ h at stands.
    let k : Some c.in_ok-home.home ≡ Some h = sym c.in_ok-home.was ∙ home_lent c.self.inside.homes.items c.as_slice.result.now c.args.entity.index h c.home_at.result c.as_slice.ensures.value c.home_at.ensures at in
    let same : c.in_ok-home.home ≡ h = cc in
    let none : None ≡ Some c.args.entity = sym c.in_err-other.was ∙ c.entity_at.ensures ∙ ap (λ g. option_map (λ (row : Row). row.entity) (row_at t g)) same ∙ stands in absurd (cc)) in
    c.from_residual-in_err-other.ensures ∙ sym dead ∙ ap (λ a. home_in c.args.entity a.tables.entries) c.self.view_is

pub returns-then-eq-clause-home : goal.returns-then-eq-clause-home
returns-then-eq-clause-home c =
    let t = c.self.inside.tables.tables in
    let same = same_parts c.in_ok-other.other c.args.entity (sym c.eq.ensures ∙ c.if-eq.true) in
    let stands : StandsIn t c.args.entity c.in_ok-home.home = sym c.entity_at.ensures ∙ c.in_ok-other.was ∙ ap Some same in
    sym (found_home t c.self.inside.homes.items c.args.entity c.in_ok-home.home c.self.invariant stands) ∙ ap (λ a. home_in c.args.entity a.tables.entries) c.self.view_is

pub returns-else-eq-clause-home : goal.returns-else-eq-clause-home
returns-else-eq-clause-home c =
    let t = c.self.inside.tables.tables in
    let dead = dead_home t c.self.inside.homes.items c.args.entity c.self.invariant (λ h at stands.
    let k : Some c.in_ok-home.home ≡ Some h = sym c.in_ok-home.was ∙ home_lent c.self.inside.homes.items c.as_slice.result.now c.args.entity.index h c.home_at.result c.as_slice.ensures.value c.home_at.ensures at in
    let same : c.in_ok-home.home ≡ h = cc in
    let one : Some c.in_ok-other.other ≡ Some c.args.entity = sym c.in_ok-other.was ∙ c.entity_at.ensures ∙ ap (λ g. option_map (λ (row : Row). row.entity) (row_at t g)) same ∙ stands in
    let other : c.in_ok-other.other ≡ c.args.entity = cc in
    let no : true ≡ false = sym (same_itself c.in_ok-other.other c.args.entity other) ∙ sym c.eq.ensures ∙ c.if-eq.false in absurd (cc)) in
    sym dead ∙ ap (λ a. home_in c.args.entity a.tables.entries) c.self.view_is
