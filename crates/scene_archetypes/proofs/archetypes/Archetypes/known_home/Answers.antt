use Rattle.std.proofs.Common.{◌≡◌, ◌∙◌, ap, sym, subst, Some, None}
use Rattle.std.proofs.lemmas.Option.{same_Some}
use Rattle.scene_table.specs.Tables.{home_in, lives, StandsIn}
use Rattle.scene_archetypes.proofs.WrittenHomes.{found_home, home_lives}
use Rattle.scene_archetypes.proofs.archetypes.Archetypes.known_home.Goals as goal

pub unreachable-requires : goal.unreachable-requires
unreachable-requires c =
    let home = home_lives c.self.inside.tables.tables c.self.inside.homes.items c.as_slice.result.now c.args.entity c.home_at.result c.self.invariant
    (ap (λ a. lives a.tables c.args.entity) c.self.view_is ∙ c.requires) c.as_slice.ensures.value c.home_at.ensures in
    let none : None ≡ Some home.0 = sym c.in-None.is ∙ home.1.1 in absurd (cc)

pub returns-clause-home : goal.returns-clause-home
returns-clause-home c =
    let home = home_lives c.self.inside.tables.tables c.self.inside.homes.items c.as_slice.result.now c.args.entity c.home_at.result c.self.invariant
    (ap (λ a. lives a.tables c.args.entity) c.self.view_is ∙ c.requires) c.as_slice.ensures.value c.home_at.ensures in
    let same = same_Some home.0 c.in-Some.home (sym home.1.1 ∙ c.in-Some.is) in
    ap (λ a. home_in c.args.entity a.tables.entries) (sym c.self.view_is)
    ∙ found_home c.self.inside.tables.tables c.self.inside.homes.items c.args.entity home.0 c.self.invariant home.1.0 ∙ ap Some same

pub returns-clause-stands : goal.returns-clause-stands
returns-clause-stands c =
    let home = home_lives c.self.inside.tables.tables c.self.inside.homes.items c.as_slice.result.now c.args.entity c.home_at.result c.self.invariant
    (ap (λ a. lives a.tables c.args.entity) c.self.view_is ∙ c.requires) c.as_slice.ensures.value c.home_at.ensures in
    let same = same_Some home.0 c.in-Some.home (sym home.1.1 ∙ c.in-Some.is) in
    subst (λ h. StandsIn c.args.self.now.tables c.args.entity h) same
    (subst (λ a. StandsIn a.tables c.args.entity home.0) c.self.view_is home.1.0)
