use Rattle.std.proofs.Common.{◌∙◌, ap, sym, subst}
use Rattle.std.specs.Prelude.{option_map}
use Rattle.scene_kinds.specs.declared.cells.Row.{Row}
use Rattle.scene_table.specs.Tables.{row_at, StandsIn}
use Rattle.scene_archetypes.specs.Archetypes.{AreHomes}
use Rattle.scene_archetypes.proofs.WrittenHomes.{entity_within, came_within, left}
use Rattle.scene_archetypes.proofs.archetypes.Archetypes.take_row.Goals as goal

pub write_left-requires-clause-gone : goal.write_left-requires-clause-gone
write_left-requires-clause-gone c = entity_within c.self.inside.tables.tables c.self.inside.homes.items c.args.entity c.args.home c.self.invariant (subst (λ a. StandsIn a.tables c.args.entity c.args.home) (sym c.self.view_is) c.requires)

pub write_left-requires-clause-came : goal.write_left-requires-clause-came
write_left-requires-clause-came c =
    came_within c.self.inside.tables.tables c.self.inside.homes.items c.args.entity c.args.home c.take_row.new.self.tables c.in_ok-row.came c.self.invariant (subst (λ a. StandsIn a.tables c.args.entity c.args.home) (sym c.self.view_is) c.requires)
    (ap (λ t. row_at t c.args.home) c.in_ok-row.ensures.ok) c.in_ok-row.ensures.came

pub invariant_of-self-2 : goal.invariant_of-self-2
invariant_of-self-2 c =
    subst (λ t. AreHomes t c.write_left.new.homes.items) (sym c.in_ok-row.ensures.ok)
    (left c.self.inside.tables.tables c.self.inside.homes.items c.args.entity c.args.home c.in_ok-row.came c.write_left.new.homes.items c.self.invariant (subst (λ a. StandsIn a.tables c.args.entity c.args.home) (sym c.self.view_is) c.requires)
    (c.in_ok-row.ensures.came ∙ ap (λ t. option_map (λ (row : Row). row.entity) (row_at t c.args.home)) c.in_ok-row.ensures.ok) c.write_left.ensures)
