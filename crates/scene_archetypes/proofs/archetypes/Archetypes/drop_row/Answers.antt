use Rattle.std.proofs.Common.{◌∙◌, ap, sym, subst}
use Rattle.std.specs.Prelude.{option_map}
use Rattle.scene_kinds.specs.declared.cells.Row.{Row}
use Rattle.scene_table.specs.Tables.{row_at, StandsIn}
use Rattle.scene_archetypes.specs.Archetypes.{AreHomes}
use Rattle.scene_archetypes.proofs.WrittenHomes.{entity_within, came_within, left}
use Rattle.scene_archetypes.proofs.archetypes.Archetypes.drop_row.Goals as goal

pub write_left-requires-clause-gone : goal.write_left-requires-clause-gone
write_left-requires-clause-gone c = entity_within c.self.inside.tables.tables c.self.inside.homes.items c.args.entity c.args.home c.self.invariant (subst (λ a. StandsIn a.tables c.args.entity c.args.home) (sym c.self.view_is) c.requires)

pub write_left-requires-clause-came : goal.write_left-requires-clause-came
write_left-requires-clause-came c =
    came_within c.self.inside.tables.tables c.self.inside.homes.items c.args.entity c.args.home c.drop_row-came.new.self.tables c.drop_row-came.result c.self.invariant (subst (λ a. StandsIn a.tables c.args.entity c.args.home) (sym c.self.view_is) c.requires)
    (ap (λ t. row_at t c.args.home) c.drop_row-came.ensures.tables) c.drop_row-came.ensures.came

pub invariant_of-self : goal.invariant_of-self
invariant_of-self c =
    subst (λ t. AreHomes t c.write_left.new.homes.items) (sym c.drop_row-came.ensures.tables)
    (left c.self.inside.tables.tables c.self.inside.homes.items c.args.entity c.args.home c.drop_row-came.result c.write_left.new.homes.items c.self.invariant (subst (λ a. StandsIn a.tables c.args.entity c.args.home) (sym c.self.view_is) c.requires)
    (c.drop_row-came.ensures.came ∙ ap (λ t. option_map (λ (row : Row). row.entity) (row_at t c.args.home)) c.drop_row-came.ensures.tables) c.write_left.ensures)
