use Rattle.scene_archetypes.proofs.Rooms.{known_stands}
use Rattle.scene_archetypes.proofs.kind_tables.known_table.Goals as goal

pub unreachable-requires : goal.unreachable-requires
unreachable-requires c = known_stands c.args.mask c.args.tables.now c.requires.known c.in-None.ensures.none
