use Rattle.std.proofs.Common.{sym}
use Rattle.scene_archetypes.proofs.Rooms.{there, home_known}
use Rattle.scene_archetypes.proofs.kind_tables.KindTables.table_of_row.Goals as goal

pub known_table-at-requires-clause-known : goal.known_table-at-requires-clause-known
known_table-at-requires-clause-known c = home_known c.self.inside.tables.items c.as_slice.result.now c.args.self.now c.args.home c.self.view_is c.as_slice.ensures.value c.requires

pub returns-clause-rows : goal.returns-clause-rows
returns-clause-rows c = sym (there c.self.inside.tables.items c.as_slice.result.now c.args.self.now c.args.home.mask c.known_table-at.result c.index.result.now c.self.view_is c.as_slice.ensures.value c.known_table-at.ensures c.index.ensures).rows

pub returns-clause-mask : goal.returns-clause-mask
returns-clause-mask c = (there c.self.inside.tables.items c.as_slice.result.now c.args.self.now c.args.home.mask c.known_table-at.result c.index.result.now c.self.view_is c.as_slice.ensures.value c.known_table-at.ensures c.index.ensures).named
