use Rattle.scene_archetypes.proofs.Rooms.{search_says}
use Rattle.scene_archetypes.proofs.kind_tables.hashed_table.Goals as goal

pub returns : goal.returns
returns c =
    let says = search_says c.args.mask c.args.kind_sets.now.keys c.args.tables.now c.get_index_of.result c.requires.listed
    c.get_index_of.ensures.index in
    record { some = says.0; none = says.1 }
