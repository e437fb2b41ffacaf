use Rattle.scene_kinds.proofs.Places.{none_placed, some_placed}
use Rattle.scene_kinds.proofs.Taken.{taken_placed}
use Rattle.scene_kinds.proofs.cells.place_of.Goals as goal

pub returns-clause-none : goal.returns-clause-none
returns-clause-none c = none_placed c.args.kind c.args.items.now _ c.find_place.ensures

pub returns-clause-some : goal.returns-clause-some
returns-clause-some c = some_placed c.args.kind c.args.items.now _ c.find_place.ensures

pub returns-clause-taken : goal.returns-clause-taken
returns-clause-taken c = taken_placed c.args.kind c.args.items.now _ c.find_place.ensures
