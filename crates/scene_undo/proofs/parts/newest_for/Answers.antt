use Rattle.scene_undo.proofs.parts.newest_for.Goals as goal

pub returns-in-Redo : goal.returns-in-Redo
returns-in-Redo c = c.none.ensures.covers c.args.world.now.world
