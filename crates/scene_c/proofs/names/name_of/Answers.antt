use Rattle.scene_c.proofs.names.name_of.Goals as goal

pub returns : goal.returns
returns c = c.name_in.ensures
