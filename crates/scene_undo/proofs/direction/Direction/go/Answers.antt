use Rattle.std.proofs.Common.{subst}
use Rattle.scene_undo.specs.Direction.{Can}
use Rattle.scene_undo.proofs.direction.Direction.go.Goals as goal

pub undo_reserved-requires-clause-fits : goal.undo_reserved-requires-clause-fits
undo_reserved-requires-clause-fits c = (subst (λ way. Can way c.args.world.now.room c.args.frame.now c.args.world.now.world) c.in-Undo.is c.requires).fits

pub undo_reserved-requires-clause-ready : goal.undo_reserved-requires-clause-ready
undo_reserved-requires-clause-ready c = (subst (λ way. Can way c.args.world.now.room c.args.frame.now c.args.world.now.world) c.in-Undo.is c.requires).ready

pub redo_reserved-requires-clause-fits : goal.redo_reserved-requires-clause-fits
redo_reserved-requires-clause-fits c = (subst (λ way. Can way c.args.world.now.room c.args.frame.now c.args.world.now.world) c.in-Redo.is c.requires).fits

pub redo_reserved-requires-clause-ready : goal.redo_reserved-requires-clause-ready
redo_reserved-requires-clause-ready c = (subst (λ way. Can way c.args.world.now.room c.args.frame.now c.args.world.now.world) c.in-Redo.is c.requires).ready
