use Rattle.scene_interpreter.specs.Interpreter.{interpreter_of}
use Rattle.scene_c.proofs.OpenSceneLaws.{never_untold}
use Rattle.scene_c.proofs.open_scene.OpenScene.end_setup.Goals as goal

pub returns-clause-undone : goal.returns-clause-undone
returns-clause-undone c = never_untold (interpreter_of c.args.self.now.interpreter) (interpreter_of c.end_setup.new.self) c.end_setup.result c.end_setup.ensures.halted
