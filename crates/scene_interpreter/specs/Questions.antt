-- What the lines of a script ask of a world, and what they are answered with.
use Rattle.scene_model.specs.World.{World}
use Rattle.scene_print.specs.Shown.{show_text}
use Rattle.scene_interpreter.specs.declared.question.WorldText.{WorldText}
use Rattle.scene_interpreter.specs.declared.question.WorldText.TheVariants.{Show, Get, Dump}
use Rattle.scene_interpreter.specs.Play.{dump_said, get_said}
use Rattle.scene_interpreter.specs.Said.{Said, Text}

-- what a world is asked for
abbrev pub asked_said : WorldText → World → Said
asked_said Show w = Text (show_text w)
asked_said (Get e) w = get_said w e
asked_said Dump w = dump_said w
