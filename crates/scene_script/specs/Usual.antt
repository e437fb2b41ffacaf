-- What the lines that long scripts have most say.
use Rattle.scene_script.specs.declared.script_line.Line.{Line}
use Rattle.scene_script.specs.declared.script_line.Line.TheVariants as line
use Rattle.scene_script.specs.declared.usual.UsualLine.{UsualLine}
use Rattle.scene_script.specs.declared.usual.UsualLine.TheVariants.{Do, Undo, Redo}

-- a usual line, among all lines
abbrev pub line_of : UsualLine → Line
line_of (Do command) = line.Do command
line_of Undo = line.Undo
line_of Redo = line.Redo
