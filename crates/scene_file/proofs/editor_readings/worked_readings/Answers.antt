use Rattle.std.proofs.Common.{refl}
use Rattle.std.specs.Fmt.{digits}
use Rattle.std.specs.Str.{is_utf8, chars}
use Rattle.std.specs.Char.{encode_utf8}
use Rattle.serde_json.proofs.OnLiterals.{serde_json_on_literals}
use Rattle.scene_file.proofs.editor_readings.worked_readings.Goals as goal

pub returns-clause-loaded : goal.returns-clause-loaded
unfolding serde_json_on_literals digits is_utf8 encode_utf8 chars
returns-clause-loaded c = (refl, refl, refl, refl, refl, refl, refl)

pub returns-clause-records : goal.returns-clause-records
unfolding serde_json_on_literals digits is_utf8 encode_utf8 chars
returns-clause-records c = (refl, refl, refl, refl, refl, refl, refl, refl, refl)

pub returns-clause-faults : goal.returns-clause-faults
unfolding serde_json_on_literals digits is_utf8 encode_utf8 chars
returns-clause-faults c = (refl, refl, refl, refl, refl, refl, refl, refl, refl, refl, refl, refl, refl, refl)
