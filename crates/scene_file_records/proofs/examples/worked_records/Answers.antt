use Rattle.std.proofs.Common.{refl}
use Rattle.std.specs.Fmt.{digits}
use Rattle.std.specs.Str.{is_utf8, chars}
use Rattle.std.specs.Char.{encode_utf8}
use Rattle.serde_json.proofs.OnLiterals.{serde_json_on_literals}
use Rattle.scene_file_records.proofs.examples.worked_records.Goals as goal

pub returns-clause-spawn : goal.returns-clause-spawn
unfolding serde_json_on_literals digits is_utf8 encode_utf8 chars
returns-clause-spawn c = ((refl, refl), (refl, refl), (refl, refl), (refl, refl), refl)

pub returns-clause-others : goal.returns-clause-others
unfolding serde_json_on_literals digits is_utf8 encode_utf8 chars
returns-clause-others c = ((refl, refl), (refl, refl), (refl, refl), (refl, refl), (refl, refl), (refl, refl))

pub returns-clause-records : goal.returns-clause-records
unfolding serde_json_on_literals digits is_utf8 encode_utf8 chars
returns-clause-records c = (refl, refl, refl, refl, refl, refl)

pub returns-clause-ops : goal.returns-clause-ops
unfolding serde_json_on_literals digits is_utf8 encode_utf8 chars
returns-clause-ops c = (refl, refl, refl, refl, refl, refl, refl, refl)

pub returns-clause-cells : goal.returns-clause-cells
unfolding serde_json_on_literals digits is_utf8 encode_utf8 chars
returns-clause-cells c = (refl, refl, refl, refl, refl, refl)

pub returns-clause-kinds : goal.returns-clause-kinds
unfolding serde_json_on_literals digits is_utf8 encode_utf8 chars
returns-clause-kinds c = (refl, refl)

pub returns-clause-links : goal.returns-clause-links
unfolding serde_json_on_literals digits is_utf8 encode_utf8 chars
returns-clause-links c = (refl, refl)

pub returns-clause-names : goal.returns-clause-names
unfolding serde_json_on_literals digits is_utf8 encode_utf8 chars
returns-clause-names c = (refl, refl)
