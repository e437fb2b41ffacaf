use Rattle.std.proofs.Common.{refl}
use Rattle.std.specs.Fmt.{digits}
use Rattle.std.specs.Str.{is_utf8, chars}
use Rattle.std.specs.Char.{encode_utf8}
use Rattle.serde_json.proofs.OnLiterals.{serde_json_on_literals}
use Rattle.scene_requests.proofs.examples.worked_requests.Goals as goal

pub returns-clause-spawns : goal.returns-clause-spawns
unfolding serde_json_on_literals digits is_utf8 encode_utf8 chars
returns-clause-spawns c = (refl, refl, refl)

pub returns-clause-commands : goal.returns-clause-commands
unfolding serde_json_on_literals digits is_utf8 encode_utf8 chars
returns-clause-commands c = (refl, refl, refl, refl, refl, refl, refl, refl, refl, refl)

pub returns-clause-others : goal.returns-clause-others
unfolding serde_json_on_literals digits is_utf8 encode_utf8 chars
returns-clause-others c = (refl, refl, refl, refl, refl, refl, refl, refl, refl, refl)

pub returns-clause-systems : goal.returns-clause-systems
unfolding serde_json_on_literals digits is_utf8 encode_utf8 chars
returns-clause-systems c = (refl, refl)

pub returns-clause-faults : goal.returns-clause-faults
unfolding serde_json_on_literals digits is_utf8 encode_utf8 chars
returns-clause-faults c = (refl, refl, refl, refl, refl, refl, refl, refl, refl, refl, refl, refl, refl, refl, refl, refl)

pub returns-clause-within : goal.returns-clause-within
unfolding serde_json_on_literals digits is_utf8 encode_utf8 chars
returns-clause-within c = (refl, refl, refl, refl)

pub returns-clause-questions : goal.returns-clause-questions
unfolding serde_json_on_literals digits is_utf8 encode_utf8 chars
returns-clause-questions c = (refl, refl, refl, refl, refl, refl, refl, refl, refl, refl, refl, refl, refl, refl, refl, refl, refl, refl)
