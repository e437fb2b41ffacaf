use Rattle.std.proofs.Common.{refl}
use Rattle.std.specs.Fmt.{digits}
use Rattle.std.specs.Str.{is_utf8, chars}
use Rattle.std.specs.Char.{encode_utf8}
use Rattle.serde_json.proofs.OnLiterals.{serde_json_on_literals}
use Rattle.scene_file.proofs.examples.worked_texts.Goals as goal

pub returns-clause-small : goal.returns-clause-small
unfolding serde_json_on_literals digits is_utf8 encode_utf8 chars
returns-clause-small c = (refl, refl, refl, refl, refl)

pub returns-clause-json : goal.returns-clause-json
unfolding serde_json_on_literals digits is_utf8 encode_utf8 chars
returns-clause-json c = (refl, refl, refl, refl, refl, refl, refl)

pub returns-clause-head : goal.returns-clause-head
unfolding serde_json_on_literals digits is_utf8 encode_utf8 chars
returns-clause-head c = (refl, refl, refl, refl, refl, refl, refl, refl, refl, refl)

pub returns-clause-limit : goal.returns-clause-limit
unfolding serde_json_on_literals digits is_utf8 encode_utf8 chars
returns-clause-limit c = (refl, refl, refl)

pub returns-clause-rows : goal.returns-clause-rows
unfolding serde_json_on_literals digits is_utf8 encode_utf8 chars
returns-clause-rows c = (refl, refl, refl, refl, refl, refl, refl, refl, refl)

pub returns-clause-broken : goal.returns-clause-broken
unfolding serde_json_on_literals digits is_utf8 encode_utf8 chars
returns-clause-broken c = (refl, refl, refl, refl, refl, refl, refl, refl)

pub returns-clause-children : goal.returns-clause-children
unfolding serde_json_on_literals digits is_utf8 encode_utf8 chars
returns-clause-children c = (refl, refl, refl, refl)

pub returns-clause-kinds : goal.returns-clause-kinds
unfolding serde_json_on_literals digits is_utf8 encode_utf8 chars
returns-clause-kinds c = (refl, refl, refl, refl)

pub returns-clause-resources : goal.returns-clause-resources
unfolding serde_json_on_literals digits is_utf8 encode_utf8 chars
returns-clause-resources c = (refl, refl, refl, refl, refl)

pub returns-clause-tables : goal.returns-clause-tables
unfolding serde_json_on_literals digits is_utf8 encode_utf8 chars
returns-clause-tables c = (refl, refl, refl, refl)
