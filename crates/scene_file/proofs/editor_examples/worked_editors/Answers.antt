use Rattle.std.proofs.Common.{refl}
use Rattle.std.specs.Fmt.{digits}
use Rattle.std.specs.Str.{is_utf8, chars}
use Rattle.std.specs.Char.{encode_utf8}
use Rattle.serde_json.proofs.OnLiterals.{serde_json_on_literals}
use Rattle.scene_file.proofs.editor_examples.worked_editors.Goals as goal

pub returns-clause-done : goal.returns-clause-done
unfolding serde_json_on_literals digits is_utf8 encode_utf8 chars
returns-clause-done c = refl

pub returns-clause-undone : goal.returns-clause-undone
unfolding serde_json_on_literals digits is_utf8 encode_utf8 chars
returns-clause-undone c = refl
