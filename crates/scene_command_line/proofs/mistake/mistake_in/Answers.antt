use Rattle.std.proofs.Common.{◌∙◌, ap, string_bytes, arith}
use Rattle.scene_command_line.specs.Mistakes.{mistake_of}
use Rattle.scene_command_line.proofs.MistakeLaws.{by_second}
use Rattle.scene_command_line.proofs.mistake.mistake_in.Goals as goal

pub returns-in-len2-up-clause-mistake : goal.returns-in-len2-up-clause-mistake
returns-in-len2-up-clause-mistake c =
    c.mistake_of.ensures ∙ (ap mistake_of c.as_str.ensures.value
    ∙ by_second string_bytes c.args.words.now c.word-item.result (omega (arith, c.in-len2-up.len_at_least)) c.word-item.is)
