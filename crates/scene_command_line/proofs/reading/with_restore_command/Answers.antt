use Rattle.std.proofs.Common.{◌∙◌, ap}
use Rattle.std.proofs.lemmas.Result.{IfOk-weaker}
use Rattle.clap.specs.Words.{app_of, with_subcommand}
use Rattle.scene_command_line.proofs.reading.with_restore_command.Goals as goal

pub returns : goal.returns
returns c =
    IfOk-weaker c.subcommand.result _ _
    (λ made adds. adds.shape c.in_ok-restore.ensures.local ∙ ap (with_subcommand (app_of c.args.line)) c.in_ok-restore.ensures.shape)
    c.subcommand.ensures
