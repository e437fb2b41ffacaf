use Rattle.std.proofs.Common.{◌∙◌, ap, ap₂}
use Rattle.std.proofs.lemmas.Result.{IfOk-weaker}
use Rattle.clap.specs.Words.{with_subcommand}
use Rattle.scene_command_line.specs.Words.{run_shape, shell_shape}
use Rattle.scene_command_line.proofs.reading.commands_without_file.Goals as goal

pub returns : goal.returns
returns c =
    let first = c.in_ok-line-2.ensures ∙ ap (λ a. with_subcommand a run_shape) c.in_ok-line.ensures in
    let second = c.in_ok-line-3.ensures ∙ ap (λ a. with_subcommand a shell_shape) first in
    let third = c.in_ok-subcommand.ensures.shape c.command.ensures.local ∙ ap₂ with_subcommand second c.command.ensures.shape in
    IfOk-weaker c.subcommand-2.result _ _
    (λ made adds. adds.shape c.command-2.ensures.local ∙ ap₂ with_subcommand third c.command-2.ensures.shape)
    c.subcommand-2.ensures
