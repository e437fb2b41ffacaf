use Rattle.std.proofs.Common.{◌∙◌, ap, codes}
use Rattle.std.proofs.lemmas.Result.{IfOk-weaker}
use Rattle.clap.specs.Words.{with_subcommand}
use Rattle.scene_command_line.specs.Words.{backup_shape, dump_shape, file_shape, restore_shape}
use Rattle.scene_command_line.proofs.reading.commands.Goals as goal

pub returns : goal.returns
returns c =
    let show = c.in_ok-line-2.ensures ∙ ap (λ a. with_subcommand a (file_shape (codes "show"))) c.in_ok-line.ensures in
    let dump = c.in_ok-line-3.ensures ∙ ap (λ a. with_subcommand a dump_shape) show in
    let log = c.in_ok-line-4.ensures ∙ ap (λ a. with_subcommand a (file_shape (codes "log"))) dump in
    let compact = c.in_ok-line-5.ensures ∙ ap (λ a. with_subcommand a (file_shape (codes "compact"))) log in
    let backup = c.in_ok-line-6.ensures ∙ ap (λ a. with_subcommand a backup_shape) compact in
    IfOk-weaker c.with_restore_command.result _ _
    (λ made adds. adds ∙ ap (λ a. with_subcommand a restore_shape) backup)
    c.with_restore_command.ensures
