use Rattle.std.proofs.Common.{◌∙◌, ap, true}
use Rattle.std.proofs.lemmas.Result.{IfOk-weaker}
use Rattle.clap.specs.Simple.{app_of_fields, on_top}
use Rattle.scene_command_line.proofs.reading.bare_line.Goals as goal

pub returns : goal.returns
returns c =
    IfOk-weaker c.bin_name.result _ _
    (λ made is. ap app_of_fields is.0
    ∙ (ap app_of_fields c.subcommand_required.ensures
    ∙ ap (on_top (λ s. record s { subcommand_required = true }))
    (ap app_of_fields c.after_help.ensures ∙ (ap app_of_fields c.about.ensures ∙ c.new.ensures.app))))
    c.bin_name.ensures
