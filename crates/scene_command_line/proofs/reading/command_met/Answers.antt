use Rattle.std.proofs.Common.{◌≡◌, ◌∙◌, Some, sym, option_map}
use Rattle.std.proofs.lemmas.Result.{IfOk-weaker}
use Rattle.clap.specs.Words.{found_of, rows_of, subcommand_rows_of}
use Rattle.clap.specs.declared.parser.matches.ArgMatches.TheViews.{out-ArgMatches}
use Rattle.scene_command_line.proofs.Answered.{met_by_parts, named_by_rows}
use Rattle.scene_command_line.proofs.reading.command_met.Goals as goal

pub returns-in-Some : goal.returns-in-Some
returns-in-Some c =
    let met = subcommand_rows_of c.args.matches.now in
    let name = c.in-Some.name.now in
    let options = rows_of (found_of c.in-Some.options.now) in
    let named : option_map (λ p. p.0) met ≡ Some name =
    named_by_rows (out-ArgMatches c.args.matches.now).subcommand ∙ sym c.in-Some.ensures.name in
    let rows : option_map (λ p. p.1) met ≡ Some options = sym c.in-Some.ensures.rows in
    IfOk-weaker c.command_named.result _ _
    (λ asked is. is ∙ sym (met_by_parts met name options named rows)) c.command_named.ensures
