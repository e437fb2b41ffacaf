use Rattle.std.proofs.Common.{◌≡◌, ◌∙◌, ap, refl, sym, subst, map, string_bytes, true, List, [], IfOk}
use Rattle.std.proofs.lemmas.Result.{IfOk-weaker}
use Rattle.clap.specs.Words.{App, HasKind, Kinds, Text, app_of, fault_of, is_simple, is_simple_and_free, kind_of, subcommand_of}
use Rattle.clap.proofs.OnLiterals.{clap_on_literals}
use Rattle.scene_command_line.specs.Asks.{asks_of}
use Rattle.scene_command_line.specs.Words.{Answers, AsksFor, command_in, command_of, scene_line}
use Rattle.scene_command_line.proofs.Answered.{asked_by_kind}
use Rattle.scene_command_line.proofs.BackupLaws.{backup_answer}
use Rattle.scene_command_line.proofs.DumpLaws.{dump_answer}
use Rattle.scene_command_line.proofs.FileLaws.{file_answer}
use Rattle.scene_command_line.proofs.HelpLaws.{help_answer}
use Rattle.scene_command_line.proofs.PlainLaws.{plain_answer}
use Rattle.scene_command_line.proofs.RestoreLaws.{restore_answer}
use Rattle.scene_command_line.proofs.ShellLaws.{shell_answer}
use Rattle.scene_command_line.proofs.WorkersLaws.{workers_answer}
use Rattle.scene_command_line.proofs.reading.read_words.Goals as goal

is_free : is_simple_and_free scene_line ≡ true
unfolding clap_on_literals
is_free = refl

is_plain : is_simple scene_line ≡ true
unfolding clap_on_literals
is_plain = refl

pub returns-in-Ok : goal.returns-in-Ok
returns-in-Ok c =
    let words : List Text = map string_bytes c.args.words.now in
    let commands_are : app_of c.in_ok-commands.commands ≡ scene_line = c.in_ok-commands.ensures in
    let none : fault_of scene_line words ≡ [] =
    ap (λ (a : App). fault_of a words) (sym commands_are)
    ∙ c.in-Ok.ensures.kinds (ap is_simple_and_free commands_are ∙ is_free) in
    let met = (c.in-Ok.ensures.matches (ap is_simple commands_are ∙ is_plain)).1 in
    let named = ap command_of (met ∙ ap (λ (a : App). subcommand_of a words) commands_are) in
    let asks : IfOk c.command_met.result (λ asked. AsksFor (asks_of asked) words) =
    IfOk-weaker c.command_met.result _ _
    (λ asked is. subst (λ (kinds : Kinds). Answers kinds (command_in words) (asks_of asked)) (sym none) (is ∙ named))
    c.command_met.ensures in
    record {
      asked = asks;
      plain = λ plain. IfOk-weaker c.command_met.result _ _ (λ asked. plain_answer words (asks_of asked) plain) asks;
      workers = λ workers. IfOk-weaker c.command_met.result _ _
          (λ asked. workers_answer words (asks_of asked) workers) asks;
      shell = IfOk-weaker c.command_met.result _ _ (λ asked. shell_answer words (asks_of asked)) asks;
      dump = IfOk-weaker c.command_met.result _ _ (λ asked. dump_answer words (asks_of asked)) asks;
      restore = IfOk-weaker c.command_met.result _ _ (λ asked. restore_answer words (asks_of asked)) asks;
      file = λ file. IfOk-weaker c.command_met.result _ _ (λ asked. file_answer words (asks_of asked) file) asks;
      backup = λ backup. IfOk-weaker c.command_met.result _ _ (λ asked. backup_answer words (asks_of asked) backup) asks;
      help = λ help. IfOk-weaker c.command_met.result _ _ (λ asked. help_answer words (asks_of asked) help) asks;
    }

pub returns-in-Err : goal.returns-in-Err
returns-in-Err c =
    let words : List Text = map string_bytes c.args.words.now in
    let commands_are : app_of c.in_ok-commands.commands ≡ scene_line = c.in_ok-commands.ensures in
    let one = subst (λ (a : App). HasKind (fault_of a words) c.in-Err.error) commands_are
    (c.in-Err.ensures.kinds (ap is_simple_and_free commands_are ∙ is_free)) in
    let asks : IfOk c.without_command.result (λ asked. AsksFor (asks_of asked) words) =
    asked_by_kind (fault_of scene_line words) (kind_of c.in-Err.error) (command_in words) c.without_command.result
    one c.without_command.ensures.asked c.without_command.ensures.memory in
    record {
      asked = asks;
      plain = λ plain. IfOk-weaker c.without_command.result _ _
          (λ asked. plain_answer words (asks_of asked) plain) asks;
      workers = λ workers. IfOk-weaker c.without_command.result _ _
          (λ asked. workers_answer words (asks_of asked) workers) asks;
      shell = IfOk-weaker c.without_command.result _ _ (λ asked. shell_answer words (asks_of asked)) asks;
      dump = IfOk-weaker c.without_command.result _ _ (λ asked. dump_answer words (asks_of asked)) asks;
      restore = IfOk-weaker c.without_command.result _ _ (λ asked. restore_answer words (asks_of asked)) asks;
      file = λ file. IfOk-weaker c.without_command.result _ _ (λ asked. file_answer words (asks_of asked) file) asks;
      backup = λ backup. IfOk-weaker c.without_command.result _ _ (λ asked. backup_answer words (asks_of asked) backup) asks;
      help = λ help. IfOk-weaker c.without_command.result _ _ (λ asked. help_answer words (asks_of asked) help) asks;
    }
