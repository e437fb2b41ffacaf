use Rattle.std.proofs.Common.{◌≡◌, ◌∙◌, IfOk, Option, List, Result, ap, ap₂, refl, sym, codes, option_map}
use Rattle.std.proofs.lemmas.Result.{IfOk-weaker}
use Rattle.std.specs.Borrow.{Bor}
use Rattle.std.specs.declared.alloc.AllocError.{AllocError}
use Rattle.clap.specs.Matches.{first_value}
use Rattle.clap.specs.Words.{Row, Text, first_of, found_of, rows_of}
use Rattle.clap.specs.declared.parser.matches.ArgMatches.{ArgMatches}
use Rattle.clap.proofs.WalkLemmas.{first_value-rows}
use Rattle.scene_command_line.specs.Asks.{Asks, ToCompact, ToDump, ToLog, ToShow, asks_of}
use Rattle.scene_command_line.specs.Words.{backup_asked, command_named, file_asked, has_flag, restore_asked, run_asked, shell_asked}
use Rattle.scene_command_line.specs.declared.asked.Asked.{Asked}
use Rattle.scene_command_line.proofs.reading.command_named.Goals as goal

abbrev options_of : ArgMatches → List Row
options_of m = rows_of (found_of m)

-- the value that a getter reads, by the rows
value_of : (m : ArgMatches) (name : Text) (read : Option (Bor Text)) → option_map (λ w. w.now) read ≡ first_value (found_of m) name
    → option_map (λ w. w.now) read ≡ first_of name (options_of m)
value_of m name read is = is ∙ first_value-rows (found_of m) name

-- a command that takes the file that is read
of_file : (of : Text → Asks) (m : ArgMatches) (name : Text) (read : Option (Bor Text)) (answer : Result Asked AllocError)
    → option_map (λ w. w.now) read ≡ first_value (found_of m) (codes "file")
    → command_named name (options_of m) ≡ file_asked of (first_of (codes "file") (options_of m))
    → IfOk answer (λ asked. asks_of asked ≡ file_asked of (option_map (λ w. w.now) read))
    → IfOk answer (λ asked. asks_of asked ≡ command_named name (options_of m))
of_file of m name read answer is named =
    IfOk-weaker answer _ _ (λ asked asks. asks ∙ (ap (file_asked of) (value_of m (codes "file") read is) ∙ sym named))

pub returns-in-run : goal.returns-in-run
returns-in-run c =
    let options = options_of c.args.options.now in
    let workers = value_of c.args.options.now (codes "workers") c.get_str.result c.get_str.ensures in
    let named : command_named c.args.name.now options ≡ run_asked (first_of (codes "workers") options) = rw c.in-run.is refl in
    c.run_asked.ensures ∙ (ap run_asked workers ∙ sym named)

pub returns-in-shell : goal.returns-in-shell
returns-in-shell c =
    let options = options_of c.args.options.now in
    let workers = value_of c.args.options.now (codes "workers") c.get_str-in-shell.result c.get_str-in-shell.ensures in
    let depth = value_of c.args.options.now (codes "depth") c.get_str-in-shell-2.result c.get_str-in-shell-2.ensures in
    let store = value_of c.args.options.now (codes "store") c.get_str-in-shell-3.result c.get_str-in-shell-3.ensures in
    let given : Option Text = first_of (codes "workers") options in
    let kept : Option Text = first_of (codes "depth") options in
    let file : Option Text = first_of (codes "store") options in
    let named : command_named c.args.name.now options
    ≡ shell_asked given kept (has_flag (codes "framed") options) (has_flag (codes "json") options) file =
    rw c.in-shell.is refl in
    let same = ap₂ (λ w d. shell_asked w d c.has_flag.result c.has_flag-in-shell.result
    (option_map (λ w. w.now) c.get_str-in-shell-3.result)) workers depth
    ∙ (ap (shell_asked given kept c.has_flag.result c.has_flag-in-shell.result) store
    ∙ (ap₂ (λ f j. shell_asked given kept f j file) c.has_flag.ensures c.has_flag-in-shell.ensures ∙ sym named)) in
    IfOk-weaker c.shell_asked.result _ _ (λ asked is. is ∙ same) c.shell_asked.ensures

pub returns-in-show : goal.returns-in-show
returns-in-show c =
    of_file ToShow c.args.options.now c.args.name.now _ c.show_asked.result c.get_str-in-show.ensures
    (rw c.in-show.is refl) c.show_asked.ensures

pub returns-in-dump : goal.returns-in-dump
returns-in-dump c =
    let options = options_of c.args.options.now in
    let file = value_of c.args.options.now (codes "file") c.get_str-in-dump.result c.get_str-in-dump.ensures in
    let named : command_named c.args.name.now options
    ≡ file_asked (ToDump (has_flag (codes "all") options)) (first_of (codes "file") options) =
    rw c.in-dump.is refl in
    IfOk-weaker c.dump_asked.result _ _
    (λ asked is. is ∙ (ap₂ (λ all found. file_asked (ToDump all) found) c.has_flag-in-dump.ensures file ∙ sym named))
    c.dump_asked.ensures

pub returns-in-log : goal.returns-in-log
returns-in-log c =
    of_file ToLog c.args.options.now c.args.name.now _ c.log_asked.result c.get_str-in-log.ensures
    (rw c.in-log.is refl) c.log_asked.ensures

pub returns-in-compact : goal.returns-in-compact
returns-in-compact c =
    of_file ToCompact c.args.options.now c.args.name.now _ c.compact_asked.result c.get_str-in-compact.ensures
    (rw c.in-compact.is refl) c.compact_asked.ensures

pub returns-in-backup : goal.returns-in-backup
returns-in-backup c =
    let options = options_of c.args.options.now in
    let file = value_of c.args.options.now (codes "file") c.get_str-in-backup.result c.get_str-in-backup.ensures in
    let copy = value_of c.args.options.now (codes "copy") c.get_str-in-backup-2.result c.get_str-in-backup-2.ensures in
    let named : command_named c.args.name.now options
    ≡ backup_asked (first_of (codes "file") options) (first_of (codes "copy") options) =
    rw c.in-backup.is refl in
    IfOk-weaker c.backup_asked.result _ _
    (λ asked is. is ∙ (ap₂ backup_asked file copy ∙ sym named)) c.backup_asked.ensures

pub returns-in-restore : goal.returns-in-restore
returns-in-restore c =
    let options = options_of c.args.options.now in
    let file = value_of c.args.options.now (codes "file") c.get_str-in-restore.result c.get_str-in-restore.ensures in
    let copy = value_of c.args.options.now (codes "copy") c.get_str-in-restore-2.result c.get_str-in-restore-2.ensures in
    let entry = value_of c.args.options.now (codes "at") c.get_str-in-restore-3.result c.get_str-in-restore-3.ensures in
    let named : command_named c.args.name.now options
    ≡ restore_asked (first_of (codes "file") options) (first_of (codes "copy") options) (first_of (codes "at") options) =
    rw c.in-restore.is refl in
    let same = ap₂ (λ f t. restore_asked f t (option_map (λ w. w.now) c.get_str-in-restore-3.result)) file copy
    ∙ (ap (restore_asked (first_of (codes "file") options) (first_of (codes "copy") options)) entry ∙ sym named) in
    IfOk-weaker c.restore_asked.result _ _ (λ asked is. is ∙ same) c.restore_asked.ensures
