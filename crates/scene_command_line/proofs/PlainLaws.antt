-- What `clap` makes of a command line without options.
use Rattle.std.proofs.Common.{◌≡◌, ◌∙◌, ℕ, true, false, None, List, inl, inr, refl, sym, subst, codes, [], ◌∷◌}
use Rattle.std.specs.List.{list_all}
use Rattle.std.specs.Str.{bytes_eq}
use Rattle.std.proofs.lemmas.Bool.{and_parts, both_ways, cases_Bool, false_from_ne_true, not-true}
use Rattle.std.proofs.lemmas.Slice.Eq.{bytes_eq-Decides}
use Rattle.clap.specs.Words.{Kinds, Shape, Text, fault_of}
use Rattle.clap.specs.Simple.{built_leaf, names_of, new_shape}
use Rattle.clap.specs.Walk.{Names, arg_by_index, idle, subcommand_met}
use Rattle.clap.specs.Faults.{stray_fault, turn_fault}
use Rattle.clap.specs.declared.error.kind.ErrorKind.TheVariants.{InvalidSubcommand, MissingSubcommand, UnknownArgument}
use Rattle.clap.proofs.OnLiterals.{clap_on_literals}
use Rattle.scene_command_line.specs.Asks.{Asks, Nothing}
use Rattle.scene_command_line.specs.Words.{Answers, AsksFor, command_named, scene_line}
use Rattle.scene_command_line.specs.Plain.{are_plain, is_command, is_file_command, is_option, is_plain, plainly_asked}
use Rattle.scene_command_line.proofs.BackupLaws.{backup_bare, backup_further, backup_half, backup_named_answer}
use Rattle.scene_command_line.proofs.CommandLaws.{IsNone, by_command, by_file_command, is_none}
use Rattle.scene_command_line.proofs.DumpLaws.{dump_bare, dump_further, dump_named}
use Rattle.scene_command_line.proofs.EnterLaws.{Enters, by_name, enters_run, enters_shell, leaf_fault, leaf_rows, level_first, line, no_dashes, no_long, no_short, refused_once, start, taken}
use Rattle.scene_command_line.proofs.FileLaws.{bare_answer, further_answer, named_answer}
use Rattle.scene_command_line.proofs.RestoreLaws.{restore_bare, restore_further, restore_half, restore_without_entry}

-- a word that is no option and no command has no place, where the command has no positional
stray_turn : (s : Shape) (names : Names) (word : Text) → is_option word ≡ false → subcommand_met names idle word ≡ None
    → arg_by_index s.rules 1 ≡ None → turn_fault s names start word ≡ stray_fault s
stray_turn s names word plain none places =
    rw (none, no_dashes word plain, no_long word plain, no_short word plain, places) refl

of_nothing : fault_of scene_line [] ≡ MissingSubcommand ∷ []
unfolding clap_on_literals
of_nothing = refl

of_name : (name : Text) → fault_of scene_line (name ∷ []) ≡ MissingSubcommand ∷ []
unfolding clap_on_literals
of_name name = refl

-- a first word that names nothing
no_command : (name word : Text) (rest : List Text) → is_option word ≡ false → subcommand_met (names_of line) idle word ≡ None
    → fault_of scene_line (name ∷ word ∷ rest) ≡ UnknownArgument ∷ InvalidSubcommand ∷ []
no_command name word rest plain none =
    level_first line.top (names_of line) word rest _ _ UnknownArgument (InvalidSubcommand ∷ [])
    (stray_turn line.top (names_of line) word plain none refl)

-- a word is too many after each command that takes no file; it is an unknown argument of that command
leaf_refuses : (s : Shape) (word : Text) (rest : List Text) → is_option word ≡ false
    → arg_by_index (built_leaf s).rules 1 ≡ None
    → stray_fault (built_leaf s) ≡ UnknownArgument ∷ [] → leaf_fault s (word ∷ rest) ≡ UnknownArgument ∷ []
leaf_refuses s word rest plain places leaf =
    level_first (built_leaf s) [] word rest false [] UnknownArgument []
    (stray_turn (built_leaf s) [] word plain refl places ∙ leaf)

-- ---- what is asked for

refused_twice : (kinds : Kinds) (command asks : Asks) → kinds ≡ UnknownArgument ∷ InvalidSubcommand ∷ []
    → Answers kinds command asks → asks ≡ Nothing
refused_twice kinds command asks two means = elim (subst (λ (ks : Kinds). Answers ks command asks) two means) [
  | inl bad ↦ bad
  | inr more ↦ elim more [ inl bad ↦ bad | inr none ↦ absurd none ]
]

-- a plain word is no option, and the first of plain words is one
is_no_option : (word : Text) → is_plain word ≡ true → is_option word ≡ false
is_no_option word plain = not-true _ (and_parts _ _ plain).0

first_is_plain : (word : Text) (rest : List Text) → list_all is_plain (word ∷ rest) ≡ true → is_plain word ≡ true
first_is_plain word rest plain = (and_parts _ _ plain).0

rest_is_plain : (word : Text) (rest : List Text) → list_all is_plain (word ∷ rest) ≡ true
    → list_all is_plain rest ≡ true
rest_is_plain word rest plain = (and_parts (is_plain word) _ plain).1

-- with a word more, a word that isn't a command with a file is bad
bad_plainly : (name command word : Text) (rest : List Text) → bytes_eq command (codes "backup") ≡ false
    → bytes_eq command (codes "dump") ≡ false → bytes_eq command (codes "show") ≡ false → bytes_eq command (codes "log") ≡ false
    → bytes_eq command (codes "compact") ≡ false → plainly_asked (name ∷ command ∷ word ∷ rest) ≡ Nothing
bad_plainly name command word [] backup dump show log compact = rw (dump, show, log, compact) refl
bad_plainly name command word (next ∷ []) backup dump show log compact = rw backup refl
bad_plainly name command word (next ∷ last ∷ rest) backup dump show log compact = refl

-- with two words more, a command with one file is
bad_further : (name command word next : Text) (rest : List Text) → is_file_command command ≡ true
    → plainly_asked (name ∷ command ∷ word ∷ next ∷ rest) ≡ Nothing
bad_further name command word next [] one =
    by_file_command (λ c. plainly_asked (name ∷ c ∷ word ∷ next ∷ []) ≡ Nothing) command refl refl refl one
bad_further name command word next (last ∷ rest) one = refl

-- so is `dump`
dump_plainly : (name file next : Text) (rest : List Text) → plainly_asked (name ∷ codes "dump" ∷ file ∷ next ∷ rest) ≡ Nothing
dump_plainly name file next [] = refl
dump_plainly name file next (last ∷ rest) = refl

abbrev Fits : Text → List Text → Asks → Text → Type 0
Fits name rest asks command = AsksFor asks (name ∷ command ∷ rest) → asks ≡ plainly_asked (name ∷ command ∷ rest)

module _ (name : Text) (asks : Asks) where
  -- a command that takes no file and needs no word
  after_bare : (command : Text) (s : Shape) → Enters command s → leaf_fault s [] ≡ []
      → command_named command (leaf_rows s []) ≡ command_named command []
      → arg_by_index (built_leaf s).rules 1 ≡ None → stray_fault (built_leaf s) ≡ UnknownArgument ∷ []
      → bytes_eq command (codes "backup") ≡ false → bytes_eq command (codes "dump") ≡ false
      → bytes_eq command (codes "show") ≡ false → bytes_eq command (codes "log") ≡ false
      → bytes_eq command (codes "compact") ≡ false
      → (rest : List Text) → list_all is_plain rest ≡ true → Fits name rest asks command
  after_bare command s enters fits alone full stray backup dump show log compact [] plain means =
      taken _ _ _ asks (enters.fails name [] ∙ fits) (enters.has name [] ∙ alone) means
  after_bare command s enters fits alone full stray backup dump show log compact (word ∷ rest) plain means =
      refused_once _ _ asks UnknownArgument refl
      (enters.fails name (word ∷ rest)
      ∙ leaf_refuses s word rest (is_no_option word (first_is_plain word rest plain)) full stray) means
      ∙ sym (bad_plainly name command word rest backup dump show log compact)

  after_run : (rest : List Text) → list_all is_plain rest ≡ true → Fits name rest asks (codes "run")
  unfolding clap_on_literals
  after_run = after_bare _ _ enters_run refl refl refl refl refl refl refl refl refl

  after_shell : (rest : List Text) → list_all is_plain rest ≡ true → Fits name rest asks (codes "shell")
  unfolding clap_on_literals
  after_shell = after_bare _ _ enters_shell refl refl refl refl refl refl refl refl refl

  after_check : (rest : List Text) → list_all is_plain rest ≡ true → Fits name rest asks (codes "check")
  unfolding clap_on_literals
  after_check =
      after_bare _ (new_shape (codes "check")) (by_name _ _ refl refl refl refl) refl refl refl refl refl refl refl refl refl

  after_print : (rest : List Text) → list_all is_plain rest ≡ true → Fits name rest asks (codes "print")
  unfolding clap_on_literals
  after_print =
      after_bare _ (new_shape (codes "print")) (by_name _ _ refl refl refl refl) refl refl refl refl refl refl refl refl refl

  after_file : (command : Text) → is_file_command command ≡ true → (rest : List Text) → list_all is_plain rest ≡ true
      → Fits name rest asks command
  after_file command one [] plain means = bare_answer command name one asks means
  after_file command one (word ∷ []) plain means =
      named_answer command name one asks word (is_no_option word (first_is_plain word [] plain)) means
  after_file command one (word ∷ next ∷ rest) plain means =
      further_answer command name one asks word next rest (is_no_option word (first_is_plain word (next ∷ rest) plain))
      (is_no_option next (first_is_plain next rest (rest_is_plain word (next ∷ rest) plain))) means
      ∙ sym (bad_further name command word next rest one)

  after_dump : (rest : List Text) → list_all is_plain rest ≡ true → Fits name rest asks (codes "dump")
  after_dump [] plain means = dump_bare name asks means
  after_dump (file ∷ []) plain means =
      dump_named name asks false file (is_no_option file (first_is_plain file [] plain)) means
  after_dump (file ∷ next ∷ rest) plain means =
      dump_further name asks file next rest (is_no_option file (first_is_plain file (next ∷ rest) plain))
      (is_no_option next (first_is_plain next rest (rest_is_plain file (next ∷ rest) plain))) means
      ∙ sym (dump_plainly name file next rest)

  after_backup : (rest : List Text) → list_all is_plain rest ≡ true → Fits name rest asks (codes "backup")
  after_backup [] plain means = backup_bare name asks means
  after_backup (file ∷ []) plain means = backup_half name asks file (is_no_option file (first_is_plain file [] plain)) means
  after_backup (file ∷ copy ∷ []) plain means =
      backup_named_answer name asks file copy (is_no_option file (first_is_plain file (copy ∷ []) plain))
      (is_no_option copy (first_is_plain copy [] (rest_is_plain file (copy ∷ []) plain))) means
  after_backup (file ∷ copy ∷ next ∷ rest) plain means =
      let later = rest_is_plain file (copy ∷ next ∷ rest) plain in
      backup_further name asks file copy next rest (is_no_option file (first_is_plain file (copy ∷ next ∷ rest) plain))
      (is_no_option copy (first_is_plain copy (next ∷ rest) later))
      (is_no_option next (first_is_plain next rest (rest_is_plain copy (next ∷ rest) later))) means

  after_restore : (rest : List Text) → list_all is_plain rest ≡ true → Fits name rest asks (codes "restore")
  after_restore [] plain means = restore_bare name asks means
  after_restore (file ∷ []) plain means =
      restore_half name asks file (is_no_option file (first_is_plain file [] plain)) means
  after_restore (file ∷ copy ∷ []) plain means =
      restore_without_entry name asks file copy (is_no_option file (first_is_plain file (copy ∷ []) plain))
      (is_no_option copy (first_is_plain copy [] (rest_is_plain file (copy ∷ []) plain))) means
  after_restore (file ∷ copy ∷ next ∷ rest) plain means =
      let later = rest_is_plain file (copy ∷ next ∷ rest) plain in
      restore_further name asks file copy next rest (is_no_option file (first_is_plain file (copy ∷ next ∷ rest) plain))
      (is_no_option copy (first_is_plain copy (next ∷ rest) later))
      (is_no_option next (first_is_plain next rest (rest_is_plain copy (next ∷ rest) later))) means

flipped : (xs ys : List ℕ) → bytes_eq xs ys ≡ false → bytes_eq ys xs ≡ false
flipped xs ys differ = false_from_ne_true _
    (λ same. both_ways _ differ ((bytes_eq-Decides xs ys).1 (sym ((bytes_eq-Decides ys xs).0 same))))

-- a first word that is no command
module _ (name word : Text) (none : IsNone word) where
  named_none : bytes_eq word (codes "help") ≡ false → subcommand_met (names_of line) idle word ≡ None
  named_none help = rw (
    flipped word _ none.run,
    flipped word _ none.shell,
    flipped word _ none.check,
    flipped word _ none.print,
    flipped word _ none.show,
    flipped word _ none.log,
    flipped word _ none.compact,
    flipped word _ none.backup,
    flipped word _ none.restore,
    flipped word _ none.dump,
    flipped word _ help,
  ) refl

  none_plainly : (rest : List Text) → plainly_asked (name ∷ word ∷ rest) ≡ Nothing
  none_plainly [] = rw (none.run, none.shell, none.check, none.print, none.backup, none.restore, none.dump, none.show, none.log, none.compact) refl
  none_plainly (next ∷ rest) = bad_plainly name word next rest none.backup none.dump none.show none.log none.compact

  after_none : (rest : List Text) (asks : Asks) → is_plain word ≡ true → Fits name rest asks word
  after_none rest asks plain means =
      refused_twice _ _ asks
      (no_command name word rest (is_no_option word plain) (named_none (not-true _ (and_parts _ _ plain).1))) means
      ∙ sym (none_plainly rest)

-- what `clap` makes of a command line without options is what is plainly asked for
pub plain_answer : (words : List Text) (asks : Asks) → are_plain words ≡ true → AsksFor asks words
    → asks ≡ plainly_asked words
plain_answer [] asks plain means = refused_once _ _ asks MissingSubcommand refl of_nothing means
plain_answer (name ∷ []) asks plain means = refused_once _ _ asks MissingSubcommand refl (of_name name) means
plain_answer (name ∷ word ∷ rest) asks plain means =
    let parts = and_parts (is_plain word) (list_all is_plain rest) plain in
    elim (cases_Bool (is_command word)) [
      | inl one ↦ by_command (Fits name rest asks) word (after_run name asks rest parts.1)
          (after_shell name asks rest parts.1)
          (after_check name asks rest parts.1) (after_print name asks rest parts.1)
          (after_backup name asks rest parts.1) (after_restore name asks rest parts.1)
          (after_dump name asks rest parts.1)
          (after_file name asks (codes "show") refl rest parts.1)
          (after_file name asks (codes "log") refl rest parts.1)
          (after_file name asks (codes "compact") refl rest parts.1) one means
      | inr none ↦ after_none name word (is_none word none) rest asks parts.0 means
    ]
