-- The commands of which `clap` is told, and what its answers mean.
use Rattle.std.specs.Prelude.{◌≡◌, ◌⊎◌, ◌&&◌, ℕ, Bool, List, [], ◌∷◌, length, true, false, Option, Some, None, nat_lt, nat_le, if◌then◌else◌, codes}
use Rattle.std.specs.Char.{digit_value}
use Rattle.std.specs.List.{list_all}
use Rattle.std.specs.Option.{option_map_or}
use Rattle.std.specs.Str.{bytes_eq}
use Rattle.std.specs.Str.Parse.{digits_value, without_leading_plus}
use Rattle.clap.specs.Words.{App, Kinds, Row, Rule, Shape, Text, fault_of, first_of, new_app, new_rule, one_of, subcommand_of, with_subcommand}
use Rattle.clap.specs.Simple.{new_shape, on_top}
use Rattle.clap.specs.declared.builder.action.ArgAction.TheVariants.{Set, SetTrue}
use Rattle.clap.specs.declared.error.kind.ErrorKind.{ErrorKind}
use Rattle.clap.specs.declared.error.kind.ErrorKind.TheVariants.{DisplayHelp}
use Rattle.scene_command_line.specs.Asks.{Asks, ToRun, ToShell, ToCheck, ToPrint, ToShow, ToDump, ToLog, ToCompact, ToBackUp, ToRestore, ToHelp, Nothing}

-- an option of this name, which takes one word
abbrev pub option_rule : Text → Rule
option_rule name = record (new_rule name) { long = Some name; action = Some Set; value_names = 1 }

-- an option of this name, which takes one word and has to be given
abbrev pub required_option_rule : Text → Rule
required_option_rule name = record (option_rule name) { required = true }

-- an option of this name, which takes no word
abbrev pub flag_rule : Text → Rule
flag_rule name = record (new_rule name) { long = Some name; action = Some SetTrue }

-- a word of this name, which has to be given
abbrev pub argument_rule : Text → Rule
argument_rule name = record (new_rule name) { action = Some Set; value_names = 1; required = true }

-- the word that stands for the name of a file
abbrev pub file_rule : Rule
file_rule = argument_rule (codes "file")

-- the word that stands for the name of a copy
abbrev pub copy_rule : Rule
copy_rule = argument_rule (codes "copy")

-- the option `--workers` of `run` and of `shell`
abbrev pub workers_rule : Rule
workers_rule = option_rule (codes "workers")

-- the command `run`, with its option
abbrev pub run_shape : Shape
run_shape = record (new_shape (codes "run")) { rules = workers_rule ∷ [] }

-- the command `shell`, with its five options
abbrev pub shell_shape : Shape
shell_shape = record (new_shape (codes "shell")) {
  rules = workers_rule ∷ option_rule (codes "depth") ∷ flag_rule (codes "framed") ∷ flag_rule (codes "json")
      ∷ option_rule (codes "store") ∷ [];
}

-- a command of this name, which takes the name of a file
abbrev pub file_shape : Text → Shape
file_shape name = record (new_shape name) { rules = file_rule ∷ [] }

-- the command `dump`, with the name of a file and its option
abbrev pub dump_shape : Shape
dump_shape = record (new_shape (codes "dump")) { rules = file_rule ∷ flag_rule (codes "all") ∷ [] }

-- the command `backup`, with the names of the two files
abbrev pub backup_shape : Shape
backup_shape = record (new_shape (codes "backup")) { rules = file_rule ∷ copy_rule ∷ [] }

-- the command `restore`, with the names of the two files and its option
abbrev pub restore_shape : Shape
restore_shape = record (new_shape (codes "restore")) {
  rules = file_rule ∷ copy_rule ∷ required_option_rule (codes "at") ∷ [];
}

-- the program before it has commands, of which one has to be named
abbrev pub bare_line : App
bare_line = on_top (λ s. record s { subcommand_required = true }) (new_app (codes "scene"))

-- the program with the commands that no file follows: one of `run`, `shell`, `check` and `print` has to be named, and
-- but for the options none takes a word more
abbrev pub line_without_file : App
line_without_file =
    with_subcommand
    (with_subcommand
    (with_subcommand
    (with_subcommand bare_line
    run_shape)
    shell_shape)
    (new_shape (codes "check")))
    (new_shape (codes "print"))

-- the program with all its commands: `show`, `dump`, `log` and `compact` may be named too, each with a file, and `backup`
-- and `restore` with two
abbrev pub scene_line : App
scene_line =
    with_subcommand
    (with_subcommand
    (with_subcommand
    (with_subcommand
    (with_subcommand
    (with_subcommand line_without_file
    (file_shape (codes "show")))
    dump_shape)
    (file_shape (codes "log")))
    (file_shape (codes "compact")))
    backup_shape)
    restore_shape

-- the word is decimal digits, behind at most one plus
abbrev pub is_number : Text → Bool
is_number word =
    let digits = without_leading_plus word in
    nat_lt 0 (length digits) && list_all (λ d. nat_lt (digit_value d) 10) digits

-- the number that a word is, where it is 1 to `most`
abbrev pub number_to : ℕ → Text → Option ℕ
number_to most word =
    let number = digits_value 10 (without_leading_plus word) in
    if is_number word && (nat_lt 0 number && nat_le number most) then Some number else None

-- the number of workers that a word says, if one does, and else one
abbrev pub workers_given : Option Text → Option ℕ
workers_given None = Some 1
workers_given (Some word) = number_to 16 word

-- of how many frames a record is kept, as a word says, if one does, and else of the most
abbrev pub depth_given : Option Text → Option ℕ
depth_given None = Some 1048576
depth_given (Some word) = number_to 1048576 word

-- the name of a file that a word is: any but the empty one
abbrev pub file_in : Text → Option Text
file_in [] = None
file_in (byte ∷ bytes) = Some (byte ∷ bytes)

-- the file that a word names, if one does
abbrev pub file_given : Option Text → Option Text
file_given None = None
file_given (Some word) = file_in word

-- what is asked of a file, if it has a name
abbrev pub file_by : (Text → Asks) → Option Text → Asks
file_by asks None = Nothing
file_by asks (Some file) = asks file

-- what is asked of the file that a word names, if one does
abbrev pub file_asked : (Text → Asks) → Option Text → Asks
file_asked asks word = file_by asks (file_given word)

-- a copy of a store, if both files have names
abbrev pub backup_by : Option Text → Option Text → Asks
backup_by (Some file) (Some copy) = ToBackUp file copy
backup_by _ _ = Nothing

-- a copy of the store in the file that a word names, in the one that another does, if they do
abbrev pub backup_asked : Option Text → Option Text → Asks
backup_asked file copy = backup_by (file_given file) (file_given copy)

-- the number of an entry that a word says, if one does
abbrev pub entry_given : Option Text → Option ℕ
entry_given None = None
entry_given (Some word) = number_to 18446744073709551615 word

-- a store as it was at an entry, if both files have names and the entry a number
abbrev pub restore_by : Option Text → Option Text → Option ℕ → Asks
restore_by (Some file) (Some copy) (Some entry) = ToRestore file copy entry
restore_by _ _ _ = Nothing

-- the store in the file that a word names, as it was at the entry that another says, in the file that one more names, if
-- they do
abbrev pub restore_asked : Option Text → Option Text → Option Text → Asks
restore_asked file copy entry = restore_by (file_given file) (file_given copy) (entry_given entry)

-- a run with these workers; it is bad where their number is
abbrev pub run_by : Option ℕ → Asks
run_by None = Nothing
run_by (Some workers) = ToRun workers

-- a run with the workers that a word says, if one does
abbrev pub run_asked : Option Text → Asks
run_asked workers = run_by (workers_given workers)

-- a shell of these workers and this depth; it is bad where one of the numbers is
abbrev pub shell_by : Option ℕ → Option ℕ → Bool → Bool → Option Text → Asks
shell_by (Some workers) (Some depth) is_framed is_json store =
    ToShell (record { workers = workers; depth = depth; is_framed = is_framed; is_json = is_json; store = store })
shell_by _ _ is_framed is_json store = Nothing

-- a shell with the store that a word names; it is bad where a depth is said too
abbrev pub shell_of_store : Option Text → Option Text → Bool → Bool → Text → Asks
shell_of_store workers None is_framed is_json store =
    file_asked (λ file. shell_by (workers_given workers) (depth_given None) is_framed is_json (Some file)) (Some store)
shell_of_store workers (Some depth) is_framed is_json store = Nothing

-- a shell with the workers, the depth and the store that words say, if words do, which is framed or not, and answers by
-- JSON or not
abbrev pub shell_asked : Option Text → Option Text → Bool → Bool → Option Text → Asks
shell_asked workers depth is_framed is_json None =
    shell_by (workers_given workers) (depth_given depth) is_framed is_json None
shell_asked workers depth is_framed is_json (Some store) = shell_of_store workers depth is_framed is_json store

-- the flag of this name is given
abbrev pub has_flag : Text → List Row → Bool
has_flag name rows = option_map_or (λ text. bytes_eq text (codes "true")) (one_of name rows) false

-- a command of one of these names, with what is given for its file; a name that is none's is bad
abbrev pub file_command_named : Text → Option Text → Asks
file_command_named name file =
    if bytes_eq name (codes "show") then file_asked ToShow file
    else (if bytes_eq name (codes "log") then file_asked ToLog file
    else (if bytes_eq name (codes "compact") then file_asked ToCompact file else Nothing))

-- the command of a name, with the values of its options; a name that is none's is bad
abbrev pub command_named : Text → List Row → Asks
command_named name options =
    if bytes_eq name (codes "run") then run_asked (first_of (codes "workers") options)
    else (if bytes_eq name (codes "shell")
    then shell_asked (first_of (codes "workers") options) (first_of (codes "depth") options)
    (has_flag (codes "framed") options) (has_flag (codes "json") options) (first_of (codes "store") options)
    else (if bytes_eq name (codes "check") then ToCheck
    else (if bytes_eq name (codes "print") then ToPrint
    else (if bytes_eq name (codes "backup")
    then backup_asked (first_of (codes "file") options) (first_of (codes "copy") options)
    else (if bytes_eq name (codes "restore")
    then restore_asked (first_of (codes "file") options) (first_of (codes "copy") options) (first_of (codes "at") options)
    else (if bytes_eq name (codes "dump")
    then file_asked (ToDump (has_flag (codes "all") options)) (first_of (codes "file") options)
    else file_command_named name (first_of (codes "file") options)))))))

-- the command that was met, with its matches
abbrev pub command_of : Option (Text × List Row) → Asks
command_of None = Nothing
command_of (Some met) = command_named met.0 met.1

-- the command that the words name, where `clap` takes them
abbrev pub command_in : List Text → Asks
command_in words = command_of (subcommand_of scene_line words)

-- a command line on which `clap` gives an error of this kind asks for this: for help, or else it is bad
abbrev pub by_kind : ErrorKind → Asks
by_kind DisplayHelp = ToHelp
by_kind _ = Nothing

-- one of the kinds means this
abbrev pub AnswersOneOf : Kinds → Asks → Type 0
AnswersOneOf [] asks = ⊥
AnswersOneOf (kind ∷ kinds) asks = (asks ≡ by_kind kind) ⊎ AnswersOneOf kinds asks

-- where `clap` refuses a command line by one of these kinds, it asks for what the kind means, and else for the command
abbrev pub Answers : Kinds → Asks → Asks → Type 0
Answers [] command asks = asks ≡ command
Answers (kind ∷ kinds) command asks = AnswersOneOf (kind ∷ kinds) asks

-- what the words of a command line ask for, the program's own name first
abbrev pub AsksFor : Asks → List Text → Type 0
AsksFor asks words = Answers (fault_of scene_line words) (command_in words) asks
