-- What the plain command lines ask for: those without options, those with options in the order of the help text, and
-- those that ask for help.
use Rattle.std.specs.Prelude.{◌≡◌, Bool, List, [], ◌∷◌, ◌++◌, ◌==◌, ◌&&◌, ◌||◌, not, true, false, Option, Some, None, codes, drop, if◌then◌else◌}
use Rattle.std.specs.List.{list_all}
use Rattle.std.specs.Option.{option_map_or}
use Rattle.std.specs.Str.{bytes_eq}
use Rattle.clap.specs.Words.{Text}
use Rattle.scene_command_line.specs.Asks.{Asks, Nothing, ToDump}
use Rattle.scene_command_line.specs.Words.{backup_asked, command_named, file_asked, file_command_named, restore_asked, run_asked, shell_asked}

-- the word begins with a hyphen (45), as options do
abbrev pub is_option : Text → Bool
is_option [] = false
is_option (byte ∷ bytes) = byte == 45

-- the word asks for no help: it is no option, and not `help`
abbrev pub is_plain : Text → Bool
is_plain word = not (is_option word) && not (bytes_eq word (codes "help"))

-- so are all words after the program's own name
abbrev pub are_plain : List Text → Bool
are_plain words = list_all is_plain (drop 1 words)

-- a command with what is given for its file; another name is none's that takes one
abbrev pub file_named : Text → Option Text → Asks
file_named name file =
    if bytes_eq name (codes "dump") then file_asked (ToDump false) file else file_command_named name file

-- a backup, with what is given for its two files; another name is none's that takes two
abbrev pub backup_named : Text → Option Text → Option Text → Asks
backup_named name file copy = if bytes_eq name (codes "backup") then backup_asked file copy else Nothing

-- what such words ask for: one command has to be named, with as many files as it takes, and nothing more
abbrev pub plainly_asked : List Text → Asks
plainly_asked (name ∷ command ∷ []) = command_named command []
plainly_asked (name ∷ command ∷ file ∷ []) = file_named command (Some file)
plainly_asked (name ∷ command ∷ file ∷ copy ∷ []) = backup_named command (Some file) (Some copy)
plainly_asked words = Nothing

-- the word is the name of a command that takes a file, and no option
abbrev pub is_file_command : Text → Bool
is_file_command word =
    bytes_eq word (codes "show") || (bytes_eq word (codes "log") || bytes_eq word (codes "compact"))

-- the word is a command's name
abbrev pub is_command : Text → Bool
is_command word =
    bytes_eq word (codes "run") || (bytes_eq word (codes "shell")
    || (bytes_eq word (codes "check") || (bytes_eq word (codes "print")
    || (bytes_eq word (codes "backup") || (bytes_eq word (codes "restore")
    || (bytes_eq word (codes "dump") || is_file_command word))))))

-- a file is named behind a command that takes one and no option, and nothing more; any word but an option is its name, also `help`
abbrev pub asks_for_file : List Text → Bool
asks_for_file (name ∷ command ∷ word ∷ []) = is_file_command command && not (is_option word)
asks_for_file words = false

-- two files are named behind `backup`, and nothing more; any word but an option is the name of one
abbrev pub asks_for_backup : List Text → Bool
asks_for_backup (name ∷ command ∷ file ∷ copy ∷ []) =
    bytes_eq command (codes "backup") && (not (is_option file) && not (is_option copy))
asks_for_backup words = false

-- the word is the option that asks for help
abbrev pub is_help_option : Text → Bool
is_help_option word = bytes_eq word (codes "--help") || bytes_eq word (codes "-h")

-- help on the program or on one of its commands is asked for, and nothing more
abbrev pub asks_for_help : List Text → Bool
asks_for_help (name ∷ word ∷ []) = is_help_option word
asks_for_help (name ∷ command ∷ word ∷ []) = is_command command && is_help_option word
asks_for_help words = false

-- a run is asked for with a number of workers, and nothing more
abbrev pub asks_for_workers : List Text → Bool
asks_for_workers (name ∷ command ∷ option ∷ word ∷ []) =
    bytes_eq command (codes "run") && (bytes_eq option (codes "--workers") && not (is_option word))
asks_for_workers words = false

-- the word behind the option
abbrev pub workers_asked : List Text → Asks
workers_asked (name ∷ command ∷ option ∷ word ∷ []) = run_asked (Some word)
workers_asked words = Nothing

-- the words of an option, where it is given this word
abbrev pub option_words : Text → Option Text → List Text
option_words option None = []
option_words option (Some word) = option ∷ word ∷ []

-- the word of a flag, where it is given
abbrev pub flag_words : Text → Bool → List Text
flag_words flag is_given = if is_given then flag ∷ [] else []

-- a word that isn't an option, if there is one
abbrev pub is_no_option : Option Text → Bool
is_no_option word = option_map_or (λ w. not (is_option w)) word true

-- the command line of a shell with these options, in the order of the help text
abbrev pub shell_line : Text → Option Text → Option Text → Bool → Bool → Option Text → List Text
shell_line name workers depth is_framed is_json store =
    name ∷ codes "shell" ∷ option_words (codes "--workers") workers ++ (option_words (codes "--depth") depth
    ++ (flag_words (codes "--framed") is_framed ++ (flag_words (codes "--json") is_json
    ++ option_words (codes "--store") store)))

-- the command line of a scene text of the store in a file, with the past and the future or without
abbrev pub dump_line : Text → Bool → Text → List Text
dump_line name is_whole file = name ∷ codes "dump" ∷ flag_words (codes "--all") is_whole ++ file ∷ []

-- such a command line asks for just that text, whatever the file's name is, but an option
abbrev pub AsksForDump : Asks → List Text → Type 0
AsksForDump asks words = (name : Text) (is_whole : Bool) (file : Text) → is_option file ≡ false
    → words ≡ dump_line name is_whole file → asks ≡ file_asked (ToDump is_whole) (Some file)

-- the command line of a restore with these words, its option behind the files, as in docs/SHELL.md, or before them, as
-- the help text has it
abbrev pub restore_line : Text → Bool → Text → Text → Text → List Text
restore_line name is_behind file copy entry =
    let option = codes "--at" ∷ entry ∷ [] in
    let files = file ∷ copy ∷ [] in
    name ∷ codes "restore" ∷ (if is_behind then files ++ option else option ++ files)

-- such a command line asks for just that restore, whatever the words are, but options
abbrev pub AsksForRestore : Asks → List Text → Type 0
AsksForRestore asks words = (name : Text) (is_behind : Bool) (file copy entry : Text)
    → is_option file ≡ false → is_option copy ≡ false → is_option entry ≡ false
    → words ≡ restore_line name is_behind file copy entry
    → asks ≡ restore_asked (Some file) (Some copy) (Some entry)

-- such a command line asks for a shell with just these options
abbrev pub AsksForShell : Asks → List Text → Type 0
AsksForShell asks words = (name : Text) (workers depth : Option Text) (is_framed is_json : Bool) (store : Option Text)
    → is_no_option workers ≡ true → is_no_option depth ≡ true → is_no_option store ≡ true
    → words ≡ shell_line name workers depth is_framed is_json store
    → asks ≡ shell_asked workers depth is_framed is_json store
