-- What is wrong with a bad command line.
use Rattle.std.specs.Prelude.{List, [], ◌∷◌, if◌then◌else◌, codes}
use Rattle.std.specs.Str.{bytes_eq}
use Rattle.clap.specs.Words.{Text}
use Rattle.scene_command_line.specs.declared.mistake.Mistake.{Mistake}
use Rattle.scene_command_line.specs.declared.mistake.Mistake.TheVariants.{NoCommand, HelpOfNoCommand, TakesWorkers, TakesShellOptions, TakesFile, TakesFileAndAll, TakesTwoFiles, TakesTwoFilesAndAt, TakesNoWord, NoOption, NoSuchCommand}
use Rattle.scene_command_line.specs.Plain.{is_command, is_file_command, is_option}

-- what is wrong where this is the first word of a bad command line
abbrev pub mistake_of : Text → Mistake
mistake_of word =
    if bytes_eq word (codes "run") then TakesWorkers
    else (if bytes_eq word (codes "shell") then TakesShellOptions
    else (if is_file_command word then TakesFile
    else (if bytes_eq word (codes "dump") then TakesFileAndAll
    else (if bytes_eq word (codes "backup") then TakesTwoFiles
    else (if bytes_eq word (codes "restore") then TakesTwoFilesAndAt
    else (if is_command word then TakesNoWord
    else (if bytes_eq word (codes "help") then HelpOfNoCommand
    else (if is_option word then NoOption else NoSuchCommand))))))))

-- what is wrong with the words of a bad command line, the program's own name first
abbrev pub mistake_in : List Text → Mistake
mistake_in (name ∷ word ∷ words) = mistake_of word
mistake_in words = NoCommand

-- the word behind the program's own name, or the empty one where there is none
abbrev pub second_word : List Text → Text
second_word (name ∷ word ∷ words) = word
second_word words = []
