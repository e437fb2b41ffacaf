-- What a command line asks for, with the names of files as their bytes.
use Rattle.std.specs.Prelude.{ℕ, Bool, Option, option_map, string_bytes}
use Rattle.clap.specs.Words.{Text}
use Rattle.scene_command_line.specs.declared.asked.Asked.{Asked}
use Rattle.scene_command_line.specs.declared.asked.Asked.TheVariants as variant
use Rattle.scene_command_line.specs.declared.asked.ShellWords.{ShellWords}

-- how a shell is asked for
pub record ShellAsks : Type 0 where
  pub workers : ℕ
  pub depth : ℕ
  pub is_framed : Bool
  pub is_json : Bool
  pub store : Option Text

-- what is asked for
pub data Asks : Type 0 where
  ToRun : ℕ → Asks
  ToShell : ShellAsks → Asks
  ToCheck : Asks
  ToPrint : Asks
  ToShow : Text → Asks
  -- with the past and the future or without, of the store in a file
  ToDump : Bool → Text → Asks
  ToLog : Text → Asks
  ToCompact : Text → Asks
  -- of a store in a file, the copy in another
  ToBackUp : Text → Text → Asks
  -- of a store in a file, in another, what it was at an entry of this number
  ToRestore : Text → Text → ℕ → Asks
  -- a help text, of which nothing is said
  ToHelp : Asks
  -- nothing, since the command line is bad
  Nothing : Asks

-- what a shell is asked to be, by its words
abbrev pub shell_asks_of : ShellWords → ShellAsks
shell_asks_of words = record {
  workers = words.workers;
  depth = words.depth;
  is_framed = words.is_framed;
  is_json = words.is_json;
  store = option_map string_bytes words.store;
}

-- what an answer asks for
abbrev pub asks_of : Asked → Asks
asks_of (variant.Run workers) = ToRun workers
asks_of (variant.Shell words) = ToShell (shell_asks_of words)
asks_of variant.Check = ToCheck
asks_of variant.Print = ToPrint
asks_of (variant.Show file) = ToShow (string_bytes file)
asks_of (variant.Dump words) = ToDump words.is_whole (string_bytes words.file)
asks_of (variant.Log file) = ToLog (string_bytes file)
asks_of (variant.Compact file) = ToCompact (string_bytes file)
asks_of (variant.Backup words) = ToBackUp (string_bytes words.file) (string_bytes words.copy)
asks_of (variant.Restore words) = ToRestore (string_bytes words.file) (string_bytes words.copy) words.at
asks_of (variant.Help text) = ToHelp
asks_of variant.Bad = Nothing
