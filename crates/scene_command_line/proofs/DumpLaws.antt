-- What `clap` makes of a command line with `dump`, which takes the name of a file, and an option.
use Rattle.std.proofs.Common.{◌≡◌, ◌∙◌, ap₂, Bool, true, false, Some, List, refl, ap, subst, codes, [], ◌∷◌, ◌++◌}
use Rattle.clap.specs.Words.{Shape, Text, first_of}
use Rattle.clap.specs.Simple.{built_leaf}
use Rattle.clap.specs.Walk.{Walk, arg_by_index, nothing_held, to_positional, walked}
use Rattle.clap.specs.Faults.{turn_fault}
use Rattle.clap.specs.declared.error.kind.ErrorKind.TheVariants.{MissingRequiredArgument, UnknownArgument}
use Rattle.clap.proofs.OnLiterals.{clap_on_literals}
use Rattle.scene_command_line.specs.Asks.{Asks, Nothing, ToDump}
use Rattle.scene_command_line.specs.Words.{AsksFor, dump_shape, file_asked, has_flag}
use Rattle.scene_command_line.specs.Plain.{AsksForDump, flag_words, is_option, plainly_asked}
use Rattle.scene_command_line.proofs.EnterLaws.{Enters, by_name, leaf_fault, leaf_rows, level_second, no_dashes, no_long, no_short, refused_once, start, taken}
use Rattle.scene_command_line.proofs.FileLaws.{word_turn, word_walked}

abbrev leaf : Shape
leaf = built_leaf dump_shape

enters : Enters (codes "dump") dump_shape
unfolding clap_on_literals
enters = by_name _ _ refl refl refl refl

-- without a word the file is missing
no_file : leaf_fault dump_shape [] ≡ MissingRequiredArgument ∷ []
unfolding clap_on_literals
no_file = refl

-- the words behind the command's name
abbrev given : Bool → Text → List Text
given is_whole file = flag_words (codes "--all") is_whole ++ file ∷ []

module _ (file : Text) (plain : is_option file ≡ false) where
  -- one word is its name, also behind the option
  one_file : (is_whole : Bool) → leaf_fault dump_shape (given is_whole file) ≡ []
  unfolding clap_on_literals
  one_file false = rw (no_dashes file plain, no_long file plain, no_short file plain) refl
  one_file true = rw (no_dashes file plain, no_long file plain, no_short file plain) refl

  file_read : (is_whole : Bool) → first_of (codes "file") (leaf_rows dump_shape (given is_whole file)) ≡ Some file
  unfolding clap_on_literals
  file_read false = rw (no_dashes file plain, no_long file plain, no_short file plain) refl
  file_read true = rw (no_dashes file plain, no_long file plain, no_short file plain) refl

  -- and the option is read as it was given
  flag_read : (is_whole : Bool) → has_flag (codes "all") (leaf_rows dump_shape (given is_whole file)) ≡ is_whole
  unfolding clap_on_literals
  flag_read false = rw (no_dashes file plain, no_long file plain, no_short file plain) refl
  flag_read true = rw (no_dashes file plain, no_long file plain, no_short file plain) refl

  first : ◌≡◌ {A = Walk} (walked leaf.rules [] start file)
      (to_positional leaf.rules (arg_by_index leaf.rules 1) file start nothing_held)
  first = word_walked file plain 1 leaf.rules nothing_held

  -- a second word is too many
  two_words : (next : Text) (rest : List Text) → is_option next ≡ false
      → leaf_fault dump_shape (file ∷ next ∷ rest) ≡ UnknownArgument ∷ []
  two_words next rest plainly =
      level_second leaf file next rest UnknownArgument [] (word_turn file plain 1 leaf nothing_held ∙ refl)
      (ap (λ (w : Walk). turn_fault leaf [] w next) first ∙ word_turn next plainly 2 leaf _)

module _ (name : Text) (asks : Asks) where
  -- without a file it is bad
  pub dump_bare : AsksFor asks (name ∷ codes "dump" ∷ []) → asks ≡ plainly_asked (name ∷ codes "dump" ∷ [])
  dump_bare means = refused_once _ _ asks MissingRequiredArgument refl (enters.fails name [] ∙ no_file) means

  -- with one it asks for the text of that one
  pub dump_named : (is_whole : Bool) (file : Text) → is_option file ≡ false
      → AsksFor asks (name ∷ codes "dump" ∷ given is_whole file) → asks ≡ file_asked (ToDump is_whole) (Some file)
  dump_named is_whole file plain means =
      taken _ _ _ asks (enters.fails name (given is_whole file) ∙ one_file file plain is_whole)
      (enters.has name (given is_whole file)
      ∙ ap₂ (λ all found. file_asked (ToDump all) found) (flag_read file plain is_whole) (file_read file plain is_whole)) means

  -- and with a word more it is bad
  pub dump_further : (file next : Text) (rest : List Text) → is_option file ≡ false → is_option next ≡ false
      → AsksFor asks (name ∷ codes "dump" ∷ file ∷ next ∷ rest) → asks ≡ Nothing
  dump_further file next rest plain plainly means =
      refused_once _ _ asks UnknownArgument refl
      (enters.fails name (file ∷ next ∷ rest) ∙ two_words file plain next rest plainly) means

-- a command line with `dump`, its option or none, and a word that is no option asks for that text of that file
pub dump_answer : (words : List Text) (asks : Asks) → AsksFor asks words → AsksForDump asks words
dump_answer words asks means name is_whole file plain same =
    dump_named name asks is_whole file plain (subst (λ (ws : List Text). AsksFor asks ws) same means)
