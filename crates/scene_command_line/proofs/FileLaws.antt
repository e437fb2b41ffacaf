-- What `clap` makes of a command line with a command that takes the name of a file.
use Rattle.std.proofs.Common.{◌≡◌, ◌∙◌, ℕ, true, false, Option, Some, List, refl, sym, ap, codes, [], ◌∷◌}
use Rattle.std.specs.Option.{option_map_or}
use Rattle.std.proofs.lemmas.Bool.{and_parts, false≢true, not-true}
use Rattle.clap.specs.Words.{Row, Rule, Shape, Text, first_of}
use Rattle.clap.specs.Simple.{built_leaf}
use Rattle.clap.specs.Walk.{Walk, arg_by_index, nothing_held, to_positional, walk_from, walked}
use Rattle.clap.specs.Faults.{positional_fault, stray_fault, turn_fault}
use Rattle.clap.specs.declared.error.kind.ErrorKind.TheVariants.{MissingRequiredArgument, UnknownArgument}
use Rattle.clap.proofs.OnLiterals.{clap_on_literals}
use Rattle.scene_command_line.specs.Asks.{Asks, Nothing}
use Rattle.scene_command_line.specs.Words.{AsksFor, command_named, file_command_named, file_shape}
use Rattle.scene_command_line.specs.Plain.{asks_for_file, file_named, is_file_command, is_option, plainly_asked}
use Rattle.scene_command_line.proofs.CommandLaws.{by_file_command}
use Rattle.scene_command_line.proofs.EnterLaws.{Enters, by_name, leaf_fault, leaf_rows, level_second, no_dashes, no_long, no_short, refused_once, start, taken}

-- ---- words of a command that takes a file

-- a word that is no option goes to the positional whose turn it is, if there is one
module _ (word : Text) (plain : is_option word ≡ false) (position : ℕ) where
  abbrev at : Walk → Walk
  at w = record w { position = position }

  pub word_walked : (c : List Rule) (h : _)
      → walked c [] (at (walk_from h)) word ≡ to_positional c (arg_by_index c position) word (at (walk_from h)) h
  unfolding walked
  word_walked c h = rw (no_dashes word plain, no_long word plain, no_short word plain) refl

  pub word_turn : (s : Shape) (h : _) → turn_fault s [] (at (walk_from h)) word
      ≡ option_map_or (λ a. positional_fault s.rules s.args_override_self a h) (arg_by_index s.rules position)
      (stray_fault s)
  word_turn s h = rw (no_dashes word plain, no_long word plain, no_short word plain) refl

module _ (command : Text) where
  abbrev leaf : Shape
  leaf = built_leaf (file_shape command)

  -- without a word the file is missing
  no_file : leaf_fault (file_shape command) [] ≡ MissingRequiredArgument ∷ []
  unfolding clap_on_literals
  no_file = refl

  module _ (word : Text) (plain : is_option word ≡ false) where
    first : ◌≡◌ {A = Walk} (walked leaf.rules [] start word)
        (to_positional leaf.rules (arg_by_index leaf.rules 1) word start nothing_held)
    first = word_walked word plain 1 leaf.rules nothing_held

    passes : turn_fault leaf [] start word ≡ []
    passes = word_turn word plain 1 leaf nothing_held ∙ refl

    -- one word is its name
    one_file : leaf_fault (file_shape command) (word ∷ []) ≡ []
    unfolding clap_on_literals
    one_file = rw (no_dashes word plain, no_long word plain, no_short word plain) refl

    file_read : first_of (codes "file") (leaf_rows (file_shape command) (word ∷ [])) ≡ Some word
    unfolding clap_on_literals
    file_read = rw (no_dashes word plain, no_long word plain, no_short word plain) refl

    -- a second one is too many
    two_words : (next : Text) (rest : List Text) → is_option next ≡ false
        → leaf_fault (file_shape command) (word ∷ next ∷ rest) ≡ UnknownArgument ∷ []
    two_words next rest plainly =
        level_second leaf word next rest UnknownArgument [] passes
        (ap (λ (w : Walk). turn_fault leaf [] w next) first ∙ word_turn next plainly 2 leaf _)

-- ---- the three commands

record TakesFile (command : Text) : Type 0 where
  enters : Enters command (file_shape command)
  reads : (rows : List Row) → command_named command rows ≡ file_command_named command (first_of (codes "file") rows)
  bare : command_named command [] ≡ Nothing
  plainly : (file : Option Text) → file_named command file ≡ file_command_named command file

takes_file : (command : Text) → is_file_command command ≡ true → TakesFile command
unfolding clap_on_literals
takes_file command one = by_file_command TakesFile command
    (record { enters = by_name _ _ refl refl refl refl; reads = λ rows. refl; bare = refl; plainly = λ file. refl })
    (record { enters = by_name _ _ refl refl refl refl; reads = λ rows. refl; bare = refl; plainly = λ file. refl })
    (record { enters = by_name _ _ refl refl refl refl; reads = λ rows. refl; bare = refl; plainly = λ file. refl }) one

module _ (command name : Text) (one : is_file_command command ≡ true) (asks : Asks) where
  -- without a file such a command is bad
  pub bare_answer : AsksFor asks (name ∷ command ∷ []) → asks ≡ plainly_asked (name ∷ command ∷ [])
  bare_answer means =
      let takes = takes_file command one in
      refused_once _ _ asks MissingRequiredArgument refl (takes.enters.fails name [] ∙ no_file command) means ∙ sym takes.bare

  -- with one it asks for that one
  pub named_answer : (word : Text) → is_option word ≡ false → AsksFor asks (name ∷ command ∷ word ∷ [])
      → asks ≡ plainly_asked (name ∷ command ∷ word ∷ [])
  named_answer word plain means =
      let takes = takes_file command one in
      taken _ _ _ asks (takes.enters.fails name (word ∷ []) ∙ one_file command word plain)
      (takes.enters.has name (word ∷ []) ∙ (takes.reads (leaf_rows (file_shape command) (word ∷ [])) ∙ (ap (file_command_named command) (file_read command word plain)
      ∙ sym (takes.plainly (Some word))))) means

  -- and with a word more it is bad
  pub further_answer : (word next : Text) (rest : List Text) → is_option word ≡ false → is_option next ≡ false
      → AsksFor asks (name ∷ command ∷ word ∷ next ∷ rest) → asks ≡ Nothing
  further_answer word next rest plain plainly means =
      refused_once _ _ asks UnknownArgument refl
      ((takes_file command one).enters.fails name (word ∷ next ∷ rest) ∙ two_words command word plain next rest plainly) means

-- a command line with such a command and one word that is no option asks for what it plainly asks for
pub file_answer : (words : List Text) (asks : Asks) → asks_for_file words ≡ true → AsksFor asks words
    → asks ≡ plainly_asked words
file_answer (name ∷ command ∷ word ∷ []) asks is means =
    let parts = and_parts (is_file_command command) _ is in
    named_answer command name parts.0 asks word (not-true _ parts.1) means
file_answer words asks is means = absurd (false≢true is)
