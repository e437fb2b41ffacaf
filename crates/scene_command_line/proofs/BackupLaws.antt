-- What `clap` makes of a command line with `backup`, which takes the names of two files.
use Rattle.std.proofs.Common.{◌≡◌, ◌∙◌, ap₂, true, false, Some, List, refl, ap, codes, [], ◌∷◌}
use Rattle.std.specs.Str.{bytes_eq}
use Rattle.std.proofs.lemmas.Bool.{and_parts, false≢true, not-true}
use Rattle.clap.specs.Words.{Shape, Text, first_of}
use Rattle.clap.specs.Simple.{built_leaf}
use Rattle.clap.specs.Walk.{Walk, arg_by_index, nothing_held, to_positional, walked}
use Rattle.clap.specs.Faults.{turn_fault}
use Rattle.clap.specs.declared.error.kind.ErrorKind.TheVariants.{MissingRequiredArgument, UnknownArgument}
use Rattle.clap.proofs.OnLiterals.{clap_on_literals}
use Rattle.scene_command_line.specs.Asks.{Asks, Nothing}
use Rattle.scene_command_line.specs.Words.{AsksFor, backup_asked, backup_shape}
use Rattle.scene_command_line.specs.Plain.{asks_for_backup, is_option, plainly_asked}
use Rattle.scene_command_line.proofs.CommandLaws.{named}
use Rattle.scene_command_line.proofs.EnterLaws.{Enters, by_name, leaf_fault, leaf_rows, level_third, no_dashes, no_long, no_short, refused_once, start, taken}
use Rattle.scene_command_line.proofs.FileLaws.{word_turn, word_walked}

abbrev leaf : Shape
leaf = built_leaf backup_shape

enters : Enters (codes "backup") backup_shape
unfolding clap_on_literals
enters = by_name _ _ refl refl refl refl

-- without a word both are missing
no_files : leaf_fault backup_shape [] ≡ MissingRequiredArgument ∷ []
unfolding clap_on_literals
no_files = refl

module _ (file : Text) (plain : is_option file ≡ false) where
  -- and with one the copy
  no_copy : leaf_fault backup_shape (file ∷ []) ≡ MissingRequiredArgument ∷ []
  unfolding clap_on_literals
  no_copy = rw (no_dashes file plain, no_long file plain, no_short file plain) refl

  module _ (copy : Text) (plainly : is_option copy ≡ false) where
    -- two words are their names
    both : leaf_fault backup_shape (file ∷ copy ∷ []) ≡ []
    unfolding clap_on_literals
    both = rw (no_dashes file plain, no_long file plain, no_short file plain, no_dashes copy plainly, no_long copy plainly, no_short copy plainly) refl

    file_named : first_of (codes "file") (leaf_rows backup_shape (file ∷ copy ∷ [])) ≡ Some file
    unfolding clap_on_literals
    file_named = rw (no_dashes file plain, no_long file plain, no_short file plain, no_dashes copy plainly, no_long copy plainly, no_short copy plainly) refl

    copy_named : first_of (codes "copy") (leaf_rows backup_shape (file ∷ copy ∷ [])) ≡ Some copy
    unfolding clap_on_literals
    copy_named = rw (no_dashes file plain, no_long file plain, no_short file plain, no_dashes copy plainly, no_long copy plainly, no_short copy plainly) refl

    abbrev one : Walk
    one = to_positional leaf.rules (arg_by_index leaf.rules 1) file start nothing_held

    first : ◌≡◌ {A = Walk} (walked leaf.rules [] start file) one
    first = word_walked file plain 1 leaf.rules nothing_held

    second : ◌≡◌ {A = Walk} (walked leaf.rules [] (walked leaf.rules [] start file) copy)
        (to_positional leaf.rules (arg_by_index leaf.rules 2) copy one one.held)
    second = ap (λ (w : Walk). walked leaf.rules [] w copy) first ∙ word_walked copy plainly 2 leaf.rules one.held

    -- a third one is too many
    three_words : (next : Text) (rest : List Text) → is_option next ≡ false
        → leaf_fault backup_shape (file ∷ copy ∷ next ∷ rest) ≡ UnknownArgument ∷ []
    three_words next rest fine =
        level_third leaf file copy next rest UnknownArgument []
        (word_turn file plain 1 leaf nothing_held ∙ refl)
        (ap (λ (w : Walk). turn_fault leaf [] w copy) first ∙ word_turn copy plainly 2 leaf _)
        (ap (λ (w : Walk). turn_fault leaf [] w next) second ∙ word_turn next fine 3 leaf _)

module _ (name : Text) (asks : Asks) where
  -- without two files a backup is bad
  pub backup_bare : AsksFor asks (name ∷ codes "backup" ∷ []) → asks ≡ plainly_asked (name ∷ codes "backup" ∷ [])
  backup_bare means = refused_once _ _ asks MissingRequiredArgument refl (enters.fails name [] ∙ no_files) means

  pub backup_half : (file : Text) → is_option file ≡ false → AsksFor asks (name ∷ codes "backup" ∷ file ∷ [])
      → asks ≡ plainly_asked (name ∷ codes "backup" ∷ file ∷ [])
  backup_half file plain means =
      refused_once _ _ asks MissingRequiredArgument refl (enters.fails name (file ∷ []) ∙ no_copy file plain) means

  -- with two it asks for a copy of the one in the other
  pub backup_named_answer : (file copy : Text) → is_option file ≡ false → is_option copy ≡ false
      → AsksFor asks (name ∷ codes "backup" ∷ file ∷ copy ∷ [])
      → asks ≡ plainly_asked (name ∷ codes "backup" ∷ file ∷ copy ∷ [])
  backup_named_answer file copy plain plainly means =
      taken _ _ _ asks (enters.fails name (file ∷ copy ∷ []) ∙ both file plain copy plainly)
      (enters.has name (file ∷ copy ∷ [])
      ∙ ap₂ backup_asked (file_named file plain copy plainly) (copy_named file plain copy plainly)) means

  -- and with a word more it is bad
  pub backup_further : (file copy next : Text) (rest : List Text) → is_option file ≡ false → is_option copy ≡ false
      → is_option next ≡ false → AsksFor asks (name ∷ codes "backup" ∷ file ∷ copy ∷ next ∷ rest) → asks ≡ Nothing
  backup_further file copy next rest plain plainly fine means =
      refused_once _ _ asks UnknownArgument refl
      (enters.fails name (file ∷ copy ∷ next ∷ rest) ∙ three_words file plain copy plainly next rest fine) means

-- a command line with `backup` and two words that are no options asks for what it plainly asks for
pub backup_answer : (words : List Text) (asks : Asks) → asks_for_backup words ≡ true → AsksFor asks words
    → asks ≡ plainly_asked words
backup_answer (name ∷ command ∷ file ∷ copy ∷ []) asks is means =
    let parts = and_parts (bytes_eq command (codes "backup")) _ is in
    let words = and_parts _ _ parts.1 in
    named (λ c. AsksFor asks (name ∷ c ∷ file ∷ copy ∷ []) → asks ≡ plainly_asked (name ∷ c ∷ file ∷ copy ∷ [])) command (codes "backup")
    (backup_named_answer name asks file copy (not-true _ words.0) (not-true _ words.1)) parts.0 means
backup_answer words asks is means = absurd (false≢true is)
