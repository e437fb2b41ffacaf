-- What `clap` makes of a command line with `restore`, which takes the names of two files, and has to have an option.
use Rattle.std.proofs.Common.{◌≡◌, ◌∙◌, Bool, true, false, Some, List, refl, ap, subst, codes, [], ◌∷◌, ◌++◌}
use Rattle.std.specs.Prelude.{if◌then◌else◌}
use Rattle.clap.specs.Words.{Shape, Text}
use Rattle.clap.specs.Simple.{built_leaf}
use Rattle.clap.specs.Walk.{Walk, arg_by_index, nothing_held, to_positional, walked}
use Rattle.clap.specs.Faults.{turn_fault}
use Rattle.clap.specs.declared.error.kind.ErrorKind.TheVariants.{MissingRequiredArgument, UnknownArgument}
use Rattle.clap.proofs.OnLiterals.{clap_on_literals}
use Rattle.scene_command_line.specs.Asks.{Asks, Nothing}
use Rattle.scene_command_line.specs.Words.{AsksFor, command_named, restore_asked, restore_shape}
use Rattle.scene_command_line.specs.Plain.{AsksForRestore, is_option, plainly_asked}
use Rattle.scene_command_line.proofs.EnterLaws.{Enters, by_name, leaf_fault, leaf_rows, level_third, no_dashes, no_long, no_short, refused_once, start, taken}
use Rattle.scene_command_line.proofs.FileLaws.{word_turn, word_walked}

abbrev leaf : Shape
leaf = built_leaf restore_shape

enters : Enters (codes "restore") restore_shape
unfolding clap_on_literals
enters = by_name _ _ refl refl refl refl

-- without a word the files and the option are missing
no_files : leaf_fault restore_shape [] ≡ MissingRequiredArgument ∷ []
unfolding clap_on_literals
no_files = refl

-- the words behind the command's name, with the option behind the files or before them
abbrev given : Bool → Text → Text → Text → List Text
given is_behind file copy entry =
    let option = codes "--at" ∷ entry ∷ [] in
    let files = file ∷ copy ∷ [] in
    if is_behind then files ++ option else option ++ files

module _ (file : Text) (plain : is_option file ≡ false) where
  -- with one the copy and the option
  no_copy : leaf_fault restore_shape (file ∷ []) ≡ MissingRequiredArgument ∷ []
  unfolding clap_on_literals
  no_copy = rw (no_dashes file plain, no_long file plain, no_short file plain) refl

  module _ (copy : Text) (plainly : is_option copy ≡ false) where
    -- and with two the option
    no_entry : leaf_fault restore_shape (file ∷ copy ∷ []) ≡ MissingRequiredArgument ∷ []
    unfolding clap_on_literals
    no_entry = rw (no_dashes file plain, no_long file plain, no_short file plain, no_dashes copy plainly, no_long copy plainly, no_short copy plainly) refl

    abbrev one : Walk
    one = to_positional leaf.rules (arg_by_index leaf.rules 1) file start nothing_held

    first : ◌≡◌ {A = Walk} (walked leaf.rules [] start file) one
    first = word_walked file plain 1 leaf.rules nothing_held

    second : ◌≡◌ {A = Walk} (walked leaf.rules [] (walked leaf.rules [] start file) copy)
        (to_positional leaf.rules (arg_by_index leaf.rules 2) copy one one.held)
    second = ap (λ (w : Walk). walked leaf.rules [] w copy) first ∙ word_walked copy plainly 2 leaf.rules one.held

    -- a third word that is no option is too many
    three_words : (next : Text) (rest : List Text) → is_option next ≡ false
        → leaf_fault restore_shape (file ∷ copy ∷ next ∷ rest) ≡ UnknownArgument ∷ []
    three_words next rest fine =
        level_third leaf file copy next rest UnknownArgument []
        (word_turn file plain 1 leaf nothing_held ∙ refl)
        (ap (λ (w : Walk). turn_fault leaf [] w copy) first ∙ word_turn copy plainly 2 leaf _)
        (ap (λ (w : Walk). turn_fault leaf [] w next) second ∙ word_turn next fine 3 leaf _)

    -- with the option they are the names of the files, and its word is the entry
    module _ (entry : Text) (fine : is_option entry ≡ false) where
      all_given : (is_behind : Bool) → (leaf_fault restore_shape (given is_behind file copy entry) ≡ [])
          × (command_named (codes "restore") (leaf_rows restore_shape (given is_behind file copy entry))
          ≡ restore_asked (Some file) (Some copy) (Some entry))
      unfolding clap_on_literals
      all_given false = rw (no_dashes entry fine, no_long entry fine, no_short entry fine, no_dashes file plain, no_long file plain, no_short file plain, no_dashes copy plainly, no_long copy plainly, no_short copy plainly) (refl, refl)
      all_given true = rw (no_dashes file plain, no_long file plain, no_short file plain, no_dashes copy plainly, no_long copy plainly, no_short copy plainly, no_dashes entry fine, no_long entry fine, no_short entry fine) (refl, refl)

module _ (name : Text) (asks : Asks) where
  -- without two files and the option a restore is bad
  pub restore_bare : AsksFor asks (name ∷ codes "restore" ∷ []) → asks ≡ plainly_asked (name ∷ codes "restore" ∷ [])
  restore_bare means = refused_once _ _ asks MissingRequiredArgument refl (enters.fails name [] ∙ no_files) means

  pub restore_half : (file : Text) → is_option file ≡ false → AsksFor asks (name ∷ codes "restore" ∷ file ∷ [])
      → asks ≡ plainly_asked (name ∷ codes "restore" ∷ file ∷ [])
  restore_half file plain means =
      refused_once _ _ asks MissingRequiredArgument refl (enters.fails name (file ∷ []) ∙ no_copy file plain) means

  pub restore_without_entry : (file copy : Text) → is_option file ≡ false → is_option copy ≡ false
      → AsksFor asks (name ∷ codes "restore" ∷ file ∷ copy ∷ [])
      → asks ≡ plainly_asked (name ∷ codes "restore" ∷ file ∷ copy ∷ [])
  restore_without_entry file copy plain plainly means =
      refused_once _ _ asks MissingRequiredArgument refl
      (enters.fails name (file ∷ copy ∷ []) ∙ no_entry file plain copy plainly) means

  -- and with a word more it is bad
  pub restore_further : (file copy next : Text) (rest : List Text) → is_option file ≡ false → is_option copy ≡ false
      → is_option next ≡ false → AsksFor asks (name ∷ codes "restore" ∷ file ∷ copy ∷ next ∷ rest) → asks ≡ Nothing
  restore_further file copy next rest plain plainly fine means =
      refused_once _ _ asks UnknownArgument refl
      (enters.fails name (file ∷ copy ∷ next ∷ rest) ∙ three_words file plain copy plainly next rest fine) means

  -- with them it asks for the one in the other, as it was at the entry
  restored : (is_behind : Bool) (file copy entry : Text) → is_option file ≡ false → is_option copy ≡ false
      → is_option entry ≡ false → AsksFor asks (name ∷ codes "restore" ∷ given is_behind file copy entry)
      → asks ≡ restore_asked (Some file) (Some copy) (Some entry)
  restored is_behind file copy entry plain plainly fine means =
      let words : List Text = given is_behind file copy entry in
      let all = all_given file plain copy plainly entry fine is_behind in
      taken _ _ _ asks (enters.fails name words ∙ all.0) (enters.has name words ∙ all.1) means

-- a command line with `restore`, two words and the option, none of whose words is an option, asks for just that
pub restore_answer : (words : List Text) (asks : Asks) → AsksFor asks words → AsksForRestore asks words
restore_answer words asks means name is_behind file copy entry plain plainly fine same =
    restored name asks is_behind file copy entry plain plainly fine (subst (λ (ws : List Text). AsksFor asks ws) same means)
