-- What `clap` makes of a command line that asks for help.
use Rattle.std.proofs.Common.{◌≡◌, true, List, inl, inr, refl, sym, subst, codes, [], ◌∷◌}
use Rattle.std.specs.Str.{bytes_eq}
use Rattle.std.proofs.lemmas.Bool.{and_parts, false≢true, or_cases}
use Rattle.std.proofs.lemmas.Slice.Eq.{bytes_eq-Decides}
use Rattle.clap.specs.Words.{Text, fault_of}
use Rattle.clap.specs.declared.error.kind.ErrorKind.TheVariants.{DisplayHelp}
use Rattle.clap.proofs.OnLiterals.{clap_on_literals}
use Rattle.scene_command_line.specs.Asks.{Asks, ToHelp}
use Rattle.scene_command_line.specs.Words.{AsksFor, command_in, scene_line}
use Rattle.scene_command_line.specs.Plain.{asks_for_help, is_command, is_help_option}
use Rattle.scene_command_line.proofs.CommandLaws.{by_command}
use Rattle.scene_command_line.proofs.EnterLaws.{answered_once}

abbrev IsHelpLine : List Text → Type 0
IsHelpLine words = fault_of scene_line words ≡ DisplayHelp ∷ []

module _ (name : Text) where
  long_alone : IsHelpLine (name ∷ codes "--help" ∷ [])
  unfolding clap_on_literals
  long_alone = refl

  short_alone : IsHelpLine (name ∷ codes "-h" ∷ [])
  unfolding clap_on_literals
  short_alone = refl

module _ (name command : Text) (one : is_command command ≡ true) where
  long_of : IsHelpLine (name ∷ command ∷ codes "--help" ∷ [])
  unfolding clap_on_literals
  long_of =
      by_command (λ c. IsHelpLine (name ∷ c ∷ codes "--help" ∷ [])) command refl refl refl refl refl refl refl refl refl refl one

  short_of : IsHelpLine (name ∷ command ∷ codes "-h" ∷ [])
  unfolding clap_on_literals
  short_of =
      by_command (λ c. IsHelpLine (name ∷ c ∷ codes "-h" ∷ [])) command refl refl refl refl refl refl refl refl refl refl one

-- what holds of both options holds of each word that is one of them
by_option : (P : Text → Type 0) (word : Text) → P (codes "--help") → P (codes "-h") → is_help_option word ≡ true → P word
by_option P word long short one = elim (or_cases (bytes_eq word (codes "--help")) _ one) [
  | inl same ↦ subst P (sym ((bytes_eq-Decides word _).0 same)) long
  | inr same ↦ subst P (sym ((bytes_eq-Decides word _).0 same)) short
]

help_line : (words : List Text) → asks_for_help words ≡ true → IsHelpLine words
help_line (name ∷ word ∷ []) asks = by_option (λ w. IsHelpLine (name ∷ w ∷ [])) word (long_alone name) (short_alone name) asks
help_line (name ∷ command ∷ word ∷ []) asks =
    let parts = and_parts (is_command command) (is_help_option word) asks in
    by_option (λ w. IsHelpLine (name ∷ command ∷ w ∷ [])) word (long_of name command parts.0)
    (short_of name command parts.0) parts.1
help_line words asks = absurd (false≢true asks)

-- a command line that asks for help is answered with help
pub help_answer : (words : List Text) (asks : Asks) → asks_for_help words ≡ true → AsksFor asks words → asks ≡ ToHelp
help_answer words asks is means =
    answered_once (fault_of scene_line words) (command_in words) asks DisplayHelp (help_line words is) means
