-- What follows from an answer of `clap`.
use Rattle.std.proofs.Common.{◌≡◌, ◌⊎◌, true, false, Result, Ok, Err, IfOk, IsErr, Option, Some, None, Box}
use Rattle.std.proofs.Common.{List, [], ◌∷◌, inl, inr, option_map, refl, ap, ◌∙◌, subst}
use Rattle.std.specs.Box.{box_value}
use Rattle.std.specs.declared.alloc.AllocError.{AllocError}
use Rattle.clap.specs.Words.{IsAmong, Kinds, Row, Text, subcommand_rows}
use Rattle.clap.specs.declared.error.kind.ErrorKind.{ErrorKind}
use Rattle.clap.specs.declared.error.kind.ErrorKind.TheVariants.{OutOfMemory}
use Rattle.clap.specs.declared.parser.matches.ArgMatches.TheViews.{out-SubCommand}
use Rattle.clap.specs.declared.parser.matches.SubCommand.{SubCommand}
use Rattle.scene_command_line.specs.declared.asked.Asked.{Asked}
use Rattle.scene_command_line.specs.Asks.{Asks, Nothing, asks_of}
use Rattle.scene_command_line.specs.Words.{Answers, AnswersOneOf, by_kind, command_named, command_of}

-- the command that was met, by its name and its matches
pub met_by_parts : (met : Option (Text × List Row)) (name : Text) (rows : List Row) → option_map (λ p. p.0) met ≡ Some name
    → option_map (λ p. p.1) met ≡ Some rows → command_of met ≡ command_named name rows
met_by_parts None name rows named matched = absurd (cc named)
met_by_parts (Some p) name rows named matched =
    let same_name : p.0 ≡ name = cc named in
    let same_rows : p.1 ≡ rows = cc matched in
    ap (λ n. command_named n p.1) same_name ∙ ap (λ rs. command_named name rs) same_rows

-- where none was met, there is none
pub met_none : (met : Option (Text × List Row)) → option_map (λ p. p.1) met ≡ None → command_of met ≡ Nothing
met_none None e = refl
met_none (Some p) e = absurd (cc e)

-- the name among the matches is the command's
module _ {Z : Type 0} where
  pub named_by_rows : (met : Option (Box SubCommand Z))
      → option_map (λ p. p.0) (subcommand_rows met) ≡ option_map (λ b. (out-SubCommand (box_value b)).name.now) met
  named_by_rows None = refl
  named_by_rows (Some b) = refl

-- what a kind means is what one of the kinds means
pub one_of_kinds : (kinds : Kinds) (kind : ErrorKind) (asks : Asks)
    → IsAmong kind kinds → asks ≡ by_kind kind → AnswersOneOf kinds asks
one_of_kinds [] kind asks among means = absurd among
one_of_kinds (k ∷ ks) kind asks (inl same) means = inl (subst (λ x. asks ≡ by_kind x) same means)
one_of_kinds (k ∷ ks) kind asks (inr among) means = inr (one_of_kinds ks kind asks among means)

-- a command line on which an error has a kind asks for what the kind means
pub asked_by_kind : (kinds : Kinds) (kind : ErrorKind) (command : Asks) (answer : Result Asked AllocError)
    → (kind ≡ OutOfMemory) ⊎ IsAmong kind kinds → IfOk answer (λ asked. asks_of asked ≡ by_kind kind)
    → (kind ≡ OutOfMemory → IsErr answer) → IfOk answer (λ asked. Answers kinds command (asks_of asked))
asked_by_kind kinds kind command (Err e) one means memory = tt
asked_by_kind kinds kind command (Ok asked) (inl ran_out) means memory =
    let bad : false ≡ true = memory ran_out in absurd (cc bad)
asked_by_kind [] kind command (Ok asked) (inr among) means memory = absurd among
asked_by_kind (k ∷ ks) kind command (Ok asked) (inr among) means memory =
    one_of_kinds (k ∷ ks) kind (asks_of asked) among means
