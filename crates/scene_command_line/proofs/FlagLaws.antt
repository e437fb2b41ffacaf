-- What `clap` reads of a flag.
use Rattle.std.proofs.Common.{◌≡◌, ◌∙◌, Bool, true, false, Option, Some, None, ap, refl, sym, codes}
use Rattle.std.specs.Option.{option_map_or, unwrap_or}
use Rattle.std.specs.Str.{bytes_eq}
use Rattle.std.specs.Str.Parse.{ParsesBool}
use Rattle.std.proofs.lemmas.Bool.{false_from_ne_true}
use Rattle.std.proofs.lemmas.Slice.Eq.{bytes_eq-Decides}
use Rattle.clap.specs.Matches.{ReadsOne, one_text}
use Rattle.clap.specs.Words.{Text, rows_of}
use Rattle.clap.specs.declared.parser.matches.Found.{Found}
use Rattle.clap.proofs.WalkLemmas.{one_text-rows}
use Rattle.scene_command_line.specs.Words.{has_flag}

-- the text says that the flag is given
abbrev says_so : Option Text → Bool
says_so text = option_map_or (λ t. bytes_eq t (codes "true")) text false

-- a flag's text that is read as a `bool`, or as none where it is no `bool`
text_read : (E : Type 0) (text : Text) (read : Option Bool) → ReadsOne {E = E} ParsesBool text read → unwrap_or read false ≡ says_so (Some text)
text_read E text (Some true) is = rw is refl
text_read E text (Some false) is = rw is refl
text_read E text None (e, none) = sym (false_from_ne_true _ (λ same. none.0 ((bytes_eq-Decides text (codes "true")).0 same)))

-- the flag that a getter reads, by the rows
pub flag_read : (E : Type 0) (f : Found) (name : Text) (read : Option Bool) → (one_text f name ≡ None → read ≡ None)
    → ((text : Text) → one_text f name ≡ Some text → ReadsOne {E = E} ParsesBool text read)
    → unwrap_or read false ≡ has_flag name (rows_of f)
flag_read E f name read none some = go (one_text f name) refl ∙ ap says_so (one_text-rows f name)
  where
    go : (text : Option Text) → one_text f name ≡ text → unwrap_or read false ≡ says_so text
    go None is = ap (λ r. unwrap_or r false) (none is)
    go (Some text) is = text_read E text read (some text is)
