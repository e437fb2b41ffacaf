-- What `clap` makes of a command line with a number of workers.
use Rattle.std.proofs.Common.{◌≡◌, ◌∙◌, true, false, Some, List, refl, ap, subst, codes, [], ◌∷◌}
use Rattle.std.specs.Str.{bytes_eq}
use Rattle.std.proofs.lemmas.Bool.{and_parts, false≢true, not-true}
use Rattle.std.proofs.lemmas.Slice.Eq.{bytes_eq-Decides}
use Rattle.clap.specs.Words.{Row, Shape, Text, fault_of}
use Rattle.clap.specs.Walk.{finished, nothing_held}
use Rattle.clap.specs.Simple.{built_leaf}
use Rattle.clap.proofs.OnLiterals.{clap_on_literals}
use Rattle.scene_command_line.specs.Asks.{Asks}
use Rattle.scene_command_line.specs.Words.{AsksFor, command_in, command_named, run_asked, run_shape, scene_line}
use Rattle.scene_command_line.specs.Plain.{asks_for_workers, is_option, workers_asked}
use Rattle.scene_command_line.proofs.EnterLaws.{enters_run, taken}
use Rattle.scene_command_line.proofs.LeafLaws.{Leads, by_option, end_fault, given, level_by, rows_by, settles}

abbrev leaf : Shape
leaf = built_leaf run_shape

module _ (name word : Text) (plain : is_option word ≡ false) where
  leads : Leads leaf (codes "--workers" ∷ word ∷ []) (settles leaf) (given leaf (codes "workers") word)
  unfolding clap_on_literals
  leads = by_option leaf (codes "--workers") (codes "workers") (λ h. refl) (λ h. refl) (λ w h. refl) word plain

  at_end : end_fault leaf (given leaf (codes "workers") word nothing_held) ≡ []
  unfolding clap_on_literals
  at_end = refl

  is_word : command_named (codes "run") (finished leaf.rules (given leaf (codes "workers") word nothing_held))
      ≡ run_asked (Some word)
  unfolding clap_on_literals
  is_word = refl

  of_workers : fault_of scene_line (name ∷ codes "run" ∷ codes "--workers" ∷ word ∷ []) ≡ []
  of_workers = enters_run.fails name (codes "--workers" ∷ word ∷ []) ∙ (level_by leaf _ _ _ leads ∙ at_end)

  workers_in : command_in (name ∷ codes "run" ∷ codes "--workers" ∷ word ∷ []) ≡ run_asked (Some word)
  workers_in =
      enters_run.has name (codes "--workers" ∷ word ∷ [])
      ∙ (ap (λ (rows : List Row). command_named (codes "run") rows) (rows_by leaf _ _ _ leads) ∙ is_word)

-- a command line that gives the number of workers asks for a run with them
pub workers_answer : (words : List Text) (asks : Asks) → asks_for_workers words ≡ true → AsksFor asks words
    → asks ≡ workers_asked words
workers_answer (name ∷ command ∷ option ∷ word ∷ []) asks is means =
    let parts = and_parts (bytes_eq command (codes "run")) _ is in
    let more = and_parts (bytes_eq option (codes "--workers")) _ parts.1 in
    let run : command ≡ codes "run" = (bytes_eq-Decides command _).0 parts.0 in
    let workers : option ≡ codes "--workers" = (bytes_eq-Decides option _).0 more.0 in
    let plain : is_option word ≡ false = not-true _ more.1 in
    let by_run = subst (λ (c : Text). AsksFor asks (name ∷ c ∷ option ∷ word ∷ [])) run means in
    let by_option = subst (λ (o : Text). AsksFor asks (name ∷ codes "run" ∷ o ∷ word ∷ [])) workers by_run in
    taken _ _ (run_asked (Some word)) asks (of_workers name word plain) (workers_in name word plain) by_option
workers_answer words asks is means = absurd (false≢true is)
