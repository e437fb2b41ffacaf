-- What `clap` makes of a command line that asks for a shell, with its options in the order of the help text.
use Rattle.std.proofs.Common.{◌≡◌, ◌∙◌, Bool, true, false, Option, Some, None, List, refl, ap, subst, codes, [], ◌∷◌}
use Rattle.std.specs.Prelude.{◌++◌}
use Rattle.clap.specs.Words.{Kinds, Row, Rule, Shape, Text, fault_of}
use Rattle.clap.specs.Kinds.{or_else}
use Rattle.clap.specs.Walk.{Held, finished, nothing_held}
use Rattle.clap.specs.Simple.{built_leaf, filled}
use Rattle.clap.proofs.OnLiterals.{clap_on_literals}
use Rattle.scene_command_line.specs.Asks.{Asks}
use Rattle.scene_command_line.specs.Words.{AsksFor, command_in, command_named, flag_rule, scene_line, shell_asked, shell_shape}
use Rattle.scene_command_line.specs.Plain.{AsksForShell, flag_words, is_no_option, option_words}
use Rattle.scene_command_line.proofs.EnterLaws.{enters_shell, taken}
use Rattle.scene_command_line.proofs.LeafLaws.{Leads, by_both, by_flag_or_none, by_option_or_none, end_fault, flag_fault, flag_held, level_by, option_fault, option_held, rows_by}

abbrev leaf : Shape
leaf = built_leaf shell_shape

abbrev flag : Text → Rule
flag name = filled (flag_rule name)

-- ---- its five options, one after another

-- the words behind the command's name
abbrev options : Option Text → Option Text → Bool → Bool → Option Text → List Text
options workers depth is_framed is_json store =
    option_words (codes "--workers") workers ++ (option_words (codes "--depth") depth
    ++ (flag_words (codes "--framed") is_framed ++ (flag_words (codes "--json") is_json
    ++ option_words (codes "--store") store)))

abbrev fault : Option Text → Option Text → Bool → Bool → Option Text → Held → Kinds
fault workers depth is_framed is_json store h =
    let second = option_held leaf (codes "workers") workers h in
    let third = option_held leaf (codes "depth") depth second in
    let fourth = flag_held leaf (flag (codes "framed")) is_framed third in
    or_else (option_fault leaf workers h) (or_else (option_fault leaf depth second)
    (or_else (flag_fault leaf (flag (codes "framed")) is_framed third) (or_else (flag_fault leaf (flag (codes "json")) is_json fourth)
    (option_fault leaf store (flag_held leaf (flag (codes "json")) is_json fourth)))))

abbrev held : Option Text → Option Text → Bool → Bool → Option Text → Held → Held
held workers depth is_framed is_json store h =
    option_held leaf (codes "store") store (flag_held leaf (flag (codes "json")) is_json (flag_held leaf (flag (codes "framed")) is_framed
    (option_held leaf (codes "depth") depth (option_held leaf (codes "workers") workers h))))

leads : (workers depth : Option Text) (is_framed is_json : Bool) (store : Option Text)
    → is_no_option workers ≡ true → is_no_option depth ≡ true → is_no_option store ≡ true
    → Leads leaf (options workers depth is_framed is_json store) (fault workers depth is_framed is_json store)
    (held workers depth is_framed is_json store)
unfolding clap_on_literals
leads workers depth is_framed is_json store first second last =
    by_both leaf _ _ _ _ _ _ (by_option_or_none leaf (codes "--workers") (codes "workers") (λ h. refl) (λ h. refl)
    (λ w h. refl) workers first)
    (by_both leaf _ _ _ _ _ _ (by_option_or_none leaf (codes "--depth") (codes "depth") (λ h. refl) (λ h. refl)
    (λ w h. refl) depth second)
    (by_both leaf _ _ _ _ _ _ (by_flag_or_none leaf (codes "--framed") (flag (codes "framed")) (λ h. refl) (λ h. refl) is_framed)
    (by_both leaf _ _ _ _ _ _ (by_flag_or_none leaf (codes "--json") (flag (codes "json")) (λ h. refl) (λ h. refl) is_json)
    (by_option_or_none leaf (codes "--store") (codes "store") (λ h. refl) (λ h. refl)
    (λ w h. refl) store last))))

-- whichever are given, `clap` takes them, and they ask for just that shell
at_end : (workers depth : Option Text) (is_framed is_json : Bool) (store : Option Text)
    → (or_else (fault workers depth is_framed is_json store nothing_held)
    (end_fault leaf (held workers depth is_framed is_json store nothing_held)) ≡ [])
    × (command_named (codes "shell") (finished leaf.rules (held workers depth is_framed is_json store nothing_held))
    ≡ shell_asked workers depth is_framed is_json store)
unfolding clap_on_literals
at_end None None false false None = (refl, refl)
at_end None None false false (Some store) = (refl, refl)
at_end None None false true None = (refl, refl)
at_end None None false true (Some store) = (refl, refl)
at_end None None true false None = (refl, refl)
at_end None None true false (Some store) = (refl, refl)
at_end None None true true None = (refl, refl)
at_end None None true true (Some store) = (refl, refl)
at_end None (Some depth) false false None = (refl, refl)
at_end None (Some depth) false false (Some store) = (refl, refl)
at_end None (Some depth) false true None = (refl, refl)
at_end None (Some depth) false true (Some store) = (refl, refl)
at_end None (Some depth) true false None = (refl, refl)
at_end None (Some depth) true false (Some store) = (refl, refl)
at_end None (Some depth) true true None = (refl, refl)
at_end None (Some depth) true true (Some store) = (refl, refl)
at_end (Some workers) None false false None = (refl, refl)
at_end (Some workers) None false false (Some store) = (refl, refl)
at_end (Some workers) None false true None = (refl, refl)
at_end (Some workers) None false true (Some store) = (refl, refl)
at_end (Some workers) None true false None = (refl, refl)
at_end (Some workers) None true false (Some store) = (refl, refl)
at_end (Some workers) None true true None = (refl, refl)
at_end (Some workers) None true true (Some store) = (refl, refl)
at_end (Some workers) (Some depth) false false None = (refl, refl)
at_end (Some workers) (Some depth) false false (Some store) = (refl, refl)
at_end (Some workers) (Some depth) false true None = (refl, refl)
at_end (Some workers) (Some depth) false true (Some store) = (refl, refl)
at_end (Some workers) (Some depth) true false None = (refl, refl)
at_end (Some workers) (Some depth) true false (Some store) = (refl, refl)
at_end (Some workers) (Some depth) true true None = (refl, refl)
at_end (Some workers) (Some depth) true true (Some store) = (refl, refl)

-- such a command line asks for a shell with just these options
pub shell_answer : (words : List Text) (asks : Asks) → AsksFor asks words → AsksForShell asks words
shell_answer words asks means name workers depth is_framed is_json store first second last same =
    let given : List Text = options workers depth is_framed is_json store in
    let to = leads workers depth is_framed is_json store first second last in
    let end = at_end workers depth is_framed is_json store in
    let none : fault_of scene_line (name ∷ codes "shell" ∷ given) ≡ [] =
    enters_shell.fails name given ∙ (level_by leaf _ _ _ to ∙ end.0) in
    let named : command_in (name ∷ codes "shell" ∷ given) ≡ shell_asked workers depth is_framed is_json store =
    enters_shell.has name given
    ∙ (ap (λ (rows : List Row). command_named (codes "shell") rows) (rows_by leaf _ _ _ to) ∙ end.1) in
    taken _ _ _ asks none named (subst (λ (ws : List Text). AsksFor asks ws) same means)
