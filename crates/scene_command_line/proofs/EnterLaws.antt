-- What `clap` makes of the words behind a command's name: what the command makes of them alone.
use Rattle.std.proofs.Common.{◌≡◌, ◌∙◌, Bool, true, false, Some, None, List, inl, inr, refl, sym, ap, subst, codes, [], ◌∷◌}
use Rattle.std.specs.Prelude.{fold, find, is_some, option_map}
use Rattle.std.specs.Option.{option_map_or}
use Rattle.std.specs.Str.{bytes_eq}
use Rattle.clap.specs.Words.{App, Kinds, Row, Shape, Text, fault_of, built}
use Rattle.clap.specs.Kinds.{or_else}
use Rattle.clap.specs.Simple.{built_leaf, entered, label_of, names_of, rows_at}
use Rattle.clap.specs.Walk.{Held, Names, Walk, answers_to, finished, nothing_held, rows_after, settled, walk, walk_from, walked}
use Rattle.clap.specs.Faults.{built_fault, check_fault, defaults_fault, entered_fault, level_fault, settle_fault, turn_fault, walk_fault}
use Rattle.clap.specs.Lexer.{long_of, short_of}
use Rattle.clap.specs.declared.error.kind.ErrorKind.{ErrorKind}
use Rattle.clap.proofs.FaultLemmas.{past, stopped_fault}
use Rattle.clap.proofs.OnLiterals.{clap_on_literals}
use Rattle.clap.proofs.WalkLemmas.{walk_stopped}
use Rattle.scene_command_line.specs.Asks.{Asks, Nothing}
use Rattle.scene_command_line.specs.Plain.{is_option}
use Rattle.scene_command_line.specs.Words.{Answers, by_kind, command_in, command_named, command_of, run_shape, scene_line, shell_shape}

-- ---- words that are no options

pub no_dashes : (word : Text) → is_option word ≡ false → bytes_eq word (45 ∷ 45 ∷ []) ≡ false
no_dashes [] plain = refl
no_dashes (x ∷ xs) plain = rw plain refl

pub no_long : (word : Text) → is_option word ≡ false → long_of word ≡ None
no_long [] plain = refl
no_long (x ∷ xs) plain = rw plain refl

pub no_short : (word : Text) → is_option word ≡ false → short_of word ≡ None
no_short [] plain = refl
no_short (x ∷ xs) plain = rw plain refl

-- ---- answers at which `clap` takes the words, and at which it refuses them

pub taken : (kinds : Kinds) (command named asks : Asks) → kinds ≡ [] → command ≡ named → Answers kinds command asks
    → asks ≡ named
taken kinds command named asks none is means = subst (λ (ks : Kinds). Answers ks command asks) none means ∙ is

pub answered_once : (kinds : Kinds) (command asks : Asks) (kind : ErrorKind) → kinds ≡ kind ∷ []
    → Answers kinds command asks
    → asks ≡ by_kind kind
answered_once kinds command asks kind one means =
    elim (subst (λ (ks : Kinds). Answers ks command asks) one means) [ inl is ↦ is | inr none ↦ absurd none ]

pub refused_once : (kinds : Kinds) (command asks : Asks) (kind : ErrorKind) → by_kind kind ≡ Nothing → kinds ≡ kind ∷ []
    → Answers kinds command asks → asks ≡ Nothing
refused_once kinds command asks kind bad one means = answered_once kinds command asks kind one means ∙ bad

-- ---- one level of a parse

abbrev pub start : Walk
start = walk_from nothing_held

pub or_nothing : (kinds : Kinds) → or_else kinds [] ≡ kinds
or_nothing [] = refl
or_nothing (k ∷ ks) = refl

-- where the first word fails
pub level_first : (s : Shape) (names : Names) (word : Text) (rest : List Text) (has : Bool) (below : Kinds)
    (k : ErrorKind) (ks : Kinds)
    → turn_fault s names start word ≡ k ∷ ks → level_fault s names nothing_held (word ∷ rest) has below ≡ k ∷ ks
unfolding walk_fault
level_first s names word rest has below k ks first = rw first refl

-- where the second one does
pub level_second : (s : Shape) (word next : Text) (rest : List Text) (k : ErrorKind) (ks : Kinds)
    → turn_fault s [] start word ≡ []
    → turn_fault s [] (walked s.rules [] start word) next ≡ k ∷ ks
    → level_fault s [] nothing_held (word ∷ next ∷ rest) false [] ≡ k ∷ ks
unfolding walk_fault
level_second s word next rest k ks first second = rw (first, second) refl

-- where the third one does
pub level_third : (s : Shape) (word next last : Text) (rest : List Text) (k : ErrorKind) (ks : Kinds)
    → turn_fault s [] start word ≡ []
    → turn_fault s [] (walked s.rules [] start word) next ≡ []
    → turn_fault s [] (walked s.rules [] (walked s.rules [] start word) next) last ≡ k ∷ ks
    → level_fault s [] nothing_held (word ∷ next ∷ last ∷ rest) false [] ≡ k ∷ ks
unfolding walk_fault
level_third s word next last rest k ks first second third = rw (first, second, third) refl

-- a built program, and one of its commands, which its name enters
module _ (a : App) (command : Text) (s : Shape)
    (enters : walked a.top.rules (names_of a) start command ≡ record start { stopped = Some (command, []) })
    (passes : turn_fault a.top (names_of a) start command ≡ [])
    (is_one : find (λ sub. answers_to command (label_of sub)) a.subs ≡ Some s) where
  abbrev last : Bool → Held → Kinds
  last has_sub end =
      or_else (settle_fault a.top.rules a.top.args_override_self end)
      (or_else (defaults_fault (settled a.top.rules end).rows a.top.rules)
      (check_fault a.top (finished a.top.rules end) has_sub))

  abbrev after : Walk → Kinds
  after w = or_else (entered_fault a w.stopped) (last (is_some (entered a w.stopped)) w.held)

  stops : (words : List Text)
      → ◌≡◌ {A = Walk} (walk a.top.rules (names_of a) nothing_held (command ∷ words))
      (record start { stopped = Some (command, words) })
  stops words =
      ap (λ (w : Walk). fold (walked a.top.rules (names_of a)) w words) enters
      ∙ sym (walk_stopped a.top.rules (names_of a) start command [] words)

  walks : (words : List Text) → walk_fault a.top (names_of a) start (command ∷ words) ≡ []
  unfolding walk_fault
  walks words =
      let later : walk_fault a.top (names_of a) (walked a.top.rules (names_of a) start command) words ≡ [] =
      ap (λ (w : Walk). walk_fault a.top (names_of a) w words) enters
      ∙ stopped_fault a.top (names_of a) start (command, []) words in
      past _ _ passes ∙ later

  -- the words fail as they fail at the command
  pub entered_level : last true nothing_held ≡ [] → (words : List Text)
      → built_fault a nothing_held (command ∷ words) ≡ level_fault s [] nothing_held words false []
  entered_level ends words =
      past _ (after (walk a.top.rules (names_of a) nothing_held (command ∷ words))) (walks words)
      ∙ (ap after (stops words)
      ∙ (ap (λ found. or_else (option_map_or (λ sub. level_fault sub [] nothing_held words false []) found [])
      (last (is_some (option_map (λ sub. rows_at sub words) found)) nothing_held)) is_one
      ∙ (ap (or_else (level_fault s [] nothing_held words false [])) ends ∙ or_nothing _)))

  -- the words give the command the matches that they give it alone
  pub entered_rows : (words : List Text)
      → entered a (walk a.top.rules (names_of a) nothing_held (command ∷ words)).stopped ≡ Some (rows_at s words)
  entered_rows words =
      ap (λ (w : Walk). entered a w.stopped) (stops words) ∙ ap (option_map (λ sub. rows_at sub words)) is_one

-- ---- the program's commands

abbrev pub line : App
line = built scene_line

-- how a command fails at words
abbrev pub leaf_fault : Shape → List Text → Kinds
leaf_fault s words = level_fault (built_leaf s) [] nothing_held words false []

-- what a command has of words
abbrev pub leaf_rows : Shape → List Text → List Row
leaf_rows s words = rows_after (built_leaf s).rules [] words

-- what `clap` makes of a command line with this command is what the command makes of the words behind its name
pub record Enters (command : Text) (s : Shape) : Type 0 where
  pub fails : (name : Text) (words : List Text) → fault_of scene_line (name ∷ command ∷ words) ≡ leaf_fault s words
  pub has : (name : Text) (words : List Text)
      → command_in (name ∷ command ∷ words) ≡ command_named command (leaf_rows s words)

-- so it is where the name enters the command
pub by_name : (command : Text) (s : Shape)
    → walked line.top.rules (names_of line) start command ≡ record start { stopped = Some (command, []) }
    → turn_fault line.top (names_of line) start command ≡ []
    → find (λ sub. answers_to command (label_of sub)) line.subs ≡ Some (built_leaf s)
    → (built_leaf s).name ≡ command → Enters command s
unfolding clap_on_literals
by_name command s enters passes is_one named = record {
  fails = λ name words. entered_level line command (built_leaf s) enters passes is_one refl words;
  has = λ name words.
      ap command_of (entered_rows line command (built_leaf s) enters passes is_one words)
      ∙ ap (λ n. command_named n (leaf_rows s words)) named;
}

pub enters_run : Enters (codes "run") run_shape
unfolding clap_on_literals
enters_run = by_name _ _ refl refl refl refl

pub enters_shell : Enters (codes "shell") shell_shape
unfolding clap_on_literals
enters_shell = by_name _ _ refl refl refl refl
