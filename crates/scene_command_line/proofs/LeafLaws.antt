-- What `clap` makes of the options behind a command's name, one after another.
use Rattle.std.proofs.Common.{◌≡◌, ◌∙◌, Bool, true, false, Option, Some, None, List, refl, sym, ap, [], ◌∷◌, append_assoc, append-nil}
use Rattle.std.specs.Prelude.{◌++◌, fold, if◌then◌else◌}
use Rattle.std.proofs.lemmas.Bool.{not-true}
use Rattle.clap.specs.Words.{Kinds, Rule, Shape, Text}
use Rattle.clap.specs.Kinds.{or_else}
use Rattle.clap.specs.Walk.{Held, Walk, Waiting, after_step, arg_by_id, finished, idle, next, nothing_held, option, option_word, reacted, rows_after, settled, walk, walk_from, walked}
use Rattle.clap.specs.Faults.{check_fault, defaults_fault, level_fault, react_fault, settle_fault, turn_fault, walk_fault}
use Rattle.clap.proofs.FaultLemmas.{past}
use Rattle.scene_command_line.specs.Plain.{flag_words, is_no_option, is_option, option_words}
use Rattle.scene_command_line.proofs.EnterLaws.{no_dashes, no_long, no_short, or_nothing}

or_else_assoc : (a b c : Kinds) → or_else (or_else a b) c ≡ or_else a (or_else b c)
or_else_assoc [] b c = refl
or_else_assoc (k ∷ ks) b c = refl

-- the walk where an option waits for its word
abbrev pub asking : Text → Held → Walk
asking id h = record (walk_from h) { waiting = option id }

-- a word that is no option is the word of the option that waits
module _ (id word : Text) (plain : is_option word ≡ false) (h : Held) where
  word_walked : (c : List Rule) → walked c [] (asking id h) word
      ≡ after_step c word (asking id h) (option_word (arg_by_id c id) id word h).0
      (next (option_word (arg_by_id c id) id word h).1)
  unfolding walked
  word_walked c = rw (no_dashes word plain, no_long word plain, no_short word plain) refl

  word_passes : (s : Shape) → turn_fault s [] (asking id h) word ≡ []
  word_passes s = rw (no_dashes word plain, no_long word plain, no_short word plain) refl

-- these words fail by `fault`, and lead from what is held before them to what is held after them
pub record Leads (s : Shape) (words : List Text) (fault : Held → Kinds) (after : Held → Held) : Type 0 where
  pub fails : (h : Held) (rest : List Text)
      → walk_fault s [] (walk_from h) (words ++ rest) ≡ or_else (fault h) (walk_fault s [] (walk_from (after h)) rest)
  pub walks : (h : Held) (rest : List Text)
      → ◌≡◌ {A = Walk} (fold (walked s.rules []) (walk_from h) (words ++ rest))
      (fold (walked s.rules []) (walk_from (after h)) rest)

by_none : (s : Shape) → Leads s [] (λ h. []) (λ h. h)
by_none s = record { fails = λ h rest. refl; walks = λ h rest. refl }

pub by_both : (s : Shape) (xs ys : List Text) (f g : Held → Kinds) (to on : Held → Held)
    → Leads s xs f to → Leads s ys g on → Leads s (xs ++ ys) (λ h. or_else (f h) (g (to h))) (λ h. on (to h))
by_both s xs ys f g to on first second = record {
  fails = λ h rest.
      ap (walk_fault s [] (walk_from h)) (append_assoc xs ys rest)
      ∙ (first.fails h (ys ++ rest)
      ∙ (ap (or_else (f h)) (second.fails (to h) rest)
      ∙ sym (or_else_assoc (f h) (g (to h)) (walk_fault s [] (walk_from (on (to h))) rest))));
  walks = λ h rest.
      ap (fold (walked s.rules []) (walk_from h)) (append_assoc xs ys rest)
      ∙ (first.walks h (ys ++ rest) ∙ second.walks (to h) rest);
}

-- what is held after an option with its word
abbrev pub given : Shape → Text → Text → Held → Held
given s id word h = record (settled s.rules h) { pending = Some (id, word ∷ []) }

abbrev pub settles : Shape → Held → Kinds
settles s h = settle_fault s.rules s.args_override_self h

-- the same where it is given or not
abbrev pub option_fault : Shape → Option Text → Held → Kinds
option_fault s None h = []
option_fault s (Some word) h = settles s h

abbrev pub option_held : Shape → Text → Option Text → Held → Held
option_held s id None h = h
option_held s id (Some word) h = given s id word h

-- and of an option that takes no word
abbrev pub flag_fault : Shape → Rule → Bool → Held → Kinds
flag_fault s a is_given h = if is_given then react_fault s.rules s.args_override_self a [] h else []

abbrev pub flag_held : Shape → Rule → Bool → Held → Held
flag_held s a is_given h = if is_given then reacted s.rules a [] h else h

-- an option that takes one word
module _ (s : Shape) (name id : Text)
    (waits : (h : Held)
    → ◌≡◌ {A = Walk} (walked s.rules [] (walk_from h) name)
    (asking id (record (settled s.rules h) { pending = Some (id, []) })))
    (fails : (h : Held) → turn_fault s [] (walk_from h) name ≡ or_else (settles s h) [])
    (takes : (word : Text) (h : Held)
    → option_word (arg_by_id s.rules id) id word (record h { pending = Some (id, []) })
    ≡ (record h { pending = Some (id, word ∷ []) }, idle)) where
  abbrev asked : Held → Held
  asked h = record (settled s.rules h) { pending = Some (id, []) }

  ends : (word : Text) → is_option word ≡ false → (h : Held)
      → ◌≡◌ {A = Walk} (walked s.rules [] (walked s.rules [] (walk_from h) name) word) (walk_from (given s id word h))
  ends word plain h =
      ap (λ (w : Walk). walked s.rules [] w word) (waits h)
      ∙ (word_walked id word plain (asked h) s.rules
      ∙ ap (λ (p : Held × Waiting). after_step s.rules word (asking id (asked h)) p.0 (next p.1))
      (takes word (settled s.rules h)))

  pub by_option : (word : Text) → is_option word ≡ false → Leads s (name ∷ word ∷ []) (settles s) (given s id word)
  unfolding walk_fault
  by_option word plain = record {
    fails = λ h rest.
        ap (λ k. or_else k (walk_fault s [] (walked s.rules [] (walk_from h) name) (word ∷ rest)))
        (fails h ∙ or_nothing _)
        ∙ ap (or_else (settles s h))
        (past _ _ (ap (λ (w : Walk). turn_fault s [] w word) (waits h) ∙ word_passes id word plain (asked h) s)
        ∙ ap (λ (w : Walk). walk_fault s [] w rest) (ends word plain h));
    walks = λ h rest. ap (λ (w : Walk). fold (walked s.rules []) w rest) (ends word plain h);
  }

  pub by_option_or_none : (word : Option Text) → is_no_option word ≡ true
      → Leads s (option_words name word) (option_fault s word) (option_held s id word)
  by_option_or_none None plain = by_none s
  by_option_or_none (Some word) plain = by_option word (not-true _ plain)

-- an option that takes no word
module _ (s : Shape) (name : Text) (a : Rule)
    (reacts : (h : Held) → ◌≡◌ {A = Walk} (walked s.rules [] (walk_from h) name) (walk_from (reacted s.rules a [] h)))
    (fails : (h : Held)
    → turn_fault s [] (walk_from h) name ≡ or_else (react_fault s.rules s.args_override_self a [] h) []) where
  by_flag : Leads s (name ∷ []) (react_fault s.rules s.args_override_self a []) (reacted s.rules a [])
  unfolding walk_fault
  by_flag = record {
    fails = λ h rest.
        ap (λ k. or_else k (walk_fault s [] (walked s.rules [] (walk_from h) name) rest)) (fails h ∙ or_nothing _)
        ∙ ap (λ (w : Walk). or_else (react_fault s.rules s.args_override_self a [] h) (walk_fault s [] w rest))
        (reacts h);
    walks = λ h rest. ap (λ (w : Walk). fold (walked s.rules []) w rest) (reacts h);
  }

  pub by_flag_or_none : (is_given : Bool)
      → Leads s (flag_words name is_given) (flag_fault s a is_given) (flag_held s a is_given)
  by_flag_or_none false = by_none s
  by_flag_or_none true = by_flag

-- ---- a whole command line

-- how the command fails at the end, where this is held
abbrev pub end_fault : Shape → Held → Kinds
end_fault s end =
    or_else (settles s end)
    (or_else (defaults_fault (settled s.rules end).rows s.rules) (check_fault s (finished s.rules end) false))

module _ (s : Shape) (words : List Text) (fault : Held → Kinds) (after : Held → Held)
    (leads : Leads s words fault after) where
  walk_end : ◌≡◌ {A = Walk} (walk s.rules [] nothing_held words) (walk_from (after nothing_held))
  walk_end =
      ap (fold (walked s.rules []) (walk_from nothing_held)) (sym (append-nil words)) ∙ leads.walks nothing_held []

  -- how the words fail
  pub level_by : level_fault s [] nothing_held words false []
      ≡ or_else (fault nothing_held) (end_fault s (after nothing_held))
  unfolding walk_fault
  level_by =
      ap (λ (w : Walk). or_else (walk_fault s [] (walk_from nothing_held) words) (end_fault s w.held)) walk_end
      ∙ (ap (λ k. or_else k (end_fault s (after nothing_held)))
      (ap (walk_fault s [] (walk_from nothing_held)) (sym (append-nil words)) ∙ leads.fails nothing_held [])
      ∙ or_else_assoc (fault nothing_held) [] (end_fault s (after nothing_held)))

  -- the matches that they have
  pub rows_by : rows_after s.rules [] words ≡ finished s.rules (after nothing_held)
  rows_by = ap (λ (w : Walk). finished s.rules w.held) walk_end
