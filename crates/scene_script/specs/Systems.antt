-- What the words of a system say: its filter and its steps, or the first mistake.
use Rattle.std.specs.Prelude.{ℕ, ◌==◌, List, [], ◌∷◌, Bool, false, ◌||◌, Option, Some, None, Result, Ok, Err, if◌then◌else◌, codes}
use Rattle.std.specs.List.{slice_split}
use Rattle.std.specs.Str.{bytes_eq}
use Rattle.scene_kinds.specs.declared.value.Value.{Value}
use Rattle.scene_kinds.specs.KindSet.{KindSet, set_with}
use Rattle.scene_kinds.specs.Schema.{Kinds}
use Rattle.scene_systems.specs.declared.filter.Filter.{Filter}
use Rattle.scene_table.specs.declared.row_step.RowStep.TheVariants.{AddVec, AddInt}
use Rattle.scene_systems.specs.declared.step.Step.{Step}
use Rattle.scene_systems.specs.declared.step.Step.TheVariants.{Row, DespawnAtZero, SpawnChild, CountInto}
use Rattle.scene_systems.specs.declared.system_rule.SystemRule.{SystemRule}
use Rattle.scene_script.specs.declared.bad_line.BadLine.{BadLine}
use Rattle.scene_script.specs.declared.bad_line.BadLine.TheVariants as bad
use Rattle.scene_kinds.specs.EntityReading.{cut_at}
use Rattle.scene_script.specs.Numbers.{number_said}
use Rattle.scene_script.specs.Cells.{kind_said, cell_said}
use Rattle.scene_script.specs.Reading.{◌>>=◌, or_bad}

-- ---- the filter

-- whether this stands before the mark where a word was cut
abbrev pub is_before : List ℕ → Option (List ℕ × List ℕ) → Bool
is_before name None = false
is_before name (Some p) = bytes_eq p.0 name

-- what stands behind it, where there is such a mark
abbrev pub behind_mark : Option (List ℕ × List ℕ) → List ℕ
behind_mark None = []
behind_mark (Some p) = p.1

-- whether a word is this part of a filter, `need` or `without`, which stands before its = (61)
abbrev pub is_part : List ℕ → List ℕ → Bool
is_part part word = is_before part (cut_at 61 word)

-- a set with the kind of a name
abbrev pub with_name : Kinds → KindSet → List ℕ → Result ℕ BadLine
with_name kinds set name = do
  kind ← kind_said kinds name
  Ok (set_with set kind)

-- a set with the kinds of names, which are looked at one after another
abbrev pub with_names : Kinds → KindSet → List (List ℕ) → Result ℕ BadLine
with_names kinds set [] = Ok set
with_names kinds set (n ∷ ns) = do
  more ← with_name kinds set n
  with_names kinds more ns

-- the kinds of a part's names, which commas (44) join; there has to be one
abbrev pub names_said : Kinds → List ℕ → List ℕ → Result ℕ BadLine
names_said kinds word [] = Err (bad.MissingName word)
names_said kinds word (b ∷ bs) = with_names kinds 0 (slice_split (λ c. c == 44) (b ∷ bs))

-- the kinds of a part
abbrev pub part_said : Kinds → List ℕ → Result ℕ BadLine
part_said kinds word = names_said kinds word (behind_mark (cut_at 61 word))

-- the kinds of this part, where the next word is it, and the words behind; one that isn't given has no kinds
abbrev pub next_part : Kinds → List ℕ → List (List ℕ) → Result (ℕ × List (List ℕ)) BadLine
next_part kinds part [] = Ok (0, [])
next_part kinds part (w ∷ ws) = if is_part part w then (part_said kinds w >>= (λ set. Ok (set, ws))) else Ok (0, w ∷ ws)

-- ---- the steps

-- the name that stands behind a word's mark; there has to be one
abbrev pub count_said : List ℕ → List ℕ → Result Step BadLine
count_said word [] = Err (bad.MissingName word)
count_said word (b ∷ bs) = Ok (CountInto (b ∷ bs))

-- a part of the cells of a `child:`; an empty one is no cell
abbrev pub child_cell : Kinds → List ℕ → List ℕ → Result (ℕ × Value) BadLine
child_cell kinds word [] = Err (bad.MissingCell word)
child_cell kinds word (b ∷ bs) = cell_said kinds (b ∷ bs)

-- the cells of the parts
abbrev pub child_cells : Kinds → List ℕ → List (List ℕ) → Result (List (ℕ × Value)) BadLine
child_cells kinds word [] = Ok []
child_cells kinds word (p ∷ ps) = do
  c ← child_cell kinds word p
  cs ← child_cells kinds word ps
  Ok (c ∷ cs)

-- the cells between the marks ; (59)
abbrev pub child_said : Kinds → List ℕ → List ℕ → Result Step BadLine
child_said kinds word cells = do
  cs ← child_cells kinds word (slice_split (λ b. b == 59) cells)
  Ok (SpawnChild cs)

-- the kind before the mark : (58), and the kind behind it
abbrev pub addvec_said : Kinds → List ℕ → List ℕ → Result Step BadLine
addvec_said kinds word kind_names = do
  p ← or_bad (bad.NoStep word) (cut_at 58 kind_names)
  to ← kind_said kinds p.0
  by ← kind_said kinds p.1
  Ok (Row (AddVec to by))

-- the kind before the mark : (58), and the number behind it
abbrev pub addint_said : Kinds → List ℕ → List ℕ → Result Step BadLine
addint_said kinds word text = do
  p ← or_bad (bad.NoStep word) (cut_at 58 text)
  to ← kind_said kinds p.0
  by ← number_said p.1
  Ok (Row (AddInt to by))

-- the kind whose number ends a row
abbrev pub zero_said : Kinds → List ℕ → Result Step BadLine
zero_said kinds name = do
  kind ← kind_said kinds name
  Ok (DespawnAtZero kind)

-- why a word is no step: it is a part of a filter that comes too late, or anything else
abbrev pub no_step : List ℕ → BadLine
no_step word = if is_part (codes "need") word || is_part (codes "without") word then bad.MisplacedPart word else bad.NoStep word

-- the step of this name, with what stands behind it
abbrev pub step_named : Kinds → List ℕ → List ℕ → List ℕ → Result Step BadLine
step_named kinds word name rest =
    if bytes_eq name (codes "addvec") then addvec_said kinds word rest
    else if bytes_eq name (codes "addint") then addint_said kinds word rest
    else if bytes_eq name (codes "zero") then zero_said kinds rest
    else if bytes_eq name (codes "child") then child_said kinds word rest
    else if bytes_eq name (codes "count") then count_said word rest
    else Err (no_step word)

-- the step that a word is: its name, a mark : (58), and what it does
abbrev pub step_said : Kinds → List ℕ → Result Step BadLine
step_said kinds word = do
  p ← or_bad (no_step word) (cut_at 58 word)
  step_named kinds word p.0 p.1

-- the steps that words are
abbrev pub steps_said : Kinds → List (List ℕ) → Result (List Step) BadLine
steps_said kinds [] = Ok []
steps_said kinds (w ∷ ws) = do
  s ← step_said kinds w
  ss ← steps_said kinds ws
  Ok (s ∷ ss)

-- ---- the system

-- a system of this name and this filter
abbrev pub system_with : Kinds → List ℕ → Filter → List (List ℕ) → Result SystemRule BadLine
system_with kinds name filter words = do
  steps ← steps_said kinds words
  Ok (record { name = name; filter = filter; steps = steps })

-- a system whose rows have these kinds
abbrev pub system_needing : Kinds → List ℕ → KindSet → List (List ℕ) → Result SystemRule BadLine
system_needing kinds name need words = do
  without ← next_part kinds (codes "without") words
  system_with kinds name (record { need = need; without = without.0 }) without.1

-- a system of this name: `need=`, `without=`, each of which may be left out, and then the steps
abbrev pub system_said : Kinds → List ℕ → List (List ℕ) → Result SystemRule BadLine
system_said kinds name words = do
  need ← next_part kinds (codes "need") words
  system_needing kinds name need.0 need.1
