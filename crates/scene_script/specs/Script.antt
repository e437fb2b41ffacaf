-- What a line of a script says, or why it is bad: the first mistake, read from the left.
use Rattle.std.specs.Prelude.{ℕ, List, [], ◌∷◌, ◌==◌, Bool, false, ◌&&◌, Option, Some, None, Result, Ok, Err, pos, nat_lt, nat_le, if◌then◌else◌, option_and_then}
use Rattle.std.specs.Str.{is_utf8}
use Rattle.scene_kinds.specs.Schema.{Kinds}
use Rattle.scene_commands.specs.declared.command.Command.TheVariants.{Spawn, Insert, Despawn, Remove, SetParent, RemoveParent, DespawnAll, DespawnAllIfAlive, PutResource, RemoveResource}
use Rattle.scene_script.specs.declared.script_line.Line.{Line}
use Rattle.scene_script.specs.declared.script_line.Line.TheVariants.{Empty, Kind, Slots, Load, Calls, Depth, Do, Begin, Queue, Commit, Undo, Redo, Show, Get, Mark, Changed, Added, Phase, System, Clear, Advance, Dump, DumpAll, As, History}
use Rattle.scene_script.specs.declared.form.LineForm.{LineForm}
use Rattle.scene_script.specs.declared.form.LineForm.TheVariants as form
use Rattle.scene_script.specs.declared.bad_line.BadLine.{BadLine}
use Rattle.scene_script.specs.declared.bad_line.BadLine.TheVariants as bad
use Rattle.scene_script.specs.Forms.{form_named}
use Rattle.scene_script.specs.Reading.{◌>>=◌, or_bad, next_word, ended, ended_behind}
use Rattle.scene_script.specs.Cells.{kind_said, cell_said, cells_said, is_text, shape_said, shaped_value_said, target_said}
use Rattle.scene_script.specs.Systems.{system_said}
use Rattle.scene_kinds.specs.EntityReading.{count_in}
use Rattle.scene_script.specs.Numbers.{bad_number, entity_said}
use Rattle.scene_script.specs.Words.{words_of, behind_first}

-- `kind NAME SHAPE`; the name is any word
abbrev pub kind_line : List (List ℕ) → Result Line BadLine
kind_line words = do
  name ← next_word form.Kind words
  shape ← next_word form.Kind name.1
  s ← shape_said shape.0
  ended form.Kind shape.1 (Kind name.0 s)

-- the limit that a number is, of slots, of calls or of frames
abbrev pub limit_of : ℕ → Option ℕ
limit_of n = if nat_lt 0 n && nat_le n 1048576 then Some n else None

-- the limit that a word is
abbrev pub limit_said : List ℕ → Result ℕ BadLine
limit_said word = or_bad (bad_number word (pos 1) (pos 1048576)) (option_and_then limit_of (count_in word))

-- `slots N`
abbrev pub slots_line : List (List ℕ) → Result Line BadLine
slots_line words = do
  word ← next_word form.Slots words
  n ← limit_said word.0
  ended form.Slots word.1 (Slots n)

-- `calls N`
abbrev pub calls_line : List (List ℕ) → Result Line BadLine
calls_line words = do
  word ← next_word form.Calls words
  n ← limit_said word.0
  ended form.Calls word.1 (Calls n)

-- `depth N`
abbrev pub depth_line : List (List ℕ) → Result Line BadLine
depth_line words = do
  word ← next_word form.Depth words
  n ← limit_said word.0
  ended form.Depth word.1 (Depth n)

-- `spawn CELL..`
abbrev pub spawn_line : Kinds → List (List ℕ) → Result Line BadLine
spawn_line kinds words = do
  cells ← cells_said kinds words
  Ok (Do (Spawn cells))

-- `insert T CELL`
abbrev pub insert_line : Kinds → List (List ℕ) → Result Line BadLine
insert_line kinds words = do
  target ← next_word form.Insert words
  t ← target_said target.0
  cell ← next_word form.Insert target.1
  c ← cell_said kinds cell.0
  ended_behind (is_text c.1) form.Insert cell.1 (Do (Insert t c.0 c.1))

-- `despawn T`
abbrev pub despawn_line : List (List ℕ) → Result Line BadLine
despawn_line words = do
  target ← next_word form.Despawn words
  t ← target_said target.0
  ended form.Despawn target.1 (Do (Despawn t))

-- `remove T NAME`
abbrev pub remove_line : Kinds → List (List ℕ) → Result Line BadLine
remove_line kinds words = do
  target ← next_word form.Remove words
  t ← target_said target.0
  name ← next_word form.Remove target.1
  k ← kind_said kinds name.0
  ended form.Remove name.1 (Do (Remove t k))

-- `parent T T`, the child and then its parent
abbrev pub parent_line : List (List ℕ) → Result Line BadLine
parent_line words = do
  child ← next_word form.Parent words
  c ← target_said child.0
  parent ← next_word form.Parent child.1
  p ← target_said parent.0
  ended form.Parent parent.1 (Do (SetParent c p))

-- `unparent T`
abbrev pub unparent_line : List (List ℕ) → Result Line BadLine
unparent_line words = do
  child ← next_word form.Unparent words
  t ← target_said child.0
  ended form.Unparent child.1 (Do (RemoveParent t))

-- `despawnall T`
abbrev pub despawnall_line : List (List ℕ) → Result Line BadLine
despawnall_line words = do
  target ← next_word form.DespawnAll words
  t ← target_said target.0
  ended form.DespawnAll target.1 (Do (DespawnAll t))

-- `despawnifalive T`
abbrev pub despawnifalive_line : List (List ℕ) → Result Line BadLine
despawnifalive_line words = do
  target ← next_word form.DespawnIfAlive words
  t ← target_said target.0
  ended form.DespawnIfAlive target.1 (Do (DespawnAllIfAlive t))

-- `put NAME SHAPE` for a Tag, else `put NAME SHAPE=VALUE`; the name is any word
abbrev pub put_line : List (List ℕ) → Result Line BadLine
put_line words = do
  name ← next_word form.Put words
  value ← next_word form.Put name.1
  v ← shaped_value_said value.0
  ended_behind (is_text v) form.Put value.1 (Do (PutResource name.0 v))

-- `drop NAME`; the name is any word
abbrev pub drop_line : List (List ℕ) → Result Line BadLine
drop_line words = do
  name ← next_word form.Drop words
  ended form.Drop name.1 (Do (RemoveResource name.0))

-- `get T`, T an entity text
abbrev pub get_line : List (List ℕ) → Result Line BadLine
get_line words = do
  word ← next_word form.Get words
  e ← entity_said word.0
  ended form.Get word.1 (Get e)

-- `system NAME [need=N,N] [without=N,N] STEP..`; the name is any word
abbrev pub system_line : Kinds → List (List ℕ) → Result Line BadLine
system_line kinds words = do
  name ← next_word form.System words
  rule ← system_said kinds name.0 name.1
  Ok (System rule)

-- the session that a number is
abbrev pub session_of : ℕ → Option ℕ
session_of n = if nat_lt n 8 then Some n else None

-- the session that a word is
abbrev pub session_said : List ℕ → Result ℕ BadLine
session_said word = or_bad (bad_number word (pos 0) (pos 7)) (option_and_then session_of (count_in word))

-- `as N`
abbrev pub as_line : List (List ℕ) → Result Line BadLine
as_line words = do
  word ← next_word form.As words
  n ← session_said word.0
  ended form.As word.1 (As n)

-- `load TEXT`; the text is the rest of the line
abbrev pub load_line : List ℕ → Result Line BadLine
load_line line = Ok (Load (behind_first line))

-- a line by its form and the words behind the first
abbrev pub line_of_form : Kinds → LineForm → List ℕ → List (List ℕ) → Result Line BadLine
line_of_form kinds form.Kind line words = kind_line words
line_of_form kinds form.Slots line words = slots_line words
line_of_form kinds form.Load line words = load_line line
line_of_form kinds form.Calls line words = calls_line words
line_of_form kinds form.Depth line words = depth_line words
line_of_form kinds form.Spawn line words = spawn_line kinds words
line_of_form kinds form.Insert line words = insert_line kinds words
line_of_form kinds form.Despawn line words = despawn_line words
line_of_form kinds form.Remove line words = remove_line kinds words
line_of_form kinds form.Parent line words = parent_line words
line_of_form kinds form.Unparent line words = unparent_line words
line_of_form kinds form.DespawnAll line words = despawnall_line words
line_of_form kinds form.DespawnIfAlive line words = despawnifalive_line words
line_of_form kinds form.Put line words = put_line words
line_of_form kinds form.Drop line words = drop_line words
line_of_form kinds form.Begin line words = ended form.Begin words Begin
line_of_form kinds form.Queue line words = ended form.Queue words Queue
line_of_form kinds form.Commit line words = ended form.Commit words Commit
line_of_form kinds form.Undo line words = ended form.Undo words Undo
line_of_form kinds form.Redo line words = ended form.Redo words Redo
line_of_form kinds form.Show line words = ended form.Show words Show
line_of_form kinds form.Get line words = get_line words
line_of_form kinds form.Mark line words = ended form.Mark words Mark
line_of_form kinds form.Changed line words = ended form.Changed words Changed
line_of_form kinds form.Added line words = ended form.Added words Added
line_of_form kinds form.Phase line words = ended form.Phase words Phase
line_of_form kinds form.System line words = system_line kinds words
line_of_form kinds form.Clear line words = ended form.Clear words Clear
line_of_form kinds form.Advance line words = ended form.Advance words Advance
line_of_form kinds form.Dump line words = ended form.Dump words Dump
line_of_form kinds form.DumpAll line words = ended form.DumpAll words DumpAll
line_of_form kinds form.As line words = as_line words
line_of_form kinds form.History line words = ended form.History words History

-- a line by its first word and the others
abbrev pub named_line : Kinds → List ℕ → List ℕ → List (List ℕ) → Result Line BadLine
named_line kinds line first rest = do
  f ← or_bad (bad.UnknownCommand first) (form_named first)
  line_of_form kinds f line rest

-- whether a word begins a comment, with # (35)
abbrev pub is_comment : List ℕ → Bool
is_comment [] = false
is_comment (b ∷ bs) = b == 35

-- a line by its words: one without words and a comment say nothing
abbrev pub line_of_words : Kinds → List ℕ → List (List ℕ) → Result Line BadLine
line_of_words kinds line [] = Ok Empty
line_of_words kinds line (first ∷ rest) = if is_comment first then Ok Empty else named_line kinds line first rest

-- a line that is no UTF-8 is bad, a comment too
abbrev pub line_in : Kinds → List ℕ → Result Line BadLine
line_in kinds bytes = if is_utf8 bytes then line_of_words kinds bytes (words_of bytes) else Err bad.NotUtf8
