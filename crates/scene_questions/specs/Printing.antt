-- What the printers of answers write one by one. What is written as a whole doesn't rest on these words.
use Rattle.std.specs.Prelude.{ℕ, List, ◌++◌, codes, decimal}
use Rattle.scene_undo.specs.declared.cursor.Cursor.{Cursor}
use Rattle.scene_requests.specs.declared.question.Way.{Way}
use Rattle.scene_requests.specs.declared.question.Way.TheVariants.{Forth, Back}

-- the beginning of a step
abbrev pub step_lead : Way → List ℕ
step_lead Forth = codes "{\"answer\":\"step\",\"way\":\"forth\",\"deltas\":"
step_lead Back = codes "{\"answer\":\"step\",\"way\":\"back\",\"deltas\":"

-- the beginning of a status: a cursor
abbrev pub cursor_text : Cursor → List ℕ
cursor_text c = codes "{\"answer\":\"status\",\"tick\":" ++ (decimal c.tick ++ (codes ",\"rewinds\":" ++ decimal c.rewinds))

-- the numbers of frames
abbrev pub frames_text : (past future depth : ℕ) → List ℕ
frames_text past future depth =
    codes ",\"past\":" ++ (decimal past ++ (codes ",\"future\":" ++ (decimal future ++ (codes ",\"depth\":" ++ decimal depth))))

-- and of slots, with the closing brace
abbrev pub slots_text : (slots limit : ℕ) → List ℕ
slots_text slots limit = codes ",\"slots\":" ++ (decimal slots ++ (codes ",\"limit\":" ++ (decimal limit ++ codes "}")))
