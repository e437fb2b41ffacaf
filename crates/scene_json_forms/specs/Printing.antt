-- What the printers of lists write one by one. What a save writes doesn't rest on these words.
use Rattle.std.specs.Prelude.{ℕ, ℤ, List, ◌++◌, Bool, codes, decimal, map as each}
use Rattle.std.specs.Fmt.{signed_decimal}
use Rattle.serde_json.specs.Data.{Data}
use Rattle.serde_json.specs.Written.{items_text}
use Rattle.scene_json_forms.specs.Text.{items_of}

-- the elements of a list that are still to come, with its closing bracket; a comma stands before one that isn't the
-- first
abbrev pub rest_text : {A : Type 0} → Bool → (A → Data) → List A → List ℕ
rest_text later text xs = items_text later (items_of (each text xs))

-- three whole numbers with commas between them
abbrev pub three_text : ℤ → ℤ → ℤ → List ℕ
three_text x y z = signed_decimal x ++ (codes "," ++ (signed_decimal y ++ (codes "," ++ signed_decimal z)))

-- the ticks with which the list of a cell ends
abbrev pub ticks_text : ℕ → ℕ → List ℕ
ticks_text added changed = codes "," ++ (decimal added ++ (codes "," ++ (decimal changed ++ codes "]")))
