-- The JSON objects of answers.
use Rattle.std.specs.Prelude.{ℕ, List, ◌∷◌, codes, map as each}
use Rattle.serde_json.specs.Data.{Data, string}
use Rattle.scene_json_forms.specs.Text.{object_of}

-- an answer: what it is, and then its members
abbrev pub answer_of : List ℕ → List (List ℕ × Data) → Data
answer_of what members = object_of ((codes "answer", string what) ∷ members)

-- the object that has a member for each element of a list
abbrev pub object_by : {A : Type 0} → (A → List ℕ × Data) → List A → Data
object_by member xs = object_of (each member xs)
