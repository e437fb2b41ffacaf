-- What is taken from the tokens of a text.
use Rattle.std.specs.Prelude.{◌≡◌, ℕ, ◌≤◌, ℤ, List, length, Some, Result, Ok}
use Rattle.json.specs.Token.{Token}
use Rattle.json.specs.Json.{members, value}
use Rattle.serde_json.specs.Data.{Data, Num, no_members}
use Rattle.serde_json.specs.Find.{as_i64}
use Rattle.serde_json.specs.Read.{converted, number_of, of_json, of_members}
use Rattle.scene_json.specs.NodeData.{put_all}
use Rattle.scene_json_forms.specs.declared.fault.FileFault.{FileFault}

-- the text of a number says a whole number of 64 bits
abbrev pub IsInt : List ℕ → ℤ → Type 0
IsInt text z = (x : Num) × (number_of text ≡ Some x) × (as_i64 x ≡ Some z)

-- tokens begin with a value, in which lists and objects nest at most so deep, before others
abbrev pub Begins : ℕ → List Token → Data → List Token → Type 0
Begins levels tokens d rest = (depth : ℕ) → levels ≤ depth → converted of_json (value depth tokens) ≡ Some (d, rest)

-- a word says this of a value, wherever it stands
abbrev pub Says : {A : Type 0} → (List ℕ → Data → Result A FileFault) → Data → A → Type 0
Says word d a = (path : List ℕ) → word path d ≡ Ok a

-- a value was taken, of which a word says this
abbrev pub IsTaken : {A : Type 0} → (List ℕ → Data → Result A FileFault) → ℕ → List Token → List Token → A → Type 0
IsTaken word levels old new a = (d : Data) × Begins levels old d new × Says word d a

-- behind an object's opening brace stand these members, and then what is left
abbrev pub HasMembers : ℕ → List Token → List (List ℕ × Data) → List Token → Type 0
HasMembers depth ts ms now = (n : ℕ) × (length now ≤ n)
    × (converted (λ js. of_members js no_members) (members (value depth) (length ts) ts)
    ≡ converted (λ js. of_members js (put_all ms no_members)) (members (value depth) n now))
