-- What is taken of a scene text that is read from its tokens, key by key.
use Rattle.std.specs.Prelude.{◌≡◌, ℕ, List, [], ◌∷◌, ◌++◌, codes, Some, None, Result, Ok}
use Rattle.json.specs.Token.{Token}
use Rattle.json.specs.Json.{read_key, value}
use Rattle.serde_json.specs.Data.{Data}
use Rattle.serde_json.specs.Read.{converted, of_json}
use Rattle.scene_kinds.specs.declared.cell.Cell.{Cell}
use Rattle.scene_kinds.specs.declared.cells.Row.{Row}
use Rattle.scene_validate.specs.Parts.{Parts}
use Rattle.scene_json_forms.specs.declared.fault.FileFault.{FileFault}
use Rattle.scene_json_forms.specs.Reading.{list_of, rising_of}
use Rattle.scene_json_forms.specs.Walk.{tick_at, u32_at}
use Rattle.scene_json_tokens.specs.Taken.{HasMembers}
use Rattle.scene_file_records.specs.Walk.{records_at}
use Rattle.scene_file.specs.EditorWalk.{Saved, saved_in}
use Rattle.scene_file.specs.Walk.{Head, children_at, kinds_at, limit_at, name_follows, parent_follows, resource_at, table_at, table_follows, whole_of}

-- the value of a key was taken, of which a word says this. Of the 127 levels that may be open one is the scene's
abbrev pub IsValueOf : {A : Type 0} → (List ℕ → Data → Result A FileFault) → List ℕ → List Token → List Token → A → Type 0
IsValueOf word key old new a = (d : Data) × (converted of_json (value 126 old) ≡ Some (d, new)) × (word key d ≡ Ok a)

-- a key was taken, and its value
abbrev pub IsMember : {A : Type 0} → (List ℕ → Data → Result A FileFault) → List ℕ → List Token → List Token → A → Type 0
IsMember word key old new a = (s : List Token) × (read_key old ≡ Some (Some key, s)) × IsValueOf word key s new a

-- the first five keys with their values
abbrev pub head_members : Data → Data → Data → Data → Data → List (List ℕ × Data)
head_members c f g k l =
    (codes "children", c) ∷ (codes "free", f) ∷ (codes "generations", g) ∷ (codes "kinds", k) ∷ (codes "limit", l) ∷ []

-- what their values say
abbrev pub SaysHead : Data → Data → Data → Data → Data → Head → Type 0
SaysHead c f g k l head =
    (rising_of children_at parent_follows (codes "children") c ≡ Ok head.children) × (list_of u32_at (codes "free") f ≡ Ok head.free)
    × (list_of u32_at (codes "generations") g ≡ Ok head.generations) × (kinds_at (codes "kinds") k ≡ Ok head.schema)
    × (limit_at (codes "limit") l ≡ Ok head.limit)

-- the first five keys were taken
abbrev pub IsHead : List Token → List Token → Head → Type 0
IsHead old new head =
    (c : Data) × (f : Data) × (g : Data) × (k : Data) × (l : Data) × HasMembers 126 old (head_members c f g k l) new × SaysHead c f g k l head

-- the keys from the resources to the tick, with their values
abbrev pub tail_members : Data → Data → Data → Data → List (List ℕ × Data)
tail_members r v t n = (codes "resources", r) ∷ (codes "scene", v) ∷ (codes "tables", t) ∷ (codes "tick", n) ∷ []

-- these members were taken behind others, of which the first one's key was taken before
abbrev pub AreBehind : List ℕ → List Token → List (List ℕ × Data) → List Token → Type 0
AreBehind key old ms new = (ts before : List Token) (others : List (List ℕ × Data)) → HasMembers 126 ts others before
    → read_key before ≡ Some (Some key, old) → HasMembers 126 ts (others ++ ms) new

-- what they say
abbrev pub SaysTail : Head → ℕ → Data → Data → Data → Data → Parts → Type 0
SaysTail head version r v t n parts =
    (resources : List (List ℕ × Cell)) × (tables : List (ℕ × List Row)) × (tick : ℕ)
    × (rising_of resource_at name_follows (codes "resources") r ≡ Ok resources) × (tick_at (codes "scene") v ≡ Ok version)
    × (rising_of (table_at head.schema) table_follows (codes "tables") t ≡ Ok tables) × (tick_at (codes "tick") n ≡ Ok tick)
    × (parts ≡ whole_of head resources tables tick)

-- the keys from the resources to the tick were taken, of which the first key was taken before
abbrev pub IsTail : Head → ℕ → List Token → List Token → Parts → Type 0
IsTail head version old new parts = (r : Data) × (v : Data) × (t : Data) × (n : Data) × AreBehind (codes "resources") old (tail_members r v t n) new
    × SaysTail head version r v t n parts

-- the rest of a scene of version 1 was taken, behind the key of its resources
abbrev pub IsFirst : Head → List Token → List Token → Saved → Type 0
IsFirst head old new saved = (end : List Token) × IsTail head 1 old end saved.parts × (read_key end ≡ Some (None, new)) × (saved.past ≡ [])
    × (saved.future ≡ [])

-- the rest of a scene of version 2 was taken, behind the key of its records to redo
abbrev pub IsSecond : Head → List Token → List Token → Saved → Type 0
IsSecond head old new saved =
    (s : List Token) × (r : List Token) × (t : List Token) × (end : List Token) × IsValueOf (records_at head.schema) (codes "redo") old s saved.future
    × (read_key s ≡ Some (Some (codes "resources"), r)) × IsTail head 2 r t saved.parts
    × IsMember (records_at saved.parts.schema) (codes "undo") t end saved.past × (read_key end ≡ Some (None, new))

-- a scene of either version was taken
abbrev pub IsScene : List Token → List Token → Saved → Type 0
IsScene old new saved = (d : Data) × (converted of_json (value 127 old) ≡ Some (d, new)) × (saved_in d ≡ Ok saved)
