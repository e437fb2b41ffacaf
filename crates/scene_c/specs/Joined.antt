-- Lists that are told one behind the other, with where each ends: a column of texts, and what a step's deltas have.
use Rattle.std.specs.Prelude.{◌≡◌, ℕ, ◌+◌, ◌-◌, List, [], ◌∷◌, ◌++◌, Option, Some, None, drop, if◌then◌else◌, length, map, nat_le, take}
use Rattle.scene_kinds.specs.declared.value.Value.{Value}
use Rattle.scene_deltas.specs.declared.delta.Delta.{Delta}
use Rattle.scene_journal.specs.Records.{Record}
use Rattle.scene_c.specs.Memory.{copied}
use Rattle.scene_c.specs.OpenScene.{text_in}

-- the items of lists one behind the other
abbrev pub joined : {A : Type 0} → List (List A) → List A
joined [] = []
joined (t ∷ ts) = t ++ joined ts

-- where each ends, the first beginning here
abbrev pub ends_from : {A : Type 0} → ℕ → List (List A) → List ℕ
ends_from at [] = []
ends_from at (t ∷ ts) = (at + length t) ∷ ends_from (at + length t) ts

-- the first lists, as many as fit whole into so many places
abbrev pub fitting : {A : Type 0} → ℕ → List (List A) → List (List A)
fitting room [] = []
fitting room (t ∷ ts) = if nat_le (length t) room then t ∷ fitting (room - length t) ts else []

-- these lists are told: how many they are, where each ends, and their items
pub record AreTold {A : Type 0} (lists : List (List A)) (old_ends new_ends : List ℕ) (old_items new_items : List A) (count : ℕ) : Type 0 where
  pub told : count ≡ length lists
  pub ends : new_ends ≡ copied (ends_from 0 lists) old_ends
  pub items : new_items ≡ copied (joined lists) old_items

-- nothing is told
abbrev pub IsUntold : {A : Type 0} → (old_ends ends : List ℕ) → (old new : List A) → (old_told told old_total total : ℕ) → Type 0
IsUntold old_ends ends old new old_told told old_total total =
    (ends ≡ old_ends) × ((new ≡ old) × ((told ≡ old_told) × (total ≡ old_total)))

-- of the lists of items, from one on, as many as there is room for, of them and of what is in them; and how many items
-- there are in all
abbrev pub TellsLists : {A B : Type 0} → (A → List B) → List A → ℕ
    → (old_ends ends : List ℕ) → (old new : List B) → (told total : ℕ) → ℕ → Type 0
TellsLists list items from old_ends ends old new told total code = (code ≡ 0) × ((total ≡ length items)
    × AreTold (fitting (length old) (take (length old_ends) (map list (drop from items)))) old_ends ends old new told)

-- the texts of a column, or there is no such column
abbrev pub TellsTexts : Option (List Value) → ℕ
    → (old_ends ends old new : List ℕ) → (old_told told old_total total : ℕ) → ℕ → Type 0
TellsTexts None from old_ends ends old new old_told told old_total total code =
    (code ≡ 4) × IsUntold old_ends ends old new old_told told old_total total
TellsTexts (Some values) from old_ends ends old new old_told told old_total total code =
    TellsLists text_in values from old_ends ends old new told total code

-- what each delta of a step has, or there is no such step
abbrev pub TellsParts : {A : Type 0} → (Delta → List A) → Option Record → ℕ
    → (old_ends ends : List ℕ) → (old new : List A) → (old_told told old_total total : ℕ) → ℕ → Type 0
TellsParts part None from old_ends ends old new old_told told old_total total code =
    (code ≡ 3) × IsUntold old_ends ends old new old_told told old_total total
TellsParts part (Some r) from old_ends ends old new old_told told old_total total code =
    TellsLists part r.deltas from old_ends ends old new told total code
