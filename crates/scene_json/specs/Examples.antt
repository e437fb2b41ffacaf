-- Worked texts, and what nodes are seen as.
use Rattle.std.specs.Prelude.{◌≡◌, ℕ, List, [], ◌∷◌, ◌++◌, codes, true, is_some, option_and_then, Some, None, map as each}
use Rattle.std.specs.List.{range_with_len}
use Rattle.json.specs.Json.{document}
use Rattle.serde_json.specs.Data.{unsigned, null, boolean, number, string, no_items, item, array}
use Rattle.serde_json.specs.Find.{get}
use Rattle.serde_json.specs.Read.{read}
use Rattle.scene_json.specs.Keys.{members_in, unknown_in}
use Rattle.scene_json.specs.NodeData.{seen}
use Rattle.scene_json.specs.declared.node.Node.{Node}
use Rattle.scene_json.specs.declared.node.Node.TheVariants.{Null, Bool, Count, List as Listed}

abbrev pub lists : List Node
lists = Listed 3 2 ∷ Count 7 ∷ Listed 1 1 ∷ Null ∷ Bool true ∷ []

-- a list in a list, with nodes behind it, and the elements inside
abbrev pub ListsAreSeen : Type 0
ListsAreSeen =
    (read (codes "[7,[\"a\"]] ") ≡ Some (array (item (number (unsigned 7)) (item (array (item (string (codes "a")) no_items)) no_items))))
    × (seen 0 lists ≡ array (item (number (unsigned 7)) (item (array (item null no_items)) no_items)) ∷ boolean true ∷ [])
    × (seen 1 lists ≡ number (unsigned 7) ∷ array (item null no_items) ∷ boolean true ∷ [])
    × (seen 3 lists ≡ null ∷ boolean true ∷ [])

-- an object with a key twice, of which the last value stays
abbrev pub two : List ℕ
two = codes "{\"b\":1,\"a\":true,\"b\":null}"

-- its members are found by their keys, and the first of another key
abbrev pub ObjectsAreSeen : Type 0
ObjectsAreSeen =
    (option_and_then (get (codes "b")) (read two) ≡ Some null)
    × (option_and_then (get (codes "a")) (read two) ≡ Some (boolean true))
    × (option_and_then (get (codes "c")) (read two) ≡ None)
    × (option_and_then (λ d. unknown_in (codes "a" ∷ []) (members_in d)) (read two) ≡ Some (codes "b"))
    × (option_and_then (λ d. unknown_in [] (members_in d)) (read two) ≡ Some (codes "a"))

-- arrays within one another
abbrev pub nested : ℕ → List ℕ
nested n = each (λ _. 91) (range_with_len 0 n) ++ each (λ _. 93) (range_with_len 0 n)

-- a number beyond the floats and 128 levels are JSON, and aren't read; 127 levels are
abbrev pub TextsAreRefused : Type 0
TextsAreRefused =
    (is_some (document (codes "1e400")) ≡ true)
    × (read (codes "1e400") ≡ None)
    × (is_some (document (nested 128)) ≡ true)
    × (read (nested 128) ≡ None)
    × (is_some (read (nested 127)) ≡ true)
