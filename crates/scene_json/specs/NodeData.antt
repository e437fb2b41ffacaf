-- The data that nodes say.
use Rattle.std.specs.Prelude.{◌≡◌, ℕ, zero, suc, List, [], ◌∷◌, ◌++◌, drop, false, Option, Some, None}
use Rattle.std.specs.Float.{binary64}
use Rattle.fast_float.specs.Text.{nearest, scan}
use Rattle.serde_json.specs.Data.{Data, null, boolean, number, string, array, object, Items, no_items, item, Members, no_members, put, Num, unsigned, negative, float}
use Rattle.serde_json.specs.Read.{number_of}
use Rattle.scene_json.specs.declared.node.Node.{Node}
use Rattle.scene_json.specs.declared.node.Node.TheVariants.{Null, Bool, Count, Below, Number, String, List as Listed, Object}

-- the first of some data; null where there is none
abbrev pub first : List Data → Data
first [] = null
first (d ∷ ds) = d

-- the text of a string
abbrev pub text_in : Data → List ℕ
text_in null = []
text_in (boolean b) = []
text_in (number n) = []
text_in (string s) = s
text_in (array ds) = []
text_in (object ms) = []

-- the number of a text, or the float that is nearest, where there is none that is in range
abbrev pub number_or_float : List ℕ → Option Num → Num
number_or_float s None = float (nearest binary64 false (scan s))
number_or_float s (Some x) = x

-- so many elements
abbrev pub items_from : ℕ → List Data → Items
items_from zero ds = no_items
items_from (suc n) ds = item (first ds) (items_from n (drop 1 ds))

-- so many members, each a key and a value
abbrev pub fields_from : ℕ → List Data → List (List ℕ × Data)
fields_from zero ds = []
fields_from (suc n) ds = (text_in (first ds), first (drop 1 ds)) ∷ fields_from n (drop 1 (drop 1 ds))

-- keys and their values, put in after those found
abbrev pub put_all : List (List ℕ × Data) → Members → Members
put_all [] found = found
put_all (m ∷ ms) found = put_all ms (put m.0 m.1 found)

-- how many nodes stand inside a node
abbrev pub inside : Node → ℕ
inside Null = 0
inside (Bool b) = 0
inside (Count n) = 0
inside (Below z) = 0
inside (Number s) = 0
inside (String s) = 0
inside (Listed n c) = n
inside (Object n c) = n

-- what a node says, before the data that stand behind it
abbrev pub says : Node → List Data → Data
says Null ds = null
says (Bool b) ds = boolean b
says (Count n) ds = number (unsigned n)
says (Below z) ds = number (negative z)
says (Number s) ds = number (number_or_float s.now (number_of s.now))
says (String s) ds = string s.now
says (Listed n c) ds = array (items_from c ds)
says (Object n c) ds = object (put_all (fields_from c ds) no_members)

-- the data that nodes say one after another, behind so many that are passed over; what stands inside is passed over too
unfoldable pub seen : ℕ → List Node → List Data
seen k [] = []
seen zero (n ∷ ns) = says n (seen zero ns) ∷ seen (inside n) ns
seen (suc k) (n ∷ ns) = seen k ns

-- a node says the number of a text
abbrev pub IsNumber : List ℕ → Node → Type 0
IsNumber text n = (x : Num) × (number_of text ≡ Some x) × (inside n ≡ 0) × ((ds : List Data) → says n ds ≡ number x)

-- nodes say just this data, whatever stands behind them
abbrev pub Say : List Node → List Data → Type 0
Say ns ds = (rest : List Node) → seen 0 (ns ++ rest) ≡ ds ++ seen 0 rest

-- nodes were added that say just this data
abbrev pub Grows : List Node → List Node → List Data → Type 0
Grows old new ds = (more : List Node) × (new ≡ old ++ more) × Say more ds

-- the elements of a list, before others
abbrev pub items_before : List Data → Items → Items
items_before [] rest = rest
items_before (d ∷ ds) rest = item d (items_before ds rest)

-- keys and their values, one after another
abbrev pub listed : List (List ℕ × Data) → List Data
listed [] = []
listed (m ∷ ms) = string m.0 ∷ m.1 ∷ listed ms
