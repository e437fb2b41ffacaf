-- Reading a JSON value from the left: what it says so far, or the first fault with its path.
use Rattle.std.specs.Prelude.{ℕ, ◌+◌, List, [], ◌∷◌, ◌++◌, codes, decimal, Bool, true, Option, Some, None, Result, Ok, Err, option_and_then, nat_lt, if◌then◌else◌}
use Rattle.serde_json.specs.Data.{Data, Members}
use Rattle.serde_json.specs.Find.{get_member, as_array, as_object, as_number, as_str, as_u64}
pub use Rattle.scene_json.specs.Keys.{unknown_in}
pub use Rattle.scene_json.specs.Lists.{elements}
use Rattle.scene_json_forms.specs.declared.fault.FileFault.{FileFault}
use Rattle.scene_json_forms.specs.declared.fault.FileFault.TheVariants.{UnknownKey, BadField}

-- what is read next, where there was no fault so far; the first fault ends the walk
infixl 10 ◌>>=◌
abbrev pub ◌>>=◌ : {A B : Type 0} → Result A FileFault → (A → Result B FileFault) → Result B FileFault
(Ok a) >>= next = next a
(Err fault) >>= next = Err fault

-- ---- paths

-- the path of a key below a path
abbrev pub under : List ℕ → List ℕ → List ℕ
under [] key = key
under (b ∷ bs) key = (b ∷ bs) ++ (codes "." ++ key)

-- the path of a place in a list
abbrev pub place_in : List ℕ → ℕ → List ℕ
place_in path i = path ++ (codes "[" ++ (decimal i ++ codes "]"))

-- ---- values of a form

-- what is there; a value that isn't of its form is a bad field at its path
abbrev pub field : {A : Type 0} → List ℕ → Option A → Result A FileFault
field path None = Err (BadField path)
field path (Some a) = Ok a

-- what was read, where it passes a test
abbrev pub if_good : {A : Type 0} → List ℕ → Bool → A → Result A FileFault
if_good path good a = if good then Ok a else Err (BadField path)

-- a whole number below a bound
abbrev pub below : ℕ → List ℕ → Data → Result ℕ FileFault
below bound path d = field path (option_and_then as_u64 (as_number d)) >>= λ n. if_good path (nat_lt n bound) n

-- the bytes of a string
abbrev pub string_at : List ℕ → Data → Result (List ℕ) FileFault
string_at path d = field path (as_str d)

-- ---- lists

-- the values of a value that is a list
abbrev pub list_at : List ℕ → Data → Result (List Data) FileFault
list_at path d = field path (as_array d) >>= λ ds. Ok (elements ds)

-- each element at its place, from a place on
abbrev pub each_at : {A : Type 0} → (List ℕ → Data → Result A FileFault) → List ℕ → ℕ → List Data → Result (List A) FileFault
each_at read path i [] = Ok []
each_at read path i (d ∷ ds) = read (place_in path i) d >>= λ a. each_at read path (i + 1) ds >>= λ rest. Ok (a ∷ rest)

-- a list whose elements are all of one form
abbrev pub list_of : {A : Type 0} → (List ℕ → Data → Result A FileFault) → List ℕ → Data → Result (List A) FileFault
list_of read path d = list_at path d >>= λ ds. each_at read path 0 ds

-- an element may follow the one before, where there is one
abbrev pub may_follow : {A : Type 0} → (A → A → Bool) → Option A → A → Bool
may_follow follows None a = true
may_follow follows (Some before) a = follows before a

-- the same, each element following the one before; one that doesn't is a bad field, after its own parts
abbrev pub rising_at : {A : Type 0}
    → (List ℕ → Data → Result A FileFault) → (A → A → Bool) → List ℕ → ℕ → Option A → List Data → Result (List A) FileFault
rising_at read follows path i before [] = Ok []
rising_at read follows path i before (d ∷ ds) =
    read (place_in path i) d >>= λ a. if_good (place_in path i) (may_follow follows before a) a
    >>= λ b. rising_at read follows path (i + 1) (Some b) ds >>= λ rest. Ok (b ∷ rest)

-- a list whose elements are all of one form, each following the one before
abbrev pub rising_of : {A : Type 0} → (List ℕ → Data → Result A FileFault) → (A → A → Bool) → List ℕ → Data → Result (List A) FileFault
rising_of read follows path d = list_at path d >>= λ ds. rising_at read follows path 0 None ds

-- ---- objects

-- what comes next where there is no unknown key; else that key, with its path
abbrev pub if_known : {A : Type 0} → List ℕ → Option (List ℕ) → A → Result A FileFault
if_known path None a = Ok a
if_known path (Some key) a = Err (UnknownKey (under path key))

-- the members of an object of just these keys, of which none need be there
abbrev pub object_at : List (List ℕ) → List ℕ → Data → Result Members FileFault
object_at known path d = field path (as_object d) >>= λ ms. if_known path (unknown_in known ms) ms

-- the value of a key, which must be there
abbrev pub key_of : {A : Type 0} → (List ℕ → Data → Result A FileFault) → List ℕ → List ℕ → Members → Result A FileFault
key_of read path key ms = field (under path key) (get_member key ms) >>= λ d. read (under path key) d

-- the values of the two keys that an object may have, both of which must be there
abbrev pub two_keys : {A B : Type 0}
    → (List ℕ → Data → Result A FileFault) → List ℕ → (List ℕ → Data → Result B FileFault) → List ℕ → List ℕ → Data → Result (A × B) FileFault
two_keys first key second other path d =
    object_at (key ∷ other ∷ []) path d
    >>= λ ms. key_of first path key ms >>= λ a. key_of second path other ms >>= λ b. Ok (a, b)
