-- The members of an object, and their keys.
use Rattle.std.specs.Prelude.{ℕ, List, Option, Some, None, if◌then◌else◌}
use Rattle.std.specs.Cmp.Lexicographic.{slice_cmp}
use Rattle.std.specs.List.{list_any}
use Rattle.std.specs.Ordering.{nat_cmp, match_ordering}
use Rattle.std.specs.Str.{bytes_eq}
use Rattle.serde_json.specs.Data.{Data, null, boolean, number, string, array, object, Members, no_members, member}

-- what an object holds; another value has no members
abbrev pub members_in : Data → Members
members_in null = no_members
members_in (boolean b) = no_members
members_in (number n) = no_members
members_in (string s) = no_members
members_in (array ds) = no_members
members_in (object ms) = ms

-- the first key that is none of those known; the keys of a value stand by their bytes
abbrev pub unknown_in : List (List ℕ) → Members → Option (List ℕ)
unknown_in known no_members = None
unknown_in known (member key d ms) = if list_any (bytes_eq key) known then unknown_in known ms else Some key

-- the key that comes first by bytes, of one more and what came first so far
abbrev pub sooner : Option (List ℕ) → List ℕ → List ℕ
sooner None key = key
sooner (Some first) key = match_ordering (slice_cmp nat_cmp key first) key first first
