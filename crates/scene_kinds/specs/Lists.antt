-- Maps from keys to lists, in which no key stands with an empty list: an entry holds the first of its list and the
-- rest.
use Rattle.std.specs.Prelude.{List, [], ◌∷◌, Option, Some, None}
use Rattle.std.specs.declared.cmp.Ordering.{Ordering}
use Rattle.std.specs.Cmp.{IsTotalOrder}
use Rattle.scene_kinds.specs.Map as map

-- a first and a rest, as the list that they are
abbrev pub whole : {X : Type 0} → X × List X → List X
whole p = p.0 ∷ p.1

-- the list of a key that may have none
abbrev pub listed : {X : Type 0} → Option (X × List X) → List X
listed None = []
listed (Some p) = whole p

module _ {K X : Type 0} {R : K → K → Ordering} where
  -- the list of a key, empty where the key isn't there
  abbrev pub list_at : map.Map R (X × List X) → K → List X
  list_at m k = listed (map.get m k)

  -- the map with this list at a key; an empty list takes the key out
  abbrev pub with_list : IsTotalOrder R → map.Map R (X × List X) → K → List X → map.Map R (X × List X)
  with_list o m k [] = map.remove m k
  with_list o m k (x ∷ xs) = map.insert o m k (x, xs)
