-- Sets of kinds as numbers of 64 bits: kind k is bit k.
use Rattle.std.specs.Prelude.{◌-◌, ℕ, ◌^◌, Bool, List, filter, nat_eq, bit_and, bit_or}
use Rattle.std.specs.List.{range_with_len}
use Rattle.std.specs.Int.{bit_at, bit_not, w64}
use Rattle.scene_kinds.specs.declared.kind_set.KindsOfSet.{KindsOfSet}

-- a set of kinds
abbrev pub KindSet : Type 0
KindSet = ℕ

-- a kind is in the set
abbrev pub has_kind : KindSet → ℕ → Bool
has_kind set kind = nat_eq (bit_at set kind) 1

-- the set with a kind
abbrev pub set_with : KindSet → ℕ → KindSet
set_with set kind = bit_or set (2 ^ kind)

-- the set without a kind
abbrev pub set_without : KindSet → ℕ → KindSet
set_without set kind = bit_and set (bit_not w64 (2 ^ kind))

-- each kind of a set is in another one
abbrev pub is_subset : KindSet → KindSet → Bool
is_subset set other = nat_eq (bit_and other set) set

-- no kind of a set is in another one
abbrev pub is_disjoint : KindSet → KindSet → Bool
is_disjoint set other = nat_eq (bit_and set other) 0

-- the kinds of a set from a kind on, ascending. This word stays folded, since it computes long
unfoldable pub kinds_from : KindSet → ℕ → List ℕ
kinds_from set kind = filter (has_kind set) (range_with_len kind (64 - kind))

-- the kinds of a set, ascending
abbrev pub kinds_in : KindSet → List ℕ
kinds_in set = kinds_from set 0

-- the kinds that a walk over a set has still to give
abbrev pub kinds_left : KindsOfSet → List ℕ
kinds_left walk = kinds_from walk.set walk.next
