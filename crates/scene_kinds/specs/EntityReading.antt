-- Which bytes are a number of 32 bits or an entity, and of what value. Each has just one text: the one that it
-- prints as.
use Rattle.std.specs.Prelude.{ℕ, ◌^◌, List, [], ◌∷◌, ◌==◌, ◌&&◌, Option, Some, None, nat_lt, if◌then◌else◌, decimal, option_map, option_and_then}
use Rattle.std.specs.Str.{bytes_eq}
use Rattle.std.specs.Str.Parse.{digits_value}
use Rattle.scene_kinds.specs.declared.entity.Entity.{Entity}

-- n, where it fits 32 bits and prints as these bytes
abbrev pub if_count : List ℕ → ℕ → Option ℕ
if_count bytes n = if bytes_eq bytes (decimal n) && nat_lt n (2 ^ 32) then Some n else None

-- the number of 32 bits that these bytes are
abbrev pub count_in : List ℕ → Option ℕ
count_in bytes = if_count bytes (digits_value 10 bytes)

-- what stands before and after the first byte that is the mark, where there is one
abbrev pub cut_at : ℕ → List ℕ → Option (List ℕ × List ℕ)
cut_at mark [] = None
cut_at mark (b ∷ bs) = if b == mark then Some ([], bs) else option_map (λ p. (b ∷ p.0, p.1)) (cut_at mark bs)

-- the entity of an index and a generation, where both are there
abbrev pub entity_of : Option ℕ → Option ℕ → Option Entity
entity_of index generation = option_and_then (λ i. option_map (λ g. record { index = i; generation = g }) generation) index

-- the entity that these bytes are: two numbers round the first v (118)
abbrev pub entity_in : List ℕ → Option Entity
entity_in bytes = option_and_then (λ p. entity_of (count_in p.0) (count_in p.1)) (cut_at 118 bytes)
