-- Which values the types of the program can hold: the range of each number, and texts that are UTF-8.
use Rattle.std.specs.Prelude.{ℤ, pos, negsuc, List, Bool, true, ◌&&◌, nat_eq, nat_lt, length}
use Rattle.std.specs.List.{list_all}
use Rattle.std.specs.Str.{is_utf8}
use Rattle.scene_kinds.specs.declared.entity.Entity.{Entity}
use Rattle.scene_kinds.specs.declared.value.Value.{Value}
use Rattle.scene_kinds.specs.declared.value.Value.TheVariants.{Tag, Int, Vec3, Text, Link}

-- a whole number of 64 bits with a sign
abbrev pub is_i64 : ℤ → Bool
is_i64 (pos n) = nat_lt n 9223372036854775808
is_i64 (negsuc n) = nat_lt n 9223372036854775808

-- three of them
abbrev pub are_three : List ℤ → Bool
are_three parts = nat_eq (length parts) 3 && list_all is_i64 parts

-- an index and a generation of 32 bits
abbrev pub is_entity : Entity → Bool
is_entity e = nat_lt e.index 4294967296 && nat_lt e.generation 4294967296

-- a value whose parts are in the ranges of their types
abbrev pub is_in_range : Value → Bool
is_in_range Tag = true
is_in_range (Int n) = is_i64 n
is_in_range (Vec3 parts) = are_three parts
is_in_range (Text bytes) = is_utf8 bytes
is_in_range (Link e) = is_entity e
