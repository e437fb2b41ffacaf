-- Which bytes are a whole number, and of what value, and why others are none. A number has just one text: the one
-- that it prints as.
use Rattle.std.specs.Prelude.{ℕ, ℤ, pos, negsuc, ◌^◌, List, [], ◌∷◌, ◌==◌, Bool, false, not, ◌&&◌, Option, Some, None, Result, length, nat_eq, nat_lt, if◌then◌else◌}
use Rattle.std.specs.List.{list_all}
use Rattle.std.specs.Char.{is_ascii_digit}
use Rattle.std.specs.Fmt.{signed_decimal}
use Rattle.std.specs.Str.{bytes_eq}
use Rattle.std.specs.Str.Parse.{signed_digits_value}
use Rattle.scene_kinds.specs.declared.entity.Entity.{Entity}
use Rattle.scene_kinds.specs.EntityReading.{entity_in}
use Rattle.scene_script.specs.declared.bad_line.BadLine.{BadLine}
use Rattle.scene_script.specs.declared.bad_line.BadLine.TheVariants as bad
use Rattle.scene_script.specs.Reading.{or_bad}

-- a number that 64 bits hold with its sign: from -(2 ^ 63), which is negsuc (2 ^ 63 - 1), to 2 ^ 63 - 1
abbrev pub is_i64 : ℤ → Bool
is_i64 (pos n) = nat_lt n (2 ^ 63)
is_i64 (negsuc n) = nat_lt n (2 ^ 63)

-- z, where it fits 64 bits and prints as these bytes
abbrev pub if_whole : List ℕ → ℤ → Option ℤ
if_whole bytes z = if bytes_eq bytes (signed_decimal z) && is_i64 z then Some z else None

-- the whole number of 64 bits that these bytes are
abbrev pub number_in : List ℕ → Option ℤ
number_in bytes = if_whole bytes (signed_digits_value 10 bytes)

-- whether bytes are digits, the first no zero (48)
abbrev pub is_digits : List ℕ → Bool
is_digits [] = false
is_digits (b ∷ bs) = not (b == 48) && list_all is_ascii_digit (b ∷ bs)

-- whether bytes are written as a whole number of any size: a lone zero, or digits, perhaps after one - (45)
abbrev pub is_whole : List ℕ → Bool
is_whole [] = false
is_whole (b ∷ bs) = if b == 45 then is_digits bs else if b == 48 then nat_eq (length bs) 0 else is_digits (b ∷ bs)

-- why bytes are no number from the least to the most
abbrev pub bad_number : List ℕ → (least most : ℤ) → BadLine
bad_number bytes least most = if is_whole bytes then bad.OutOfRange bytes least most else bad.NoNumber bytes

-- the whole number of 64 bits that bytes are, or why they are none
abbrev pub number_said : List ℕ → Result ℤ BadLine
number_said bytes = or_bad (bad_number bytes (negsuc 9223372036854775807) (pos 9223372036854775807)) (number_in bytes)

-- the entity that bytes are, or why they are none
abbrev pub entity_said : List ℕ → Result Entity BadLine
entity_said bytes = or_bad (bad.NoEntity bytes) (entity_in bytes)
