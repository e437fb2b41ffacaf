-- What a reader learns of a value, as the tests of specs/Ranges.
use Rattle.std.proofs.Common.{◌≡◌, ℕ, ◌<◌, true, nat_lt, List, [], ◌∷◌, length, refl, arith, slice_index_or, IsUtf8}
use Rattle.std.specs.Prelude.{ℤ, pos, negsuc, FitsSigned}
use Rattle.std.specs.Int.{w64}
use Rattle.std.specs.Str.{is_utf8}
use Rattle.std.proofs.lemmas.Bool.{lt-ltb, and_from}
use Rattle.std.proofs.lemmas.Str.{is_utf8-from_IsUtf8}
use Rattle.scene_kinds.specs.declared.entity.Entity.{Entity}
use Rattle.scene_kinds.specs.Ranges.{is_i64, are_three, is_entity}

-- a number that was read
pub int_in_range : (n : ℤ) → FitsSigned w64 n → is_i64 n ≡ true
int_in_range (pos n) h = lt-ltb n 9223372036854775808 h.sfits
int_in_range (negsuc n) h = lt-ltb n 9223372036854775808 h.sfits

-- three numbers that were read
pub three_in_range : (xs : List ℤ) → length xs ≡ 3 → FitsSigned w64 (slice_index_or xs 0 (pos 0)) → FitsSigned w64 (slice_index_or xs 1 (pos 0))
    → FitsSigned w64 (slice_index_or xs 2 (pos 0)) → are_three xs ≡ true
three_in_range [] e a b c = absurd (omega (arith, e))
three_in_range (x ∷ []) e a b c = absurd (omega (arith, e))
three_in_range (x ∷ y ∷ []) e a b c = absurd (omega (arith, e))
three_in_range (x ∷ y ∷ z ∷ []) e a b c = and_from (is_i64 x) _ (int_in_range x a) (and_from (is_i64 y) _ (int_in_range y b) (and_from (is_i64 z) _ (int_in_range z c) refl))
three_in_range (x ∷ y ∷ z ∷ w ∷ xs) e a b c = absurd (omega (arith, e))

-- a text that was read
pub text_in_range : (bytes : List ℕ) → IsUtf8 bytes → is_utf8 bytes ≡ true
text_in_range bytes h = is_utf8-from_IsUtf8 bytes h

-- an entity of which both numbers were read
pub entity_in_range : (e : Entity) → e.index < 4294967296 → e.generation < 4294967296 → is_entity e ≡ true
entity_in_range e i g = and_from (nat_lt e.index 4294967296) (nat_lt e.generation 4294967296) (lt-ltb e.index 4294967296 i) (lt-ltb e.generation 4294967296 g)
