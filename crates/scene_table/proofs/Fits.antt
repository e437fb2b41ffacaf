-- Sums of 64-bit numbers with sign, as the code makes them.
use Rattle.std.proofs.Common.{◌≡◌, ◌≤◌, ◌<◌, ◌+◌, ◌*◌, ◌%◌, ℕ, suc, ℤ, pos, negsuc, ◌+ℤ◌, ◌*ℤ◌, to_z, of_z, w64, FitsSigned, refl, ap, sym, ◌∙◌, arith, true, List, [], ◌∷◌, length, get_or}
use Rattle.std.specs.Int.{int_wrap}
use Rattle.std.specs.Int.RustNames.{unsigned_abs}
use Rattle.std.proofs.Math.Nat.{mul-le-mul_right}
use Rattle.std.proofs.lemmas.Int.{to_z-of_z, wrapping_add-bits, wrapping_mul_is, int_wrap-add_right, int_wrap_fits, unsigned_abs-mul, ints}
use Rattle.std.proofs.lemmas.Bool.{ltb-true, lt-ltb}
use Rattle.std.specs.Prelude.{slice_get, Some, option_map, nat_eq}
use Rattle.std.specs.List.{list_all}
use Rattle.std.proofs.lemmas.Option.{slice_get-get_or, slice_get-map}
use Rattle.scene_kinds.specs.Ranges.{is_i64, is_in_range, are_three}
use Rattle.scene_kinds.specs.declared.value.Value.TheVariants.{Int, Vec3}
use Rattle.scene_table.specs.Columns.{zip_with}
use Rattle.scene_table.specs.Runs.{AreInRange, number_after, vector_after, ints_after, vecs_after}
use Rattle.scene_table.proofs.Walks.{passes_at, and_right}
use Rattle.scene_table.proofs.Zips.{zip-get}

-- a number that passes the test of its type fits it
pub fits_by_test : (z : ℤ) → is_i64 z ≡ true → FitsSigned w64 z
fits_by_test (pos n) h = record { sfits = ltb-true n 9223372036854775808 h }
fits_by_test (negsuc n) h = record { sfits = ltb-true n 9223372036854775808 h }

of_z_fits : (z : ℤ) → FitsSigned w64 z → of_z w64 z < 18446744073709551616
of_z_fits (pos n) h = omega (arith, h.sfits)
of_z_fits (negsuc n) h = omega (arith, h.sfits)

-- to wrap on the way changes nothing where the sum fits
pub wrapped_sum : (a b t : ℤ) → FitsSigned w64 a → FitsSigned w64 b → FitsSigned w64 t → is_i64 (a +ℤ b *ℤ t) ≡ true →
    to_z w64 ((of_z w64 a + of_z w64 b * of_z w64 t % 18446744073709551616) % 18446744073709551616) ≡ a +ℤ b *ℤ t
wrapped_sum a b t f g h fits =
    wrapping_add-bits w64 (of_z w64 a) (of_z w64 b * of_z w64 t % 18446744073709551616) (of_z_fits a f) (omega arith)
    ∙ (λ i. int_wrap w64 (to_z-of_z w64 a f i +ℤ wrapping_mul_is w64 b t g h i))
    ∙ int_wrap-add_right w64 a (b *ℤ t)
    ∙ int_wrap_fits w64 (a +ℤ b *ℤ t) (fits_by_test (a +ℤ b *ℤ t) fits)

-- three elements of each list, made one by one
pub three_zipped : {X Y Z : Type 0} (f : X → Y → Z) (xs : List X) (ys : List Y) (d : X) (e : Y) → length xs ≡ 3 → length ys ≡ 3 →
    f (get_or xs 0 d) (get_or ys 0 e) ∷ f (get_or xs 1 d) (get_or ys 1 e) ∷ f (get_or xs 2 d) (get_or ys 2 e) ∷ [] ≡ zip_with f xs ys
three_zipped f (a ∷ b ∷ c ∷ []) (x ∷ y ∷ z ∷ []) d e k l = refl
three_zipped f (a ∷ b ∷ c ∷ []) [] d e k l = absurd (omega (arith, l))
three_zipped f (a ∷ b ∷ c ∷ []) (x ∷ []) d e k l = absurd (omega (arith, l))
three_zipped f (a ∷ b ∷ c ∷ []) (x ∷ y ∷ []) d e k l = absurd (omega (arith, l))
three_zipped f (a ∷ b ∷ c ∷ []) (x ∷ y ∷ z ∷ w ∷ ys) d e k l = absurd (omega (arith, l))
three_zipped f [] ys d e k l = absurd (omega (arith, k))
three_zipped f (a ∷ []) ys d e k l = absurd (omega (arith, k))
three_zipped f (a ∷ b ∷ []) ys d e k l = absurd (omega (arith, k))
three_zipped f (a ∷ b ∷ c ∷ w ∷ xs) ys d e k l = absurd (omega (arith, k))

-- lists of three with the same elements
pub three_same : {X : Type 0} (xs ys : List X) (d : X) → length xs ≡ 3 → length ys ≡ 3 → get_or xs 0 d ≡ get_or ys 0 d → get_or xs 1 d ≡ get_or ys 1 d → get_or xs 2 d ≡ get_or ys 2 d → xs ≡ ys
three_same (a ∷ b ∷ c ∷ []) (x ∷ y ∷ z ∷ []) d k l e f g = λ i. e i ∷ f i ∷ g i ∷ []
three_same (a ∷ b ∷ c ∷ []) [] d k l e f g = absurd (omega (arith, l))
three_same (a ∷ b ∷ c ∷ []) (x ∷ []) d k l e f g = absurd (omega (arith, l))
three_same (a ∷ b ∷ c ∷ []) (x ∷ y ∷ []) d k l e f g = absurd (omega (arith, l))
three_same (a ∷ b ∷ c ∷ []) (x ∷ y ∷ z ∷ w ∷ ys) d k l e f g = absurd (omega (arith, l))
three_same [] ys d k l e f g = absurd (omega (arith, k))
three_same (a ∷ []) ys d k l e f g = absurd (omega (arith, k))
three_same (a ∷ b ∷ []) ys d k l e f g = absurd (omega (arith, k))
three_same (a ∷ b ∷ c ∷ w ∷ xs) ys d k l e f g = absurd (omega (arith, k))

-- ---- one of the values after turns

pub length-ints_after : (base : List ℤ) (by turns : ℤ) → length (ints_after base by turns) ≡ length base
length-ints_after [] by turns = refl
length-ints_after (b ∷ base) by turns = ap (λ n. suc n) (length-ints_after base by turns)

pub int_there : (base : List ℤ) (by turns b d t : ℤ) (n : ℕ) → slice_get base n ≡ Some b → d ≡ by → t ≡ turns → slice_get (ints_after base by turns) n ≡ Some (Int (number_after b d t))
int_there base by turns b d t n e f g =
    slice_get-map (λ (x : ℤ). Int (number_after x by turns)) base n
    ∙ ap (option_map (λ (x : ℤ). Int (number_after x by turns))) e
    ∙ (λ i. Some (Int (number_after b (sym f i) (sym g i))))

pub int_fits : (base : List ℤ) (by turns b d t : ℤ) (n : ℕ) → slice_get base n ≡ Some b → d ≡ by → t ≡ turns → AreInRange (ints_after base by turns) → is_i64 (number_after b d t) ≡ true
int_fits base by turns b d t n e f g range = passes_at is_in_range (ints_after base by turns) n (Int (number_after b d t)) range (int_there base by turns b d t n e f g)

pub vec_there : (base by : List (List ℤ)) (turns t : ℤ) (b d : List ℤ) (n : ℕ) → slice_get base n ≡ Some b → slice_get by n ≡ Some d → t ≡ turns → slice_get (vecs_after base by turns) n ≡ Some (Vec3 (vector_after b d t))
vec_there base by turns t b d n e f g =
    zip-get (λ (x y : List ℤ). Vec3 (vector_after x y turns)) base by n b d e f
    ∙ (λ i. Some (Vec3 (vector_after b d (sym g i))))

pub vec_fits : (base by : List (List ℤ)) (turns t : ℤ) (b d : List ℤ) (n : ℕ) → slice_get base n ≡ Some b → slice_get by n ≡ Some d → t ≡ turns → AreInRange (vecs_after base by turns) → is_in_range (Vec3 (vector_after b d t)) ≡ true
vec_fits base by turns t b d n e f g range = passes_at is_in_range (vecs_after base by turns) n (Vec3 (vector_after b d t)) range (vec_there base by turns t b d n e f g)

-- a number that was read, and is passed on
pub read_at : (xs : List ℤ) (n : ℕ) → n < length xs → FitsSigned w64 (get_or xs n (pos 0)) → slice_get xs n ≡ Some (to_z w64 (of_z w64 (get_or xs n (pos 0))))
read_at xs n l f = slice_get-get_or xs n (pos 0) l ∙ ap (λ x. Some x) (sym (to_z-of_z w64 (get_or xs n (pos 0)) f))

pub part_fits : (base by : List ℤ) (turns b d t : ℤ) (k : ℕ) → k < length base → k < length by → b ≡ get_or base k (pos 0) → d ≡ get_or by k (pos 0) → t ≡ turns → are_three (vector_after base by turns) ≡ true → is_i64 (number_after b d t) ≡ true
part_fits base by turns b d t k l m e f g range =
    passes_at is_i64 (vector_after base by turns) k (number_after b d t) (and_right (nat_eq (length (vector_after base by turns)) 3) (list_all is_i64 (vector_after base by turns)) range)
    (zip-get (λ (x y : ℤ). number_after x y turns) base by k (get_or base k (pos 0)) (get_or by k (pos 0)) (slice_get-get_or base k (pos 0) l) (slice_get-get_or by k (pos 0) m)
    ∙ (λ i. Some (number_after (sym e i) (sym f i) (sym g i))))

-- ---- bounds

abs_fits : (z : ℤ) → unsigned_abs z < 9223372036854775808 → is_i64 z ≡ true
abs_fits (pos n) h = lt-ltb n 9223372036854775808 h
abs_fits (negsuc n) h = lt-ltb n 9223372036854775808 (omega (arith, h))

abs_sum : (a b : ℤ) → unsigned_abs (a +ℤ b) ≤ unsigned_abs a + unsigned_abs b
abs_sum a b = omega (arith, ints)

-- a sum fits where the bounds of its parts do
pub number_fits : (b d t : ℤ) (before each : ℕ) → unsigned_abs b ≤ before → unsigned_abs d ≤ each → before + each * unsigned_abs t < 9223372036854775808 → is_i64 (number_after b d t) ≡ true
number_fits b d t before each l m h =
    abs_fits (number_after b d t) (omega (arith, abs_sum b (d *ℤ t), unsigned_abs-mul d t, mul-le-mul_right (unsigned_abs t) m))
