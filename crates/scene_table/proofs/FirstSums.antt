-- Series that are made value by value, and their first sums.
use Rattle.std.proofs.Common.{◌≡◌, ◌+◌, ℕ, zero, suc, ℤ, pos, ◌+ℤ◌, List, [], ◌∷◌, ◌++◌, length, get_or, take, map, refl, ap, sym, ◌∙◌, arith, true, false, Bool, ◌&&◌, Option, Some, None}
use Rattle.std.specs.Prelude.{slice_get, cond}
use Rattle.std.specs.List.{list_all}
use Rattle.std.specs.Option.{is_some, option_map, option_and_then}
use Rattle.std.proofs.lemmas.Int.{ints}
use Rattle.scene_kinds.specs.Ranges.{is_i64, is_in_range}
use Rattle.scene_kinds.specs.declared.value.Value.{Value}
use Rattle.scene_kinds.specs.declared.value.Value.TheVariants.{Int, Vec3}
use Rattle.scene_table.specs.Columns.{zip_with}
use Rattle.scene_table.specs.Steps.{sums, value_sum}
use Rattle.scene_table.specs.Runs.{AreInRange, number_after, vector_after, ints_after, vecs_after, int_sums, vec_sums}
use Rattle.scene_table.proofs.Walks.{fails_at, passes_last, take_more, map_last}
use Rattle.scene_table.proofs.Zips.{zip-last, zip-get}

-- before any turn, and after one
pub number_before : (b d : ℤ) → number_after b d (pos 0) ≡ b
number_before b d = omega (arith, ints)

pub number_next : (b d : ℤ) → number_after b d (pos 1) ≡ b +ℤ d
number_next b d = omega (arith, ints)

pub vector_before : (b d : List ℤ) → length b ≡ length d → vector_after b d (pos 0) ≡ b
vector_before [] d l = refl
vector_before (x ∷ b) [] l = absurd (omega (arith, l))
vector_before (x ∷ b) (y ∷ d) l = λ i. number_before x y i ∷ vector_before b d (omega (arith, l)) i

-- ---- numbers

pub ints_before_more : (values : List Value) (base : List ℤ) (n by : ℤ) (v : Value) (i : ℕ) → ints_after base by (pos 0) ≡ take i values → slice_get values i ≡ Some v → v ≡ Int n
    → ints_after (base ++ n ∷ []) by (pos 0) ≡ take (i + 1) values
ints_before_more values base n by v i is there e =
    map_last (λ (b : ℤ). Int (number_after b by (pos 0))) base n
    ∙ (λ j. is j ++ (ap Int (number_before n by) ∙ sym e) j ∷ [])
    ∙ take_more i values v there

pub ints_fit_more : (base : List ℤ) (n by : ℤ) → AreInRange (ints_after base by (pos 1)) → is_i64 (n +ℤ by) ≡ true → AreInRange (ints_after (base ++ n ∷ []) by (pos 1))
ints_fit_more base n by fits one =
    ap (list_all is_in_range) (map_last (λ (b : ℤ). Int (number_after b by (pos 1))) base n)
    ∙ passes_last is_in_range (ints_after base by (pos 1)) (Int (number_after n by (pos 1))) fits (ap is_i64 (number_next n by) ∙ one)

-- a value of which the sum doesn't fit
pub int_unfit : (values : List Value) (by : ℤ) (v : Value) (i : ℕ) → slice_get values i ≡ Some v → is_some (value_sum v (Int by)) ≡ false → list_all is_some (int_sums values by) ≡ false
int_unfit values by v i there fail = fails_at is_some (int_sums values by) i (value_sum v (Int by)) (made values i there) fail
  where
    made : (xs : List Value) (n : ℕ) → slice_get xs n ≡ Some v → slice_get (int_sums xs by) n ≡ Some (value_sum v (Int by))
    made [] n is = absurd (let g : None ≡ Some v = is in cc)
    made (x ∷ xs) zero is = ap (λ t. Some (value_sum t (Int by))) (let g : Some x ≡ Some v = is in let h : x ≡ v = cc in h)
    made (x ∷ xs) (suc n) is = made xs n is

-- ---- vectors

pub vecs_before_more : (values : List Value) (base by : List (List ℤ)) (b d : List ℤ) (v : Value) (i : ℕ) → length base ≡ length by → length b ≡ length d → vecs_after base by (pos 0) ≡ take i values
    → slice_get values i ≡ Some v → v ≡ Vec3 b → vecs_after (base ++ b ∷ []) (by ++ d ∷ []) (pos 0) ≡ take (i + 1) values
vecs_before_more values base by b d v i long three is there e =
    zip-last (λ (x y : List ℤ). Vec3 (vector_after x y (pos 0))) base by b d long
    ∙ (λ j. is j ++ (ap Vec3 (vector_before b d three) ∙ sym e) j ∷ [])
    ∙ take_more i values v there

pub vecs_fit_more : (base by : List (List ℤ)) (b d : List ℤ) → length base ≡ length by → AreInRange (vecs_after base by (pos 1)) → is_in_range (Vec3 (vector_after b d (pos 1))) ≡ true
    → AreInRange (vecs_after (base ++ b ∷ []) (by ++ d ∷ []) (pos 1))
vecs_fit_more base by b d long fits one =
    ap (list_all is_in_range) (zip-last (λ (x y : List ℤ). Vec3 (vector_after x y (pos 1))) base by b d long)
    ∙ passes_last is_in_range (vecs_after base by (pos 1)) (Vec3 (vector_after b d (pos 1))) fits one

pub addends_more : (addends : List Value) (by : List (List ℤ)) (d : List ℤ) (v : Value) (i : ℕ) → take i addends ≡ map Vec3 by → slice_get addends i ≡ Some v → v ≡ Vec3 d → take (i + 1) addends ≡ map Vec3 (by ++ d ∷ [])
addends_more addends by d v i is there e = sym (take_more i addends v there) ∙ (λ j. is j ++ e j ∷ []) ∙ sym (map_last Vec3 by d)

-- sums fit where each part does
pub mapped_some : {X Y : Type 0} (f : X → Y) (o : Option X) → is_some (option_map f o) ≡ is_some o
mapped_some f None = refl
mapped_some f (Some x) = refl

sums_fit : (xs ys : List ℤ) → is_some (sums xs ys) ≡ list_all is_i64 (zip_with (λ b d. number_after b d (pos 1)) xs ys)
sums_fit [] ys = refl
sums_fit (x ∷ xs) [] = refl
sums_fit (x ∷ xs) (y ∷ ys) =
    first (is_i64 (x +ℤ y)) (x +ℤ y) (sums xs ys)
    ∙ (λ i. is_i64 (sym (number_next x y) i) && sums_fit xs ys i)
  where
    first : (fit : Bool) (z : ℤ) (rest : Option (List ℤ)) → is_some (option_and_then (λ (n : ℤ). option_map (λ (zs : List ℤ). n ∷ zs) rest) (cond fit (Some z) None)) ≡ (fit && is_some rest)
    first true z rest = mapped_some (λ (zs : List ℤ). z ∷ zs) rest
    first false z rest = refl

pub vec_sum_fits : (b d : List ℤ) → length b ≡ 3 → length d ≡ 3 → is_some (value_sum (Vec3 b) (Vec3 d)) ≡ is_in_range (Vec3 (vector_after b d (pos 1)))
vec_sum_fits (x ∷ y ∷ z ∷ []) (u ∷ v ∷ w ∷ []) l m = mapped_some Vec3 (sums (x ∷ y ∷ z ∷ []) (u ∷ v ∷ w ∷ [])) ∙ sums_fit (x ∷ y ∷ z ∷ []) (u ∷ v ∷ w ∷ [])
vec_sum_fits (x ∷ y ∷ z ∷ []) [] l m = absurd (omega (arith, m))
vec_sum_fits (x ∷ y ∷ z ∷ []) (u ∷ []) l m = absurd (omega (arith, m))
vec_sum_fits (x ∷ y ∷ z ∷ []) (u ∷ v ∷ []) l m = absurd (omega (arith, m))
vec_sum_fits (x ∷ y ∷ z ∷ []) (u ∷ v ∷ w ∷ e ∷ d) l m = absurd (omega (arith, m))
vec_sum_fits [] d l m = absurd (omega (arith, l))
vec_sum_fits (x ∷ []) d l m = absurd (omega (arith, l))
vec_sum_fits (x ∷ y ∷ []) d l m = absurd (omega (arith, l))
vec_sum_fits (x ∷ y ∷ z ∷ e ∷ b) d l m = absurd (omega (arith, l))

pub vec_unfit : (values addends : List Value) (v a : Value) (i : ℕ) → slice_get values i ≡ Some v → slice_get addends i ≡ Some a → is_some (value_sum v a) ≡ false → list_all is_some (vec_sums values addends) ≡ false
vec_unfit values addends v a i there by fail = fails_at is_some (vec_sums values addends) i (value_sum v a) (zip-get value_sum values addends i v a there by) fail

-- three sums, one by one
pub parts_fit : (b d : List ℤ) (p q r : Bool) → length b ≡ 3 → length d ≡ 3 → p ≡ is_i64 (get_or b 0 (pos 0) +ℤ get_or d 0 (pos 0)) → q ≡ is_i64 (get_or b 1 (pos 0) +ℤ get_or d 1 (pos 0))
    → r ≡ is_i64 (get_or b 2 (pos 0) +ℤ get_or d 2 (pos 0)) → (p && (q && (r && true))) ≡ is_in_range (Vec3 (vector_after b d (pos 1)))
parts_fit (x ∷ y ∷ z ∷ []) (u ∷ v ∷ w ∷ []) p q r l m e f g =
    λ i. (e ∙ ap is_i64 (sym (number_next x u))) i && ((f ∙ ap is_i64 (sym (number_next y v))) i && ((g ∙ ap is_i64 (sym (number_next z w))) i && true))
parts_fit (x ∷ y ∷ z ∷ []) [] p q r l m e f g = absurd (omega (arith, m))
parts_fit (x ∷ y ∷ z ∷ []) (u ∷ []) p q r l m e f g = absurd (omega (arith, m))
parts_fit (x ∷ y ∷ z ∷ []) (u ∷ v ∷ []) p q r l m e f g = absurd (omega (arith, m))
parts_fit (x ∷ y ∷ z ∷ []) (u ∷ v ∷ w ∷ t ∷ d) p q r l m e f g = absurd (omega (arith, m))
parts_fit [] d p q r l m e f g = absurd (omega (arith, l))
parts_fit (x ∷ []) d p q r l m e f g = absurd (omega (arith, l))
parts_fit (x ∷ y ∷ []) d p q r l m e f g = absurd (omega (arith, l))
parts_fit (x ∷ y ∷ z ∷ t ∷ b) d p q r l m e f g = absurd (omega (arith, l))
