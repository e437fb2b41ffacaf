-- What a map's entries say as kinds.
use Rattle.std.proofs.Common.{◌≡◌, ℕ, zero, suc, ◌+◌, ◌<◌, ◌≤◌, true, false, cond, List, [], ◌∷◌, ◌++◌, length, refl, ap, ◌∙◌, arith, Some, Ok, is_some, string_bytes, String}
use Rattle.std.specs.Prelude.{position, nat_lt, option_map, slice_get}
use Rattle.std.specs.List.{position_from, AllZip}
use Rattle.std.specs.Map.{keys_of, lookup}
use Rattle.std.specs.Str.{bytes_eq}
use Rattle.std.specs.declared.alloc.Global.{Global}
use Rattle.std.proofs.lemmas.Iterator.Adapters.{position_from-zero}
use Rattle.std.proofs.lemmas.Bool.Decides.{nat_tests}
use Rattle.scene_kinds.specs.declared.shape.Shape.{Shape}
use Rattle.scene_kinds.specs.declared.fault.Fault.TheVariants.{KindTaken, KindsFull}
use Rattle.scene_kinds.specs.Answers.{Outcome, refuse}
use Rattle.scene_kinds.specs.Schema.{Kinds, named, number_of, shape_of, is_good_name, with_kind}

-- the index of a key, counted from any number
from_keys : (name : List ℕ) (es : List (String Global × Shape)) (n : ℕ) → position_from (λ k. bytes_eq name (string_bytes k)) n (keys_of es) ≡ position_from (λ k. bytes_eq name k.0) n (named es)
from_keys name [] n = refl
from_keys name (e ∷ es) n = ap (cond (bytes_eq name (string_bytes e.0)) (Some n)) (from_keys name es (n + 1))

-- the index of a key is the number of the kind with its name
pub number_of_keys : (name : List ℕ) (es : List (String Global × Shape)) → position (λ k. bytes_eq name (string_bytes k)) (keys_of es) ≡ number_of (named es) name
number_of_keys name es = position_from-zero (λ k. bytes_eq name (string_bytes k)) (keys_of es) ∙ from_keys name es 0

-- there are as many kinds as entries
pub length_named : (es : List (String Global × Shape)) → length (named es) ≡ length es
length_named [] = refl
length_named (e ∷ es) = ap (λ n. suc n) (length_named es)

-- the shape of a kind is that of the entry at its place
pub shape_named_at : (es : List (String Global × Shape)) (i : ℕ) → option_map (λ (e : String Global × Shape). e.1) (slice_get es i) ≡ shape_of (named es) i
shape_named_at [] i = refl
shape_named_at (e ∷ es) zero = refl
shape_named_at (e ∷ es) (suc i) = shape_named_at es i

-- whether a key is found, counted from any number
taken : (name : List ℕ) (es : List (String Global × Shape)) (n : ℕ) → is_some (lookup (λ k. bytes_eq name (string_bytes k)) es) ≡ is_some (position_from (λ k. bytes_eq name k.0) n (named es))
taken name [] n = refl
taken name (e ∷ es) n =
    elim (bytes_eq name (string_bytes e.0)) as (λ b. is_some (cond b (Some e.1) (lookup (λ k. bytes_eq name (string_bytes k)) es)) ≡ is_some (cond b (Some n) (position_from (λ k. bytes_eq name k.0) (n + 1) (named es)))) [
      | true ↦ refl
      | false ↦ taken name es (n + 1)
    ]

-- a key is found where a kind has its name
pub found_named : (name : List ℕ) (es : List (String Global × Shape)) → is_some (lookup (λ k. bytes_eq name (string_bytes k)) es) ≡ is_some (number_of (named es) name)
found_named name es = taken name es 0

-- the entries with one more at the end are the kinds with one more
pub named_pushed : (es : List (String Global × Shape)) (name : String Global) (shape : Shape) → named (es ++ (name, shape) ∷ []) ≡ named es ++ (string_bytes name, shape) ∷ []
named_pushed [] name shape = refl
named_pushed (e ∷ es) name shape = ap (λ t. (string_bytes e.0, e.1) ∷ t) (named_pushed es name shape)

-- entries that are clones of each other say the same
pub named_clone : (D : Shape → Shape → Type 0) → ((x y : Shape) → D x y → y ≡ x) → (es fs : List (String Global × Shape))
    → AllZip (λ p q. (string_bytes q.0 ≡ string_bytes p.0) × D p.1 q.1) es fs → named fs ≡ named es
named_clone D same [] [] h = refl
named_clone D same [] (f ∷ fs) h = absurd h
named_clone D same (e ∷ es) [] h = absurd h
named_clone D same (e ∷ es) (f ∷ fs) h = λ i. (h.0.0 i, same e.1 f.1 h.0.1 i) ∷ named_clone D same es fs h.1 i

-- the refusals of a new kind, and a new kind
pub kind_taken : (kinds : Kinds) (name : List ℕ) (shape : Shape) → is_good_name name ≡ true → is_some (number_of kinds name) ≡ true → with_kind kinds name shape ≡ refuse KindTaken
kind_taken kinds name shape good there = rw (good, there) refl

-- a good new name where there are 64 kinds
pub kinds_full : (kinds : Kinds) (name : List ℕ) (shape : Shape) → is_good_name name ≡ true → is_some (number_of kinds name) ≡ false → 64 ≤ length kinds → with_kind kinds name shape ≡ refuse KindsFull
kinds_full kinds name shape good there most = let full : nat_lt (length kinds) 64 ≡ false = grind (arith, nat_tests) in rw (good, there, full) refl

-- a good new name where there is room
pub kind_added : (kinds : Kinds) (name : List ℕ) (shape : Shape) → is_good_name name ≡ true → is_some (number_of kinds name) ≡ false → length kinds < 64 → with_kind kinds name shape ≡ Ok (length kinds, kinds ++ (name, shape) ∷ [])
kind_added kinds name shape good there few = let room : nat_lt (length kinds) 64 ≡ true = grind (arith, nat_tests) in rw (good, there, room) refl

-- a number and a list of kinds that a new kind gives
pub same_added : (n m : ℕ) (ks ls : Kinds) → n ≡ m → ks ≡ ls → ◌≡◌ {A = Outcome ℕ Kinds} (Ok (n, ks)) (Ok (m, ls))
same_added n m ks ls e h = λ i. Ok (e i, h i)
