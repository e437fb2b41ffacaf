-- What is known of each value that was read: the keys of its objects rise, and its negative numbers are below zero.
use Rattle.std.proofs.Common.{◌≡◌, ℕ, zero, suc, ◌^◌, ℤ, pos, negsuc, Bool, true, false, cond, List, Option, Some, None, option_map, option_and_then, nat_lt, nat_le, refl, ap, subst, ◌∙◌}
use Rattle.std.specs.Prelude.{IfSome, ◌&&◌, ◌==◌, drop, slice_index}
use Rattle.std.specs.List.{AllByRecursion}
use Rattle.std.specs.Ordering.{nat_cmp, match_ordering, ordering_reverse}
use Rattle.std.specs.declared.cmp.Ordering.{Ordering}
use Rattle.std.specs.declared.cmp.Ordering.TheVariants.{Less, Equal, Greater}
use Rattle.std.specs.Cmp.Lexicographic.{slice_cmp}
use Rattle.std.specs.Float.{binary64, float_is_finite}
use Rattle.std.proofs.lemmas.Cmp.{nat_list_cmp_total}
use Rattle.fast_float.specs.Text.{minus, Parts, scan, digits_of, nearest, with_sign}
use Rattle.json.specs.Lex.{tokens}
use Rattle.json.specs.Json as json
use Rattle.serde_json.specs.Data.{Num, unsigned, negative, float, Data, null, boolean, number, string, array, object, Items, no_items, item, Members, no_members, member, put}
use Rattle.serde_json.specs.Find.{get_member}
use Rattle.serde_json.specs.Read.{is_integer, float_of, number_from, number_of, of_json, of_items, of_members, max_depth, read}
use Rattle.scene_json_forms.specs.Reading.{elements}
use Rattle.scene_json_forms.proofs.Ascending.{IsAbove}

-- keys by their bytes
abbrev pub key_cmp : List ℕ → List ℕ → Ordering
key_cmp k l = slice_cmp nat_cmp k l

-- the keys of an object ascend
abbrev pub KeysRise : Option (List ℕ) → Members → Type 0
KeysRise before no_members = Unit {0}
KeysRise before (member key d ms) = IsAbove key_cmp before key × KeysRise (Some key) ms

-- a number is below zero
abbrev pub IsBelowZero : ℤ → Type 0
IsBelowZero (pos n) = ⊥
IsBelowZero (negsuc n) = Unit {0}

-- a number that is kept as negative is below zero
abbrev pub IsNumber : Num → Type 0
IsNumber (unsigned n) = Unit {0}
IsNumber (negative z) = IsBelowZero z
IsNumber (float x) = Unit {0}

-- at every depth the keys of objects rise, and negative numbers are below zero
abbrev mutual
  pub IsRead : Data → Type 0
  IsRead null = Unit {0}
  IsRead (boolean b) = Unit {0}
  IsRead (number n) = IsNumber n
  IsRead (string s) = Unit {0}
  IsRead (array ds) = AreRead ds
  IsRead (object ms) = KeysRise None ms × HasRead ms

  pub AreRead : Items → Type 0
  AreRead no_items = Unit {0}
  AreRead (item d ds) = IsRead d × AreRead ds

  pub HasRead : Members → Type 0
  HasRead no_members = Unit {0}
  HasRead (member key d ms) = IsRead d × HasRead ms

-- ---- what is put into an object

put_above : (key : List ℕ) (d : Data) (before : Option (List ℕ)) (ms : Members) → IsAbove key_cmp before key → KeysRise before ms
    → KeysRise before (put key d ms)
put_above key d before no_members a r = (a, tt)
put_above key d before (member l e ms) a r =
    elim (slice_cmp nat_cmp key l) as (λ o. slice_cmp nat_cmp key l ≡ o → KeysRise before
    (match_ordering o (member key d (member l e ms)) (member l d ms) (member l e (put key d ms)))) [
      | Less ↦ λ h. (a, (h, r.1))
      | Equal ↦ λ h. (r.0, r.1)
      | Greater ↦ λ h. (r.0, put_above key d (Some l) ms (nat_list_cmp_total.antisymm l key ∙ ap ordering_reverse h) r.1)
    ] refl

put_read : (key : List ℕ) (d : Data) (ms : Members) → IsRead d → HasRead ms → HasRead (put key d ms)
put_read key d no_members h k = (h, tt)
put_read key d (member l e ms) h k =
    elim (slice_cmp nat_cmp key l) as (λ o. HasRead (match_ordering o (member key d (member l e ms)) (member l d ms) (member l e (put key d ms)))) [
      | Less ↦ (h, k)
      | Equal ↦ (h, k.1)
      | Greater ↦ (k.0, put_read key d ms h k.1)
    ]

-- ---- numbers

mapped : {A B : Type 0} (P : A → Type 0) (Q : B → Type 0) (f : A → B) → ((a : A) → P a → Q (f a)) → (o : Option A) → IfSome o P
    → IfSome (option_map f o) Q
mapped P Q f h None x = tt
mapped P Q f h (Some a) x = h a x

then_so : {A B : Type 0} (P : A → Type 0) (Q : B → Type 0) (f : A → Option B) → ((a : A) → P a → IfSome (f a) Q) → (o : Option A) → IfSome o P
    → IfSome (option_and_then f o) Q
then_so P Q f h None x = tt
then_so P Q f h (Some a) x = h a x

middle_is : (a b c : Bool) → (a && b && c) ≡ true → b ≡ true
middle_is true true c h = refl
middle_is true false c h = absurd (let k : false ≡ true = h in cc)
middle_is false b c h = absurd (let k : false ≡ true = h in cc)

below_zero : (n : ℕ) → nat_lt 0 n ≡ true → IsBelowZero (with_sign true n)
below_zero zero h = absurd (let k : false ≡ true = h in cc)
below_zero (suc n) h = tt

float_is_number : (sign : Bool) (p : Parts) → IfSome (float_of sign p) IsNumber
float_is_number sign p =
    elim (float_is_finite (nearest binary64 sign p)) as (λ b. IfSome (cond b (Some (float (nearest binary64 sign p))) None) IsNumber) [
      | true ↦ tt
      | false ↦ tt
    ]

number_from_is : (sign : Bool) (p : Parts) → IfSome (number_from sign p) IsNumber
number_from_is false p =
    elim (is_integer p && nat_lt (digits_of p) (2 ^ 64)) as (λ b. IfSome (cond b (Some (unsigned (digits_of p))) (float_of false p)) IsNumber) [
      | true ↦ tt
      | false ↦ float_is_number false p
    ]
number_from_is true p =
    elim (is_integer p && nat_lt 0 (digits_of p) && nat_le (digits_of p) (2 ^ 63))
    as (λ b. (is_integer p && nat_lt 0 (digits_of p) && nat_le (digits_of p) (2 ^ 63)) ≡ b → IfSome
    (cond b (Some (negative (with_sign true (digits_of p)))) (float_of true p)) IsNumber) [
      | true ↦ λ h. below_zero (digits_of p) (middle_is (is_integer p) (nat_lt 0 (digits_of p)) (nat_le (digits_of p) (2 ^ 63)) h)
      | false ↦ λ h. float_is_number true p
    ] refl

number_is : (s : List ℕ) → IfSome (number_of s) IsNumber
unfolding number_of
number_is s =
    elim (slice_index s 0 == minus) as (λ b. IfSome (cond b (number_from true (scan (drop 1 s))) (number_from false (scan s))) IsNumber) [
      | true ↦ number_from_is true (scan (drop 1 s))
      | false ↦ number_from_is false (scan s)
    ]

-- ---- the whole

abbrev AreMembers : Members → Type 0
AreMembers ms = KeysRise None ms × HasRead ms

mutual
  json_read : (j : json.Json) → IfSome (of_json j) IsRead
  json_read json.null = tt
  json_read (json.boolean b) = tt
  json_read (json.number s) = mapped IsNumber IsRead number (λ n h. h) (number_of s) (number_is s)
  json_read (json.string s) = tt
  json_read (json.array js) = mapped AreRead IsRead array (λ ds h. h) (of_items js) (items_read js)
  json_read (json.object ms) = mapped AreMembers IsRead object (λ found h. h) (of_members ms no_members) (members_read ms no_members (tt, tt))

  items_read : (js : json.Items) → IfSome (of_items js) AreRead
  items_read json.no_items = tt
  items_read (json.item j js) =
      then_so IsRead AreRead (λ d. option_map (item d) (of_items js))
      (λ d h. mapped AreRead AreRead (item d) (λ ds k. (h, k)) (of_items js) (items_read js)) (of_json j) (json_read j)

  members_read : (ms : json.Members) (found : Members) → AreMembers found → IfSome (of_members ms found) AreMembers
  members_read json.no_members found h = h
  members_read (json.member key j ms) found h =
      then_so IsRead AreMembers (λ d. of_members ms (put key d found))
      (λ d k. members_read ms (put key d found) (put_above key d None found tt h.0, put_read key d found k h.1)) (of_json j) (json_read j)

of_json_read : (o : Option json.Json) → IfSome (option_and_then of_json o) IsRead
of_json_read None = tt
of_json_read (Some j) = json_read j

-- a value that was read
pub value_read : (bytes : List ℕ) (d : Data) → read bytes ≡ Some d → IsRead d
value_read bytes d h =
    subst (λ o. IfSome o IsRead) h (of_json_read (option_and_then (λ p. json.if_last p.0 p.1) (json.value max_depth (tokens bytes))))

-- ---- what is found in it

-- the elements of a list
pub elements_read : (ds : Items) → AreRead ds → AllByRecursion IsRead (elements ds)
elements_read no_items h = tt
elements_read (item d ds) h = (h.0, elements_read ds h.1)

-- the value of a key
pub member_read : (key : List ℕ) (ms : Members) (d : Data) → HasRead ms → get_member key ms ≡ Some d → IsRead d
member_read key no_members d h e = absurd (let k : None ≡ Some d = e in cc)
member_read key (member l x ms) d h e =
    elim (slice_cmp nat_cmp key l) as (λ o. match_ordering o (get_member key ms) (Some x) (get_member key ms) ≡ Some d → IsRead d) [
      | Less ↦ λ k. member_read key ms d h.1 k
      | Equal ↦ λ k. subst IsRead (let same : x ≡ d = cc k in same) h.0
      | Greater ↦ λ k. member_read key ms d h.1 k
    ] e
