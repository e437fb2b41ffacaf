-- The values of lists, objects, numbers, texts and cells are plain, and nest no deeper than they seem.
use Rattle.std.proofs.Common.{◌≡◌, ℕ, suc, ◌^◌, ◌<◌, ◌≤◌, ℤ, pos, negsuc, Bool, true, false, List, [], ◌∷◌, refl, arith, IsUtf8, nat_lt, inl, inr}
use Rattle.std.specs.Prelude.{map as each, ◌&&◌, ◌||◌, nat_le, nat_eq, length}
use Rattle.std.specs.List.{list_all, AllByRecursion}
use Rattle.std.specs.Char.{is_ascii_alphabetic, is_ascii_alphanumeric}
use Rattle.std.specs.Int.{is_in_range as is_in}
use Rattle.std.proofs.lemmas.Bool.{ltb-true, lt-ltb, leb-true, eqb-true, or_cases}
use Rattle.std.proofs.lemmas.Str.{IsUtf8-from_is_utf8}
use Rattle.json.proofs.Printed.Utf8.{are_ascii, IsUtf8-are_ascii}
use Rattle.serde_json.specs.Data.{Data, string, boolean, depth, items_depth, members_depth}
use Rattle.scene_kinds.specs.declared.entity.Entity.{Entity}
use Rattle.scene_kinds.specs.declared.cell.Cell.{Cell}
use Rattle.scene_kinds.specs.declared.shape.Shape.{Shape}
use Rattle.scene_kinds.specs.declared.shape.Shape.TheVariants as shape
use Rattle.scene_kinds.specs.declared.value.Value.{Value}
use Rattle.scene_kinds.specs.declared.value.Value.TheVariants as value
use Rattle.scene_kinds.specs.Entity.{entity_text}
use Rattle.scene_kinds.specs.Ranges.{is_i64, is_entity, is_in_range}
use Rattle.scene_kinds.specs.Schema.{is_good_name, is_name_byte}
use Rattle.scene_kinds.specs.Shape.{shape_name, shape_of_value}
use Rattle.scene_kinds.proofs.Numbers.{entity_is_text}
use Rattle.scene_model.specs.Valid.{is_timely}
use Rattle.scene_validate.proofs.Tests.{and_is, and_of, all_is, all_with}
use Rattle.scene_json_forms.specs.Text.{items_of, array_of, list_text, members_of, object_of, count_text, int_text, entity_json, value_text, shape_text, cell_text, resource_cell_text}
use Rattle.scene_file.proofs.PlainData.{IsPlain, ArePlain, HasPlain, rises}

-- a plain value that nests no deeper than a number
abbrev pub IsFine : ℕ → Data → Type 0
IsFine n d = IsPlain d × (depth d ≤ n)

pub deeper : (n m : ℕ) (d : Data) → n ≤ m → IsFine n d → IsFine m d
deeper n m d h f = let k = f.1 in (f.0, omega (arith, h, k))

-- ---- lists and objects

items_fine : (n : ℕ) (ds : List Data) → AllByRecursion (IsFine n) ds → ArePlain (items_of ds) × (items_depth (items_of ds) ≤ n)
items_fine n [] h = (tt, omega arith)
items_fine n (d ∷ ds) h = let k = items_fine n ds h.1 in let a = h.0.1 in let b = k.1 in ((h.0.0, k.0), omega (arith, a, b))

pub array_fine : (n : ℕ) (ds : List Data) → AllByRecursion (IsFine n) ds → IsFine (suc n) (array_of ds)
array_fine n ds h = let k = items_fine n ds h in let b = k.1 in (k.0, omega (arith, b))

each_fine : {A : Type 0} (n : ℕ) (text : A → Data) (xs : List A) → AllByRecursion (λ x. IsFine n (text x)) xs → AllByRecursion (IsFine n) (each text xs)
each_fine n text [] h = tt
each_fine n text (x ∷ xs) h = (h.0, each_fine n text xs h.1)

pub list_fine : {A : Type 0} (n : ℕ) (text : A → Data) (xs : List A) → AllByRecursion (λ x. IsFine n (text x)) xs → IsFine (suc n) (list_text text xs)
list_fine n text xs h = array_fine n (each text xs) (each_fine n text xs h)

members_fine : (n : ℕ) (ms : List (List ℕ × Data)) → list_all (λ m. are_ascii m.0) ms ≡ true → AllByRecursion (λ m. IsFine n m.1) ms
    → HasPlain (members_of ms) × (members_depth (members_of ms) ≤ n)
members_fine n [] a h = (tt, omega arith)
members_fine n (m ∷ ms) a h =
    let p = and_is (are_ascii m.0) (list_all (λ m. are_ascii m.0) ms) a in
    let k = members_fine n ms p.1 h.1 in
    let x = h.0.1 in
    let y = k.1 in ((IsUtf8-are_ascii m.0 p.0, (h.0.0, k.0)), omega (arith, x, y))

pub object_fine : (n : ℕ) (ms : List (List ℕ × Data)) → rises (members_of ms) ≡ true → list_all (λ m. are_ascii m.0) ms ≡ true
    → AllByRecursion (λ m. IsFine n m.1) ms → IsFine (suc n) (object_of ms)
object_fine n ms r a h = let k = members_fine n ms a h in let y = k.1 in ((r, k.0), omega (arith, y))

-- ---- numbers and texts

pub count_fine : (m n : ℕ) → n < 2 ^ 64 → IsFine m (count_text n)
count_fine m n h = (h, omega arith)

pub string_fine : (m : ℕ) (s : List ℕ) → IsUtf8 s → IsFine m (string s)
string_fine m s h = (h, omega arith)

pub flag_fine : (m : ℕ) (b : Bool) → IsFine m (boolean b)
flag_fine m b = (tt, omega arith)

int_fine : (m : ℕ) (z : ℤ) → is_i64 z ≡ true → IsFine m (int_text z)
int_fine m (pos n) h = let k = ltb-true n 9223372036854775808 h in (omega (arith, k), omega arith)
int_fine m (negsuc n) h = let k = ltb-true n 9223372036854775808 h in (omega (arith, k), omega arith)

pub entity_fine : (m : ℕ) (e : Entity) → is_entity e ≡ true → IsFine m (entity_json e)
entity_fine m e h =
    let p = and_is (nat_lt e.index 4294967296) (nat_lt e.generation 4294967296) h in
    string_fine m (entity_text e.index e.generation)
    (entity_is_text (entity_text e.index e.generation) e.index e.generation (ltb-true e.index 4294967296 p.0)
    (ltb-true e.generation 4294967296 p.1) refl)

-- a byte between two others, of which the upper one is ASCII
between_is_low : (low high b : ℕ) → high < 128 → is_in low high b ≡ true → nat_lt b 128 ≡ true
between_is_low low high b l h = let k = leb-true b high (and_is (nat_le low b) (nat_le b high) h).1 in lt-ltb b 128 (omega (arith, l, k))

letter_is_low : (b : ℕ) → is_ascii_alphabetic b ≡ true → nat_lt b 128 ≡ true
letter_is_low b h = elim (or_cases (is_in 65 90 b) (is_in 97 122 b) h) [
  | inl k ↦ between_is_low 65 90 b (omega arith) k
  | inr k ↦ between_is_low 97 122 b (omega arith) k
]

name_byte_is_low : (b : ℕ) → is_name_byte b ≡ true → nat_lt b 128 ≡ true
name_byte_is_low b h = elim (or_cases (is_ascii_alphanumeric b) (nat_eq b 95) h) [
  | inl k ↦ elim (or_cases (is_in 48 57 b || is_in 65 90 b) (is_in 97 122 b) k) [
    | inl l ↦ elim (or_cases (is_in 48 57 b) (is_in 65 90 b) l) [
      | inl digit ↦ between_is_low 48 57 b (omega arith) digit
      | inr capital ↦ between_is_low 65 90 b (omega arith) capital
    ]
    | inr small ↦ between_is_low 97 122 b (omega arith) small
  ]
  | inr k ↦ let e = eqb-true b 95 k in lt-ltb b 128 (omega (arith, e))
]

name_bytes_are_low : (bs : List ℕ) → list_all is_name_byte bs ≡ true → are_ascii bs ≡ true
name_bytes_are_low [] h = refl
name_bytes_are_low (b ∷ bs) h =
    let p = and_is (is_name_byte b) (list_all is_name_byte bs) h in
    and_of (nat_lt b 128) (are_ascii bs) (name_byte_is_low b p.0) (name_bytes_are_low bs p.1)

pub name_is_utf8 : (name : List ℕ) → is_good_name name ≡ true → IsUtf8 name
name_is_utf8 [] h = absurd (let k : false ≡ true = h in cc)
name_is_utf8 (b ∷ bs) h =
    let p = and_is (is_ascii_alphabetic b) (nat_lt (length bs) 32 && list_all is_name_byte bs) h in
    let q = and_is (nat_lt (length bs) 32) (list_all is_name_byte bs) p.1 in
    IsUtf8-are_ascii (b ∷ bs) (and_of (nat_lt b 128) (are_ascii bs) (letter_is_low b p.0) (name_bytes_are_low bs q.1))

pub shape_fine : (m : ℕ) (s : Shape) → IsFine m (shape_text s)
shape_fine m shape.Tag = string_fine m (shape_name shape.Tag) (IsUtf8-are_ascii (shape_name shape.Tag) refl)
shape_fine m shape.Int = string_fine m (shape_name shape.Int) (IsUtf8-are_ascii (shape_name shape.Int) refl)
shape_fine m shape.Vec3 = string_fine m (shape_name shape.Vec3) (IsUtf8-are_ascii (shape_name shape.Vec3) refl)
shape_fine m shape.Text = string_fine m (shape_name shape.Text) (IsUtf8-are_ascii (shape_name shape.Text) refl)
shape_fine m shape.Link = string_fine m (shape_name shape.Link) (IsUtf8-are_ascii (shape_name shape.Link) refl)

-- ---- cells

pub value_fine : (m : ℕ) (v : Value) → is_in_range v ≡ true → IsFine (suc m) (value_text v)
value_fine m value.Tag h = flag_fine (suc m) true
value_fine m (value.Int n) h = int_fine (suc m) n h
value_fine m (value.Vec3 parts) h =
    list_fine m int_text parts (all_with (λ z. is_i64 z ≡ true) (λ z. IsFine m (int_text z)) (λ z k. int_fine m z k) parts
    (all_is is_i64 parts (and_is (nat_eq (length parts) 3) (list_all is_i64 parts) h).1))
value_fine m (value.Text bytes) h = string_fine (suc m) bytes (IsUtf8-from_is_utf8 bytes h)
value_fine m (value.Link e) h = entity_fine (suc m) e h

-- a cell whose value and ticks are in the ranges of their types
abbrev pub IsHeld : Cell → Type 0
IsHeld c = (is_in_range c.value ≡ true) × ((c.added < 2 ^ 64) × (c.changed < 2 ^ 64))

-- the ticks of a cell that isn't later than a tick
pub timely_held : (tick : ℕ) (c : Cell) → tick < 2 ^ 64 → is_in_range c.value ≡ true → is_timely tick c ≡ true → IsHeld c
timely_held tick c l h t =
    let p = and_is (nat_le c.added c.changed) (nat_le c.changed tick) t in
    let a = leb-true c.added c.changed p.0 in
    let b = leb-true c.changed tick p.1 in (h, (omega (arith, l, a, b), omega (arith, l, b)))

pub cell_fine : (m : ℕ) (c : Cell) → IsHeld c → IsFine (suc (suc m)) (cell_text c)
cell_fine m c h =
    array_fine (suc m) (value_text c.value ∷ count_text c.added ∷ count_text c.changed ∷ [])
    (value_fine m c.value h.0, (count_fine (suc m) c.added h.1.0, (count_fine (suc m) c.changed h.1.1, tt)))

pub resource_cell_fine : (m : ℕ) (c : Cell) → IsHeld c → IsFine (suc (suc m)) (resource_cell_text c)
resource_cell_fine m c h =
    array_fine (suc m) (shape_text (shape_of_value c.value) ∷ value_text c.value ∷ count_text c.added ∷ count_text c.changed ∷ []) (
      shape_fine (suc m) (shape_of_value c.value),
      (value_fine m c.value h.0, (count_fine (suc m) c.added h.1.0, (count_fine (suc m) c.changed h.1.1, tt))),
    )
