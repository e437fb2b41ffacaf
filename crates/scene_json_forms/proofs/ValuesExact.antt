-- What is read of numbers, values and cells is just what stands there.
use Rattle.std.proofs.Common.{◌≡◌, ℕ, ◌+◌, ◌^◌, ℤ, pos, negsuc, Bool, true, false, cond, List, [], ◌∷◌, Option, Some, None, Ok, Err, option_and_then, nat_lt, refl, ap, subst, ◌∙◌, map as each}
use Rattle.std.specs.List.{AllByRecursion}
use Rattle.std.specs.Str.{bytes_eq}
use Rattle.std.proofs.lemmas.Slice.Eq.{bytes_eq-Decides}
use Rattle.std.proofs.lemmas.Option.{same_Some}
use Rattle.serde_json.specs.Data.{Data, null, boolean, number, string, array, object, unsigned, negative, float}
use Rattle.serde_json.specs.Find.{as_bool, as_number, as_i64, as_str, as_u64}
use Rattle.scene_kinds.specs.Schema.{is_good_name}
use Rattle.scene_kinds.specs.declared.cell.Cell.{Cell}
use Rattle.scene_kinds.specs.declared.shape.Shape.{Shape}
use Rattle.scene_kinds.specs.declared.shape.Shape.TheVariants as shape
use Rattle.scene_kinds.specs.declared.value.Value.{Value}
use Rattle.scene_kinds.specs.declared.value.Value.TheVariants as value
use Rattle.scene_kinds.specs.Shape.{shape_name, shape_named, shape_of_value}
use Rattle.scene_kinds.specs.EntityReading.{entity_in}
use Rattle.scene_kinds.proofs.EntityReading.{entity_in-was}
use Rattle.scene_json_forms.specs.declared.fault.FileFault.TheVariants.{BadField}
use Rattle.scene_json_forms.specs.Reading.{◌>>=◌, field, if_good, below, string_at, list_at, place_in}
use Rattle.scene_json_forms.specs.Text.{array_of, count_text, int_text, entity_json, value_text, shape_text, cell_text, resource_cell_text}
use Rattle.scene_json_forms.specs.Walk.{name_at, tick_at, int_at, entity_at, shape_at, three_of, value_at, cell_from, cell_parts, cell_at, resource_cell_parts, resource_cell_at}
use Rattle.scene_json_forms.proofs.ListsExact.{IsExact, list_was, each_exact}
use Rattle.scene_json_forms.proofs.ReadValues.{IsRead}
use Rattle.scene_json_forms.proofs.GoodSteps.{ok_after, good_was, ok_is, field_was, then_was}

-- ---- what a value is, of which something is read

pub not_there : {A P : Type 0} (a : A) → None ≡ Some a → P
not_there a h = absurd (cc h)

pub string_was : (d : Data) (s : List ℕ) → as_str d ≡ Some s → d ≡ string s
string_was null s h = not_there s h
string_was (boolean b) s h = not_there s h
string_was (number n) s h = not_there s h
string_was (string t) s h = ap string (same_Some t s h)
string_was (array ds) s h = not_there s h
string_was (object ms) s h = not_there s h

pub bool_was : (d : Data) (b : Bool) → as_bool d ≡ Some b → d ≡ boolean b
bool_was null b h = not_there b h
bool_was (boolean c) b h = ap boolean (same_Some c b h)
bool_was (number n) b h = not_there b h
bool_was (string t) b h = not_there b h
bool_was (array ds) b h = not_there b h
bool_was (object ms) b h = not_there b h

count_was : (d : Data) (n : ℕ) → option_and_then as_u64 (as_number d) ≡ Some n → d ≡ count_text n
count_was null n h = not_there n h
count_was (boolean b) n h = not_there n h
count_was (number (unsigned m)) n h = ap count_text (same_Some m n h)
count_was (number (negative z)) n h = not_there n h
count_was (number (float x)) n h = not_there n h
count_was (string t) n h = not_there n h
count_was (array ds) n h = not_there n h
count_was (object ms) n h = not_there n h

small_was : (b : Bool) (m : ℕ) (z : ℤ) → cond b (Some (pos m)) None ≡ Some z → number (unsigned m) ≡ int_text z
small_was true m z h = ap int_text (same_Some (pos m) z h)
small_was false m z h = not_there z h

int_was : (d : Data) (z : ℤ) → IsRead d → option_and_then as_i64 (as_number d) ≡ Some z → d ≡ int_text z
int_was null z r h = not_there z h
int_was (boolean b) z r h = not_there z h
int_was (number (unsigned m)) z r h = small_was (nat_lt m (2 ^ 63)) m z h
int_was (number (negative (pos m))) z r h = absurd r
int_was (number (negative (negsuc m))) z r h = ap int_text (same_Some (negsuc m) z h)
int_was (number (float x)) z r h = not_there z h
int_was (string t) z r h = not_there z h
int_was (array ds) z r h = not_there z h
int_was (object ms) z r h = not_there z h

-- a name that is one of several is the chosen one's own
pub chosen : {S : Type 0} (own : S → List ℕ) (name : List ℕ) (x y : S) (rest : Option S) → cond (bytes_eq name (own x)) (Some x) rest ≡ Some y
    → (rest ≡ Some y → name ≡ own y) → name ≡ own y
chosen own name x y rest h later =
    elim (bytes_eq name (own x)) as (λ b. bytes_eq name (own x) ≡ b → cond b (Some x) rest ≡ Some y → name ≡ own y) [
      | true ↦ λ e k. (bytes_eq-Decides name (own x)).0 e ∙ ap own (same_Some x y k)
      | false ↦ λ e k. later k
    ] refl h

shape_was : (name : List ℕ) (s : Shape) → shape_named name ≡ Some s → name ≡ shape_name s
shape_was name s h =
    chosen shape_name name shape.Tag s _ h (λ h. chosen shape_name name shape.Int s _ h (λ h. chosen shape_name name shape.Vec3 s _ h
    (λ h. chosen shape_name name shape.Text s _ h (λ h. chosen shape_name name shape.Link s None h (λ h. not_there s h)))))

-- ---- numbers, entities and values

pub below_exact : (bound : ℕ) → IsExact (below bound) count_text
below_exact bound path d n r h =
    let p = ok_after (field path (option_and_then as_u64 (as_number d))) (λ m. if_good path (nat_lt m bound) m) n h in
    count_was d p.0 (field_was path (option_and_then as_u64 (as_number d)) p.0 p.1) ∙ ap count_text (good_was path (nat_lt p.0 bound) p.0 n p.2).1

pub tick_exact : IsExact tick_at count_text
tick_exact path d n r h = count_was d n (field_was path (option_and_then as_u64 (as_number d)) n h)

int_exact : IsExact int_at int_text
int_exact path d z r h = int_was d z r (field_was path (option_and_then as_i64 (as_number d)) z h)

pub string_exact : IsExact string_at string
string_exact path d s r h = string_was d s (field_was path (as_str d) s h)

pub entity_exact : IsExact entity_at entity_json
entity_exact path d e r h =
    let p = then_was entity_in (as_str d) e (field_was path (option_and_then entity_in (as_str d)) e h) in
    string_was d p.0 p.1 ∙ ap string (entity_in-was p.0 e p.2).2

pub shape_exact : IsExact shape_at shape_text
shape_exact path d s r h =
    let p = then_was shape_named (as_str d) s (field_was path (option_and_then shape_named (as_str d)) s h) in
    string_was d p.0 p.1 ∙ ap string (shape_was p.0 s p.2)

three_exact : (path : List ℕ) (ds : List Data) (parts : List ℤ) → AllByRecursion IsRead ds → three_of path ds ≡ Ok parts → ds ≡ each int_text parts
three_exact path [] parts r h = absurd (let k : Err (BadField path) ≡ Ok parts = h in cc)
three_exact path (x ∷ []) parts r h = absurd (let k : Err (BadField path) ≡ Ok parts = h in cc)
three_exact path (x ∷ y ∷ []) parts r h = absurd (let k : Err (BadField path) ≡ Ok parts = h in cc)
three_exact path (x ∷ y ∷ z ∷ []) parts r h = each_exact int_at int_text int_exact path 0 (x ∷ y ∷ z ∷ []) parts r h
three_exact path (x ∷ y ∷ z ∷ w ∷ ws) parts r h = absurd (let k : Err (BadField path) ≡ Ok parts = h in cc)

-- a value that was read of a shape has that shape
pub record IsValueOf (s : Shape) (d : Data) (v : Value) : Type 0 where
  pub text : d ≡ value_text v
  pub shape : s ≡ shape_of_value v

so : (s : Shape) (d : Data) (v w : Value) → v ≡ w → d ≡ value_text v → s ≡ shape_of_value v → IsValueOf s d w
so s d v w same h k = record { text = h ∙ ap value_text same; shape = k ∙ ap shape_of_value same }

value_was : (s : Shape) (path : List ℕ) (d : Data) (v : Value) → IsRead d → value_at s path d ≡ Ok v → IsValueOf s d v
value_was shape.Tag path d v r h =
    let p = ok_after (field path (as_bool d)) (λ b. if_good path b value.Tag) v h in
    let g = good_was path p.0 value.Tag v p.2 in
    so shape.Tag d value.Tag v g.1 (bool_was d p.0 (field_was path (as_bool d) p.0 p.1) ∙ ap boolean g.0) refl
value_was shape.Int path d v r h =
    let p = ok_after (int_at path d) (λ n. Ok (value.Int n)) v h in
    so shape.Int d (value.Int p.0) v (ok_is (value.Int p.0) v p.2) (int_exact path d p.0 r p.1) refl
value_was shape.Vec3 path d v r h =
    let p = ok_after (list_at path d) (λ ds. three_of path ds >>= λ parts. Ok (value.Vec3 parts)) v h in
    let w = list_was path d p.0 p.1 r in
    let q = ok_after (three_of path p.0) (λ parts. Ok (value.Vec3 parts)) v p.2 in
    so shape.Vec3 d (value.Vec3 q.0) v (ok_is (value.Vec3 q.0) v q.2) (w.0 ∙ ap array_of (three_exact path p.0 q.0 w.1 q.1)) refl
value_was shape.Text path d v r h =
    let p = ok_after (string_at path d) (λ bytes. Ok (value.Text bytes)) v h in
    so shape.Text d (value.Text p.0) v (ok_is (value.Text p.0) v p.2) (string_exact path d p.0 r p.1) refl
value_was shape.Link path d v r h =
    let p = ok_after (entity_at path d) (λ e. Ok (value.Link e)) v h in
    so shape.Link d (value.Link p.0) v (ok_is (value.Link p.0) v p.2) (entity_exact path d p.0 r p.1) refl

-- a good name
pub name_exact : IsExact name_at string
name_exact path d name r h =
    let p = ok_after (string_at path d) (λ name. if_good path (is_good_name name) name) name h in
    string_exact path d p.0 r p.1 ∙ ap string (good_was path (is_good_name p.0) p.0 name p.2).1

-- ---- cells

-- three values that are those of a cell of a shape
pub record IsCellOf (s : Shape) (v a c : Data) (cell : Cell) : Type 0 where
  pub value : v ≡ value_text cell.value
  pub added : a ≡ count_text cell.added
  pub changed : c ≡ count_text cell.changed
  pub shape : s ≡ shape_of_value cell.value

pub cell_was : (s : Shape) (path : List ℕ) (i : ℕ) (v a c : Data) (cell : Cell) → IsRead v → IsRead a → IsRead c → cell_from s path i v a c ≡ Ok cell
    → IsCellOf s v a c cell
cell_was s path i v a c cell rv ra rc h =
    let p = ok_after (value_at s (place_in path i) v)
    (λ value. tick_at (place_in path (i + 1)) a >>= λ added. tick_at (place_in path (i + 2)) c
    >>= λ changed. Ok (record { value = value; added = added; changed = changed })) cell h in
    let q = ok_after (tick_at (place_in path (i + 1)) a) (λ added. tick_at (place_in path (i + 2)) c
    >>= λ changed. Ok (record { value = p.0; added = added; changed = changed })) cell p.2 in
    let t = ok_after (tick_at (place_in path (i + 2)) c) (λ changed. Ok (record { value = p.0; added = q.0; changed = changed })) cell q.2 in
    let made : Cell = record { value = p.0; added = q.0; changed = t.0 } in
    let own = value_was s (place_in path i) v p.0 rv p.1 in
    subst (λ x. IsCellOf s v a c x) (ok_is made cell t.2) (record {
      value = own.text;
      added = tick_exact (place_in path (i + 1)) a q.0 ra q.1;
      changed = tick_exact (place_in path (i + 2)) c t.0 rc t.1;
      shape = own.shape;
    })

cell_list : (s : Shape) (path : List ℕ) (ds : List Data) (cell : Cell) → AllByRecursion IsRead ds → cell_parts s path ds ≡ Ok cell
    → array_of ds ≡ cell_text cell
cell_list s path [] cell r h = absurd (let k : Err (BadField path) ≡ Ok cell = h in cc)
cell_list s path (v ∷ []) cell r h = absurd (let k : Err (BadField path) ≡ Ok cell = h in cc)
cell_list s path (v ∷ a ∷ []) cell r h = absurd (let k : Err (BadField path) ≡ Ok cell = h in cc)
cell_list s path (v ∷ a ∷ c ∷ []) cell r h =
    let w = cell_was s path 0 v a c cell r.0 r.1.0 r.1.1.0 h in
    λ i. array_of (w.value i ∷ w.added i ∷ w.changed i ∷ [])
cell_list s path (v ∷ a ∷ c ∷ d ∷ ds) cell r h = absurd (let k : Err (BadField path) ≡ Ok cell = h in cc)

pub cell_exact : (s : Shape) → IsExact (cell_at s) cell_text
cell_exact s path d cell r h =
    let p = ok_after (list_at path d) (cell_parts s path) cell h in
    let w = list_was path d p.0 p.1 r in
    w.0 ∙ cell_list s path p.0 cell w.1 p.2

resource_cell_list : (path : List ℕ) (ds : List Data) (cell : Cell) → AllByRecursion IsRead ds → resource_cell_parts path ds ≡ Ok cell
    → array_of ds ≡ resource_cell_text cell
resource_cell_list path [] cell r h = absurd (let k : Err (BadField path) ≡ Ok cell = h in cc)
resource_cell_list path (s ∷ []) cell r h = absurd (let k : Err (BadField path) ≡ Ok cell = h in cc)
resource_cell_list path (s ∷ v ∷ []) cell r h = absurd (let k : Err (BadField path) ≡ Ok cell = h in cc)
resource_cell_list path (s ∷ v ∷ a ∷ []) cell r h = absurd (let k : Err (BadField path) ≡ Ok cell = h in cc)
resource_cell_list path (s ∷ v ∷ a ∷ c ∷ []) cell r h =
    let p = ok_after (shape_at (place_in path 0) s) (λ shape. cell_from shape path 1 v a c) cell h in
    let w = cell_was p.0 path 1 v a c cell r.1.0 r.1.1.0 r.1.1.1.0 p.2 in
    let named : s ≡ shape_text (shape_of_value cell.value) = shape_exact (place_in path 0) s p.0 r.0 p.1 ∙ ap shape_text w.shape in
    λ i. array_of (named i ∷ w.value i ∷ w.added i ∷ w.changed i ∷ [])
resource_cell_list path (s ∷ v ∷ a ∷ c ∷ d ∷ ds) cell r h = absurd (let k : Err (BadField path) ≡ Ok cell = h in cc)

pub resource_cell_exact : IsExact resource_cell_at resource_cell_text
resource_cell_exact path d cell r h =
    let p = ok_after (list_at path d) (resource_cell_parts path) cell h in
    let w = list_was path d p.0 p.1 r in
    w.0 ∙ resource_cell_list path p.0 cell w.1 p.2
