-- Values and cells that were written are read again.
use Rattle.std.proofs.Common.{◌≡◌, ℕ, ◌+◌, ℤ, pos, negsuc, true, false, cond, List, [], ◌∷◌, length, refl, ap, arith, Some, None, Ok, nat_lt, nat_eq}
use Rattle.std.specs.Prelude.{map as each}
use Rattle.std.specs.List.{list_all, AllByRecursion}
use Rattle.std.proofs.lemmas.Bool.{ltb-true, eqb-true}
use Rattle.scene_kinds.specs.declared.entity.Entity.{Entity}
use Rattle.scene_kinds.specs.declared.cell.Cell.{Cell}
use Rattle.scene_kinds.specs.declared.shape.Shape.{Shape}
use Rattle.scene_kinds.specs.declared.shape.Shape.TheVariants as shape
use Rattle.scene_kinds.specs.declared.value.Value.{Value}
use Rattle.scene_kinds.specs.declared.value.Value.TheVariants as value
use Rattle.scene_kinds.specs.Entity.{entity_text}
use Rattle.scene_kinds.specs.Ranges.{is_i64, are_three, is_entity, is_in_range}
use Rattle.scene_kinds.specs.Shape.{shape_of_value}
use Rattle.scene_kinds.proofs.EntityReading.{entity_in-text}
use Rattle.scene_json_forms.specs.Reading.{◌>>=◌, field, elements, place_in}
use Rattle.scene_json_forms.specs.Text.{items_of, int_text, count_text, entity_json, value_text, shape_text, cell_text, resource_cell_text}
use Rattle.scene_json_forms.specs.Walk.{int_at, tick_at, entity_at, shape_at, three_of, value_at, cell_from, cell_at, resource_cell_at}
use Rattle.scene_json_forms.proofs.ListsBack.{ReadsBack, after, each_back}
use Rattle.scene_json_forms.proofs.GoodSteps.{both_pass}

pub entity_back : (e : Entity) → is_entity e ≡ true → ReadsBack entity_at entity_json e
entity_back e h path =
    let k = both_pass (nat_lt e.index 4294967296) (nat_lt e.generation 4294967296) h in
    ap (field path) (entity_in-text (entity_text e.index e.generation) e.index e.generation (ltb-true e.index 4294967296 k.0)
    (ltb-true e.generation 4294967296 k.1) refl)

pub int_back : (n : ℤ) → is_i64 n ≡ true → ReadsBack int_at int_text n
int_back (pos n) h path = ap (λ b. field path (cond b (Some (pos n)) None)) h
int_back (negsuc n) h path = refl

ints_back : (parts : List ℤ) → list_all is_i64 parts ≡ true → AllByRecursion (ReadsBack int_at int_text) parts
ints_back [] h = tt
ints_back (n ∷ ns) h = let k = both_pass (is_i64 n) (list_all is_i64 ns) h in (int_back n k.0, ints_back ns k.1)

three_back : (parts : List ℤ) → are_three parts ≡ true → (path : List ℕ) → three_of path (elements (items_of (each int_text parts))) ≡ Ok parts
three_back [] h path = absurd (let k : false ≡ true = h in cc)
three_back (x ∷ []) h path = absurd (let k : false ≡ true = h in cc)
three_back (x ∷ y ∷ []) h path = absurd (let k : false ≡ true = h in cc)
three_back (x ∷ y ∷ z ∷ []) h path = each_back int_at int_text path 0 (x ∷ y ∷ z ∷ [])
    (ints_back (x ∷ y ∷ z ∷ []) (both_pass (nat_eq 3 3) (list_all is_i64 (x ∷ y ∷ z ∷ [])) h).1)
three_back (x ∷ y ∷ z ∷ w ∷ ws) h path =
    let k = both_pass (nat_eq (length (x ∷ y ∷ z ∷ w ∷ ws)) 3) (list_all is_i64 (x ∷ y ∷ z ∷ w ∷ ws)) h in
    let e = eqb-true (length (x ∷ y ∷ z ∷ w ∷ ws)) 3 k.0 in absurd (omega (arith, e))

pub value_back : (v : Value) → is_in_range v ≡ true → ReadsBack (value_at (shape_of_value v)) value_text v
value_back value.Tag h path = refl
value_back (value.Int n) h path = after (int_at path (int_text n)) n (λ m. Ok (value.Int m)) (Ok (value.Int n)) (int_back n h path) refl
value_back (value.Vec3 parts) h path =
    after (three_of path (elements (items_of (each int_text parts)))) parts (λ v. Ok (value.Vec3 v)) (Ok (value.Vec3 parts))
    (three_back parts h path) refl
value_back (value.Text bytes) h path = refl
value_back (value.Link e) h path = after (entity_at path (entity_json e)) e (λ x. Ok (value.Link x)) (Ok (value.Link e)) (entity_back e h path) refl

pub shape_back : (s : Shape) → ReadsBack shape_at shape_text s
shape_back shape.Tag path = refl
shape_back shape.Int path = refl
shape_back shape.Vec3 path = refl
shape_back shape.Text path = refl
shape_back shape.Link path = refl

pub cell_from_back : (c : Cell) → is_in_range c.value ≡ true → (path : List ℕ) (i : ℕ)
    → cell_from (shape_of_value c.value) path i (value_text c.value) (count_text c.added) (count_text c.changed) ≡ Ok c
cell_from_back c h path i =
    after (value_at (shape_of_value c.value) (place_in path i) (value_text c.value)) c.value
    (λ v. tick_at (place_in path (i + 1)) (count_text c.added) >>= λ added. tick_at (place_in path (i + 2)) (count_text c.changed)
    >>= λ changed. Ok (record { value = v; added = added; changed = changed }))
    (Ok c) (value_back c.value h (place_in path i)) refl

pub cell_back : (c : Cell) → is_in_range c.value ≡ true → ReadsBack (cell_at (shape_of_value c.value)) cell_text c
cell_back c h path = cell_from_back c h path 0

pub resource_cell_back : (c : Cell) → is_in_range c.value ≡ true → ReadsBack resource_cell_at resource_cell_text c
resource_cell_back c h path =
    after (shape_at (place_in path 0) (shape_text (shape_of_value c.value))) (shape_of_value c.value)
    (λ s. cell_from s path 1 (value_text c.value) (count_text c.added) (count_text c.changed)) (Ok c)
    (shape_back (shape_of_value c.value) (place_in path 0)) (cell_from_back c h path 1)
