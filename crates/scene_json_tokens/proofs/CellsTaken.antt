-- Values and cells that are taken from the tokens.
use Rattle.std.proofs.Common.{◌≡◌, ℕ, ◌+◌, ℤ, true, List, [], ◌∷◌, IfSome, Option, Some, None, Ok, refl, sym, ap, subst, arith}
use Rattle.json.specs.Token.{Token}
use Rattle.json.specs.Json.{after_end_array}
use Rattle.serde_json.specs.Data.{Data, array, boolean, string, no_items}
use Rattle.scene_kinds.specs.declared.entity.Entity.{Entity}
use Rattle.scene_kinds.specs.declared.shape.Shape.{Shape}
use Rattle.scene_kinds.specs.declared.shape.Shape.TheVariants as shape
use Rattle.scene_kinds.specs.declared.value.Value.{Value}
use Rattle.scene_kinds.specs.declared.value.Value.TheVariants as value
use Rattle.scene_kinds.specs.EntityReading.{entity_in}
use Rattle.scene_json.specs.NodeData.{items_before}
use Rattle.scene_json_forms.specs.Reading.{◌>>=◌, field, place_in}
use Rattle.scene_json_forms.specs.Walk.{cell_at, entity_at, int_at, tick_at, value_at}
use Rattle.scene_json_tokens.specs.Taken.{Begins, IsTaken, Says}
use Rattle.scene_json_tokens.proofs.Grammar.{begins_within, no_elements, one_more, string_begins, truth_begins}
use Rattle.scene_json_tokens.proofs.ListsTaken.{list_from}

-- ---- three elements of a list

-- a list of three elements, each of which was taken
pub three_begin : (levels : ℕ) (old ts now next after end : List Token) (x y z : Data) → old ≡ Token.begin_array ∷ ts → Begins levels ts x now
    → Begins levels now y next → Begins levels next z after → after_end_array after ≡ Some end
    → Begins (levels + 1) old (array (items_before (x ∷ y ∷ z ∷ []) no_items)) end
three_begin levels old ts now next after end x y z e a b c over =
    let one = one_more levels ts ts now [] x (no_elements levels ts) a in
    let two = one_more levels ts now next (x ∷ []) y one b in
    let all = one_more levels ts next after (x ∷ y ∷ []) z two c in
    list_from levels old ts after end (x ∷ y ∷ z ∷ []) e all over

-- ---- values

pub entity_taken : (old new : List Token) (s : List ℕ) (e : Entity) → old ≡ Token.string s ∷ new → entity_in s ≡ Some e → IsTaken entity_at 0 old new e
entity_taken old new s e is said = (
  string s,
  subst (λ (l : List Token). Begins 0 l (string s) new) (sym is) (string_begins s new),
  λ path. ap (field path) said,
)

pub tag_taken : (old new : List Token) → old ≡ Token.boolean true ∷ new → IsTaken (value_at shape.Tag) 1 old new value.Tag
tag_taken old new is = (
  boolean true,
  begins_within 0 1 old new (boolean true) (omega arith)
      (subst (λ (l : List Token). Begins 0 l (boolean true) new) (sym is) (truth_begins true new)),
  λ path. refl,
)

pub text_taken : (old new : List Token) (s : List ℕ) → old ≡ Token.string s ∷ new → IsTaken (value_at shape.Text) 1 old new (value.Text s)
text_taken old new s is = (
  string s,
  begins_within 0 1 old new (string s) (omega arith) (subst (λ (l : List Token). Begins 0 l (string s) new) (sym is) (string_begins s new)),
  λ path. refl,
)

pub int_value_taken : (old new : List Token) (z : ℤ) → IsTaken int_at 0 old new z → IsTaken (value_at shape.Int) 1 old new (value.Int z)
int_value_taken old new z h = (
  h.0,
  begins_within 0 1 old new h.0 (omega arith) h.1,
  λ path. ap (λ r. r >>= λ n. Ok (value.Int n)) (h.2 path),
)

pub link_taken : (old new : List Token) (e : Entity) → IsTaken entity_at 0 old new e → IsTaken (value_at shape.Link) 1 old new (value.Link e)
link_taken old new e h = (
  h.0,
  begins_within 0 1 old new h.0 (omega arith) h.1,
  λ path. ap (λ r. r >>= λ n. Ok (value.Link n)) (h.2 path),
)

three_said : (x y z : Data) (a b c : ℤ) → Says int_at x a → Says int_at y b → Says int_at z c
    → Says (value_at shape.Vec3) (array (items_before (x ∷ y ∷ z ∷ []) no_items)) (value.Vec3 (a ∷ b ∷ c ∷ []))
three_said x y z a b c f g h path = λ i.
    (f (place_in path 0) i >>= λ a. (g (place_in path 1) i >>= λ b. (h (place_in path 2) i >>= λ c. Ok (c ∷ [])) >>= λ rest. Ok (b ∷ rest))
    >>= λ rest. Ok (a ∷ rest)) >>= λ v. Ok (value.Vec3 v)

pub three_taken : (old ts now next after end : List Token) (a b c : ℤ) → old ≡ Token.begin_array ∷ ts → IsTaken int_at 0 ts now a
    → IsTaken int_at 0 now next b → IsTaken int_at 0 next after c → after_end_array after ≡ Some end
    → IsTaken (value_at shape.Vec3) 1 old end (value.Vec3 (a ∷ b ∷ c ∷ []))
three_taken old ts now next after end a b c e f g h over = (
  array (items_before (f.0 ∷ g.0 ∷ h.0 ∷ []) no_items),
  three_begin 0 old ts now next after end f.0 g.0 h.0 e f.1 g.1 h.1 over,
  three_said f.0 g.0 h.0 a b c f.2 g.2 h.2,
)

-- ---- cells

cell_said : (s : Shape) (v a c : Data) (value : Value) (added changed : ℕ) → Says (value_at s) v value → Says tick_at a added → Says tick_at c changed
    → Says (cell_at s) (array (items_before (v ∷ a ∷ c ∷ []) no_items)) (record { value = value; added = added; changed = changed })
cell_said s v a c value added changed f g h path = λ i.
    f (place_in path 0) i >>= λ value. g (place_in path 1) i >>= λ added. h (place_in path 2) i
    >>= λ changed. Ok (record { value = value; added = added; changed = changed })

pub cell_taken : (s : Shape) (old ts now next after end : List Token) (value : Value) (added changed : ℕ) → old ≡ Token.begin_array ∷ ts
    → IsTaken (value_at s) 1 ts now value → IsTaken tick_at 0 now next added → IsTaken tick_at 0 next after changed → after_end_array after ≡ Some end
    → IsTaken (cell_at s) 2 old end (record { value = value; added = added; changed = changed })
cell_taken s old ts now next after end value added changed e f g h over = (
  array (items_before (f.0 ∷ g.0 ∷ h.0 ∷ []) no_items),
  three_begin 1 old ts now next after end f.0 g.0 h.0 e f.1 (begins_within 0 1 now next g.0 (omega arith) g.1)
      (begins_within 0 1 next after h.0 (omega arith) h.1) over,
  cell_said s f.0 g.0 h.0 value added changed f.2 g.2 h.2,
)

-- what an option is leads to what holds of its item
pub if_said : {A : Type 0} {Q : A → Type 0} (o : Option A) → ((a : A) → o ≡ Some a → Q a) → IfSome o Q
if_said None f = tt
if_said (Some a) f = f a refl
