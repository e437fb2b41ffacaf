-- Names, and a schema as its list of names with shapes.
use Rattle.std.specs.Prelude.{ℕ, List, [], ◌∷◌, ◌++◌, Bool, false, not, ◌&&◌, ◌||◌, ◌≡◌, ◌≤◌, true, All, if◌then◌else◌, Option, Some, None, Ok, is_some, nat_eq, nat_lt, map, length, slice_get, string_bytes, String, option_map}
use Rattle.std.specs.List.{list_all, position_from}
use Rattle.std.specs.Str.{bytes_eq}
use Rattle.std.specs.Char.{is_ascii_alphabetic, is_ascii_alphanumeric}
use Rattle.std.specs.declared.alloc.Global.{Global}
use Rattle.scene_kinds.specs.declared.shape.Shape.{Shape}
use Rattle.scene_kinds.specs.declared.value.Value.{Value}
use Rattle.scene_kinds.specs.declared.fault.Fault.TheVariants.{BadName, KindTaken, KindsFull}
use Rattle.scene_kinds.specs.Answers.{Outcome, refuse}
use Rattle.scene_kinds.specs.Ranges.{is_in_range}
use Rattle.scene_kinds.specs.Shape.{shape_of_value, same_shape}

-- a letter, a digit or _ (95)
abbrev pub is_name_byte : ℕ → Bool
is_name_byte b = is_ascii_alphanumeric b || nat_eq b 95

-- a letter, and then at most 31 letters, digits and _
abbrev pub is_good_name : List ℕ → Bool
is_good_name [] = false
is_good_name (b ∷ bs) = is_ascii_alphabetic b && (nat_lt (length bs) 32 && list_all is_name_byte bs)

-- the kinds in the order of their numbers, each a name with a shape
abbrev pub Kinds : Type 0
Kinds = List (List ℕ × Shape)

-- a map's entries as kinds
abbrev pub named : List (String Global × Shape) → Kinds
named entries = map (λ e. (string_bytes e.0, e.1)) entries

-- the number of the kind with a name
abbrev pub number_of : Kinds → List ℕ → Option ℕ
number_of kinds name = position_from (λ k. bytes_eq name k.0) 0 kinds

-- the shape of a kind, if it is there
abbrev pub shape_of : Kinds → ℕ → Option Shape
shape_of kinds kind = option_map (λ k. k.1) (slice_get kinds kind)

-- the name of a kind, if it is there
abbrev pub name_of : Kinds → ℕ → Option (List ℕ)
name_of kinds kind = option_map (λ k. k.0) (slice_get kinds kind)

-- whether a value is one of a shape's values, where there is a shape
abbrev pub has_shape : Value → Option Shape → Bool
has_shape value None = false
has_shape value (Some shape) = is_in_range value && same_shape (shape_of_value value) shape

-- whether a value has a kind's shape; nothing fits a kind that isn't there
abbrev pub fits_kind : Kinds → Value → ℕ → Bool
fits_kind kinds value kind = has_shape value (shape_of kinds kind)

-- what always holds of a schema: it has at most 64 kinds, and their names are good and distinct, so that each is found
-- by its name
pub record IsSchema (kinds : Kinds) : Type 0 where
  pub few : length kinds ≤ 64
  pub good : All (λ k. is_good_name k.0 ≡ true) kinds
  pub found : (kind : ℕ) (k : List ℕ × Shape) → slice_get kinds kind ≡ Some k → number_of kinds k.0 ≡ Some kind

-- a new kind goes last, and its number is its place
abbrev pub with_kind : Kinds → List ℕ → Shape → Outcome ℕ Kinds
with_kind kinds name shape =
    if not (is_good_name name) then refuse BadName
    else if is_some (number_of kinds name) then refuse KindTaken
    else if nat_lt (length kinds) 64 then Ok (length kinds, kinds ++ (name, shape) ∷ [])
    else refuse KindsFull
