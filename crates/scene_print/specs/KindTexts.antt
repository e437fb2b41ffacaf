-- What a cell of a row begins with, and the texts of it that are kept. How a world prints doesn't rest on these words.
use Rattle.std.specs.Prelude.{ℕ, List, [], ◌∷◌, ◌++◌, Some, codes, slice_get, string_bytes, ◌≡◌}
use Rattle.scene_kinds.specs.declared.value.Value.{Value}
use Rattle.scene_kinds.specs.declared.value.Value.TheVariants as value
use Rattle.scene_kinds.specs.Schema.{Kinds}
use Rattle.scene_print.specs.Printed.{kind_text}
use Rattle.scene_print.specs.declared.kind_texts.KindText.{KindText}

-- what stands between a name and a value: nothing for a tag, else =
abbrev pub sign_text : Value → List ℕ
sign_text value.Tag = []
sign_text v = codes "="

-- what a cell of a kind begins with: a space (32) and the kind's name, and then = where a value follows
abbrev pub start_text : Kinds → ℕ → Value → List ℕ
start_text kinds kind v = 32 ∷ (kind_text kinds kind ++ sign_text v)

-- the two texts with which cells of a kind begin
pub record IsTextOf (kinds : Kinds) (kind : ℕ) (text : KindText) : Type 0 where
  pub bare : string_bytes text.bare ≡ 32 ∷ kind_text kinds kind
  pub assigned : string_bytes text.assigned ≡ 32 ∷ (kind_text kinds kind ++ codes "=")

-- each text is that of the kind whose number is its place
abbrev pub AreTextsOf : Kinds → List KindText → Type 0
AreTextsOf kinds texts = (kind : ℕ) (text : KindText) → slice_get texts kind ≡ Some text → IsTextOf kinds kind text
