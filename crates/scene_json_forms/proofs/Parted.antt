-- Lists of a length that isn't wanted.
use Rattle.std.proofs.Common.{◌≡◌, ◌≢◌, ℕ, List, [], ◌∷◌, length, Err, refl}
use Rattle.serde_json.specs.Data.{Data}
use Rattle.scene_kinds.specs.declared.shape.Shape.{Shape}
use Rattle.scene_json_forms.specs.declared.fault.FileFault.TheVariants.{BadField}
use Rattle.scene_json_forms.specs.Walk.{three_of, cell_parts, resource_cell_parts}

pub not_three : (path : List ℕ) (vs : List Data) → length vs ≢ 3 → three_of path vs ≡ Err (BadField path)
not_three path [] h = refl
not_three path (a ∷ []) h = refl
not_three path (a ∷ b ∷ []) h = refl
not_three path (a ∷ b ∷ c ∷ []) h = absurd (h refl)
not_three path (a ∷ b ∷ c ∷ d ∷ vs) h = refl

pub no_cell : (shape : Shape) (path : List ℕ) (vs : List Data) → length vs ≢ 3 → cell_parts shape path vs ≡ Err (BadField path)
no_cell shape path [] h = refl
no_cell shape path (a ∷ []) h = refl
no_cell shape path (a ∷ b ∷ []) h = refl
no_cell shape path (a ∷ b ∷ c ∷ []) h = absurd (h refl)
no_cell shape path (a ∷ b ∷ c ∷ d ∷ vs) h = refl

pub no_resource_cell : (path : List ℕ) (vs : List Data) → length vs ≢ 4 → resource_cell_parts path vs ≡ Err (BadField path)
no_resource_cell path [] h = refl
no_resource_cell path (a ∷ []) h = refl
no_resource_cell path (a ∷ b ∷ []) h = refl
no_resource_cell path (a ∷ b ∷ c ∷ []) h = refl
no_resource_cell path (a ∷ b ∷ c ∷ d ∷ []) h = absurd (h refl)
no_resource_cell path (a ∷ b ∷ c ∷ d ∷ e ∷ vs) h = refl

pub ruleset parted = (not_three, no_cell, no_resource_cell)
