-- Lists of a length that isn't wanted.
use Rattle.std.proofs.Common.{◌≡◌, ◌≢◌, ℕ, List, [], ◌∷◌, length, Err, refl}
use Rattle.serde_json.specs.Data.{Data}
use Rattle.scene_kinds.specs.Schema.{Kinds}
use Rattle.scene_json_forms.specs.declared.fault.FileFault.TheVariants.{BadField}
use Rattle.scene_file_records.specs.Walk.{kcell_parts, parent_parts}

pub no_kcell : (schema : Kinds) (path : List ℕ) (vs : List Data) → length vs ≢ 4 → kcell_parts schema path vs ≡ Err (BadField path)
no_kcell schema path [] h = refl
no_kcell schema path (a ∷ []) h = refl
no_kcell schema path (a ∷ b ∷ []) h = refl
no_kcell schema path (a ∷ b ∷ c ∷ []) h = refl
no_kcell schema path (a ∷ b ∷ c ∷ d ∷ []) h = absurd (h refl)
no_kcell schema path (a ∷ b ∷ c ∷ d ∷ e ∷ vs) h = refl

pub no_parent : (path : List ℕ) (vs : List Data) → length vs ≢ 2 → parent_parts path vs ≡ Err (BadField path)
no_parent path [] h = refl
no_parent path (a ∷ []) h = refl
no_parent path (a ∷ b ∷ []) h = absurd (h refl)
no_parent path (a ∷ b ∷ c ∷ vs) h = refl

pub ruleset parted = (no_kcell, no_parent)
