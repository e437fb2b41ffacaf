-- Lists of a length that isn't wanted.
use Rattle.std.proofs.Common.{◌≡◌, ◌≢◌, ℕ, List, [], ◌∷◌, length, Err, refl}
use Rattle.serde_json.specs.Data.{Data}
use Rattle.scene_json_forms.specs.declared.fault.FileFault.TheVariants.{BadField}
use Rattle.scene_file.specs.Walk.{kind_parts}

pub no_kind : (path : List ℕ) (vs : List Data) → length vs ≢ 2 → kind_parts path vs ≡ Err (BadField path)
no_kind path [] h = refl
no_kind path (a ∷ []) h = refl
no_kind path (a ∷ b ∷ []) h = absurd (h refl)
no_kind path (a ∷ b ∷ c ∷ vs) h = refl

pub ruleset parted = (no_kind)
