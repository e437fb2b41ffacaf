-- The bytes of a path.
use Rattle.std.specs.Prelude.{ℕ, List, []}
use Rattle.scene_json_forms.specs.declared.path.Path.{Path, fold-Path}
use Rattle.scene_json_forms.specs.declared.path.Path.TheOpen.{Path-F}
use Rattle.scene_json_forms.specs.Reading.{under, place_in}

-- one step of a path, where the bytes of what is above it are there
abbrev pub path_step : Path-F (List ℕ) → List ℕ
path_step Path-F.Root = []
path_step (Path-F.Key above key) = under above.now key.now
path_step (Path-F.Item above i) = place_in above.now i

-- the bytes of a whole path, from the top down
abbrev pub path_bytes : Path → List ℕ
path_bytes = fold-Path (List ℕ) path_step
