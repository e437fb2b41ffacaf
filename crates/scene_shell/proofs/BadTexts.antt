-- The text of a bad request that has a path.
use Rattle.std.proofs.Common.{◌≡◌, ℕ, List, ◌++◌, refl}
use Rattle.std.specs.Prelude.{codes}
use Rattle.serde_json.proofs.OnLiterals.{serde_json_on_literals}
use Rattle.serde_json.specs.Data.{string}
use Rattle.serde_json.specs.Written.{compact_text}
use Rattle.scene_shell.specs.ShellLine.{bad_at_json}

pub bad_at_is : (words path : List ℕ) → compact_text (bad_at_json words path)
    ≡ codes "{\"answer\":\"bad\",\"reason\":" ++ (compact_text (string words) ++ (codes ",\"path\":" ++ (compact_text (string path) ++ codes "}")))
unfolding serde_json_on_literals
bad_at_is words path = refl
