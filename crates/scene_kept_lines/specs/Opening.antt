-- Whether the opening of a store was long.
use Rattle.std.specs.Prelude.{ℕ, Bool, false, ◌||◌, Option, Some, None, nat_le}
use Rattle.scene_kept_lines.specs.declared.opening.Opening.{Opening}
use Rattle.scene_kept_lines.specs.declared.opening.OpeningLimits.{OpeningLimits}

-- whether it took so many milliseconds
abbrev pub took : Option ℕ → ℕ → Bool
took (Some millis) most = nat_le most millis
took None most = false

-- many lines were played, or it took long
abbrev pub is_long : Opening → OpeningLimits → Bool
is_long opening limits = nat_le limits.lines opening.lines || took opening.millis limits.millis
