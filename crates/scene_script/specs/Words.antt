-- The words of a line.
use Rattle.std.specs.Prelude.{ℕ, ◌==◌, List, [], ◌∷◌, Option, Some, None, nat_lt, length, filter, if◌then◌else◌}
use Rattle.std.specs.List.{slice_split}
use Rattle.scene_kinds.specs.EntityReading.{cut_at}

-- what stands between the spaces (32), without the empty parts
abbrev pub words_of : List ℕ → List (List ℕ)
words_of line = filter (λ w. nat_lt 0 (length w)) (slice_split (λ b. b == 32) line)

-- a text without the spaces (32) that it begins with
abbrev pub without_spaces : List ℕ → List ℕ
without_spaces [] = []
without_spaces (b ∷ bs) = if b == 32 then without_spaces bs else b ∷ bs

-- what a cut at a space leaves behind it, without the spaces there; nothing where there is no space
abbrev pub behind_space : Option (List ℕ × List ℕ) → List ℕ
behind_space None = []
behind_space (Some p) = without_spaces p.1

-- what stands behind the first word of a line and the spaces there, as it stands
abbrev pub behind_first : List ℕ → List ℕ
behind_first line = behind_space (cut_at 32 (without_spaces line))
