-- What is wrong with a bad command line, by its second word.
use Rattle.std.proofs.Common.{◌≡◌, ◌<◌, List, [], ◌∷◌, length, map, get_or, ap, arith}
use Rattle.clap.specs.Words.{Text}
use Rattle.scene_command_line.specs.Mistakes.{mistake_in, mistake_of}

pub by_second : {X : Type 0} (f : X → Text) (words : List X) (word : X) → 1 < length words → word ≡ get_or words 1 word
    → mistake_of (f word) ≡ mistake_in (map f words)
by_second f [] word long is = absurd (omega (arith, long))
by_second f (x ∷ []) word long is = absurd (omega (arith, long))
by_second f (x ∷ y ∷ rest) word long is = ap (λ w. mistake_of (f w)) is
