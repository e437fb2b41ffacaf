use Rattle.std.proofs.Common.{◌≢◌, ℕ, List, ◌∷◌, lit<, None, ◌∙◌}
use Rattle.std.proofs.lemmas.Str.Pattern.{strip_prefix_char}
use Rattle.scene_script.proofs.WordLaws.{spaces_cut}
use Rattle.scene_script.proofs.word.without_spaces.Goals as goal

pub returns : goal.returns
returns c =
    let none = c.in_default.ensures.cases in
    let ends : (rest : List ℕ) → c.spaces.rest.now ≢ 32 ∷ rest = strip_prefix_char 32 c.spaces.rest.now None none (lit< tt) in
    spaces_cut c.spaces.rest.now ends ∙ c.spaces.invariant.1
