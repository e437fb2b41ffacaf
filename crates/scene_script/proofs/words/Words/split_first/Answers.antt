use Rattle.std.proofs.Common.{◌≡◌, [], ◌∷◌, rules, sym, ap, ◌∙◌, None, Some, length, filter, nat_lt}
use Rattle.std.proofs.lemmas.List.{nil_from_length}
use Rattle.scene_kinds.specs.EntityReading.{cut_at}
use Rattle.scene_script.specs.Words.{without_spaces}
use Rattle.scene_script.proofs.WordLaws.{first_word, last_word, one_word}
use Rattle.scene_script.proofs.words.Words.split_first.Goals as goal

pub returns-then-is_empty : goal.returns-then-is_empty
returns-then-is_empty c =
    let line = c.self.inside.line.now in
    let none : without_spaces line ≡ [] = sym c.without_spaces-line.ensures ∙ nil_from_length c.without_spaces-line.result.now (search rules) in
    sym c.self.view_is ∙ last_word line (ap (cut_at 32) none) ∙ ap (λ w. filter (λ w. nat_lt 0 (length w)) (w ∷ [])) none

pub returns-in-Some : goal.returns-in-Some
returns-in-Some c =
    let line = c.self.inside.line.now in
    let is : cut_at 32 (without_spaces line) ≡ Some (c.in-Some.word.now, c.in-Some.rest.now) = ap (cut_at 32) (sym c.without_spaces-line.ensures) ∙ search rules in
    sym c.self.view_is ∙ first_word line c.in-Some.word.now c.in-Some.rest.now is

pub returns-in-None : goal.returns-in-None
returns-in-None c =
    let line = c.self.inside.line.now in
    let is : cut_at 32 (without_spaces line) ≡ None = ap (cut_at 32) (sym c.without_spaces-line.ensures) ∙ search rules in
    sym c.self.view_is ∙ last_word line is ∙ one_word (without_spaces line) (search rules) ∙ ap (λ w. w ∷ []) (sym c.without_spaces-line.ensures)
