use Rattle.std.proofs.Common.{◌≡◌, ◌++◌, [], Ok, false, rules, sym, ap, ◌∙◌}
use Rattle.scene_script.specs.Reading.{◌>>=◌}
use Rattle.scene_script.proofs.UsualLaws.{are_said, each_said}
use Rattle.scene_script.proofs.usual.cells.Goals as goal

pub returns : goal.returns
returns c =
    let kinds = c.args.schema.now in let found = c.words.cells.items in
    let none : c.words.words ≡ [] = search rules in
    let last : (each_said kinds [] >>= (λ cs. Ok (found ++ cs))) ≡ Ok c.from.result = search rules in
    let each : each_said kinds c.args.words ≡ Ok c.from.result =
    sym c.words.invariant ∙ ap (λ ws. each_said kinds ws >>= (λ cs. Ok (found ++ cs))) none ∙ last in
    are_said kinds false c.args.words c.from.result each
