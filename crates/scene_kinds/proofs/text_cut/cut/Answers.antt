use Rattle.std.proofs.Common.{◌≡◌, rules, sym, Some, None}
use Rattle.std.specs.Prelude.{◌==◌, position}
use Rattle.std.proofs.lemmas.Str.{IsCharBoundary-before_ascii, IsCharBoundary-after_ascii}
use Rattle.scene_kinds.proofs.Cuts.{cut_at-place, cut_at-nowhere, mark_there}
use Rattle.scene_kinds.proofs.text_cut.cut.Goals as goal

pub range-requires-clause-end_boundary : goal.range-requires-clause-end_boundary
range-requires-clause-end_boundary c =
    let e : position (λ b. b == c.args.mark) c.args.text.now ≡ Some c.in-Some.at = search rules in
    let t = mark_there c.args.mark c.in-Some.at c.args.text.now c.requires e in
    IsCharBoundary-before_ascii c.args.text.now c.in-Some.at t.0 t.1

pub range_from-requires : goal.range_from-requires
range_from-requires c = λ _.
    let e : position (λ b. b == c.args.mark) c.args.text.now ≡ Some c.in-Some.at = search rules in
    let t = mark_there c.args.mark c.in-Some.at c.args.text.now c.requires e in
    IsCharBoundary-after_ascii c.args.text.now c.in-Some.at (search rules) t.0 t.1

pub returns-in-Some : goal.returns-in-Some
returns-in-Some c =
    let e : position (λ b. b == c.args.mark) c.args.text.now ≡ Some c.in-Some.at = search rules in
    search (rules, cut_at-place c.args.mark c.in-Some.at c.args.text.now e)

pub returns-in-None : goal.returns-in-None
returns-in-None c =
    let e : position (λ b. b == c.args.mark) c.args.text.now ≡ None = search rules in
    sym (cut_at-nowhere c.args.mark c.args.text.now e)
