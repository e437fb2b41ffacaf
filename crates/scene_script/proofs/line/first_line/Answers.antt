use Rattle.std.proofs.Common.{◌≡◌, ◌+◌, take, sym}
use Rattle.std.proofs.lemmas.List.{take_rest}
use Rattle.std.specs.Str.Lines.{strip_carriage_return}
use Rattle.scene_script.proofs.LineLaws.{lines_more}
use Rattle.scene_script.proofs.line.first_line.Goals as goal

pub returns-in-Some-clause-first : goal.returns-in-Some-clause-first
returns-in-Some-clause-first c =
    let more = lines_more c.args.bytes.now c.in-Some.at (sym c.in-Some.ensures) in
    let first : c.without_return.result.now ≡ strip_carriage_return (take c.in-Some.at c.args.bytes.now) = c.without_return.ensures in
    rw (first, take_rest c.args.bytes.now (c.in-Some.at + 1)) more.1
