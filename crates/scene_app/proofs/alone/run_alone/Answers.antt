use Rattle.std.proofs.Common.{◌≡◌, length, subst}
use Rattle.std.specs.Prelude.{take}
use Rattle.scene_streams.specs.Source.{reader_of}
use Rattle.scene_interpreter.specs.Printed.{bad_lines, owner_after}
use Rattle.scene_app.proofs.Ends.{alone_ends_so}
use Rattle.scene_app.proofs.alone.run_alone.Goals as goal

pub returns-clause-ends : goal.returns-clause-ends
returns-clause-ends g c =
    let end = c.in_ok-out.end in let is = c.as_slice.ensures.value in let played = c.in_ok-out.ensures in
    alone_ends_so (g.R.Read.remaining (reader_of c.args.source.now)) c.in_ok-script.script.items end c.in_ok-script.ensures.all
    (subst (λ b. end.bad.count ≡ length (bad_lines b)) is played.count)
    (subst (λ b. end.bad.first.items ≡ take 10 (bad_lines b)) is played.first)
    (subst (λ b. end.owner ≡ owner_after b) is played.owner)
