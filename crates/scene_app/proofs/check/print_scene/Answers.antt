use Rattle.std.proofs.Common.{ap, ◌∙◌}
use Rattle.std.proofs.lemmas.Option.{IfSome_then}
use Rattle.scene_streams.specs.Source.{reader_of}
use Rattle.scene_app.specs.Checked.{is_scene}
use Rattle.scene_app.proofs.check.print_scene.Goals as goal

pub returns-clause-accepted : goal.returns-clause-accepted
returns-clause-accepted g c = IfSome_then (g.R.Read.remaining (reader_of c.args.source.now)) c.in_ok-text.ensures.all
    (λ text same. c.in_ok-out.ensures.accepted ∙ ap is_scene (c.as_slice.ensures.value ∙ same))
