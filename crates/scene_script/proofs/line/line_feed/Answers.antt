use Rattle.std.specs.Prelude.{◌==◌}
use Rattle.scene_script.proofs.Places.{first_place}
use Rattle.scene_script.proofs.line.line_feed.Goals as goal

pub returns : goal.returns
returns c = first_place (λ b. b == 10) c.args.bytes.now c.memchr.result c.memchr.ensures
