use Rattle.std.proofs.Common.{length, map as each}
use Rattle.scene_json.specs.View.{views}
use Rattle.scene_json_forms.specs.Paths.{path_bytes}
use Rattle.scene_json_forms.specs.Reading.{each_at}
use Rattle.scene_json_forms.proofs.Lists.{AreRead}
use Rattle.scene_json_forms.proofs.form.each_at.Given as goal

abbrev pub invariant-parts : goal.invariant-parts
invariant-parts g l =
    AreRead (g.F.Form.word l.form) (path_bytes l.path) (each_at (g.F.Form.word l.form) (path_bytes l.path) 0 (views l.initial.parts))
    (each g.F.Form.meant l.items.items) (length l.items.items) (views l.parts)

abbrev pub decreases-parts : goal.decreases-parts
decreases-parts g l = length (views l.parts)
