use Rattle.std.proofs.Common.{length, ◌-◌, None, slice_get, map as each}
use Rattle.scene_json.specs.View.{views}
use Rattle.scene_json_forms.specs.Paths.{path_bytes}
use Rattle.scene_json_forms.specs.Reading.{rising_at}
use Rattle.scene_json_forms.proofs.Lists.{AreRisen}
use Rattle.scene_json_forms.proofs.rising.rising_at.Given as goal

abbrev pub invariant-parts : goal.invariant-parts
invariant-parts g l =
    AreRisen (g.F.Form.word l.form) (path_bytes l.path) g.F.Form.follows
    (rising_at (g.F.Form.word l.form) g.F.Form.follows (path_bytes l.path) 0 None (views l.initial.parts))
    (each g.F.Form.meant l.items.items) (length l.items.items) (slice_get (each g.F.Form.meant l.items.items) (length l.items.items - 1))
    (views l.parts)

abbrev pub decreases-parts : goal.decreases-parts
decreases-parts g l = length (views l.parts)
