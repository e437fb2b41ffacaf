use Rattle.std.proofs.Common.{◌-◌, length, slice_get, map as each}
use Rattle.scene_json_tokens.proofs.ListsTaken.{AreRising}
use Rattle.scene_json_tokens.proofs.lists.take_rising.Given as goal

abbrev pub invariant-items : goal.invariant-items
invariant-items g l =
    AreRising (g.F.Form.word l.form) g.F.Taken.levels l.initial.reader g.F.Form.follows (each g.F.Form.meant l.items.items) (length l.items.items)
    (slice_get (each g.F.Form.meant l.items.items) (length l.items.items - 1)) l.reader

abbrev pub decreases-items : goal.decreases-items
decreases-items g l = length l.reader
