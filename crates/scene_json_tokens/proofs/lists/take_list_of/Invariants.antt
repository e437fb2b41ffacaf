use Rattle.std.proofs.Common.{length, map as each}
use Rattle.scene_json_tokens.proofs.ListsTaken.{AreTaken}
use Rattle.scene_json_tokens.proofs.lists.take_list_of.Given as goal

abbrev pub invariant-items : goal.invariant-items
invariant-items g l =
    AreTaken (g.F.Form.word l.form) g.F.Taken.levels l.initial.reader (each g.F.Form.meant l.items.items) (length l.items.items) l.reader

abbrev pub decreases-items : goal.decreases-items
decreases-items g l = length l.reader
