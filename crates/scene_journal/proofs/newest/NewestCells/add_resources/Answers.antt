use Rattle.std.proofs.Common.{◌∙◌, ap, map, string_bytes}
use Rattle.scene_journal.proofs.Listed.{named_listed, ok_more}
use Rattle.scene_journal.proofs.newest.NewestCells.add_resources.Goals as goal

pub returns-clause-listed : goal.returns-clause-listed
returns-clause-listed c =
    ok_more c.add_names.result
    (named_listed c.add_names.new.self c.args.resources.now.cells (map string_bytes c.as_slice.result.now)
    (ap (map string_bytes) c.as_slice.ensures.value ∙ c.in_ok-names.ensures))
    c.add_names.ensures.listed
