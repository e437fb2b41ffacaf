use Rattle.std.proofs.Common.{◌∙◌, string_bytes}
use Rattle.scene_journal.proofs.Listed.{name_listed, ok_more}
use Rattle.scene_journal.proofs.newest.NewestCells.add_name.Goals as goal

pub returns-clause-listed : goal.returns-clause-listed
returns-clause-listed c =
    ok_more c.add_resource.result
    (name_listed c.add_resource.new.self c.args.resources.now.cells c.get-cell.result c.from.result c.as_str.result.now (string_bytes c.args.name.now)
    (c.from.ensures ∙ c.in_ok-clone.ensures.cases) c.as_str.ensures.value c.get-cell.ensures.cell)
    c.add_resource.ensures.listed
