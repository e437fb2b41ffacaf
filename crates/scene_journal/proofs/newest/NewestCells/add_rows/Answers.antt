use Rattle.std.proofs.Common.{◌∙◌, ap, map}
use Rattle.scene_journal.proofs.Listed.{ok_more, rows_listed}
use Rattle.scene_journal.proofs.newest.NewestCells.add_rows.Goals as goal

pub returns-clause-listed : goal.returns-clause-listed
returns-clause-listed c =
    ok_more c.add_tables.result
    (rows_listed c.add_tables.new.self c.args.world.now.world.tables (map (λ t. t.now.rows) c.as_slice.result.now)
    (ap (map (λ t. t.now.rows)) c.as_slice.ensures.value ∙ c.in_ok-tables.ensures.rows))
    c.add_tables.ensures.listed
