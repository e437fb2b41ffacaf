use Rattle.std.proofs.Common.{◌∙◌, ap, arith, length, map, refl}
use Rattle.std.specs.Prelude.{option_map}
use Rattle.std.proofs.lemmas.Option.{slice_get-map, slice_get_read}
use Rattle.std.proofs.lemmas.List.{length-map}
use Rattle.scene_journal.specs.Newest.{AreRowsListed}
use Rattle.scene_journal.proofs.Listed.{all_up_to, one_more, rows_wider, wider_wider}
use Rattle.scene_journal.proofs.newest.NewestCells.add_tables.Goals as goal

pub loop-number-preserved : goal.loop-number-preserved
loop-number-preserved c =
    let n = c.loop-number.self in
    let m = c.add_table.new.self in
    let ts = c.args.tables.now in
    let count = c.loop-number.number in
    let t = c.index-tables-number.result in
    let wide = c.in_ok-add_table.ensures.wide in (
      one_more (AreRowsListed n) (AreRowsListed m) (map (λ t. t.now.rows) ts) count t.now.rows (rows_wider n m wide)
          (slice_get-map (λ t. t.now.rows) ts count ∙ ap (option_map (λ t. t.now.rows)) (slice_get_read ts (length ts) count t refl c.loop-number-test.true c.index-tables-number.is))
          c.in_ok-add_table.ensures.listed c.loop-number.invariant.0,
      wider_wider c.args.self.now n m c.loop-number.invariant.1 wide,
    )

pub returns-clause-listed : goal.returns-clause-listed
returns-clause-listed c =
    let ts = c.args.tables.now in
    let end = c.loop-number-test.false in
    let count = length-map ts (λ t. t.now.rows) in
    all_up_to (AreRowsListed c.loop-number.self) (map (λ t. t.now.rows) ts) c.loop-number.number (omega (arith, end, count)) c.loop-number.invariant.0
