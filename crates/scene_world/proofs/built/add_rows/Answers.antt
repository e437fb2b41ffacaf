use Rattle.std.proofs.Common.{◌≡◌, ◌∙◌, ap, length, subst, arith}
use Rattle.scene_table.specs.Tables.{row_for, with_row_back}
use Rattle.scene_world.proofs.BuiltRows.{take_next}
use Rattle.scene_world.proofs.built.add_rows.Goals as goal

pub loop-row-preserved : goal.loop-row-preserved
loop-row-preserved c =
    let more = take_next _ _ _ c.args.mask c.args.count _ _ _ _ c.in-Some.ensures.steps.0 c.loop-row.invariant.can c.in_ok-reserve.ensures.tables c.len-last.ensures
    (subst (λ cells. c.put_back.new.self.tables ≡ with_row_back c.reserve.new.self.tables c.len-last.result (row_for c.in-Some.row.entity cells)) c.own.ensures c.put_back.ensures.tables) in
    record {
      can = more.0;
      rows = more.1 ∙ c.loop-row.invariant.rows;
      size = let was = c.loop-row.invariant.size in let gone = c.in-Some.ensures.steps.1 in let short = ap length c.in-Some.ensures.steps.0 in omega arith;
    }
