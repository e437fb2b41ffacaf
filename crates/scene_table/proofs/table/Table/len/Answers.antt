use Rattle.std.proofs.Common.{◌∙◌, length, ap, subst, sym, arith}
use Rattle.scene_table.specs.Table.{TableState, AllHave}
use Rattle.scene_table.proofs.TableRows.{length-rows_of}
use Rattle.scene_table.proofs.TableFacts.{all_have}
use Rattle.scene_table.proofs.table.Table.len.Goals as goal

pub returns-clause-count : goal.returns-clause-count
returns-clause-count c =
    let n = ap (λ t. length t.rows) (sym c.self.view_is) ∙ length-rows_of c.self.inside.entities.items c.self.inside.columns.items c.self.invariant.long in
    omega (arith, c.len.ensures)

pub returns-clause-kinds : goal.returns-clause-kinds
returns-clause-kinds c =
    subst (λ (t : TableState). AllHave t.mask t.rows) c.self.view_is (all_have c.self.inside.mask c.self.inside.entities.items _ c.self.inside.columns.items c.self.invariant (omega arith))

pub returns-clause-fits : goal.returns-clause-fits
returns-clause-fits c =
    let n = ap (λ t. length t.rows) (sym c.self.view_is) ∙ length-rows_of c.self.inside.entities.items c.self.inside.columns.items c.self.invariant.long in
    omega (arith, c.self.invariant.fits, ap (λ t. t.capacity) c.self.view_is)
