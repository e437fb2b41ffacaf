use Rattle.std.proofs.Common.{refl, sym, arith}
use Rattle.std.specs.Prelude.{nat_lt, not}
use Rattle.scene_table.specs.Columns.{ColumnState}
use Rattle.scene_table.proofs.TableFacts.{number_within}
use Rattle.scene_table.proofs.Moves.{goes_at, goes_last}
use Rattle.scene_table.proofs.columns.number_for.Goals as goal

pub returns-in-Some-clause-within : goal.returns-in-Some-clause-within
returns-in-Some-clause-within c =
    let within = number_within (λ (x : ColumnState). not (nat_lt x.kind c.args.kind)) c.args.columns.now c.in-Some.number (sym c.in-Some.ensures) in
    omega arith

pub returns-in-Some-clause-goes : goal.returns-in-Some-clause-goes
returns-in-Some-clause-goes c = goes_at c.args.kind c.args.columns.now c.in-Some.number c.in-Some.ensures

pub returns-in-None-clause-goes : goal.returns-in-None-clause-goes
returns-in-None-clause-goes c cells cell same none = goes_last c.args.kind c.args.columns.now _ refl c.in-None.ensures cells cell same
