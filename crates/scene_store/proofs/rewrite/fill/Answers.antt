use Rattle.std.proofs.Common.{rules, arith, ◌≡◌, [], ◌∷◌, subst}
use Rattle.sqlite.specs.declared.types.Value.TheVariants.{Blob}
use Rattle.sqlite.specs.Held.{state}
use Rattle.sqlite.specs.State.{HasCleanDisk}
use Rattle.scene_store.specs.Store.{add_text, table_text, Holds}
use Rattle.scene_store.proofs.Transactions.{IsBare, Ran, creates, and_adds, commits}
use Rattle.scene_store.proofs.rewrite.fill.Goals as goal

pub returns : goal.returns
returns g c clean none =
    let tx = state g.S.Store c.transaction-tx.result.conn.now in
    let made = state g.S.Store c.execute.new.self.conn.now in
    let headed = state g.S.Store c.execute-2.new.self.conn.now in
    let last = state g.S.Store c.execute-3.new.self.conn.now in
    let new = state g.S.Store c.commit.new.self.0 in
    let head = c.args.head.now in
    let lines = c.args.lines.now in
    let one : Ran table_text [] _ tx made = record { runs = c.in_ok-execute.ensures.runs; survives = c.execute.ensures.survives } in
    let two : Ran add_text (Blob head ∷ []) _ made headed = record {
      runs = rw c.params-to_sql.ensures at c.in_ok-execute-2.ensures.runs;
      survives = c.execute-2.ensures.survives;
    } in
    let three : Ran add_text (Blob lines ∷ []) _ headed last = record {
      runs = rw c.params-to_sql-2.ensures at c.in_ok-execute-3.ensures.runs;
      survives = c.execute-3.ensures.survives;
    } in
    let makes = and_adds IsBare (head ∷ []) lines _ tx headed last (and_adds IsBare [] head _ tx made headed (creates tx made _ one) two) three in
    let same : c.commit.new.self.0 ≡ c.conn-2-1.given.0 = search rules in
    let late : HasCleanDisk new = search rules in
    subst (λ h. Holds (state g.S.Store h) (head ∷ lines ∷ [])) same
    (commits g.S.Store c.args.conn.now c.transaction-tx.result.conn.now c.transaction-tx.ensures.begun IsBare (head ∷ lines ∷ []) last new makes
    (omega (arith, c.commit.ensures.survives.clean)) (c.in_ok-commit.ensures.ok late).1 none)
