use Rattle.std.proofs.Common.{rules, arith, ◌≡◌, ℕ, [], ◌∷◌, subst}
use Rattle.sqlite.specs.declared.types.Value.TheVariants.{Blob}
use Rattle.sqlite.specs.Held.{state}
use Rattle.sqlite.specs.State.{State, HasCleanDisk, Survives}
use Rattle.scene_store.specs.Head.{head_line}
use Rattle.scene_store.specs.Store.{add_text, table_text, HasBatches, Holds, LeavesHead}
use Rattle.scene_store.proofs.Transactions.{IsBare, Makes, Ran, creates, and_adds, commits, crashes}
use Rattle.scene_store.proofs.rewrite.start.Goals as goal

makes : (tx made last : State) (n m : ℕ) → Ran table_text [] n tx made → Ran add_text (Blob head_line ∷ []) m made last → Makes IsBare (head_line ∷ []) tx last
makes tx made last n m one two = and_adds IsBare [] head_line m tx made last (creates tx made n one) two

pub returns-clause-made : goal.returns-clause-made
returns-clause-made g c clean none =
    let tx = c.transaction-tx.result.conn.now in
    let made = state g.S.Store c.execute.new.self.conn.now in
    let last = state g.S.Store c.execute-2.new.self.conn.now in
    let new = state g.S.Store c.commit.new.self.0 in
    let one : Ran table_text [] _ (state g.S.Store tx) made = record { runs = c.in_ok-execute.ensures.runs; survives = c.execute.ensures.survives } in
    let two : Ran add_text (Blob head_line ∷ []) _ made last = record {
      runs = rw (c.params-to_sql.ensures, c.head.ensures) at c.in_ok-execute-2.ensures.runs;
      survives = c.execute-2.ensures.survives;
    } in
    let same : c.commit.new.self.0 ≡ c.conn-2-1.given.0 = search rules in
    let late : HasCleanDisk new = search rules in
    subst (λ h. Holds (state g.S.Store h) (head_line ∷ [])) same
    (commits g.S.Store c.args.conn.now tx c.transaction-tx.ensures.begun IsBare (head_line ∷ []) last new (makes _ _ last _ _ one two)
    (omega (arith, c.commit.ensures.survives.clean)) (c.in_ok-commit.ensures.ok late).1 none)

pub returns-clause-crash : goal.returns-clause-crash
returns-clause-crash g c =
    let tx = c.transaction-tx.result.conn.now in
    let old = state g.S.Store c.args.conn.now in
    let made = state g.S.Store c.execute.new.self.conn.now in
    let last = state g.S.Store c.execute-2.new.self.conn.now in
    let one : Ran table_text [] _ (state g.S.Store tx) made = record { runs = c.in_ok-execute.ensures.runs; survives = c.execute.ensures.survives } in
    let two : Ran add_text (Blob head_line ∷ []) _ made last = record {
      runs = rw (c.params-to_sql.ensures, c.head.ensures) at c.in_ok-execute-2.ensures.runs;
      survives = c.execute-2.ensures.survives;
    } in
    let same : c.commit.new.self.0 ≡ c.conn-2-1.given.0 = search rules in
    subst (λ h. Survives old (state g.S.Store h) (LeavesHead old)) same
    (crashes g.S.Store c.args.conn.now tx c.transaction-tx.ensures.begun IsBare (head_line ∷ []) last _ (makes _ _ last _ _ one two)
    (LeavesHead old) c.commit.ensures.survives (λ db has. has))

pub returns-in_err-commit-clause-crash : goal.returns-in_err-commit-clause-crash
returns-in_err-commit-clause-crash g c =
    let tx = c.transaction-tx.result.conn.now in
    let old = state g.S.Store c.args.conn.now in
    let made = state g.S.Store c.execute.new.self.conn.now in
    let last = state g.S.Store c.execute-2.new.self.conn.now in
    let one : Ran table_text [] _ (state g.S.Store tx) made = record { runs = c.in_ok-execute.ensures.runs; survives = c.execute.ensures.survives } in
    let two : Ran add_text (Blob head_line ∷ []) _ made last = record {
      runs = rw (c.params-to_sql.ensures, c.head.ensures) at c.in_ok-execute-2.ensures.runs;
      survives = c.execute-2.ensures.survives;
    } in
    let same : c.commit.new.self.0 ≡ c.conn-2-1.given.0 = search rules in
    subst (λ h. Survives old (state g.S.Store h) (LeavesHead old)) same
    (crashes g.S.Store c.args.conn.now tx c.transaction-tx.ensures.begun IsBare (head_line ∷ []) last _ (makes _ _ last _ _ one two)
    (LeavesHead old) c.commit.ensures.survives (λ db has. has))
