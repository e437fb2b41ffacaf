use Rattle.std.proofs.Common.{rules, arith, ◌≡◌, ℕ, List, [], ◌∷◌, subst}
use Rattle.sqlite.specs.declared.types.Value.TheVariants.{Blob}
use Rattle.sqlite.specs.Held.{state}
use Rattle.sqlite.specs.State.{State, HasCleanDisk, Survives}
use Rattle.scene_store.specs.Head.{head_line}
use Rattle.scene_store.specs.Store.{add_text, clear_text, HasBatches, Holds, LeavesOthers}
use Rattle.scene_store.proofs.Transactions.{HasTable, Makes, Ran, empties, and_adds, commits, crashes}
use Rattle.scene_store.proofs.rewrite.rewrite.Goals as goal

makes : (lines : List ℕ) (tx cleared headed last : State) (n m l : ℕ) → Ran clear_text [] n tx cleared → Ran add_text (Blob head_line ∷ []) m cleared headed
    → Ran add_text (Blob lines ∷ []) l headed last → Makes HasTable (head_line ∷ lines ∷ []) tx last
makes lines tx cleared headed last n m l one two three =
    and_adds HasTable (head_line ∷ []) lines l tx headed last (and_adds HasTable [] head_line m tx cleared headed (empties tx cleared n one) two) three

pub returns-clause-done : goal.returns-clause-done
returns-clause-done g c clean batches holds =
    let lines = c.args.lines.now in
    let tx = c.transaction-tx.result.conn.now in
    let cleared = state g.S.Store c.execute.new.self.conn.now in
    let headed = state g.S.Store c.execute-2.new.self.conn.now in
    let last = state g.S.Store c.execute-3.new.self.conn.now in
    let new = state g.S.Store c.commit.new.self.0 in
    let one : Ran clear_text [] _ (state g.S.Store tx) cleared = record { runs = c.in_ok-execute.ensures.runs; survives = c.execute.ensures.survives } in
    let two : Ran add_text (Blob head_line ∷ []) _ cleared headed = record {
      runs = rw (c.params-to_sql.ensures, c.head.ensures) at c.in_ok-execute-2.ensures.runs;
      survives = c.execute-2.ensures.survives;
    } in
    let three : Ran add_text (Blob lines ∷ []) _ headed last = record {
      runs = rw c.params-to_sql-2.ensures at c.in_ok-execute-3.ensures.runs;
      survives = c.execute-3.ensures.survives;
    } in
    let same : c.commit.new.self.0 ≡ c.conn-2-1.given.0 = search rules in
    let late : HasCleanDisk new = search rules in
    subst (λ h. Holds (state g.S.Store h) (head_line ∷ lines ∷ [])) same
    (commits g.S.Store c.args.conn.now tx c.transaction-tx.ensures.begun HasTable (head_line ∷ lines ∷ []) last new
    (makes lines _ _ _ last _ _ _ one two three)
    (omega (arith, c.commit.ensures.survives.clean)) (c.in_ok-commit.ensures.ok late).1 (batches, (holds.schema, holds.rows)))

pub returns-clause-crash : goal.returns-clause-crash
returns-clause-crash g c =
    let lines = c.args.lines.now in
    let tx = c.transaction-tx.result.conn.now in
    let old = state g.S.Store c.args.conn.now in
    let cleared = state g.S.Store c.execute.new.self.conn.now in
    let headed = state g.S.Store c.execute-2.new.self.conn.now in
    let last = state g.S.Store c.execute-3.new.self.conn.now in
    let one : Ran clear_text [] _ (state g.S.Store tx) cleared = record { runs = c.in_ok-execute.ensures.runs; survives = c.execute.ensures.survives } in
    let two : Ran add_text (Blob head_line ∷ []) _ cleared headed = record {
      runs = rw (c.params-to_sql.ensures, c.head.ensures) at c.in_ok-execute-2.ensures.runs;
      survives = c.execute-2.ensures.survives;
    } in
    let three : Ran add_text (Blob lines ∷ []) _ headed last = record {
      runs = rw c.params-to_sql-2.ensures at c.in_ok-execute-3.ensures.runs;
      survives = c.execute-3.ensures.survives;
    } in
    let same : c.commit.new.self.0 ≡ c.conn-2-1.given.0 = search rules in
    subst (λ h. Survives old (state g.S.Store h) (LeavesOthers old lines)) same
    (crashes g.S.Store c.args.conn.now tx c.transaction-tx.ensures.begun HasTable (head_line ∷ lines ∷ []) last _
    (makes lines _ _ _ last _ _ _ one two three)
    (LeavesOthers old lines) c.commit.ensures.survives (λ db has batches holds. has (batches, (holds.schema, holds.rows))))

pub returns-in_err-commit-clause-crash : goal.returns-in_err-commit-clause-crash
returns-in_err-commit-clause-crash g c =
    let lines = c.args.lines.now in
    let tx = c.transaction-tx.result.conn.now in
    let old = state g.S.Store c.args.conn.now in
    let cleared = state g.S.Store c.execute.new.self.conn.now in
    let headed = state g.S.Store c.execute-2.new.self.conn.now in
    let last = state g.S.Store c.execute-3.new.self.conn.now in
    let one : Ran clear_text [] _ (state g.S.Store tx) cleared = record { runs = c.in_ok-execute.ensures.runs; survives = c.execute.ensures.survives } in
    let two : Ran add_text (Blob head_line ∷ []) _ cleared headed = record {
      runs = rw (c.params-to_sql.ensures, c.head.ensures) at c.in_ok-execute-2.ensures.runs;
      survives = c.execute-2.ensures.survives;
    } in
    let three : Ran add_text (Blob lines ∷ []) _ headed last = record {
      runs = rw c.params-to_sql-2.ensures at c.in_ok-execute-3.ensures.runs;
      survives = c.execute-3.ensures.survives;
    } in
    let same : c.commit.new.self.0 ≡ c.conn-2-1.given.0 = search rules in
    subst (λ h. Survives old (state g.S.Store h) (LeavesOthers old lines)) same
    (crashes g.S.Store c.args.conn.now tx c.transaction-tx.ensures.begun HasTable (head_line ∷ lines ∷ []) last _
    (makes lines _ _ _ last _ _ _ one two three)
    (LeavesOthers old lines) c.commit.ensures.survives (λ db has batches holds. has (batches, (holds.schema, holds.rows))))
