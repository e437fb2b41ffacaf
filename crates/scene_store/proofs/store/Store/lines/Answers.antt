use Rattle.std.proofs.Common.{arith, sym, subst, ◌∙◌}
use Rattle.std.proofs.lemmas.Result.{IfOk-weaker, IfErr-weaker}
use Rattle.scene_store.specs.Head.{head_of, Begins, MayRefuse}
use Rattle.scene_store.specs.Store.{Keeps}
use Rattle.scene_store.proofs.HeadLemmas.{read_ok, read_err}
use Rattle.scene_store.proofs.StoreLemmas.{keeps_shown, keeps_found, text_found, on_any_err, on_any_ok}
use Rattle.scene_store.proofs.store.Store.lines.Goals as goal

pub returns-in_err-text-clause-err : goal.returns-in_err-text-clause-err
returns-in_err-text-clause-err g c = on_any_err c.from_residual-in_err-text.result (λ is_open text keeps.
    keeps_shown g.S.Store c.args.self.now (record { conn = c.all_rows.new.conn }) (λ clean. omega (arith, c.all_rows.ensures.survives.clean)) c.in_ok-rows.rows.items c.in_ok-rows.ensures.shown text keeps)

pub returns-clause-found : goal.returns-clause-found
returns-clause-found g c clean =
    let held = rw c.as_slice.ensures.value at c.in_ok-text.ensures.text in
    IfOk-weaker c.headed.result _ _ (λ found same text keeps.
    same.0 ∙ text_found g.S.Store c.args.self.now (record { conn = c.all_rows.new.conn }) (λ clean. omega (arith, c.all_rows.ensures.survives.clean)) clean c.in_ok-rows.rows.items (c.in_ok-rows.ensures.shown clean) c.in_ok-text.text.items held text keeps) (read_ok c.in_ok-text.text.items c.headed.result c.headed.ensures)

pub returns-clause-same : goal.returns-clause-same
returns-clause-same g c = on_any_ok c.headed.result (λ text keeps.
    keeps_shown g.S.Store c.args.self.now (record { conn = c.all_rows.new.conn }) (λ clean. omega (arith, c.all_rows.ensures.survives.clean)) c.in_ok-rows.rows.items c.in_ok-rows.ensures.shown text keeps)

pub returns-clause-err : goal.returns-clause-err
returns-clause-err g c = on_any_err c.headed.result (λ is_open text keeps.
    keeps_shown g.S.Store c.args.self.now (record { conn = c.all_rows.new.conn }) (λ clean. omega (arith, c.all_rows.ensures.survives.clean)) c.in_ok-rows.rows.items c.in_ok-rows.ensures.shown text keeps)

pub returns-clause-whole : goal.returns-clause-whole
returns-clause-whole g c store =
    let held = rw c.as_slice.ensures.value at c.in_ok-text.ensures.text in
    IfOk-weaker c.headed.result _ _ (λ found same. subst (Keeps g.S.Store (record { conn = c.all_rows.new.conn })) (sym same.0)
    (keeps_found g.S.Store c.args.self.now (record { conn = c.all_rows.new.conn }) (λ clean. omega (arith, c.all_rows.ensures.survives.clean)) c.all_rows.ensures.live c.in_ok-rows.rows.items c.in_ok-rows.ensures.shown c.in_ok-text.text.items held store))
    (read_ok c.in_ok-text.text.items c.headed.result c.headed.ensures)

pub returns-clause-head : goal.returns-clause-head
returns-clause-head g c =
    IfOk-weaker c.headed.result _ _ (λ found headed. subst (λ text. Begins text (head_of found.version)) (sym headed.0) headed.1)
    (read_ok c.in_ok-text.text.items c.headed.result c.headed.ensures)

pub returns-clause-refused : goal.returns-clause-refused
returns-clause-refused g c clean =
    let held = rw c.as_slice.ensures.value at c.in_ok-text.ensures.text in
    IfErr-weaker c.headed.result _ _ (λ fault refuses text keeps. subst (λ t. MayRefuse t fault)
    (text_found g.S.Store c.args.self.now (record { conn = c.all_rows.new.conn }) (λ clean. omega (arith, c.all_rows.ensures.survives.clean)) clean c.in_ok-rows.rows.items (c.in_ok-rows.ensures.shown clean) c.in_ok-text.text.items held text keeps) refuses)
    (read_err c.in_ok-text.text.items c.headed.result c.headed.ensures)
