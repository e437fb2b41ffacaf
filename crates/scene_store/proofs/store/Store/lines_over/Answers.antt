use Rattle.std.proofs.Common.{subst, sym}
use Rattle.std.proofs.lemmas.Result.{IfOk-weaker}
use Rattle.scene_store.specs.Store.{Keeps}
use Rattle.scene_store.proofs.store.Store.lines_over.Goals as goal

pub returns-clause-found : goal.returns-clause-found
returns-clause-found g c clean =
    let schema = c.in_ok-store.ensures.known in
    let same = c.in_ok-store.ensures.there schema in
    IfOk-weaker c.lines.result _ _ (λ found is text keeps.
    is text (subst (λ conn. Keeps g.S.Store (record { conn = conn }) text) (sym same) (keeps schema)))
    (c.lines.ensures.found (clean c.lines.new.self))

pub returns-clause-head : goal.returns-clause-head
returns-clause-head g c = c.lines.ensures.head
