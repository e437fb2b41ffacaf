use Rattle.std.proofs.Common.{rules, ◌≡◌, ◌∷◌, [], Some, None, ap, sym, ◌∙◌, unwrap_or}
use Rattle.atomic_table.specs.Table.{rest}
use Rattle.scene_lock.proofs.Passing.{value_or}
use Rattle.scene_lock.proofs.lock.WordLock.lift.Goals as goal

pub exchange-requires : goal.exchange-requires
exchange-requires g c = let out = c.requires.out in
    (search rules, (Some out.0, out.1 ∙ ap (λ l. (0, Some out.0) ∷ rest l) (sym out.1)))

pub unwrap-state-requires : goal.unwrap-state-requires
unwrap-state-requires g c = let out = c.requires.out in
    let there : c.exchange.result ≡ Some out.0 = ap (value_or None) (sym c.exchange.ensures.2 ∙ out.1) in search rules

pub returns-clause-state : goal.returns-clause-state
returns-clause-state g c = let out = c.requires.out in
    let there : c.exchange.result ≡ Some out.0 = ap (value_or None) (sym c.exchange.ensures.2 ∙ out.1) in
    out.1 ∙ ap (λ o. (0, Some (unwrap_or o out.0)) ∷ []) (sym there ∙ c.unwrap-state.ensures)
