use Rattle.std.proofs.Common.{◌≡◌, ◌∷◌, [], ◌++◌, Some, ap, sym, ◌∙◌, subst}
use Rattle.std.specs.Arc.{arc_value}
use Rattle.atomic_table.specs.Table.{opening}
use Rattle.scene_lock.specs.declared.knowledge.Terms.{Terms}
use Rattle.scene_lock.specs.Members.{opening_seat}
use Rattle.scene_lock.specs.Rule.{IsKept}
use Rattle.scene_lock.specs.Shared.{shared_good, shared_entries, IsStateOf}
use Rattle.std.specs.List.{All}
use Rattle.scene_lock.specs.Pass.{LockView, IsPassOf}
use Rattle.scene_lock.proofs.FirstPasses.{each-first_passes}
use Rattle.scene_lock.proofs.Keeps.{founding}
use Rattle.scene_lock.proofs.lock.WordLock.new.Goals as goal

pub new-requires-2 : goal.new-requires-2
new-requires-2 g c = let k = g.S.Kept in let share = c.in_ok-share.share in
    let terms : Terms g.row.S-Opening.Denot = record { opening = k.opening c.of.result.value; passes = c.args.passes } in
    let same : arc_value share ≡ c.args.state = c.in_ok-share.ensures.ok in
    let items : c.push_reserved.new.self.items ≡ Some share ∷ [] = c.push_reserved.ensures.items ∙ ap (λ l. l ++ Some share ∷ []) c.in_ok-slots.ensures.items in
    let good : IsStateOf k.good k.opening terms.opening (arc_value share) = (subst k.good (sym same) c.requires.state.0, ap k.opening (same ∙ sym c.of.ensures)) in
    subst (λ l. IsKept (shared_good k.good k.opening) (shared_entries k.entries) k.legal k.session terms (opening (0 ∷ []) l (opening_seat terms))) (sym items)
    (founding (shared_good k.good k.opening) (shared_entries k.entries) k.legal k.session terms share good
    (subst (λ o. k.legal o (k.entries (arc_value share))) good.1 (g.met.S.Kept.lawful (arc_value share) good.0)) (ap k.entries same ∙ c.requires.state.1))

pub returns-in-Ok-clause-each : goal.returns-in-Ok-clause-each
returns-in-Ok-clause-each g c =
    let key = c.in-Ok.table.shared.key in
    let lock : LockView g.row.S-Opening.Denot = record { id = c.in-Ok.table.shared.table_id; terms = record { opening = g.S.Kept.opening key.state.value; passes = key.passes } } in
    subst (All (IsPassOf lock)) (sym c.deal-dealt.ensures.passes) (each-first_passes lock c.args.passes)
