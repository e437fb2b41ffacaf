use Rattle.std.specs.Prelude.{unsigned_abs}
use Rattle.std.proofs.Common.{ℤ, ◌≤◌, ◌≡◌, ◌<◌, ◌∙◌, List, ap, sym, subst, arith, length, get_or, to_z, of_z, w64}
use Rattle.scene_table.specs.declared.run.RunColumn.{RunColumn}
use Rattle.scene_table.specs.Runs.{AreInRange, IsBound, grown}
use Rattle.scene_table.proofs.RunFacts.{each_more, reach_nearer}
use Rattle.scene_table.proofs.run.Run.fits.Goals as goal

pub loop-column-preserved : goal.loop-column-preserved
loop-column-preserved c =
    let turns = to_z w64 (of_z w64 c.args.turns) in
    let columns = c.args.self.now.columns in
    let at = c.loop-column.column-index in
    let column = c.column-item.result in
    let same = c.deref-column-items.ensures.value in
    let within : at < length c.self.inside.columns.items = omega (arith, ap length same) in
    let inside : column ≡ get_or c.self.inside.columns.items at column = c.column-item.is ∙ ap (λ (t : List RunColumn). get_or t at column) same in
    let seen : c.self.inside.columns.items ≡ columns = ap (λ r. r.columns) c.self.view_is in
    let bound = subst (λ (x : RunColumn). IsBound x.reach x.series) (sym inside) (c.self.invariant.bounded at column within) in
    each_more (λ (x : RunColumn). (t : ℤ) → unsigned_abs t ≤ unsigned_abs turns → AreInRange (grown x.series t)) columns at column c.loop-column.invariant (subst (λ (t : List RunColumn). at < length t) seen within)
    (inside ∙ ap (λ (t : List RunColumn). get_or t at column) seen) (λ t l. reach_nearer column.reach column.series t turns bound l (c.fits.ensures.0 c.if-not-fits.false))
