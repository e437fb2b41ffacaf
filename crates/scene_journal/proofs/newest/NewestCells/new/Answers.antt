use Rattle.std.proofs.Common.{List, ℕ, subst}
use Rattle.scene_resources.specs.Resources.{NamedCells}
use Rattle.scene_journal.specs.Newest.{IsNameListed}
use Rattle.scene_journal.proofs.Listed.{row_wider}
use Rattle.scene_journal.proofs.newest.NewestCells.new.Goals as goal

pub returns-clause-covers : goal.returns-clause-covers
returns-clause-covers c =
    let n = c.add_rows.new.self in
    let m = c.add_resources.new.self in
    record {
      rows = λ h row at. row_wider n m c.in_ok-add_resources.ensures.wide row (c.in_ok-add_rows.ensures.listed h row at);
      resources = subst (λ (r : NamedCells). (name : List ℕ) → IsNameListed m r name) c.resources.ensures c.in_ok-add_resources.ensures.listed;
    }
