use Rattle.std.proofs.Common.{◌∙◌, ap, subst, Some, None}
use Rattle.std.specs.Prelude.{Contains}
use Rattle.scene_resources.specs.Entries.{kept_names}
use Rattle.scene_resources.specs.Resources.{NamedCells, StoredResources, IsWider, restore_of}
use Rattle.scene_resources.proofs.Cells.{cells_updated}
use Rattle.scene_resources.proofs.Names.{kept_by_search, not_kept_by_search, kept_updated, emptied}
use Rattle.scene_resources.proofs.resources.Resources.reserve.Goals as goal

pub returns-then-contains_key-clause-kept : goal.returns-then-contains_key-clause-kept
returns-then-contains_key-clause-kept c = kept_by_search c.self.inside.cells.entries c.args.self.now c.args.name.now c.self.view_is c.if-contains_key.ensures

pub returns-in_err-key-clause-there : goal.returns-in_err-key-clause-there
returns-in_err-key-clause-there c = λ h. absurd (not_kept_by_search c.self.inside.cells.entries c.args.self.now c.args.name.now c.self.view_is c.if-contains_key.ensures h)

pub returns-in_err-_place-clause-there : goal.returns-in_err-_place-clause-there
returns-in_err-_place-clause-there c = λ h. absurd (not_kept_by_search c.self.inside.cells.entries c.args.self.now c.args.name.now c.self.view_is c.if-contains_key.ensures h)

pub returns-clause-cells : goal.returns-clause-cells
returns-clause-cells c =
    let r : NamedCells = c.args.self.now.cells in
    cells_updated c.self.inside.cells c.insert.new.self r _ (Some None) (ap (λ (s : StoredResources). s.cells) c.self.view_is) c.in_ok-_place.ensures.updates
    ∙ ap (λ name. restore_of r name None) c.in_ok-key.ensures.ok
    ∙ emptied c.self.inside.cells.entries c.args.self.now c.args.name.now c.self.view_is c.if-contains_key.ensures

pub returns-clause-kept : goal.returns-clause-kept
returns-clause-kept c =
    let k = kept_updated c.self.inside.cells c.insert.new.self _ None c.in_ok-_place.ensures.updates in
    subst (Contains (kept_names c.insert.new.self.entries)) c.in_ok-key.ensures.ok k.0

pub returns-clause-wide : goal.returns-clause-wide
returns-clause-wide c =
    let k = kept_updated c.self.inside.cells c.insert.new.self _ None c.in_ok-_place.ensures.updates in
    subst (λ (s : StoredResources). IsWider s.kept (kept_names c.insert.new.self.entries)) c.self.view_is k.1
