use Rattle.std.proofs.Common.{◌≡◌, ◌∙◌, ap, sym, is_some, Option, None, Some, String, Global, string_bytes}
use Rattle.std.specs.Map.{lookup}
use Rattle.std.specs.Ordering.{is_eq}
use Rattle.std.specs.BTreeMap.{BTreeMap}
use Rattle.scene_kinds.specs.declared.cell.Cell.{Cell}
use Rattle.scene_resources.specs.Entries.{named_cells}
use Rattle.scene_resources.specs.Resources.{NamedCells, StoredResources, name_cmp, restore_of}
use Rattle.scene_resources.proofs.Cells.{found_cell, cells_updated}
use Rattle.scene_resources.proofs.Names.{unkept}
use Rattle.scene_resources.proofs.resources.Resources.restore_reserved.Goals.{in-Some, in-None+in-Some+in-Text-1, in-None+in-Some+in-Tag-1, in-None+in-None-1}
use Rattle.scene_resources.proofs.resources.Resources.restore_reserved.Goals as goal

pub returns-clause-old : goal.returns-clause-old
returns-clause-old c =
    let r : NamedCells = c.args.self.now.cells in
    let found = λ (o : Option (Option Cell)). found_cell c.self.inside.cells.entries r c.args.name.now o (ap (λ (s : StoredResources). s.cells) c.self.view_is) in
    elim c.match-get_mut.branch [
      | in-Some w ↦ w.result-is ∙ w.replace.ensures.value ∙ found (Some w.in-Some.place.now) w.in-Some.ensures.value
      | in-None+in-Some+in-Text-1 w ↦ w.result-is ∙ found None w.in-None.ensures.value
      | in-None+in-Some+in-Tag-1 w ↦ w.result-is ∙ found None w.in-None.ensures.value
      | in-None+in-None-1 w ↦ w.result-is ∙ found None w.in-None.ensures.value
    ]

-- a search that finds nothing leaves the map
unread : (c : goal.Joined-get_mut) → named_cells c.get_mut.follows.lender-at-none.entries ≡ c.args.self.now.cells
unread c = ap (λ (m : BTreeMap (String Global) (Option Cell)). named_cells m.entries) c.get_mut.follows.holds-at-none ∙ ap (λ (s : StoredResources). s.cells) c.self.view_is

-- and a name without an entry gets no cell
same : (c : goal.Joined-get_mut) → None ≡ lookup (λ k. is_eq (name_cmp c.args.name.now (string_bytes k))) c.self.inside.cells.entries
    → c.args.self.now.cells ≡ restore_of c.args.self.now.cells c.args.name.now c.args.cell
same c h = sym (unkept c.self.inside.cells.entries c.args.self.now c.args.name.now c.args.cell c.self.view_is h c.requires)

pub returns-clause-done : goal.returns-clause-done
returns-clause-done c =
    let r : NamedCells = c.args.self.now.cells in
    elim c.match-get_mut.branch [
      | in-Some w ↦
          let d = w.replace.new.dest in
          ap (λ s. named_cells s.cells.entries) w.self-inside-is
          ∙ cells_updated c.self.inside.cells (c.get_mut.follows.lender d) r c.args.name.now (Some d) (ap (λ (s : StoredResources). s.cells) c.self.view_is)
          ((c.get_mut.follows.holds d).3 (ap is_some (sym w.in-Some.ensures.value)))
          ∙ ap (restore_of r c.args.name.now) w.replace.ensures.after
      | in-None+in-Some+in-Text-1 w ↦ ap (λ s. named_cells s.cells.entries) w.self-inside-is ∙ unread c ∙ same c w.in-None.ensures.value
      | in-None+in-Some+in-Tag-1 w ↦ ap (λ s. named_cells s.cells.entries) w.self-inside-is ∙ unread c ∙ same c w.in-None.ensures.value
      | in-None+in-None-1 w ↦ ap (λ s. named_cells s.cells.entries) w.self-inside-is ∙ unread c ∙ same c w.in-None.ensures.value
    ]
