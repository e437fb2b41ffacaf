use Rattle.std.proofs.Common.{◌∙◌, ap, is_some, rules}
use Rattle.std.proofs.lemmas.Map.Made.{filter_same_pairs}
use Rattle.scene_resources.specs.Resources.{StoredResources}
use Rattle.scene_resources.specs.Entries.{named_cells, kept_names}
use Rattle.scene_resources.proofs.Names.{cells_trimmed, names_trimmed, names_in_order}
use Rattle.scene_resources.proofs.resources.Resources.trim.Goals as goal

pub returns-clause-cells : goal.returns-clause-cells
returns-clause-cells c =
    let es = c.self.inside.cells.entries in
    let left = filter_same_pairs _ (λ e. is_some e.1) _ (λ k v b w f t. search rules) es c.retain.new.self.entries c.retain.ensures.filtered in
    ap named_cells left ∙ cells_trimmed es c.retain.ensures.was_ordered ∙ ap (λ (s : StoredResources). s.cells) c.self.view_is

pub returns-clause-kept : goal.returns-clause-kept
returns-clause-kept c =
    let es = c.self.inside.cells.entries in
    let left = filter_same_pairs _ (λ e. is_some e.1) _ (λ k v b w f t. search rules) es c.retain.new.self.entries c.retain.ensures.filtered in
    ap kept_names left ∙ names_trimmed es ∙ names_in_order es _ (ap (λ (s : StoredResources). s.cells) c.self.view_is) c.retain.ensures.was_ordered
