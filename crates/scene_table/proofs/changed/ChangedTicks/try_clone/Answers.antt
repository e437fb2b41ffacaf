use Rattle.std.proofs.Common.{◌∙◌, ap, sym, ℕ, Vec}
use Rattle.std.specs.declared.alloc.Global.{Global}
use Rattle.std.proofs.lemmas.List.Elements.{same_from_all_zip}
use Rattle.scene_table.specs.Runs.{Each}
use Rattle.scene_table.specs.Stored.{changed_seen}
use Rattle.scene_table.proofs.Walks.{copied_lists}
use Rattle.scene_table.proofs.changed.ChangedTicks.try_clone.Goals as goal

pub returns-in_ok-clone-in-Each : goal.returns-in_ok-clone-in-Each
returns-in_ok-clone-in-Each c =
    c.each.ensures
    ∙ ap Each (copied_lists (λ (v : Vec ℕ Global). v.items) _ (λ v w same. same_from_all_zip _ v.items w.items same.0 (λ x y h. h)) c.in-Each.columns.items c.in_ok-clone-in-Each.field-0.items c.in_ok-clone-in-Each.ensures.cases.0)
    ∙ ap changed_seen (sym c.in-Each.is) ∙ c.self.view_is
