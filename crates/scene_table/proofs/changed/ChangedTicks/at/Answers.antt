use Rattle.std.proofs.Common.{◌∙◌, ◌+◌, ◌<◌, ap, sym, subst, length, [], ℕ, Vec, List, refl}
use Rattle.std.specs.Prelude.{slice_get}
use Rattle.std.specs.declared.alloc.Global.{Global}
use Rattle.std.proofs.lemmas.Option.{slice_get_read}
use Rattle.scene_table.specs.Runs.{changed_of}
use Rattle.scene_table.specs.Stored.{changed_seen}
use Rattle.scene_table.proofs.Walks.{mapped_at, within_lists}
use Rattle.scene_table.proofs.changed.ChangedTicks.at.Goals as goal

pub returns-in-Each : goal.returns-in-Each
returns-in-Each c =
    let place = c.args.place in
    let there = within_lists (λ (v : Vec ℕ Global). v.items) c.in-Each.columns.items c.args.number place (subst (λ t. place < length (changed_of t c.args.number (place + 1))) (sym c.self.view_is ∙ ap changed_seen c.in-Each.is) c.requires) in
    let seen = ap (λ t. changed_of t c.args.number (place + 1)) (sym c.self.view_is ∙ ap changed_seen c.in-Each.is)
    ∙ mapped_at (λ (v : Vec ℕ Global). v.items) c.in-Each.columns.items c.args.number c.index.result.now [] there c.index.ensures in
    let within : place < length c.index.result.now.items = subst (λ (t : List ℕ). place < length t) seen c.requires in
    ap (λ (t : List ℕ). slice_get t place) seen
    ∙ slice_get_read c.index.result.now.items (length c.index.result.now.items) place c.index-in-Each.result.now refl within c.index-in-Each.ensures
