use Rattle.std.proofs.Common.{◌∙◌, ap, sym, arith, length, [], ℕ, Vec}
use Rattle.std.specs.declared.alloc.Global.{Global}
use Rattle.scene_table.specs.Runs.{changed_of}
use Rattle.scene_table.specs.Stored.{changed_seen}
use Rattle.scene_table.proofs.Walks.{mapped_at, past_lists}
use Rattle.scene_table.proofs.changed.ChangedTicks.put.Goals as goal

pub copy_from_slice-requires : goal.copy_from_slice-requires
copy_from_slice-requires c =
    let count = length c.args.changed.now in
    let seen = ap (λ t. changed_of t c.args.number count) (sym c.self.view_is ∙ ap changed_seen c.in-Each.is)
    ∙ mapped_at (λ (v : Vec ℕ Global). v.items) c.in-Each.columns.items c.args.number c.index.result.now [] (omega arith) c.index.ensures in
    sym c.requires ∙ ap length (seen ∙ sym c.as_slice.ensures.value)

pub returns-then-number-len : goal.returns-then-number-len
returns-then-number-len c =
    let count = length c.args.changed.now in
    c.copy_from_slice.ensures.after ∙ c.as_slice.ensures.value
    ∙ sym (ap (λ t. changed_of t c.args.number count) (sym c.self.view_is ∙ ap changed_seen c.in-Each.is)
    ∙ mapped_at (λ (v : Vec ℕ Global). v.items) c.in-Each.columns.items c.args.number c.index.result.now [] (omega arith) c.index.ensures)

pub returns-else-number-len : goal.returns-else-number-len
returns-else-number-len c =
    let count = length c.args.changed.now in
    let seen = ap (λ t. changed_of t c.args.number count) (sym c.self.view_is ∙ ap changed_seen c.in-Each.is) in
    past_lists (λ (v : Vec ℕ Global). v.items) c.in-Each.columns.items c.args.changed.now c.args.number (omega arith) (ap length (sym seen) ∙ c.requires) ∙ sym seen
