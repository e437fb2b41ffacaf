use Rattle.std.proofs.Common.{List, OnOk, subst, ℕ}
use Rattle.scene_streams.specs.Keep.{Grows}
use Rattle.scene_kept_lines.proofs.Comments.{grows_dated, grows_plain}
use Rattle.scene_kept_lines.proofs.dated_store.DatedStoreKeep.keep.Goals as goal

pub returns-in-Some : goal.returns-in-Some
returns-in-Some g c =
    let kept = subst (λ (t : List ℕ). OnOk c.keep.result (Grows g.S.Keep.keeps c.args.self.now.store c.keep.new.self t))
    c.as_slice.ensures.value c.keep.ensures in
    grows_dated g.S.Keep.keeps _ _ c.args.self.now.ends_within c.may_end_within-self.result c.keep.result c.args.lines.now
    c.in-Some.all.items kept c.in-Some.ensures.0 c.in-Some.ensures.1
    (c.may_end_within-self.ensures.before, c.may_end_within-self.ensures.end)

pub returns-in-None : goal.returns-in-None
returns-in-None g c =
    grows_plain g.S.Keep.keeps _ _ c.args.self.now.ends_within c.may_end_within-self.result c.keep-in-None.result c.args.lines.now
    c.keep-in-None.ensures (c.may_end_within-self.ensures.before, c.may_end_within-self.ensures.end)
