use Rattle.std.proofs.Common.{◌≡◌, [], ◌∷◌, ◌++◌, ap, append_assoc, subst, sym, ◌∙◌}
use Rattle.std.proofs.lemmas.List.{append-nil}
use Rattle.scene_journal.specs.Newest.{ListsBack}
use Rattle.scene_deltas.specs.Segments.{seen}
use Rattle.scene_journal.proofs.Covers.{goes_back, lists_wider}
use Rattle.scene_journal.proofs.Listed.{EachOf, each_more, wider_wider}
use Rattle.scene_journal.proofs.newest.NewestCells.take_back.Goals as goal

pub loop-delta-preserved : goal.loop-delta-preserved
loop-delta-preserved c =
    let n = c.loop-delta.self in
    let m = c.add_lent.new.self in
    let now = c.loop-delta.invariant.0 in
    let d = seen c.in-Some.delta in
    let wide = c.in_ok-add_lent.ensures.wide in (
      (
        now.0 ++ d ∷ [],
        (
          now.1.0 ∙ ap (λ ds. now.0 ++ ds) c.in-Some.ensures ∙ sym (append_assoc now.0 (d ∷ []) c.next.new.self),
          each_more (ListsBack n) (ListsBack m) now.0 d (λ x. lists_wider n m x wide) c.in_ok-add_lent.ensures.listed now.1.1,
        ),
      ),
      wider_wider c.args.self.now n m c.loop-delta.invariant.1 wide,
    )

pub returns-clause-back : goal.returns-clause-back
returns-clause-back c =
    let n = c.loop-delta.self in
    let ds = c.args.deltas.now.items in
    let now = c.loop-delta.invariant.0 in
    let whole : ds ≡ now.0 = now.1.0 ∙ ap (λ left. now.0 ++ left) c.in_default.ensures.0 ∙ append-nil now.0 in
    goes_back n c.args.self.now ds c.loop-delta.invariant.1 (subst (EachOf (ListsBack n)) (sym whole) now.1.1)
