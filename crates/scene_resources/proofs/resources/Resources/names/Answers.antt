use Rattle.std.proofs.Common.{◌++◌, ◌∙◌, map, ap, sym, string_bytes}
use Rattle.std.proofs.lemmas.List.{append-nil}
use Rattle.scene_resources.specs.Resources.{StoredResources}
use Rattle.scene_resources.proofs.Names.{names_in_order, filled, filled_empty, filled_push}
use Rattle.scene_resources.proofs.resources.Resources.names.Goals as goal

pub loop-name-init : goal.loop-name-init
loop-name-init c =
    (λ i. map (λ name. string_bytes name) (c.new-names.ensures.items i) ++ map (λ e. e.0) (filled ((c.into_iter-name-iterator.ensures.into_iter_gives ∙ c.iter-name-items.ensures.rest) i)))
    ∙ names_in_order c.self.inside.cells.entries c.args.self.now.cells (ap (λ (s : StoredResources). s.cells) c.self.view_is) c.iter-name-items.ensures.ordered

pub loop-name-preserved-in_ok-push : goal.loop-name-preserved-in_ok-push
loop-name-preserved-in_ok-push c =
    ap (λ names. map (λ name. string_bytes name) names ++ map (λ e. e.0) (filled c.next.new.self)) c.in_ok-push.ensures.items
    ∙ filled_push c.loop-name.names.items _ c.in-Some.name.now c.in-Some.cell.now c.next.new.self c.in_ok-clone.ensures.cases c.if-is_some.ensures
    ∙ ap (λ es. map (λ name. string_bytes name) c.loop-name.names.items ++ map (λ e. e.0) (filled es)) (sym c.in-Some.ensures.steps)
    ∙ c.loop-name.invariant

pub loop-name-preserved : goal.loop-name-preserved
loop-name-preserved c =
    ap (λ es. map (λ name. string_bytes name) c.loop-name.names.items ++ map (λ e. e.0) es) (sym (filled_empty c.in-Some.name.now c.in-Some.cell.now c.next.new.self c.if-is_some.ensures))
    ∙ ap (λ es. map (λ name. string_bytes name) c.loop-name.names.items ++ map (λ e. e.0) (filled es)) (sym c.in-Some.ensures.steps)
    ∙ c.loop-name.invariant

pub returns : goal.returns
returns c =
    sym (append-nil (map (λ name. string_bytes name) c.loop-name.names.items))
    ∙ ap (λ es. map (λ name. string_bytes name) c.loop-name.names.items ++ map (λ e. e.0) (filled es)) (sym c.in-None.ensures.steps.0)
    ∙ c.loop-name.invariant
