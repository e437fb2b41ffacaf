use Rattle.std.proofs.Common.{◌∙◌, refl}
use Rattle.scene_validate.proofs.Breaks.{stops_at_4, stops_at_5, busy_at_5, stops_at_6, live_marks, goes_on}
use Rattle.scene_validate.proofs.broken.broken_from_4.Goals as goal

pub returns-in_default : goal.returns-in_default
returns-in_default c = stops_at_4 c.args.parts.now _ _
    (record { current = c.requires.current; generations = c.as_slice-generations.ensures.value; indices = c.as_slice-indices.ensures.value ∙ c.in_ok-found.ensures })
    _ c.in_ok-live.ensures.some c.in_default.is

pub returns-in_default-2 : goal.returns-in_default-2
returns-in_default-2 c = stops_at_5 c.args.parts.now _ _
    (record { current = c.requires.current; generations = c.as_slice-generations.ensures.value; indices = c.as_slice-indices.ensures.value ∙ c.in_ok-found.ensures })
    _ _ (record { some = c.in_ok-live.ensures.some; there = c.in-Some.is; marks = c.in_ok-live.ensures.marks })
    _ _ c.as_slice.ensures.value c.in_ok-free.ensures.some c.in_default-2.is

pub returns-then-any_marked : goal.returns-then-any_marked
returns-then-any_marked c = busy_at_5 c.args.parts.now _ _
    (record { current = c.requires.current; generations = c.as_slice-generations.ensures.value; indices = c.as_slice-indices.ensures.value ∙ c.in_ok-found.ensures })
    _ _ (record { some = c.in_ok-live.ensures.some; there = c.in-Some.is; marks = c.in_ok-live.ensures.marks })
    _ _ _ (record { list = c.as_slice.ensures.value; some = c.in_ok-free.ensures.some; there = c.in-Some-2.is; marks = c.in_ok-free.ensures.marks })
    _ c.as_slice-2.ensures.value _ c.any_marked.ensures c.if-any_marked.true

pub returns-then-not-all_accounted : goal.returns-then-not-all_accounted
returns-then-not-all_accounted c = stops_at_6 c.args.parts.now _ _
    (record { current = c.requires.current; generations = c.as_slice-generations.ensures.value; indices = c.as_slice-indices.ensures.value ∙ c.in_ok-found.ensures })
    _ _ (record { some = c.in_ok-live.ensures.some; there = c.in-Some.is; marks = c.in_ok-live.ensures.marks })
    _ _ _ (record { list = c.as_slice.ensures.value; some = c.in_ok-free.ensures.some; there = c.in-Some-2.is; marks = c.in_ok-free.ensures.marks })
    _ c.as_slice-2.ensures.value _ c.any_marked.ensures _ _ c.as_slice-3.ensures.value c.as_slice-4.ensures.value _ c.all_accounted.ensures c.if-any_marked.false c.if-not-all_accounted.true

pub returns : goal.returns
returns c = goes_on c.args.parts.now _ _
    (record { current = c.requires.current; generations = c.as_slice-generations.ensures.value; indices = c.as_slice-indices.ensures.value ∙ c.in_ok-found.ensures })
    _ _ (record { some = c.in_ok-live.ensures.some; there = c.in-Some.is; marks = c.in_ok-live.ensures.marks })
    _ _ _ (record { list = c.as_slice.ensures.value; some = c.in_ok-free.ensures.some; there = c.in-Some-2.is; marks = c.in_ok-free.ensures.marks })
    _ c.as_slice-2.ensures.value _ c.any_marked.ensures _ _ c.as_slice-3.ensures.value c.as_slice-4.ensures.value _ c.all_accounted.ensures c.if-any_marked.false c.if-not-all_accounted.false
    _ c.in_ok-later.ensures
