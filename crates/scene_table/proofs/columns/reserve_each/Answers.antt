use Rattle.std.proofs.Common.{◌≡◌, ◌≢◌, ◌<◌, ◌≤◌, ◌∙◌, ◌+◌, length, arith, refl, sym, subst, get_or, get_or-set_other, get_or-set_same, below_more}
use Rattle.std.specs.Prelude.{slice_set, true, false}
use Rattle.scene_table.specs.Columns.{ColumnState}
use Rattle.scene_table.proofs.ColumnLists.{grown_not, grown_more}
use Rattle.scene_table.proofs.columns.reserve_each.Goals as goal

pub loop-column-init : goal.loop-column-init
loop-column-init c = record { grown = grown_not c.args.columns.now; room = λ k d l. absurd (omega arith); left = λ k d l. refl }

pub returns-in_err-reserve-clause-grown : goal.returns-in_err-reserve-clause-grown
returns-in_err-reserve-clause-grown c =
    grown_more c.args.columns.now c.loop-column.columns c.loop-column.column-index c.column-item.result c.reserve.new.self c.loop-column.invariant.grown (omega arith)
    (record { same = record { kind = c.reserve.ensures.kind; cells = c.reserve.ensures.cells }; wide = c.reserve.ensures.wide })

pub returns-in_err-reserve-clause-there : goal.returns-in_err-reserve-clause-there
returns-in_err-reserve-clause-there c room =
    let i = c.loop-column.column-index in
    let d = c.column-item.result in
    absurd (let refused : false ≡ true = c.in_err-reserve.ensures.there (subst (λ (t : ColumnState). length t.cells + c.args.additional ≤ t.capacity) (sym (c.loop-column.invariant.left i d (omega arith))) (room i d c.loop-column-test.true)) in cc)

pub loop-column-preserved : goal.loop-column-preserved
loop-column-preserved c =
    let i = c.loop-column.column-index in
    let columns = c.loop-column.columns in
    let new = c.reserve.new.self in
    let within : i < length columns = omega arith in
    record {
      grown = grown_more c.args.columns.now columns i c.column-item.result new c.loop-column.invariant.grown within
          (record { same = record { kind = c.reserve.ensures.kind; cells = c.reserve.ensures.cells }; wide = c.reserve.ensures.wide });
      room = λ k d l. below_more (λ k. (d : ColumnState) → length (get_or (slice_set columns i new) k d).cells + c.args.additional ≤ (get_or (slice_set columns i new) k d).capacity) i
          (λ k l d. let ne : k ≢ i = omega arith in
          subst (λ (t : ColumnState). length t.cells + c.args.additional ≤ t.capacity) (sym (get_or-set_other columns i k new d ne)) (c.loop-column.invariant.room k d l))
          (λ d. subst (λ (t : ColumnState). length t.cells + c.args.additional ≤ t.capacity) (sym (get_or-set_same columns i new d within)) c.in_ok-reserve.ensures.room) k l d;
      left = λ k d l. let ne : k ≢ i = omega arith in get_or-set_other columns i k new d ne ∙ c.loop-column.invariant.left k d (omega arith);
    }
