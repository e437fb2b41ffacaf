use Rattle.std.proofs.Common.{◌≡◌, ◌≤◌, ◌∙◌, ◌++◌, ◌+◌, List, length, take, drop, ap, subst, sym, arith}
use Rattle.std.specs.Prelude.{false, true, vec_capacity}
use Rattle.std.proofs.lemmas.Result.{on_ok_weaker}
use Rattle.scene_kinds.specs.declared.entity.Entity.{Entity}
use Rattle.scene_table.specs.Columns.{IsTable, rows_of, least}
use Rattle.scene_table.proofs.TableRows.{length-rows_of}
use Rattle.scene_table.proofs.TableFacts.{least_first, are_ready, is_wider, room_made, room_there}
use Rattle.scene_table.proofs.table.Table.reserve.Goals as goal

pub returns-then-additional-eq0-clause-room : goal.returns-then-additional-eq0-clause-room
returns-then-additional-eq0-clause-room c =
    let n = ap (λ t. length t.rows) (sym c.self.view_is) ∙ length-rows_of c.self.inside.entities.items c.self.inside.columns.items c.self.invariant.long in
    omega (arith, c.self.invariant.fits, ap (λ t. t.capacity) c.self.view_is)

pub returns-in_err-make_columns-clause-rows : goal.returns-in_err-make_columns-clause-rows
returns-in_err-make_columns-clause-rows c = ap (rows_of c.self.inside.entities.items) c.in_err-make_columns.ensures.err ∙ ap (λ t. t.rows) c.self.view_is

pub returns-in_err-make_columns-clause-there : goal.returns-in_err-make_columns-clause-there
returns-in_err-make_columns-clause-there c room =
    let n = ap (λ t. length t.rows) (sym c.self.view_is) ∙ length-rows_of c.self.inside.entities.items c.self.inside.columns.items c.self.invariant.long in
    let r = ap (λ t. t.capacity) c.self.view_is in
    let low = least_first (vec_capacity c.self.inside.entities) c.self.inside.columns.items in
    absurd (let refused : false ≡ true = c.in_err-make_columns.ensures.there (omega (arith, c.capacity-capacity.ensures)) in cc)

pub returns-in_err-make_columns-clause-wide : goal.returns-in_err-make_columns-clause-wide
returns-in_err-make_columns-clause-wide c =
    let n = ap (λ t. length t.rows) (sym c.self.view_is) ∙ length-rows_of c.self.inside.entities.items c.self.inside.columns.items c.self.invariant.long in
    let r = ap (λ t. t.capacity) c.self.view_is in
    let low = least_first (vec_capacity c.self.inside.entities) c.self.inside.columns.items in
    omega (arith, ap (least (vec_capacity c.self.inside.entities)) c.in_err-make_columns.ensures.err)

pub invariant_of-self-in_err-reserve_each : goal.invariant_of-self-in_err-reserve_each
invariant_of-self-in_err-reserve_each c =
    let es = c.self.inside.entities.items in
    let cs = c.self.inside.columns.items in
    let cap = vec_capacity c.self.inside.entities in
    let made = c.make_columns.new.columns in
    let ready = are_ready c.self.inside.mask es cap cs made.items c.self.invariant (omega arith) (λ p. c.in_ok-make_columns.ensures.kept (omega (arith, c.capacity-capacity.ensures))) (λ z. c.in_ok-make_columns.ensures.made (c.capacity-capacity.ensures ∙ z)) in
    let wider = is_wider c.self.inside.mask es cap cap made.len cs made.items c.deref_mut.result.now c.reserve_each.new.columns ready (omega arith) (omega arith) c.deref_mut.ensures.value c.in_err-reserve_each.ensures.grown in
    wider.table

pub returns-in_err-reserve_each-clause-rows : goal.returns-in_err-reserve_each-clause-rows
returns-in_err-reserve_each-clause-rows c =
    let es = c.self.inside.entities.items in
    let cs = c.self.inside.columns.items in
    let cap = vec_capacity c.self.inside.entities in
    let made = c.make_columns.new.columns in
    let ready = are_ready c.self.inside.mask es cap cs made.items c.self.invariant (omega arith) (λ p. c.in_ok-make_columns.ensures.kept (omega (arith, c.capacity-capacity.ensures))) (λ z. c.in_ok-make_columns.ensures.made (c.capacity-capacity.ensures ∙ z)) in
    let wider = is_wider c.self.inside.mask es cap cap made.len cs made.items c.deref_mut.result.now c.reserve_each.new.columns ready (omega arith) (omega arith) c.deref_mut.ensures.value c.in_err-reserve_each.ensures.grown in
    wider.rows ∙ ap (λ t. t.rows) c.self.view_is

pub returns-in_err-reserve_each-clause-there : goal.returns-in_err-reserve_each-clause-there
returns-in_err-reserve_each-clause-there c room =
    let n = ap (λ t. length t.rows) (sym c.self.view_is) ∙ length-rows_of c.self.inside.entities.items c.self.inside.columns.items c.self.invariant.long in
    let r = ap (λ t. t.capacity) c.self.view_is in
    let low = least_first (vec_capacity c.self.inside.entities) c.self.inside.columns.items in
    let es = c.self.inside.entities.items in
    let cs = c.self.inside.columns.items in
    let cap = vec_capacity c.self.inside.entities in
    let made = c.make_columns.new.columns in
    let ready = are_ready c.self.inside.mask es cap cs made.items c.self.invariant (omega arith) (λ p. c.in_ok-make_columns.ensures.kept (omega (arith, c.capacity-capacity.ensures))) (λ z. c.in_ok-make_columns.ensures.made (c.capacity-capacity.ensures ∙ z)) in
    absurd (let refused : false ≡ true = c.in_err-reserve_each.ensures.there (room_there c.self.inside.mask es cap c.args.additional cs made.items c.deref_mut.result.now ready.long ready.wide c.deref_mut.ensures.value (omega arith)) in cc)

pub returns-in_err-reserve_each-clause-wide : goal.returns-in_err-reserve_each-clause-wide
returns-in_err-reserve_each-clause-wide c =
    let n = ap (λ t. length t.rows) (sym c.self.view_is) ∙ length-rows_of c.self.inside.entities.items c.self.inside.columns.items c.self.invariant.long in
    let r = ap (λ t. t.capacity) c.self.view_is in
    let low = least_first (vec_capacity c.self.inside.entities) c.self.inside.columns.items in
    let es = c.self.inside.entities.items in
    let cs = c.self.inside.columns.items in
    let cap = vec_capacity c.self.inside.entities in
    let made = c.make_columns.new.columns in
    let ready = are_ready c.self.inside.mask es cap cs made.items c.self.invariant (omega arith) (λ p. c.in_ok-make_columns.ensures.kept (omega (arith, c.capacity-capacity.ensures))) (λ z. c.in_ok-make_columns.ensures.made (c.capacity-capacity.ensures ∙ z)) in
    let wider = is_wider c.self.inside.mask es cap cap made.len cs made.items c.deref_mut.result.now c.reserve_each.new.columns ready (omega arith) (omega arith) c.deref_mut.ensures.value c.in_err-reserve_each.ensures.grown in
    omega (arith, wider.wide)

pub invariant_of-self-2 : goal.invariant_of-self-2
invariant_of-self-2 c =
    let es = c.self.inside.entities.items in
    let cs = c.self.inside.columns.items in
    let cap = vec_capacity c.self.inside.entities in
    let made = c.make_columns.new.columns in
    let ready = are_ready c.self.inside.mask es cap cs made.items c.self.invariant (omega arith) (λ p. c.in_ok-make_columns.ensures.kept (omega (arith, c.capacity-capacity.ensures))) (λ z. c.in_ok-make_columns.ensures.made (c.capacity-capacity.ensures ∙ z)) in
    let wide = vec_capacity c.reserve.new.self in
    let wider = is_wider c.self.inside.mask es cap wide made.len cs made.items c.deref_mut.result.now c.reserve_each.new.columns ready (omega (arith, c.reserve.ensures.capacity)) (omega arith) c.deref_mut.ensures.value c.in_ok-reserve_each.ensures.grown in
    subst (λ (t : List Entity). IsTable c.self.inside.mask t wide (take made.len (c.reserve_each.new.columns ++ drop (length c.reserve_each.new.columns) made.items))) (sym c.reserve.ensures.items) wider.table

pub returns-clause-rows : goal.returns-clause-rows
returns-clause-rows c =
    let es = c.self.inside.entities.items in
    let cs = c.self.inside.columns.items in
    let cap = vec_capacity c.self.inside.entities in
    let made = c.make_columns.new.columns in
    let ready = are_ready c.self.inside.mask es cap cs made.items c.self.invariant (omega arith) (λ p. c.in_ok-make_columns.ensures.kept (omega (arith, c.capacity-capacity.ensures))) (λ z. c.in_ok-make_columns.ensures.made (c.capacity-capacity.ensures ∙ z)) in
    let wide = vec_capacity c.reserve.new.self in
    let wider = is_wider c.self.inside.mask es cap wide made.len cs made.items c.deref_mut.result.now c.reserve_each.new.columns ready (omega (arith, c.reserve.ensures.capacity)) (omega arith) c.deref_mut.ensures.value c.in_ok-reserve_each.ensures.grown in
    ap (λ (t : List Entity). rows_of t (take made.len (c.reserve_each.new.columns ++ drop (length c.reserve_each.new.columns) made.items))) c.reserve.ensures.items ∙ wider.rows ∙ ap (λ t. t.rows) c.self.view_is

pub returns-clause-room : goal.returns-clause-room
returns-clause-room c =
    let es = c.self.inside.entities.items in
    let cs = c.self.inside.columns.items in
    let cap = vec_capacity c.self.inside.entities in
    let made = c.make_columns.new.columns in
    let ready = are_ready c.self.inside.mask es cap cs made.items c.self.invariant (omega arith) (λ p. c.in_ok-make_columns.ensures.kept (omega (arith, c.capacity-capacity.ensures))) (λ z. c.in_ok-make_columns.ensures.made (c.capacity-capacity.ensures ∙ z)) in
    let wide = vec_capacity c.reserve.new.self in
    let wider = is_wider c.self.inside.mask es cap wide made.len cs made.items c.deref_mut.result.now c.reserve_each.new.columns ready (omega (arith, c.reserve.ensures.capacity)) (omega arith) c.deref_mut.ensures.value c.in_ok-reserve_each.ensures.grown in
    on_ok_weaker c.reserve.result (λ room. subst (λ (t : List Entity). length (rows_of t (take made.len (c.reserve_each.new.columns ++ drop (length c.reserve_each.new.columns) made.items))) + c.args.additional ≤ least wide (take made.len (c.reserve_each.new.columns ++ drop (length c.reserve_each.new.columns) made.items))) (sym c.reserve.ensures.items)
    (room_made c.self.inside.mask es wide c.args.additional made.len made.items c.deref_mut.result.now c.reserve_each.new.columns wider.table (omega arith) c.deref_mut.ensures.value c.in_ok-reserve_each.ensures.grown c.in_ok-reserve_each.ensures.room (omega (arith, c.reserve.ensures.len)))) c.reserve.ensures.ok

pub returns-clause-there : goal.returns-clause-there
returns-clause-there c room =
    let n = ap (λ t. length t.rows) (sym c.self.view_is) ∙ length-rows_of c.self.inside.entities.items c.self.inside.columns.items c.self.invariant.long in
    let r = ap (λ t. t.capacity) c.self.view_is in
    let low = least_first (vec_capacity c.self.inside.entities) c.self.inside.columns.items in
    c.reserve.ensures.succeeds (omega arith)

pub returns-clause-wide : goal.returns-clause-wide
returns-clause-wide c =
    let n = ap (λ t. length t.rows) (sym c.self.view_is) ∙ length-rows_of c.self.inside.entities.items c.self.inside.columns.items c.self.invariant.long in
    let r = ap (λ t. t.capacity) c.self.view_is in
    let low = least_first (vec_capacity c.self.inside.entities) c.self.inside.columns.items in
    let es = c.self.inside.entities.items in
    let cs = c.self.inside.columns.items in
    let cap = vec_capacity c.self.inside.entities in
    let made = c.make_columns.new.columns in
    let ready = are_ready c.self.inside.mask es cap cs made.items c.self.invariant (omega arith) (λ p. c.in_ok-make_columns.ensures.kept (omega (arith, c.capacity-capacity.ensures))) (λ z. c.in_ok-make_columns.ensures.made (c.capacity-capacity.ensures ∙ z)) in
    let wide = vec_capacity c.reserve.new.self in
    let wider = is_wider c.self.inside.mask es cap wide made.len cs made.items c.deref_mut.result.now c.reserve_each.new.columns ready (omega (arith, c.reserve.ensures.capacity)) (omega arith) c.deref_mut.ensures.value c.in_ok-reserve_each.ensures.grown in
    omega (arith, wider.wide)
