use Rattle.std.proofs.Common.{get_or, subst, ap, ◌∙◌, arith, Ok}
use Rattle.std.proofs.lemmas.List.{get_or_default}
use Rattle.scene_world.proofs.Room.{wider_wider}
use Rattle.scene_schedule.specs.TableWrites.{OverflowsAs, changes_at}
use Rattle.scene_schedule.proofs.TableWrites.{still_ready, one_more_table, table_over}
use Rattle.scene_schedule.proofs.in_turn.write_tables.Goals as goal

pub write_steps-requires-clause-kinds : goal.write_steps-requires-clause-kinds
write_steps-requires-clause-kinds g c =
    let sets = c.args.sets.now in
    let i = c.tables.number in
    let lt = c.tables-test.true in
    still_ready g.S.Stage.note c.args.steps.now sets (g.S.Stage.seen c.args.stage.now) (g.S.Stage.seen c.tables.stage) i (get_or sets i 0) c.requires.valid c.requires.once
    (omega (arith, lt)) (get_or_default sets i 0 (get_or sets i 0) (omega (arith, lt))) c.tables.invariant.wrote c.requires.kinds

pub tables-preserved : goal.tables-preserved
tables-preserved g c =
    let sets = c.args.sets.now in
    let i = c.tables.number in
    let lt = c.tables-test.true in
    let fit = c.in_ok-write_steps.ensures.fit (ap Ok c.if-not-branch.false) in
    record {
      wrote = one_more_table g.S.Stage.note c.args.steps.now sets (g.S.Stage.seen c.args.stage.now) (g.S.Stage.seen c.tables.stage) i (get_or sets i 0) c.requires.valid c.requires.once
          (omega (arith, lt)) (get_or_default sets i 0 (get_or sets i 0) (omega (arith, lt))) c.tables.invariant.wrote (g.S.Stage.seen c.write_steps.new.self) fit.0 fit.1;
      opening = c.write_steps.ensures.opening ∙ c.tables.invariant.opening;
      wide = wider_wider (g.S.Stage.room c.args.stage.now) (g.S.Stage.room c.tables.stage) (g.S.Stage.room c.write_steps.new.self) c.tables.invariant.wide c.write_steps.ensures.wide;
    }

pub returns-then-not-branch-clause-refused : goal.returns-then-not-branch-clause-refused
returns-then-not-branch-clause-refused g c = λ named.
    let sets = c.args.sets.now in
    let i = c.tables.number in
    let lt = c.tables-test.true in
    let mask = get_or sets i 0 in
    let unfit = c.in_ok-write_steps.ensures.unfit (ap Ok c.if-not-branch.true) in
    table_over g.S.Stage.note c.args.steps.now sets (g.S.Stage.seen c.args.stage.now) (g.S.Stage.seen c.tables.stage) i mask c.requires.valid c.requires.once
    (omega (arith, lt)) (get_or_default sets i 0 (get_or sets i 0) (omega (arith, lt))) c.tables.invariant.wrote c.args.at c.overflow_in.result
    (subst (λ w. OverflowsAs (changes_at w c.args.steps.now mask) c.args.at c.overflow_in.result) (c.world.ensures ∙ ap (λ s. s.world) unfit.1) (c.overflow_in.ensures named))

pub returns-then-not-branch-clause-wide : goal.returns-then-not-branch-clause-wide
returns-then-not-branch-clause-wide g c =
    wider_wider (g.S.Stage.room c.args.stage.now) (g.S.Stage.room c.tables.stage) (g.S.Stage.room c.write_steps.new.self) c.tables.invariant.wide c.write_steps.ensures.wide
