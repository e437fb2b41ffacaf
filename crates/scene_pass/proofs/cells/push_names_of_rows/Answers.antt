use Rattle.std.proofs.Common.{arith, sym, ◌∙◌, ap, ◌++◌}
use Rattle.std.specs.List.{flat_map}
use Rattle.std.proofs.lemmas.List.{append-nil, drop_all}
use Rattle.scene_table.specs.Since.{is_since}
use Rattle.scene_pass.specs.Pass.{names_in}
use Rattle.scene_pass.proofs.Unlisted.{none_in_rows}
use Rattle.scene_pass.proofs.cells.push_names_of_rows.Goals as goal

pub returns-then-not-may_have : goal.returns-then-not-may_have
returns-then-not-may_have c =
    sym (ap (λ ns. c.args.names.now.items ++ ns) (none_in_rows c.args.since c.args.table.now.rows (c.may_have.ensures c.if-not-may_have.true)) ∙ append-nil c.args.names.now.items)

pub parts-preserved : goal.parts-preserved
parts-preserved c = record { within = omega arith; listed = c.in_ok-push_names_of_part.ensures ∙ c.parts.invariant.listed }

pub returns : goal.returns
returns c =
    let end = drop_all c.parts.from c.args.table.now.rows (omega (arith, c.parts-test.false, c.len-count.ensures.count)) in
    sym (append-nil c.parts.names.items) ∙ ap (λ rows. c.parts.names.items ++ flat_map (names_in (is_since c.args.since)) rows) (sym end) ∙ c.parts.invariant.listed
