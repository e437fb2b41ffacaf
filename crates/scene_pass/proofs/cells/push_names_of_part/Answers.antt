use Rattle.std.proofs.Common.{ℕ, ◌≡◌, arith, sym, ◌∙◌, ap, append_assoc, ◌++◌, ◌+◌, drop}
use Rattle.std.specs.List.{flat_map}
use Rattle.scene_table.specs.Since.{is_since}
use Rattle.scene_pass.specs.Pass.{names_in}
use Rattle.scene_pass.proofs.RowSteps.{row_at, drop_at}
use Rattle.scene_pass.proofs.Unlisted.{none_in_part}
use Rattle.scene_pass.proofs.cells.push_names_of_part.Goals as goal

pub returns-then-not-has_since : goal.returns-then-not-has_since
returns-then-not-has_since c =
    ap (λ ns. c.args.names.now.items ++ ns) (none_in_part c.args.since c.args.table.now.rows c.args.from c.args.to c.requires.0 (sym c.has_since.ensures ∙ c.if-not-has_since.true))

pub rows-preserved : goal.rows-preserved
rows-preserved c =
    let rows = c.args.table.now.rows in
    let names = names_in (is_since c.args.since) in
    let r = row_at rows c.rows.at (omega (arith, c.rows-test.true, c.requires)) in
    let rest = flat_map names (drop (c.rows.at + 1) rows) in
    ap (λ ns. ns ++ rest) (c.in_ok-push_names.ensures r.0 r.1) ∙ append_assoc c.rows.names.items (names r.0) rest
    ∙ ap (λ ns. c.rows.names.items ++ ns) (sym (drop_at (flat_map names) rows c.rows.at r.0 r.1)) ∙ c.rows.invariant

pub returns : goal.returns
returns c =
    let last : c.args.to ≡ c.rows.at = omega (arith, c.rows-test.false, c.rows.auto.at-end, c.requires) in
    ap (λ (n : ℕ). c.rows.names.items ++ flat_map (names_in (is_since c.args.since)) (drop n c.args.table.now.rows)) last ∙ c.rows.invariant
