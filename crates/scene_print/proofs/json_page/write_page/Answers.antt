use Rattle.std.proofs.Common.{◌≡◌, ◌∙◌, ◌+◌, ◌++◌, ◌-◌, ap, drop, min, refl, slice_get, Some, string_bytes, sym}
use Rattle.std.proofs.lemmas.Option.{slice_get_read}
use Rattle.scene_json_forms.specs.Printing.{rest_text}
use Rattle.scene_print.specs.JsonShown.{row_json}
use Rattle.scene_print.proofs.JsonWritten.{from_place}
use Rattle.scene_print.proofs.Pages.{page_on}
use Rattle.scene_print.proofs.json_page.write_page.Goals as goal

pub tables-preserved : goal.tables-preserved
tables-preserved c =
    let t = c.table-item.result in
    let there : slice_get c.args.tables.now c.tables.table-index ≡ Some t =
    slice_get_read c.args.tables.now _ c.tables.table-index t refl c.tables-test.true c.table-item.is in
    let more = drop (c.tables.table-index + 1) c.args.tables.now in
    let same : c.len-in-tables.result ≡ c.len.result = c.len-in-tables.ensures.count ∙ sym c.len.ensures.count in
    c.in_ok-later.ensures _
    ∙ ap (λ rows. string_bytes c.tables.out ++ rest_text c.tables.later (row_json c.args.schema.now) rows)
    (sym (page_on (λ u. u.now.rows) (drop c.tables.table-index c.args.tables.now) t more c.tables.passed c.tables.left c.len.result
    c.min-first.result c.min-listed.result _ (from_place c.args.tables.now c.tables.table-index t there) c.len.ensures.count c.min-first.ensures
    (c.min-listed.ensures ∙ ap (λ n. min c.tables.left (n - c.min-first.result)) same) refl))
    ∙ c.tables.invariant
