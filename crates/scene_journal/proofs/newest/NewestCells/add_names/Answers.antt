use Rattle.std.proofs.Common.{◌∙◌, ap, arith, length, map, refl, string_bytes}
use Rattle.std.specs.Prelude.{option_map}
use Rattle.std.proofs.lemmas.Option.{slice_get-map, slice_get_read}
use Rattle.std.proofs.lemmas.List.{length-map}
use Rattle.scene_journal.specs.Newest.{IsNameListed}
use Rattle.scene_journal.proofs.Listed.{all_up_to, name_wider, one_more, wider_wider}
use Rattle.scene_journal.proofs.newest.NewestCells.add_names.Goals as goal

pub loop-number-preserved : goal.loop-number-preserved
loop-number-preserved c =
    let n = c.loop-number.self in
    let m = c.add_name.new.self in
    let r = c.args.resources.now.cells in
    let names = c.args.names.now in
    let count = c.loop-number.number in
    let name = c.index-names-number.result in
    let wide = c.in_ok-add_name.ensures.wide in (
      one_more (IsNameListed n r) (IsNameListed m r) (map string_bytes names) count (string_bytes name) (name_wider n m r wide)
          (slice_get-map string_bytes names count ∙ ap (option_map string_bytes) (slice_get_read names (length names) count name refl c.loop-number-test.true c.index-names-number.is))
          c.in_ok-add_name.ensures.listed c.loop-number.invariant.0,
      wider_wider c.args.self.now n m c.loop-number.invariant.1 wide,
    )

pub returns-clause-listed : goal.returns-clause-listed
returns-clause-listed c =
    let names = c.args.names.now in
    let end = c.loop-number-test.false in
    let count = length-map names string_bytes in
    all_up_to (IsNameListed c.loop-number.self c.args.resources.now.cells) (map string_bytes names) c.loop-number.number (omega (arith, end, count)) c.loop-number.invariant.0
