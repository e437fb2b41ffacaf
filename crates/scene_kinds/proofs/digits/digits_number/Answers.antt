use Rattle.std.proofs.Common.{◌≡◌, ◌≤◌, true, false, length, take, sym, ◌∙◌, arith}
use Rattle.std.specs.Int.{is_in_range}
use Rattle.std.specs.Prelude.{slice_index_or}
use Rattle.std.proofs.lemmas.List.{length-take-le}
use Rattle.scene_kinds.proofs.DigitLaws.{more_digits, digits_room, digits_small, no_digit}
use Rattle.scene_kinds.proofs.digits.digits_number.Goals as goal

pub returns-then-not-is_ascii_digit-clause-value : goal.returns-then-not-is_ascii_digit-clause-value
returns-then-not-is_ascii_digit-clause-value c =
    let test : is_in_range 48 57 (slice_index_or c.args.bytes.now c.loop-byte.byte-index 0) ≡ false = sym c.is_ascii_digit.ensures.value ∙ c.if-not-is_ascii_digit.true in
    no_digit c.args.bytes.now c.loop-byte.byte-index c.loop-byte-test.true test

pub overflow_mul-number : goal.overflow_mul-number
overflow_mul-number c =
    let room = digits_room c.args.bytes.now c.loop-byte.byte-index c.loop-byte-test.true c.requires c.loop-byte.invariant.0 in
    omega (arith, room, c.loop-byte.invariant.1)

pub overflow_add-number : goal.overflow_add-number
overflow_add-number c =
    let room = digits_room c.args.bytes.now c.loop-byte.byte-index c.loop-byte-test.true c.requires c.loop-byte.invariant.0 in
    omega (arith, room, c.loop-byte.invariant.1, c.type_inv.bytes c.loop-byte.byte-index)

pub loop-byte-preserved : goal.loop-byte-preserved
loop-byte-preserved c =
    let test : is_in_range 48 57 (slice_index_or c.args.bytes.now c.loop-byte.byte-index 0) ≡ true = sym c.is_ascii_digit.ensures.value ∙ c.if-not-is_ascii_digit.false in
    more_digits c.args.bytes.now c.loop-byte.byte-index c.loop-byte.number c.loop-byte-test.true c.loop-byte.invariant.0 c.loop-byte.invariant.1 test

pub returns-clause-small : goal.returns-clause-small
returns-clause-small c =
    let long = length-take-le c.loop-byte.byte-index c.args.bytes.now c.loop-byte.auto.byte-index-end in
    let few : length (take c.loop-byte.byte-index c.args.bytes.now) ≤ 18 = omega (arith, long, c.requires, c.loop-byte.auto.byte-index-end) in
    let below = digits_small (take c.loop-byte.byte-index c.args.bytes.now) few c.loop-byte.invariant.0 in
    omega (arith, below, c.loop-byte.invariant.1)
