use Rattle.std.proofs.Common.{rules}
use Rattle.std.specs.Str.{is_utf8}
use Rattle.std.proofs.lemmas.Bool.{false_from_ne_true}
use Rattle.std.proofs.lemmas.Str.{is_utf8-from_IsUtf8, IsUtf8-from_is_utf8}
use Rattle.scene_c.proofs.kinds.text_in.Goals as goal

pub returns-in-Ok : goal.returns-in-Ok
returns-in-Ok c =
    let good = is_utf8-from_IsUtf8 c.args.bytes.now c.in-Ok.ensures.cases.1 in
    search (rules, good)

pub returns-in-Err : goal.returns-in-Err
returns-in-Err c =
    let bytes = c.args.bytes.now in
    let bad = false_from_ne_true (is_utf8 bytes) (λ q. c.in-Err.ensures.cases.0 (IsUtf8-from_is_utf8 bytes q)) in
    search (rules, bad)
