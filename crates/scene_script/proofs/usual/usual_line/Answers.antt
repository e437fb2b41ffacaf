use Rattle.std.proofs.Common.{[], ◌∷◌, ap, arith, rules}
use Rattle.std.proofs.lemmas.Slice.Eq.{text_from_reads}
use Rattle.std.proofs.lemmas.Str.{is_utf8-from_IsUtf8}
use Rattle.std.specs.Char.{encode_utf8}
use Rattle.std.specs.Str.{is_utf8, chars}
use Rattle.scene_script.specs.Script.{line_in}
use Rattle.scene_script.proofs.usual.usual_line.Goals as goal

pub returns-in-undo : goal.returns-in-undo
unfolding is_utf8 encode_utf8 chars
returns-in-undo c =
    ap (line_in c.args.schema.now) (text_from_reads c.args.bytes.now (117 ∷ 110 ∷ 100 ∷ 111 ∷ []) (omega arith) (omega arith, (omega arith, (omega arith, (omega arith, tt)))))

pub returns-in-redo : goal.returns-in-redo
unfolding is_utf8 encode_utf8 chars
returns-in-redo c =
    ap (line_in c.args.schema.now) (text_from_reads c.args.bytes.now (114 ∷ 101 ∷ 100 ∷ 111 ∷ []) (omega arith) (omega arith, (omega arith, (omega arith, (omega arith, tt)))))

pub returns-in-Ok : goal.returns-in-Ok
returns-in-Ok c =
    let good = is_utf8-from_IsUtf8 c.args.bytes.now c.in-Ok.ensures.cases.1 in
    search (rules, good)
