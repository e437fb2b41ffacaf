use Rattle.std.proofs.Common.{◌≡◌, take}
use Rattle.std.specs.Bool.{OnTrue}
use Rattle.json.specs.Print.{escape}
use Rattle.scene_json.proofs.text.is_plain.Given as goal

abbrev pub invariant-bytes : goal.invariant-bytes
invariant-bytes l = OnTrue l.plain (escape (take l.byte-index l.text) ≡ take l.byte-index l.text)
