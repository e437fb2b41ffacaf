use Rattle.std.proofs.Common.{◌≡◌, ◌++◌, drop, string_bytes}
use Rattle.scene_print.specs.Shown.{numbers_text}
use Rattle.scene_print.proofs.show.write_numbers.Given as goal

abbrev pub invariant-numbers : goal.invariant-numbers
invariant-numbers l = string_bytes l.out ++ numbers_text (drop l.n-index l.numbers) ≡ string_bytes l.initial.out ++ numbers_text l.numbers
