use Rattle.std.proofs.Common.{rules}
use Rattle.scene_store.specs.declared.version.Version.TheVariants.{First, Second}
use Rattle.scene_store.specs.Head.{head_mark, head_of, Begins}
use Rattle.scene_store.proofs.HeadLemmas.{neither}
use Rattle.scene_store.proofs.rows.version_of.Goals as goal

pub returns-then-starts_with-3 : goal.returns-then-starts_with-3
returns-then-starts_with-3 c =
    let mark : Begins c.args.text.now head_mark = search rules in
    let first : Begins c.args.text.now (head_of First) → ⊥ = search rules in
    let second : Begins c.args.text.now (head_of Second) → ⊥ = search rules in
    (mark, neither c.args.text.now first second)
