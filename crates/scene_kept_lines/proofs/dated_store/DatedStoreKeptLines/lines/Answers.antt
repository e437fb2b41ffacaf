use Rattle.std.proofs.Common.{subst}
use Rattle.scene_kept_lines.specs.Dated.{EndsLine}
use Rattle.scene_kept_lines.proofs.Comments.{keeps_found}
use Rattle.scene_kept_lines.proofs.dated_store.DatedStoreKeptLines.lines.Goals as goal

pub returns-in-Ok-clause-whole : goal.returns-in-Ok-clause-whole
returns-in-Ok-clause-whole g c is_store =
    keeps_found g.S.Keep.keeps c.lines.new.self c.may_end_within-self.result c.in-Ok.found.text.items
    (c.in-Ok.ensures.whole is_store) (λ no. subst EndsLine c.as_slice.ensures.value (c.may_end_within-self.ensures.end no))
