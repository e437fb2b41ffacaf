use Rattle.std.proofs.Common.{◌≡◌, length, filter, rules, ◌≤◌, ◌+◌, subst}
use borrow.Author.Tests.{tests}
use Rattle.std.specs.Prelude.{◌==◌}
use Rattle.std.proofs.lemmas.Iterator.Consumers.{count_from_yields_List, YieldsList-from_filter, YieldsList-at}
use Rattle.std.proofs.lemmas.Iterator.Adapters.{YieldsList-from_bytes}
use Rattle.scene_script.proofs.WordLaws.{few_words}
use Rattle.scene_script.proofs.words.Words.most.Goals as goal

pub returns : goal.returns
returns c =
    let line = c.self.inside.line.now in
    let counted : c.count.result ≡ length (filter (λ b. b == 32) line) =
    count_from_yields_List _ c.count.result c.count.ensures.ran
    (YieldsList-from_filter _ (λ b. b == 32) (YieldsList-at c.filter.ensures.source (YieldsList-from_bytes line c.bytes.ensures.rest)) c.filter.ensures.closure
    (λ x b q k. search (rules, tests))) in
    subst (λ ws. length ws ≤ c.count.result + 1) c.self.view_is (few_words line c.count.result counted)
