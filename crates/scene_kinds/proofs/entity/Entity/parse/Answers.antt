use Rattle.std.proofs.Common.{◌≡◌, rules, subst, List, ℕ}
use Rattle.scene_kinds.specs.Entity.{SaysEntity}
use Rattle.scene_kinds.proofs.EntityReading.{says_entity}
use Rattle.scene_kinds.proofs.Numbers.{not_text_is_no_entity, entity_is_text}
use Rattle.scene_kinds.proofs.entity.Entity.parse.Goals as goal

pub returns-in_err-text : goal.returns-in_err-text
returns-in_err-text c = record {
  found = search rules;
  only = λ i g hi hg e. absurd (not_text_is_no_entity _ _ c.from_utf8.result c.args.bytes.now c.in_err-text.ensures.variant c.from_utf8.ensures.cases (entity_is_text c.args.bytes.now i g hi hg e));
}

pub returns : goal.returns
returns c =
    let same : c.in_ok-text.text.now ≡ c.args.bytes.now = search rules in
    subst (λ (text : List ℕ). SaysEntity text c.read_entity.result) same (says_entity c.in_ok-text.text.now c.read_entity.result c.read_entity.ensures)
