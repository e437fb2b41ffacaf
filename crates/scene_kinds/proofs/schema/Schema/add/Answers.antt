use Rattle.std.proofs.Common.{◌≡◌, ◌≤◌, ◌<◌, ◌++◌, ◌∷◌, [], ◌∙◌, ap, sym, refl, true, false, arith, length, is_some, Err, string_bytes, subst}
use Rattle.scene_kinds.specs.declared.refusal.Refusal.{Refusal}
use Rattle.scene_kinds.specs.Schema.{Kinds, IsSchema, is_good_name, number_of, named}
use Rattle.scene_kinds.proofs.Named.{found_named, kind_taken, kinds_full, kind_added, named_pushed, length_named, same_added}
use Rattle.scene_kinds.proofs.Choices.{none_of_false}
use Rattle.scene_kinds.proofs.Schemas.{IsSchema-push}
use Rattle.indexmap.proofs.CallerLemmas.{insert_entry-new}
use Rattle.scene_kinds.proofs.schema.Schema.add.Goals as goal

pub returns-then-contains_key : goal.returns-then-contains_key
returns-then-contains_key c =
    let name = string_bytes c.args.name in
    let good : is_good_name name ≡ true = ap is_good_name (sym c.as_str.ensures.value) ∙ sym c.good_name.ensures ∙ c.if-not-good_name.false in
    let there : is_some (number_of c.args.self.now name) ≡ true =
    ap (λ k. is_some (number_of k name)) (sym c.self.view_is) ∙ sym (found_named name c.self.inside.kinds.entries) ∙ sym c.contains_key.ensures ∙ c.if-contains_key.true in
    (refl, λ _. kind_taken c.args.self.now name c.args.shape good there ∙ ap (λ (r : Refusal). Err r) (sym c.from-then-contains_key.ensures))

pub returns-then-number-ge64 : goal.returns-then-number-ge64
returns-then-number-ge64 c =
    let name = string_bytes c.args.name in
    let good : is_good_name name ≡ true = ap is_good_name (sym c.as_str.ensures.value) ∙ sym c.good_name.ensures ∙ c.if-not-good_name.false in
    let new : is_some (number_of c.args.self.now name) ≡ false =
    ap (λ k. is_some (number_of k name)) (sym c.self.view_is) ∙ sym (found_named name c.self.inside.kinds.entries) ∙ sym c.contains_key.ensures ∙ c.if-contains_key.false in
    let full : 64 ≤ length c.args.self.now = omega (arith, ap (λ (k : Kinds). length k) (sym c.self.view_is), length_named c.self.inside.kinds.entries, c.len-number.ensures.len, c.if-number-ge64.true) in
    (refl, λ _. kinds_full c.args.self.now name c.args.shape good new full ∙ ap (λ (r : Refusal). Err r) (sym c.from-then-number-ge64.ensures))

pub returns : goal.returns
returns c =
    let name = string_bytes c.args.name in
    let good : is_good_name name ≡ true = ap is_good_name (sym c.as_str.ensures.value) ∙ sym c.good_name.ensures ∙ c.if-not-good_name.false in
    let new : is_some (number_of c.args.self.now name) ≡ false =
    ap (λ k. is_some (number_of k name)) (sym c.self.view_is) ∙ sym (found_named name c.self.inside.kinds.entries) ∙ sym c.contains_key.ensures ∙ c.if-contains_key.false in
    let few : length c.args.self.now < 64 = omega (arith, ap (λ (k : Kinds). length k) (sym c.self.view_is), length_named c.self.inside.kinds.entries, c.len-number.ensures.len, c.if-number-ge64.false) in
    let absent = none_of_false _ (sym c.contains_key.ensures ∙ c.if-contains_key.false) in
    let count : length c.args.self.now ≡ c.len-number.result = ap (λ (k : Kinds). length k) (sym c.self.view_is) ∙ length_named c.self.inside.kinds.entries ∙ sym c.len-number.ensures.len in
    let last : c.args.self.now ++ (name, c.args.shape) ∷ [] ≡ named c.insert.new.self.entries =
    ap (λ (k : Kinds). k ++ (name, c.args.shape) ∷ []) (sym c.self.view_is) ∙ sym (named_pushed c.self.inside.kinds.entries c.args.name c.args.shape)
    ∙ ap named (sym (c.in_ok-insert.ensures.entries ∙ insert_entry-new _ c.self.inside.kinds c.args.name c.args.shape absent)) in
    kind_added c.args.self.now name c.args.shape good new few ∙ same_added _ _ _ _ count last

pub invariant_of-self-2 : goal.invariant_of-self-2
invariant_of-self-2 c =
    let name = string_bytes c.args.name in
    let entries = c.self.inside.kinds.entries in
    let good : is_good_name name ≡ true = ap is_good_name (sym c.as_str.ensures.value) ∙ sym c.good_name.ensures ∙ c.if-not-good_name.false in
    let new : is_some (number_of (named entries) name) ≡ false = sym (found_named name entries) ∙ sym c.contains_key.ensures ∙ c.if-contains_key.false in
    let few : length (named entries) < 64 = omega (arith, length_named entries, c.len-number.ensures.len, c.if-number-ge64.false) in
    let absent = none_of_false _ (sym c.contains_key.ensures ∙ c.if-contains_key.false) in
    let same : named entries ++ (name, c.args.shape) ∷ [] ≡ named c.insert.new.self.entries =
    sym (named_pushed entries c.args.name c.args.shape) ∙ ap named (sym (c.in_ok-insert.ensures.entries ∙ insert_entry-new _ c.self.inside.kinds c.args.name c.args.shape absent)) in
    subst IsSchema same (IsSchema-push (named entries) name c.args.shape c.self.invariant few good new)
