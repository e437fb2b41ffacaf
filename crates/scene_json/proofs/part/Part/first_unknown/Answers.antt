use Rattle.std.proofs.Common.{◌≡◌, List, ℕ, Bor, Option, cond, true, false, Some, option_map, sym, ap, ◌∙◌, map as each}
use Rattle.std.specs.List.{list_any}
use Rattle.std.specs.Str.{bytes_eq}
use Rattle.serde_json.specs.Data.{no_members}
use Rattle.scene_json.specs.Keys.{sooner}
use Rattle.scene_json.specs.NodeData.{put_all}
use Rattle.scene_json.specs.View.{fields, view}
use Rattle.scene_json.proofs.Unknown.{any_known, first_of, unknown_among}
use Rattle.scene_json.proofs.part.Part.first_unknown.Goals as goal

-- the keys that are referred to
abbrev keys : List (Bor (List ℕ)) → List (List ℕ)
keys known = each (λ k. k.now) known

abbrev named : Option (Bor (List ℕ)) → Option (List ℕ)
named first = option_map (λ k. k.now) first

pub loop-key-init : goal.loop-key-init
loop-key-init c =
    let p = c.args.self.now in
    unknown_among (keys c.args.known.now) (view p) (fields c.in_ok-members.members)
    (ap (option_map (λ m. put_all (fields m) no_members)) (sym c.in_ok-members.was) ∙ c.members.ensures)

pub loop-key-preserved-then-not-is_known : goal.loop-key-preserved-then-not-is_known
loop-key-preserved-then-not-is_known c =
    let known = keys c.args.known.now in
    let key = c.in-Some.key.now in
    let first = named c.loop-key.first in
    let rest = fields c.next.new.self in
    let unknown : list_any (bytes_eq key) known ≡ false = sym (any_known key c.args.known.now) ∙ sym c.is_known.ensures ∙ c.if-not-is_known.true in
    c.loop-key.invariant ∙ ap (first_of known first) c.in-Some.ensures
    ∙ ap (λ u. first_of known u rest) (ap (λ b. cond b first (Some (sooner first key))) unknown ∙ ap Some (sym c.sooner.ensures))

pub loop-key-preserved : goal.loop-key-preserved
loop-key-preserved c =
    let known = keys c.args.known.now in
    let key = c.in-Some.key.now in
    let first = named c.loop-key.first in
    let rest = fields c.next.new.self in
    let there : list_any (bytes_eq key) known ≡ true = sym (any_known key c.args.known.now) ∙ sym c.is_known.ensures ∙ c.if-not-is_known.false in
    c.loop-key.invariant ∙ ap (first_of known first) c.in-Some.ensures
    ∙ ap (λ u. first_of known u rest) (ap (λ b. cond b first (Some (sooner first key))) there)
