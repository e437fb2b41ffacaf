use Rattle.std.proofs.Common.{◌≡◌, ◌<◌, ◌-◌, ◌++◌, [], ◌∷◌, true, Some, length, slice_get, subst, rules, map as each}
use Rattle.json.specs.Json.{after_end_array}
use Rattle.scene_json_forms.specs.Reading.{may_follow}
use Rattle.scene_json_tokens.specs.Taken.{IsTaken}
use Rattle.scene_json_tokens.proofs.Grammar.{begins_shorter}
use Rattle.scene_json_tokens.proofs.ListsTaken.{all_rising, none_rising, one_rising}
use Rattle.scene_json_tokens.proofs.lists.take_rising.Goals as goal

pub items-init : goal.items-init
items-init g c =
    none_rising (g.F.Form.word c.args.form.now) g.F.Taken.levels c.take_list.new.reader g.F.Form.follows g.F.Form.meant c.new-items.result.items
    c.new-items.ensures.items

pub items-smaller : goal.items-smaller
items-smaller g c =
    let same : c.take_end_array.new.self ≡ c.items.reader = search rules in
    let one = c.in_ok-item.ensures in
    subst (λ ts. length c.take.new.reader < length ts) same
    (begins_shorter g.F.Taken.levels c.take_end_array.new.self c.take.new.reader one.0 one.1)

pub items-preserved : goal.items-preserved
items-preserved g c =
    let word = g.F.Form.word c.args.form.now in
    let items = c.items.items.items in
    let same : c.take_end_array.new.self ≡ c.items.reader = search rules in
    let grown : c.push.new.self.items ≡ items ++ c.in_ok-item.item ∷ [] = search rules in
    let above : may_follow g.F.Form.follows (slice_get (each g.F.Form.meant items) (length items - 1)) (g.F.Form.meant c.in_ok-item.item) ≡ true =
    search rules in
    one_rising word g.F.Taken.levels c.take_list.new.reader g.F.Form.follows g.F.Form.meant items c.push.new.self.items c.in_ok-item.item c.items.reader
    c.take.new.reader grown c.items.invariant
    (subst (λ ts. IsTaken word g.F.Taken.levels ts c.take.new.reader (g.F.Form.meant c.in_ok-item.item)) same c.in_ok-item.ensures) above

pub returns : goal.returns
returns g c =
    let items = c.items.items.items in
    let over : after_end_array c.items.reader ≡ Some c.take_end_array.new.self = search rules in
    all_rising (g.F.Form.word c.args.form.now) g.F.Taken.levels c.take_list.new.reader g.F.Form.follows c.args.reader.now c.items.reader
    c.take_end_array.new.self (each g.F.Form.meant items) (length items) (slice_get (each g.F.Form.meant items) (length items - 1))
    c.in_ok-take_list.ensures c.items.invariant over
