use Rattle.std.proofs.Common.{◌≡◌, ◌∙◌, length, refl, ap, sym, arith, Some}
use Rattle.std.specs.List.{swap}
use Rattle.std.proofs.lemmas.Option.{slice_get_read}
use Rattle.scene_kinds.specs.declared.entity.Entity.{Entity}
use Rattle.scene_table.specs.Rows.{put_back}
use Rattle.scene_table.proofs.Swaps.{swap_remove_is, swap_is}
use Rattle.scene_table.proofs.entities.move_entity.Goals as goal

pub swap-requires-clause-i_in_bounds : goal.swap-requires-clause-i_in_bounds
swap-requires-clause-i_in_bounds c = omega (arith, c.push_reserved.ensures.len)

pub returns-clause-left : goal.returns-clause-left
returns-clause-left c = c.swap_remove.ensures.items ∙ swap_remove_is c.args.source.now.items c.args.at c.swap_remove.result c.requires.within

pub returns-clause-put : goal.returns-clause-put
returns-clause-put c entity is =
    let old = c.args.source.now.items in
    let new = c.args.target.now.items in
    let same : c.swap_remove.result ≡ entity = same_some (sym (slice_get_read old (length old) c.args.at c.swap_remove.result refl c.requires.within c.swap_remove.ensures.value) ∙ is) in
    c.swap.ensures.items ∙ ap (λ t. swap t c.args.to c.len-last.result) c.push_reserved.ensures.items
    ∙ swap_is new c.args.to c.len-last.result c.swap_remove.result c.requires.place (omega (arith, c.len-last.ensures)) ∙ ap (put_back new c.args.to) same
  where
    same_some : {x y : Entity} → Some x ≡ Some y → x ≡ y
    same_some e = cc
