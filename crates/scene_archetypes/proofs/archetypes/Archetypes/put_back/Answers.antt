use Rattle.std.proofs.Common.{◌∙◌, ap, sym, subst, refl}
use Rattle.scene_table.specs.Rows.{put_back}
use Rattle.scene_table.specs.Tables.{rows_at, row_for, with_rows, NoneOf}
use Rattle.scene_archetypes.specs.Archetypes.{AreHomes}
use Rattle.std.proofs.Common.{◌≤◌, length, arith}
use Rattle.scene_archetypes.proofs.WrittenHomes.{some_within, come}
use Rattle.scene_archetypes.proofs.archetypes.Archetypes.put_back.Goals as goal

pub write_come-requires-clause-displaced : goal.write_come-requires-clause-displaced
write_come-requires-clause-displaced c = some_within c.self.inside.tables.tables c.self.inside.homes.items (record { mask = c.args.mask; place = c.args.place }) c.put_back-displaced.result.0 c.self.invariant c.put_back-displaced.ensures.displaced

pub invariant_of-self : goal.invariant_of-self
invariant_of-self c =
    let t = c.self.inside.tables.tables in
    let same = ap (λ a. a.tables) c.self.view_is in
    let homes = ap (λ a. a.homes) c.self.view_is in
    subst (λ u. AreHomes u c.write_come.new.homes.items) (sym (c.put_back-displaced.ensures.tables ∙ ap (λ m. with_rows t m (put_back (rows_at t m) c.args.place (row_for c.args.entity c.args.cells))) c.requires.mask))
    (come t c.self.inside.homes.items c.args.place (row_for c.args.entity c.args.cells) c.args.mask c.args.entity c.put_back-displaced.result.0 c.put_back-displaced.result.1 c.write_come.new.homes.items c.self.invariant c.requires.mask refl
    (subst (λ u. c.args.place ≤ length (rows_at u c.args.mask)) (sym same) c.requires.within) (subst (NoneOf c.args.entity.index) (sym same) c.requires.absent)
    (omega (arith, c.requires.room.homes, homes)) c.put_back-displaced.ensures.displaced c.put_back-displaced.ensures.last c.write_come.ensures)
