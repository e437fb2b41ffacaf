use Rattle.std.proofs.Common.{◌≡◌, ◌∙◌, sym, subst}
use Rattle.scene_links.specs.Forest.{AllLinked}
use Rattle.scene_links.specs.Room.{CanRelink, HasRoom}
use Rattle.scene_links.proofs.LinkLaws.{unlinked_can_return}
use Rattle.scene_links.proofs.Places.{joined_at-unlink}
use Rattle.scene_lower_tests.proofs.FirstLinks.{IsFirst}
use Rattle.scene_lower_tests.proofs.firsts.Firsts.take_out_and_put_back.Goals as goal

-- the way back is open
way : (c : goal.After-relink_reserved-arg-1) → CanRelink c.unlink.new.self.forest c.first-child.result c.in-Ok.parent c.in-Ok.place × HasRoom c.self.inside.links.room c.unlink.new.self.forest c.first-child.result c.in-Ok.parent
way c = unlinked_can_return c.self.inside.links c.unlink.new.self.forest c.first-child.result c.in-Ok.parent c.in-Ok.place c.parent_of.ensures.sound c.in-Ok.ensures.answer

pub relink_reserved-requires-clause-can : goal.relink_reserved-requires-clause-can
relink_reserved-requires-clause-can c = (way c).0

pub relink_reserved-requires-clause-room : goal.relink_reserved-requires-clause-room
relink_reserved-requires-clause-room c = subst (λ r. HasRoom r c.unlink.new.self.forest c.first-child.result c.in-Ok.parent) (sym c.unlink.ensures.room) (way c).1

back : (c : goal.After-relink_reserved) → c.relink_reserved.new.self.forest ≡ c.self.inside.links.forest
back c = c.relink_reserved.ensures.forest ∙ joined_at-unlink c.self.inside.links.forest c.unlink.new.self.forest c.first-child.result c.in-Ok.parent c.in-Ok.place c.in-Ok.ensures.answer

pub invariant_of-self-2 : goal.invariant_of-self-2
invariant_of-self-2 c = subst (AllLinked IsFirst) (sym (back c)) c.self.invariant

room : (c : goal.After-relink_reserved) → c.relink_reserved.new.self.room ≡ c.self.inside.links.room
room c = c.relink_reserved.ensures.room ∙ c.unlink.ensures.room

pub returns : goal.returns
returns c = (λ i. record { forest = back c i; room = room c i }) ∙ c.self.view_is
