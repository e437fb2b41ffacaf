-- The laws of room.
use Rattle.std.proofs.Common.{◌≡◌, ◌≤◌, Bool, true, Decides, ap, sym, subst, arith}
use Rattle.scene_model.specs.World.{World}
use Rattle.scene_archetypes.specs.Archetypes.{ArchetypesState}
use Rattle.scene_links.proofs.LinkLaws.{holds_wider as links_wider, wider_self as links_self, wider_more as links_more}
use Rattle.scene_resources.proofs.ResourceLaws.{wider_room_holds, wider_of_wider}
use Rattle.scene_alloc.specs.Slots.{StoredSlots}
use Rattle.scene_links.specs.Room.{LinksState}
use Rattle.scene_resources.specs.Resources.{StoredResources}
use Rattle.scene_archetypes.specs.KindTables.{IsWider as IsWiderForRows}
use Rattle.scene_world.specs.Room.{Housed, Room, Holds, IsWider, room_of}

-- the world of what contracts see, and its room
pub seen_world : {a b : Housed} → a ≡ b → a.world ≡ b.world
seen_world e = ap (λ (h : Housed). h.world) e

pub seen_room : {a b : Housed} → a ≡ b → a.room ≡ b.room
seen_room e = ap (λ (h : Housed). h.room) e

-- a fact of what contracts see, of the inside
pub inside : {a b : Housed} → a ≡ b → (P : World → Type 0) → P b.world → P a.world
inside e P h = subst P (sym (seen_world e)) h

-- what a test of what contracts see decides, of the inside
pub inside_tested : {a b : Housed} {p : World → Bool} {P : World → Type 0} → a ≡ b → ((w : World) → Decides (p w) (P w)) → p b.world ≡ true → P a.world
inside_tested {b = b} {P = P} e decides h = inside e P ((decides b.world).0 h)

-- what is held after a change, as the inside has it
pub held_inside : {a b : Housed} → a ≡ b → (f : World → World) → Holds b.room (f b.world) → Holds a.room (f a.world)
held_inside e f h = subst (λ (x : Housed). Holds x.room (f x.world)) (sym e) h

-- wider room holds what narrower room held
pub holds_wider : (old new : Room) (w : World) → IsWider old new → Holds old w → Holds new w
holds_wider old new w g h = record {
  slots = omega (arith, g.slots, h.slots);
  rows = record { rows = λ mask. omega (arith, h.rows.rows mask, g.rows mask); homes = λ home row at. omega (arith, h.rows.homes home row at, g.homes) };
  links = links_wider old.lists new.lists w.children g.links h.links;
  names = wider_room_holds old.names new.names w.resources g.names h.names;
}

pub wider_self : (room : Room) → IsWider room room
wider_self room = record { slots = omega arith; rows = λ mask. omega arith; homes = omega arith; links = links_self room.lists; names = record { each = λ name kept. kept } }

pub wider_wider : (a b c : Room) → IsWider a b → IsWider b c → IsWider a c
wider_wider a b c g h = record {
  slots = omega (arith, g.slots, h.slots);
  rows = λ mask. omega (arith, g.rows mask, h.rows mask);
  homes = omega (arith, g.homes, h.homes);
  links = links_more a.lists b.lists c.lists g.links h.links;
  names = wider_of_wider a.names b.names c.names g.names h.names;
}

-- ---- a part of it grew

-- that of the tables
pub wide_tables : (slots : StoredSlots) (old new : ArchetypesState) (links : LinksState) (resources : StoredResources) (room : Room) → room_of slots old links resources ≡ room → IsWiderForRows old.rooms new.rooms → old.homes ≤ new.homes
    → IsWider room (room_of slots new links resources)
wide_tables slots old new links resources room e rows homes = subst (λ r. IsWider r (room_of slots new links resources)) e
    (record { slots = omega arith; rows = rows; homes = homes; links = links_self links.room; names = record { each = λ name kept. kept } })
