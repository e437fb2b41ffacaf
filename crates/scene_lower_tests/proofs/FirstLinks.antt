-- Links of which all who take part are first entities.
use Rattle.std.proofs.Common.{◌≡◌, ◌≤◌, ◌∙◌, ℕ, [], length, sym, subst, false, None, Ok}
use Rattle.std.specs.Prelude.{Result, Err}
use Rattle.scene_kinds.specs.declared.entity.Entity.{Entity}
use Rattle.scene_kinds.specs.declared.refusal.Refusal.{Refusal}
use Rattle.scene_kinds.specs.Answers.{Answers, Gives}
use Rattle.scene_kinds.specs.Entity.{is_same}
use Rattle.scene_links.specs.Forest.{Forest, AllLinked, children_of, parent_of, link_of, unlink_of}
use Rattle.scene_links.specs.Room.{IsAlone, AreAlone, CanRelink}
use Rattle.scene_links.proofs.LinkLaws.{held_childless, all_linked, all_unlinked}

abbrev pub IsFirst : Entity → Type 0
IsFirst e = e.generation ≡ 1

-- first entities with one index are one
one_first : (a b : Entity) → IsFirst a → IsFirst b → a.index ≡ b.index → a ≡ b
one_first a b one two s = λ i. record { index = s i; generation = both i }
  where
    both : a.generation ≡ b.generation
    both = one ∙ sym two

module _ (f : Forest) (all : AllLinked IsFirst f) where
  first_alone : (e : Entity) → IsFirst e → IsAlone f e
  first_alone e one p c l = (one_first p e (all p c l).0 one, one_first c e (all p c l).1 one)

  pub firsts_alone : (c p : Entity) → IsFirst c → IsFirst p → AreAlone f c p
  firsts_alone c p one two = record { child = first_alone c one; parent = first_alone p two; each = one_first c p one two }

  -- a child without a parent and without children
  pub can_come : (c p : Entity) (n : ℕ) → IsFirst c → IsFirst p → is_same c p ≡ false → parent_of f c ≡ None → children_of f c ≡ [] → n ≤ length (children_of f p) → CanRelink f c p n
  can_come c p n one two ne free childless within = record {
    link = record { other = ne; above = held_childless f c p childless; alone = firsts_alone c p one two };
    free = free;
    within = within;
  }

  -- a link leaves first entities, and so does an unlink
  pub first_linked : (g : Forest) (c p : Entity) (r : Result (Unit {0}) Refusal) → IsFirst c → IsFirst p → Answers r f g (link_of f c p) → AllLinked IsFirst g
  first_linked g c p (Err r) one two k = subst (AllLinked IsFirst) (sym k.0) all
  first_linked g c p (Ok a) one two k = all_linked IsFirst f g c p a one two all k

  pub first_unlinked : (g : Forest) (c : Entity) (r : Result (Entity × ℕ) Refusal) → Gives r f g (unlink_of f c) → AllLinked IsFirst g
  first_unlinked g c (Err r) k = subst (AllLinked IsFirst) (sym k.0) all
  first_unlinked g c (Ok l) k = all_unlinked IsFirst f g c l all k
