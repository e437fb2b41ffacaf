-- What tests of entities tell.
use Rattle.std.proofs.Common.{◌≡◌, ap, ◌&&◌, nat_eq}
use Rattle.std.specs.Bool.{Decides}
use Rattle.std.proofs.lemmas.Bool.{eqb-true, eq-eqb, and_from}
use Rattle.scene_kinds.specs.declared.entity.Entity.{Entity}
use Rattle.scene_table.proofs.Walks.{and_left, and_right}

pub entity_decides : (a b : Entity) → Decides (nat_eq a.index b.index && nat_eq a.generation b.generation) (a ≡ b)
entity_decides a b = (
  λ e. λ i. record {
    index = eqb-true a.index b.index (and_left (nat_eq a.index b.index) (nat_eq a.generation b.generation) e) i;
    generation = eqb-true a.generation b.generation (and_right (nat_eq a.index b.index) (nat_eq a.generation b.generation) e) i;
  },
  λ e. and_from (nat_eq a.index b.index) (nat_eq a.generation b.generation) (eq-eqb a.index b.index (ap (λ x. x.index) e)) (eq-eqb a.generation b.generation (ap (λ x. x.generation) e)),
)
