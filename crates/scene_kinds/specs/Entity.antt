-- Entities: their text, their order, and when two are one.
use Rattle.std.specs.Prelude.{◌≡◌, ◌<◌, ◌^◌, ℕ, List, ◌∷◌, ◌++◌, Bool, decimal, Option, Some, IfSome}
use Rattle.std.proofs.Common.{ap}
use Rattle.std.specs.declared.cmp.Ordering.{Ordering}
use Rattle.std.specs.Ordering.{nat_cmp, eq_by_cmp, ordering_then}
use Rattle.std.specs.Cmp.{IsTotalOrder, nat_cmp_total}
use Rattle.std.specs.FinMap.{IsAntisymmetric}
use Rattle.std.proofs.lemmas.Cmp.{on_total, then_total}
use Rattle.std.proofs.lemmas.Map.Lookups.{exact_pairs, exact_unsigned}
use Rattle.scene_kinds.specs.declared.entity.Entity.{Entity}

-- INDEXvGENERATION (118 is the letter v)
abbrev pub entity_text : ℕ → ℕ → List ℕ
entity_text index generation = decimal index ++ (118 ∷ decimal generation)

-- the entity that a text says, where it says one
pub record SaysEntity (text : List ℕ) (read : Option Entity) : Type 0 where
  pub found : IfSome read (λ e. text ≡ entity_text e.index e.generation)
  pub only : (index generation : ℕ) → index < 2 ^ 32 → generation < 2 ^ 32 → text ≡ entity_text index generation
      → read ≡ Some (record { index = index; generation = generation })

-- by index, then by generation
abbrev pub entity_cmp : Entity → Entity → Ordering
entity_cmp a b = ordering_then (nat_cmp a.index b.index) (nat_cmp a.generation b.generation)

-- whether two entities are one
abbrev pub is_same : Entity → Entity → Bool
is_same a b = eq_by_cmp entity_cmp a b

-- the order is total
pub entity_cmp_total : IsTotalOrder entity_cmp
entity_cmp_total = then_total (on_total (λ e. e.index) nat_cmp_total) (on_total (λ e. e.generation) nat_cmp_total)

-- entities that tie are equal
pub entity_cmp_exact : IsAntisymmetric entity_cmp
entity_cmp_exact a b h = ap (λ (p : ℕ × ℕ). record { index = p.0; generation = p.1 })
    (exact_pairs nat_cmp nat_cmp exact_unsigned exact_unsigned (a.index, a.generation) (b.index, b.generation) h)
