-- How the parts of the code are seen.
use Rattle.std.specs.Prelude.{ℕ, List, Vec, map as each, string_bytes, String}
use Rattle.std.specs.declared.alloc.Global.{Global}
use Rattle.scene_kinds.specs.declared.cell.Cell.{Cell}
use Rattle.scene_validate.specs.declared.parts.WorldParts.{WorldParts}
use Rattle.scene_validate.specs.Parts.{Parts}

-- keys with vectors, as keys with lists
abbrev pub lists_seen : {K X : Type 0} → List (K × Vec X Global) → List (K × List X)
lists_seen es = each (λ e. (e.0, e.1.items)) es

-- names with cells, as bytes with cells
abbrev pub named_seen : List (String Global × Cell) → List (List ℕ × Cell)
named_seen rs = each (λ r. (string_bytes r.0, r.1)) rs

-- the parts that the code holds
abbrev pub seen : WorldParts → Parts
seen p = record {
  schema = p.schema;
  limit = p.limit;
  tick = p.tick;
  generations = p.generations.items;
  free = p.free.items;
  tables = lists_seen p.tables.items;
  children = lists_seen p.children.items;
  resources = named_seen p.resources.items;
}
