-- The slots of parts: their limit, generations and free list.
use Rattle.std.proofs.Common.{◌≡◌, true, length, get_or}
use Rattle.std.specs.Prelude.{◌&&◌, nat_eq, nat_le, nat_lt, not}
use Rattle.std.specs.List.{list_all}
use Rattle.std.proofs.lemmas.Bool.{leb-true, le-leb, ltb-true, lt-ltb}
use Rattle.std.proofs.lemmas.List.Sums.{AllPass-from_list_all, list_all-from_AllPass}
use Rattle.scene_alloc.specs.Slots.{IsSlots, most_slots, is_free}
use Rattle.scene_validate.specs.Parts.{Parts, AreInRange, slots_in}
use Rattle.scene_validate.specs.Rules.{are_distinct, limit_holds, generations_begin, free_is_sound, rows_in}
use Rattle.scene_validate.proofs.Tests.{and_is, and_of, distinct_is, distinct_of}

-- the tests of the limit, the generations and the free list are what always holds of slots
pub slots_are : (p : Parts) → AreInRange p → limit_holds p ≡ true → generations_begin p ≡ true → free_is_sound p ≡ true → IsSlots (slots_in p)
slots_are p range limit begin free =
    let a = and_is (nat_le 1 p.limit && nat_le p.limit most_slots) (nat_le (length p.generations) p.limit) limit in
    let b = and_is (nat_le 1 p.limit) (nat_le p.limit most_slots) a.0 in
    let c = and_is (list_all (λ i. nat_lt i (length p.generations)) p.free && are_distinct nat_eq p.free) (list_all (λ r. not (is_free (slots_in p) r.entity.index)) (rows_in p)) free in
    let d = and_is (list_all (λ i. nat_lt i (length p.generations)) p.free) (are_distinct nat_eq p.free) c.0 in
    record {
      some_limit = leb-true 1 p.limit b.0;
      low_limit = leb-true p.limit most_slots b.1;
      few = leb-true (length p.generations) p.limit a.1;
      begun = λ k g l. leb-true 1 (get_or p.generations k g) (AllPass-from_list_all (nat_le 1) p.generations begin k g l);
      low = range.generations;
      in_range = λ k i l. ltb-true (get_or p.free k i) (length p.generations) (AllPass-from_list_all (λ i. nat_lt i (length p.generations)) p.free d.0 k i l);
      distinct = distinct_is nat_eq p.free d.1;
    }

pub limit_of : (p : Parts) → IsSlots (slots_in p) → limit_holds p ≡ true
limit_of p s =
    and_of (nat_le 1 p.limit && nat_le p.limit most_slots) (nat_le (length p.generations) p.limit)
    (and_of (nat_le 1 p.limit) (nat_le p.limit most_slots) (le-leb 1 p.limit s.some_limit) (le-leb p.limit most_slots s.low_limit))
    (le-leb (length p.generations) p.limit s.few)

pub begin_of : (p : Parts) → IsSlots (slots_in p) → generations_begin p ≡ true
begin_of p s = list_all-from_AllPass (nat_le 1) p.generations (λ k g l. le-leb 1 (get_or p.generations k g) (s.begun k g l))

pub free_of : (p : Parts) → IsSlots (slots_in p) → list_all (λ r. not (is_free (slots_in p) r.entity.index)) (rows_in p) ≡ true → free_is_sound p ≡ true
free_of p s busy =
    and_of (list_all (λ i. nat_lt i (length p.generations)) p.free && are_distinct nat_eq p.free) (list_all (λ r. not (is_free (slots_in p) r.entity.index)) (rows_in p))
    (and_of (list_all (λ i. nat_lt i (length p.generations)) p.free) (are_distinct nat_eq p.free)
    (list_all-from_AllPass (λ i. nat_lt i (length p.generations)) p.free (λ k i l. lt-ltb (get_or p.free k i) (length p.generations) (s.in_range k i l)))
    (distinct_of nat_eq p.free s.distinct))
    busy
