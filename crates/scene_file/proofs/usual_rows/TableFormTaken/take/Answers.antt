use Rattle.std.proofs.Common.{◌≡◌, ◌≤◌, ℕ, List, [], None, length, nat_lt, subst, rules, map as each}
use Rattle.std.proofs.lemmas.List.{map-id}
use Rattle.scene_kinds.specs.declared.shape.Shape.{Shape}
use Rattle.scene_json_forms.specs.Reading.{below, list_of, rising_of}
use Rattle.scene_json_tokens.specs.Taken.{IsTaken}
use Rattle.scene_file.specs.TableKinds.{AreRising}
use Rattle.scene_file.specs.Walk.{row_at, set_of, shapes_of, table_at}
use Rattle.scene_file.proofs.RowsTaken.{table_taken}
use Rattle.scene_file.proofs.TableKinds.{rising_in, widened}
use Rattle.scene_file.proofs.usual_rows.TableFormTaken.take.Goals as goal

pub set_of-requires : goal.set_of-requires
set_of-requires c =
    let kinds = c.in_ok-kinds.kinds.items in
    let found = c.in_ok-kinds.ensures in
    let few : c.len.result ≤ 64 = search rules in
    let same : kinds ≡ c.as_slice-4.result.now = search rules in
    let rise : AreRising c.len.result None kinds =
    subst (AreRising c.len.result None) (map-id kinds) (rising_in c.len.result [] found.0 (each (λ k. k) kinds) (found.2 [])) in
    subst (AreRising 64 None) same (widened c.len.result 64 None kinds few rise)

pub returns : goal.returns
returns c =
    let schema = c.args.self.now.schema.now in
    let kinds = c.in_ok-kinds.kinds.items in
    let rows = c.in_ok-rows.rows.items in
    let s = c.take_key.new.reader in
    let now = c.take_rising.new.reader in
    let r = c.take_key-2.new.reader in
    let after = c.take_list_of.new.reader in
    let said : IsTaken (rising_of (below (length schema)) nat_lt) 1 s now kinds =
    subst (λ (n : ℕ). IsTaken (rising_of (below n) nat_lt) 1 s now kinds) c.len.ensures.count
    (subst (IsTaken (rising_of (below c.len.result) nat_lt) 1 s now) (map-id kinds) c.in_ok-kinds.ensures) in
    let same : c.as_slice-2.result.now ≡ kinds = search rules in
    let shapes : c.as_slice-3.result.now ≡ shapes_of schema kinds = search rules in
    let all : IsTaken (list_of (row_at c.as_slice-2.result.now c.as_slice-3.result.now)) 5 r after rows =
    subst (IsTaken (list_of (row_at c.as_slice-2.result.now c.as_slice-3.result.now)) 5 r after) (map-id rows) c.in_ok-rows.ensures in
    let listed : IsTaken (list_of (row_at kinds (shapes_of schema kinds))) 5 r after rows =
    subst (λ (ss : List Shape). IsTaken (list_of (row_at kinds ss)) 5 r after rows) shapes
    (subst (λ (ks : List ℕ). IsTaken (list_of (row_at ks c.as_slice-3.result.now)) 5 r after rows) same all) in
    let set : set_of kinds ≡ c.set_of.result = search rules in
    subst (λ (n : ℕ). IsTaken (table_at schema) 6 c.args.reader.now c.take_object_end.new.reader (n, rows)) set
    (table_taken schema c.args.reader.now c.take_object.new.reader s now r after c.take_object_end.new.reader kinds rows c.in_ok-take_object.ensures
    c.in_ok-take_key.ensures said c.in_ok-take_key-2.ensures listed c.in_ok-take_object_end.ensures)
