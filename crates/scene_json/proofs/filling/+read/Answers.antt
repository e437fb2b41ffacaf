use Rattle.std.proofs.Common.{◌≡◌, ◌-◌, ◌<◌, [], ◌∷◌, ◌++◌, length, Some, None, option_map, refl, sym, ap, ◌∙◌, arith, length-append}
use Rattle.json.specs.Token.{Token}
use Rattle.json.specs.Json.{parse_map, after_end_array, read_key, items, members, value}
use Rattle.json.specs.Reads.{token_of}
use Rattle.json.proofs.Grammar.{value_is, value-begin_array, value-begin_object, read_key-shorter}
use Rattle.serde_json.specs.Data.{null, boolean, string, array, object, no_items, no_members}
use Rattle.serde_json.specs.Read.{of_json, of_items, of_members, converted}
use Rattle.scene_json.proofs.Turns.{converted-array, converted-object, item_read, item_refused, items_over, member_read, member_refused, key_refused, members_over, none_before}
use Rattle.scene_json.specs.NodeData.{items_before, put_all}
use Rattle.scene_json.specs.declared.node.Node.TheVariants as node
use Rattle.scene_json.proofs.Filled.{on_ok, one_more_element, put_push, as_many_listed, members_grow}
use Rattle.scene_json.proofs.Growing.{grows_none, grows_more, grows_one, grows_within, grows_list, grows_object}
use Rattle.scene_json.proofs.filling.+read.Goals as goal

-- ---- a value

pub read_value-returns-in_err-token-clause-refused : goal.read_value-returns-in_err-token-clause-refused
read_value-returns-in_err-token-clause-refused t c refused =
    let empty : c.args.reader.now ≡ [] = grind arith in
    ap (converted of_json) (ap (value c.args.depth) empty ∙ value_is c.args.depth [])

pub read_value-returns-in-String-clause-added : goal.read_value-returns-in-String-clause-added
read_value-returns-in-String-clause-added t c =
    let s = c.in-String.text in
    let first : c.args.reader.now ≡ token_of c.in_ok-token.token ∷ c.next.new.self = grind arith in
    let is : c.args.reader.now ≡ Token.string s.now ∷ c.next.new.self = grind (arith, first) in
    on_ok c.add.result (λ e. (
      string s.now,
      grows_one c.args.nodes.now.items c.add.new.nodes.items (node.String s) (string s.now) e refl (λ ds. refl),
      ap (converted of_json) (ap (value c.args.depth) is ∙ value_is c.args.depth _),
    )) c.add.ensures.added

pub read_value-returns-in-Bool-clause-added : goal.read_value-returns-in-Bool-clause-added
read_value-returns-in-Bool-clause-added t c =
    let b = c.in-Bool.truth in
    let first : c.args.reader.now ≡ token_of c.in_ok-token.token ∷ c.next.new.self = grind arith in
    let is : c.args.reader.now ≡ Token.boolean b ∷ c.next.new.self = grind (arith, first) in
    on_ok c.add-in-Bool.result (λ e. (
      boolean b,
      grows_one c.args.nodes.now.items c.add-in-Bool.new.nodes.items (node.Bool b) (boolean b) e refl (λ ds. refl),
      ap (converted of_json) (ap (value c.args.depth) is ∙ value_is c.args.depth _),
    )) c.add-in-Bool.ensures.added

pub read_value-returns-in-Null-clause-added : goal.read_value-returns-in-Null-clause-added
read_value-returns-in-Null-clause-added t c =
    let first : c.args.reader.now ≡ token_of c.in_ok-token.token ∷ c.next.new.self = grind arith in
    let is : c.args.reader.now ≡ Token.null ∷ c.next.new.self = grind (arith, first) in
    on_ok c.add-in-Null.result (λ e. (
      null,
      grows_one c.args.nodes.now.items c.add-in-Null.new.nodes.items node.Null null e refl (λ ds. refl),
      ap (converted of_json) (ap (value c.args.depth) is ∙ value_is c.args.depth _),
    )) c.add-in-Null.ensures.added

pub read_value-returns-in-Number-clause-added : goal.read_value-returns-in-Number-clause-added
read_value-returns-in-Number-clause-added t c =
    let first : c.args.reader.now ≡ token_of c.in_ok-token.token ∷ c.next.new.self = grind arith in
    let is : c.args.reader.now ≡ Token.number c.in-Number.text.now ∷ c.next.new.self = grind (arith, first) in
    on_ok c.add_number.result (λ h. (
      h.0,
      h.2,
      ap (converted of_json) (ap (value c.args.depth) is ∙ value_is c.args.depth _) ∙ ap (option_map (λ d. (d, c.next.new.self))) h.1,
    )) c.add_number.ensures.added

pub read_value-returns-in-Number-clause-refused : goal.read_value-returns-in-Number-clause-refused
read_value-returns-in-Number-clause-refused t c refused =
    let first : c.args.reader.now ≡ token_of c.in_ok-token.token ∷ c.next.new.self = grind arith in
    let is : c.args.reader.now ≡ Token.number c.in-Number.text.now ∷ c.next.new.self = grind (arith, first) in
    ap (converted of_json) (ap (value c.args.depth) is ∙ value_is c.args.depth _)
    ∙ ap (option_map (λ d. (d, c.next.new.self))) (c.add_number.ensures.refused refused)

pub read_value-returns-in-EndObject-clause-refused : goal.read_value-returns-in-EndObject-clause-refused
read_value-returns-in-EndObject-clause-refused t c refused =
    let first : c.args.reader.now ≡ token_of c.in_ok-token.token ∷ c.next.new.self = grind arith in
    let none : value c.args.depth c.args.reader.now ≡ None = rw (value_is c.args.depth c.args.reader.now, first) (grind arith) in
    ap (converted of_json) none

-- ---- a list and an object

pub read_list-returns-then-depth-eq0-clause-refused : goal.read_list-returns-then-depth-eq0-clause-refused
unfolding value
read_list-returns-then-depth-eq0-clause-refused t c never =
    let none : c.args.depth ≡ 0 = omega arith in
    ap (λ k. converted of_json (value k (Token.begin_array ∷ c.args.reader.now))) none

pub read_list-returns-in_err-count-clause-refused : goal.read_list-returns-in_err-count-clause-refused
read_list-returns-in_err-count-clause-refused t c refused =
    let ts = c.args.reader.now in
    ap (converted of_json) (value-begin_array c.args.depth ts (omega arith)) ∙ converted-array (items (value (c.args.depth - 1)) (length ts) ts)
    ∙ ap (parse_map array) (c.read_elements.ensures.refused (grind arith))

pub read_list-returns-clause-added : goal.read_list-returns-clause-added
read_list-returns-clause-added t c =
    let ts = c.args.reader.now in
    let old = c.args.nodes.now.items in
    let found = c.in_ok-count.ensures.added in (
      array (items_before found.0 no_items),
      grows_list old c.add.new.nodes.items c.read_elements.new.nodes.items c.close_list.new.nodes.items node.Null c.in_ok-add.ensures.added
          found.0 c.in_ok-count.count found.1 found.2 (λ more e. c.close_list.ensures old more e (grind arith)),
      ap (converted of_json) (value-begin_array c.args.depth ts (omega arith)) ∙ converted-array (items (value (c.args.depth - 1)) (length ts) ts)
          ∙ ap (parse_map array) found.3,
    )

pub read_object-returns-then-depth-eq0-clause-refused : goal.read_object-returns-then-depth-eq0-clause-refused
unfolding value
read_object-returns-then-depth-eq0-clause-refused t c never =
    let none : c.args.depth ≡ 0 = omega arith in
    ap (λ k. converted of_json (value k (Token.begin_object ∷ c.args.reader.now))) none

pub read_object-returns-in_err-count-clause-refused : goal.read_object-returns-in_err-count-clause-refused
read_object-returns-in_err-count-clause-refused t c refused =
    let ts = c.args.reader.now in
    ap (converted of_json) (value-begin_object c.args.depth ts (omega arith)) ∙ converted-object (members (value (c.args.depth - 1)) (length ts) ts)
    ∙ ap (parse_map object) (c.read_members.ensures.refused (grind arith))

pub read_object-returns-clause-added : goal.read_object-returns-clause-added
read_object-returns-clause-added t c =
    let ts = c.args.reader.now in
    let old = c.args.nodes.now.items in
    let found = c.in_ok-count.ensures.added in (
      object (put_all found.0 no_members),
      grows_object old c.add.new.nodes.items c.read_members.new.nodes.items c.close_object.new.nodes.items node.Null c.in_ok-add.ensures.added
          found.0 c.in_ok-count.count found.1 found.2 (λ more e. c.close_object.ensures old more e (grind arith)),
      ap (converted of_json) (value-begin_object c.args.depth ts (omega arith)) ∙ converted-object (members (value (c.args.depth - 1)) (length ts) ts)
          ∙ ap (parse_map object) found.3,
    )

-- ---- the elements

pub read_elements-elements-init : goal.read_elements-elements-init
read_elements-elements-init t c =
    let ts = c.args.reader.now in
    let old = c.args.nodes.now.items in
    (length ts, omega arith, omega arith, [], refl, grows_none old old refl, none_before (converted of_items (items (value c.args.depth) (length ts) ts)))

pub read_elements-returns-in_err-read_value-clause-refused : goal.read_elements-returns-in_err-read_value-clause-refused
read_elements-returns-in_err-read_value-clause-refused t c refused =
    let l = c.elements in
    let going : (after_end_array l.reader ≡ None) × (c.take_end_array.new.self ≡ l.reader) = grind arith in
    l.invariant.6 ∙ ap (parse_map (items_before l.invariant.3))
    (item_refused (value c.args.depth) l.invariant.0 l.reader going.0 (rw (← going.1) (c.read_value.ensures.refused (grind arith))))

pub read_elements-overflow_add-count : goal.read_elements-overflow_add-count
read_elements-overflow_add-count t c =
    let l = c.elements in
    let one = c.in_ok-read_value.ensures.added in
    let v = c.read_value.new.nodes in
    let all = grows_more c.args.nodes.now.items l.nodes.items v.items l.invariant.3 (one.0 ∷ []) l.invariant.5 one.1 in
    omega (arith, grows_within c.args.nodes.now.items v.items _ all, length-append l.invariant.3 (one.0 ∷ []), l.invariant.4, v.ok.0, v.ok.1, v.small)

pub read_elements-elements-preserved : goal.read_elements-elements-preserved
read_elements-elements-preserved t c =
    let p = value c.args.depth in
    let l = c.elements in
    let n = l.invariant.0 in
    let ds = l.invariant.3 in
    let r = c.read_value.new.reader in
    let going : (after_end_array l.reader ≡ None) × (c.take_end_array.new.self ≡ l.reader) = grind arith in
    let one = c.in_ok-read_value.ensures.added in
    let less : length r < length l.reader = rw (← going.1) c.in_ok-read_value.ensures.shorter in
    let turn = item_read p n l.reader r one.0 (omega (arith, l.invariant.1)) going.0 (rw (← going.1) one.2) in (
      n - 1,
      omega (arith, l.invariant.1),
      omega (arith, l.invariant.2),
      ds ++ one.0 ∷ [],
      omega (arith, l.invariant.4, length-append ds (one.0 ∷ [])),
      grows_more c.args.nodes.now.items l.nodes.items c.read_value.new.nodes.items ds (one.0 ∷ []) l.invariant.5 one.1,
      l.invariant.6 ∙ ap (parse_map (items_before ds)) turn ∙ one_more_element ds one.0 _,
    )

pub read_elements-returns-clause-added : goal.read_elements-returns-clause-added
read_elements-returns-clause-added t c =
    let l = c.elements in
    let r = c.take_end_array.new.self in (
      l.invariant.3,
      l.invariant.4,
      l.invariant.5,
      l.invariant.6 ∙ ap (parse_map (items_before l.invariant.3)) (items_over (value c.args.depth) l.invariant.0 l.reader r l.invariant.1 (grind arith)),
    )

-- ---- the members

pub read_members-members-init : goal.read_members-members-init
read_members-members-init t c =
    let ts = c.args.reader.now in
    let old = c.args.nodes.now.items in
    (length ts, omega arith, omega arith, [], refl, grows_none old old refl, refl)

pub read_members-returns-in_err-key-clause-refused : goal.read_members-returns-in_err-key-clause-refused
read_members-returns-in_err-key-clause-refused t c refused =
    let l = c.members in
    l.invariant.6 ∙ key_refused (value c.args.depth) (put_all l.invariant.3 no_members) l.invariant.0 l.reader (c.next_key.ensures.refused (grind arith))

pub read_members-returns-in_err-read_value-clause-refused : goal.read_members-returns-in_err-read_value-clause-refused
read_members-returns-in_err-read_value-clause-refused t c refused =
    let l = c.members in
    let k = c.in-Some.key.now in
    let s = c.next_key.new.reader in
    let named : read_key l.reader ≡ Some (Some k, s) = grind arith in
    l.invariant.6 ∙ member_refused (value c.args.depth) (put_all l.invariant.3 no_members) l.invariant.0 k l.reader s named (c.read_value.ensures.refused (grind arith))

pub read_members-overflow_add-count : goal.read_members-overflow_add-count
read_members-overflow_add-count t c =
    let l = c.members in
    let one = c.in_ok-read_value.ensures.added in
    let v = c.read_value.new.nodes in
    let k = c.in-Some.key in
    let ms = l.invariant.3 ++ (k.now, one.0) ∷ [] in
    let all = members_grow c.args.nodes.now.items l.nodes.items c.add.new.nodes.items v.items l.invariant.3 k one.0 l.invariant.5 c.in_ok-add.ensures.added one.1 in
    omega (arith, grows_within c.args.nodes.now.items v.items _ all, as_many_listed ms, length-append l.invariant.3 ((k.now, one.0) ∷ []), l.invariant.4, v.ok.0, v.ok.1, v.small)

pub read_members-members-preserved : goal.read_members-members-preserved
read_members-members-preserved t c =
    let p = value c.args.depth in
    let l = c.members in
    let n = l.invariant.0 in
    let ms = l.invariant.3 in
    let k = c.in-Some.key in
    let s = c.next_key.new.reader in
    let r = c.read_value.new.reader in
    let named : read_key l.reader ≡ Some (Some k.now, s) = grind arith in
    let one = c.in_ok-read_value.ensures.added in
    let less = read_key-shorter l.reader (Some k.now) s named in
    let lesser : length r < length s = c.in_ok-read_value.ensures.shorter in (
      n - 1,
      omega (arith, l.invariant.1),
      omega (arith, l.invariant.2),
      ms ++ (k.now, one.0) ∷ [],
      omega (arith, l.invariant.4, length-append ms ((k.now, one.0) ∷ [])),
      members_grow c.args.nodes.now.items l.nodes.items c.add.new.nodes.items c.read_value.new.nodes.items ms k one.0 l.invariant.5
          c.in_ok-add.ensures.added one.1,
      l.invariant.6 ∙ member_read p (put_all ms no_members) n k.now l.reader s r one.0 (omega (arith, l.invariant.1)) named one.2
          ∙ ap (λ found. converted (λ js. of_members js found) (members p (n - 1) r)) (sym (put_push ms k.now one.0 no_members)),
    )

pub read_members-returns-clause-added : goal.read_members-returns-clause-added
read_members-returns-clause-added t c =
    let l = c.members in
    let r = c.next_key.new.reader in (
      l.invariant.3,
      l.invariant.4,
      l.invariant.5,
      l.invariant.6 ∙ members_over (value c.args.depth) (put_all l.invariant.3 no_members) l.invariant.0 l.reader r l.invariant.1 (grind arith),
    )
