-- The list of a field is written as its items are encoded.
use Rattle.std.proofs.Common.{◌≡◌, ℕ, ◌+◌, ◌-◌, ◌*◌, ◌%◌, ◌^◌, ◌<◌, ◌≤◌, true, Bool, false, List, [], ◌∷◌, ◌++◌, length, get_or, take, drop, zero, suc, Option, Some, None, refl, sym, ap, ◌∙◌, arith, append_assoc, length-append}
use Rattle.std.proofs.lemmas.List.{drop_more, drop_all, append-nil}
use Rattle.std.specs.Prelude.{nat_eq, nat_lt, nat_le, if◌then◌else◌, is_some}
use Rattle.std.proofs.lemmas.Bool.Decides.{nat_tests}
use Rattle.asl_tree.specs.declared.path.Path.{Path}
use Rattle.asl_tree.specs.declared.term.Node.{Node}
use Rattle.asl_tree.specs.declared.term.Term.{Term}
use Rattle.asl_tree.specs.declared.term.Term as D
use Rattle.asl_tree.specs.FieldItems.{FieldItem, UnitItem, SkipItem, OffsetItem, AccessItem, ConnectionItem, ToName, ToBytes, behind_item}
use Rattle.asl_tree.specs.Tree.{At, UnitName, Tree, Trees, tree, Use, Item, Fill}
use Rattle.asl_tree.specs.View.{items_in, form, tree_of, row_trees}
use Rattle.aml_code.specs.Encoding.{bit_count_bytes, name_bytes}
use Rattle.aml_code.specs.Fronts.{IsName}
use Rattle.aml_meaning.specs.Encoded.{access_bytes, item_bytes, items_bytes}
use Rattle.aml_sessions.specs.Ready.{IsLength, IsItem, AreItems}
use Rattle.acpi_state.specs.Outcomes.{choose}
use Rattle.aml_sizes.specs.Leaves.{Leaf, Other}
use Rattle.aml_sizes.proofs.FormLeaves.{tree_leaf, form_leaf}
use Rattle.aml_sizes.specs.Items.{written_count, counted, written_name, written_access, written_term, behind_term, written_items, behind_items, item_at, offset_bits, own_bits}

count_written : (bits : ℕ) → bits < 2 ^ 28 → written_count bits ≡ bit_count_bytes bits
count_written bits lt = let few : nat_lt bits (2 ^ 28) ≡ true = grind (arith, nat_tests) in ap (λ c. if c then bit_count_bytes bits else []) few

is_counted : (bits : ℕ) → bits < 2 ^ 28 → counted bits ≡ bits
is_counted bits lt = let few : nat_lt bits (2 ^ 28) ≡ true = grind (arith, nat_tests) in ap (λ c. if c then bits else 0) few

-- some bytes are those of the items, where there are items that can be written
abbrev pub IsWritten : ℕ → List ℕ → Option (List (FieldItem UnitName)) → Type 0
IsWritten at bytes None = Unit {0}
IsWritten at bytes (Some items) = AreItems at items → bytes ≡ items_bytes at items

-- an item, and what is behind it
joined : (own own' : List ℕ) (next next' : ℕ) (nodes : List Node) (rest : List ℕ) → own ≡ own' → next ≡ next' → written_items next' nodes ≡ rest → own ++ written_items next nodes ≡ own' ++ rest
joined own own' next next' nodes rest e en er = ap (λ bs. bs ++ written_items next nodes) e ∙ ap (λ n. own' ++ written_items n nodes) en ∙ ap (λ bs. own' ++ bs) er

before : (item : FieldItem UnitName) (at : ℕ) (own : List ℕ) (next : ℕ) (nodes : List Node) (items : Option (List (FieldItem UnitName))) → ((next : ℕ) → IsWritten next (written_items next nodes) items) → (IsItem at item → own ≡ item_bytes at item) → (IsItem at item → next ≡ behind_item at item) →
    IsWritten at (own ++ written_items next nodes) (choose items None (λ is. Some (item ∷ is)))
before item at own next nodes None rest f g = tt
before item at own next nodes (Some items) rest f g = λ h. joined own (item_bytes at item) next (behind_item at item) nodes (items_bytes (behind_item at item) items) (f h.0) (g h.0) (rest (behind_item at item) h.1)

pub name_written : (path : Path) → IsName path → written_name path ≡ name_bytes path
name_written path valid = let few : nat_le (length path.segs) 255 ≡ true = grind (arith, nat_tests, valid.count) in ap (λ c. if c then name_bytes path else []) few

access_written : (access attribute : ℕ) (count : Option ℕ) → access < 256 → attribute < 256 → IsLength count → written_access access attribute count ≡ access_bytes access attribute count
access_written access attribute None few fewer h =
    let one : access ≡ access % 256 = omega (arith, few) in
    let two : attribute ≡ attribute % 256 = omega (arith, fewer) in
    ap (λ k. 0x01 ∷ k ∷ attribute ∷ []) one ∙ ap (λ k. 0x01 ∷ (access % 256) ∷ k ∷ []) two
access_written access attribute (Some count) few fewer h =
    let one : access ≡ access % 256 = omega (arith, few) in
    let two : attribute ≡ attribute % 256 = omega (arith, fewer) in
    let three : count ≡ count % 256 = omega (arith, h) in
    ap (λ k. 0x03 ∷ k ∷ attribute ∷ count ∷ []) one ∙ ap (λ k. 0x03 ∷ (access % 256) ∷ k ∷ count ∷ []) two ∙ ap (λ k. 0x03 ∷ (access % 256) ∷ (attribute % 256) ∷ k ∷ []) three

abbrev is_other : Leaf → Bool
is_other Other = true
is_other _ = false

no_item : (t : Tree) (ts : Trees) (at : ℕ) (bytes : List ℕ) → is_other (tree_leaf t) ≡ true → IsWritten at bytes (items_in (tree t ts))
no_item (Item item) ts at bytes h = absurd (grind arith)
no_item (Use name path) ts at bytes h = absurd (grind arith)
no_item (Fill list) ts at bytes h = absurd (grind arith)
no_item _ ts at bytes h = tt

by_term : (here : At) (at : ℕ) (t : Term) (nodes : List Node) (ts : Trees) → ((next : ℕ) → IsWritten next (written_items next nodes) (items_in ts)) → IsWritten at (written_term at t ++ written_items (behind_term at t) nodes) (items_in (tree (tree_of here t) ts))
unfolding tree_of
by_term here at (D.Unit segment bits) nodes ts rest =
    before (UnitItem (record { at = here; segment = segment }) bits) at _ _ nodes (items_in ts) rest (λ h. ap (λ bs. segment ++ bs) (count_written bits h.1)) (λ h. ap (λ n. at + n) (is_counted bits h.1))
by_term here at (D.Skip bits) nodes ts rest =
    before (SkipItem bits) at _ _ nodes (items_in ts) rest (λ h. ap (λ bs. 0x00 ∷ bs) (count_written bits h)) (λ h. ap (λ n. at + n) (is_counted bits h))
by_term here at (D.Offset bytes) nodes ts rest =
    before (OffsetItem bytes) at _ _ nodes (items_in ts) rest (λ h. ap (λ bs. if nat_eq (8 * bytes) at then [] else 0x00 ∷ bs) (count_written (8 * bytes - at) h.1)) (λ h. refl)
by_term here at (D.Access access attribute count) nodes ts rest =
    before (AccessItem access attribute count) at _ _ nodes (items_in ts) rest (λ h. access_written access attribute count h.0 h.1 h.2) (λ h. refl)
by_term here at (D.Name path) nodes ts rest =
    before (ConnectionItem (ToName here path)) at _ _ nodes (items_in ts) rest (λ h. ap (λ bs. 0x02 ∷ bs) (name_written path h.is_name)) (λ h. refl)
by_term here at (D.Fill bytes named) nodes ts rest = before (ConnectionItem (ToBytes bytes)) at _ _ nodes (items_in ts) rest (λ h. refl) (λ h. refl)
by_term here at (D.Form' op shape args shape' body) nodes ts rest =
    no_item (form here op (row_trees args) (row_trees body)) ts at _ (ap is_other (form_leaf here op (row_trees args) (row_trees body)))
by_term here at _ nodes ts rest = tt

pub items_written : (at : ℕ) (m : _) (row : D.Row_of-Node m) → IsWritten at (written_items at (D.items-the_row-Node m row)) (items_in (row_trees row))
unfolding tree_of
items_written at m D.end_of-Node = λ h. refl
items_written at m (D.more_of-Node id place term rest) = by_term (record { id = id; place = place }) at term (D.items-the_row-Node _ rest) (row_trees rest) (λ next. items_written next _ rest)

pub one_before : (i left : ℕ) → i + 1 ≡ left → left ≡ suc i
one_before i left e = omega (arith, e)

-- what stands at a bit of a list, and what is behind it
pub items_split : (at : ℕ) (ns : List Node) (i : ℕ) (d : Node) → i < length ns → written_items at (take (suc i) ns) ≡ written_items at (take i ns) ++ written_term (behind_items at (take i ns)) (get_or ns i d).term
items_split at [] i d lt = absurd (omega (arith, lt))
items_split at (n ∷ ns) zero d lt = append-nil (written_term at n.term)
items_split at (n ∷ ns) (suc i) d lt =
    ap (λ bs. written_term at n.term ++ bs) (items_split (behind_term at n.term) ns i d (omega (arith, lt)))
    ∙ sym (append_assoc (written_term at n.term) (written_items (behind_term at n.term) (take i ns)) (written_term (behind_items (behind_term at n.term) (take i ns)) (get_or ns i d).term))

pub behind_more : (at : ℕ) (ns : List Node) (i : ℕ) (d : Node) → i < length ns → behind_items at (take (suc i) ns) ≡ behind_term (behind_items at (take i ns)) (get_or ns i d).term
behind_more at [] i d lt = absurd (omega (arith, lt))
behind_more at (n ∷ ns) zero d lt = refl
behind_more at (n ∷ ns) (suc i) d lt = behind_more (behind_term at n.term) ns i d (omega (arith, lt))

pub item_is : (at : ℕ) (ns : List Node) (i : ℕ) (d : Node) → i < length ns → item_at at ns i ≡ written_term (behind_items at (take i ns)) (get_or ns i d).term
item_is at [] i d lt = absurd (omega (arith, lt))
item_is at (n ∷ ns) zero d lt = refl
item_is at (n ∷ ns) (suc i) d lt = item_is (behind_term at n.term) ns i d (omega (arith, lt))

-- the loop from the last node to the first: what is left to put, and what is put
pub next_items : (ns : List Node) (i left : ℕ) (d : Node) (out out' whole : List ℕ) → i + 1 ≡ left → i < length ns → written_items 0 (take left ns) ++ out ≡ whole → out' ≡ item_at 0 ns i ++ out → written_items 0 (take i ns) ++ out' ≡ whole
next_items ns i left d out out' whole e lt before is =
    let own = written_term (behind_items 0 (take i ns)) (get_or ns i d).term in
    let more : written_items 0 (take left ns) ≡ written_items 0 (take i ns) ++ own = ap (λ n. written_items 0 (take n ns)) (one_before i left e) ∙ items_split 0 ns i d lt in
    ap (λ bs. written_items 0 (take i ns) ++ bs) (is ∙ ap (λ bs. bs ++ out) (item_is 0 ns i d lt)) ∙ sym (append_assoc (written_items 0 (take i ns)) own out) ∙ ap (λ bs. bs ++ out) (sym more) ∙ before

pub items_longer : (ns : List Node) (i left : ℕ) (d : Node) → i + 1 ≡ left → i < length ns → length (written_items 0 (take left ns)) ≡ length (written_items 0 (take i ns)) + length (item_at 0 ns i)
items_longer ns i left d e lt =
    ap (λ n. length (written_items 0 (take n ns))) (one_before i left e) ∙ ap length (items_split 0 ns i d lt) ∙ length-append (written_items 0 (take i ns)) (written_term (behind_items 0 (take i ns)) (get_or ns i d).term)
    ∙ ap (λ bs. length (written_items 0 (take i ns)) + length bs) (sym (item_is 0 ns i d lt))

abbrev value_of : Option ℕ → ℕ
value_of None = 0
value_of (Some n) = n

some_none : (n : ℕ) → Some n ≡ None → ⊥
some_none n e = let c : true ≡ false = ap is_some e in grind arith

-- an item's bytes rest on its bit only where it is an Offset
pub any_bit : (t : Term) (here there : ℕ) → offset_bits t ≡ None → written_term here t ≡ written_term there t
any_bit (D.Offset bytes) here there e = absurd (some_none (8 * bytes) e)
any_bit _ here there e = refl

-- the bit behind an item
pub behind_offset : (t : Term) (at start : ℕ) → offset_bits t ≡ Some start → behind_term at t ≡ start
behind_offset (D.Offset bytes) at start e = ap value_of e
behind_offset _ at start e = absurd (some_none start (sym e))

pub behind_own : (t : Term) (at : ℕ) → offset_bits t ≡ None → behind_term at t ≡ at + own_bits t
behind_own (D.Offset bytes) at e = absurd (some_none (8 * bytes) e)
behind_own (D.Unit segment bits) at e = refl
behind_own (D.Skip bits) at e = refl
behind_own _ at e = omega arith

-- the loop from the first item to the last, in bytes
pub next_sizes : (ns : List Node) (i bit bit' : ℕ) (d : Node) (size own : ℕ) → i < length ns → d ≡ get_or ns i d → own ≡ length (written_term bit d.term) → bit' ≡ behind_term bit d.term → size + length (written_items bit (drop i ns)) ≡ (size + own) + length (written_items bit' (drop (i + 1) ns))
next_sizes ns i bit bit' d size own lt here eo eb =
    let rest = written_items (behind_term bit d.term) (drop (i + 1) ns) in
    let step : written_items bit (drop i ns) ≡ written_term bit d.term ++ rest =
    ap (written_items bit) (drop_more ns i d lt) ∙ ap (λ (n : Node). written_term bit n.term ++ written_items (behind_term bit n.term) (drop (i + 1) ns)) (sym here) in
    let whole : length (written_items bit (drop i ns)) ≡ length (written_term bit d.term) + length rest = ap length step ∙ length-append (written_term bit d.term) rest in
    let next : length (written_items bit' (drop (i + 1) ns)) ≡ length rest = ap (λ n. length (written_items n (drop (i + 1) ns))) eb in
    omega (arith, whole, next, eo)

-- a node by its number, whatever stands for what is behind the last
pub any_default : (ns : List Node) (i : ℕ) (d e : Node) → i < length ns → get_or ns i d ≡ get_or ns i e
any_default [] i d e lt = absurd (omega (arith, lt))
any_default (n ∷ ns) zero d e lt = refl
any_default (n ∷ ns) (suc i) d e lt = any_default ns i d e (omega (arith, lt))

-- the same as `next_items` and `items_longer`, with no node at hand
pub next_put : (ns : List Node) (i left : ℕ) (out out' whole : List ℕ) → i + 1 ≡ left → i < length ns → written_items 0 (take left ns) ++ out ≡ whole → out' ≡ item_at 0 ns i ++ out → written_items 0 (take i ns) ++ out' ≡ whole
next_put [] i left out out' whole e lt before is = absurd (omega (arith, lt))
next_put (n ∷ ns) i left out out' whole e lt before is = next_items (n ∷ ns) i left n out out' whole e lt before is

pub one_longer : (ns : List Node) (i left : ℕ) → i + 1 ≡ left → i < length ns → length (written_items 0 (take left ns)) ≡ length (written_items 0 (take i ns)) + length (item_at 0 ns i)
one_longer [] i left e lt = absurd (omega (arith, lt))
one_longer (n ∷ ns) i left e lt = items_longer (n ∷ ns) i left n e lt

-- the bits behind one item more
pub behind_next_offset : (ns : List Node) (i left : ℕ) (d : Node) (start : ℕ) → i + 1 ≡ left → i < length ns → offset_bits (get_or ns i d).term ≡ Some start → behind_items 0 (take left ns) ≡ start
behind_next_offset ns i left d start e lt is =
    ap (λ n. behind_items 0 (take n ns)) (one_before i left e) ∙ behind_more 0 ns i d lt ∙ behind_offset (get_or ns i d).term (behind_items 0 (take i ns)) start is

pub behind_next_own : (ns : List Node) (i left : ℕ) (d d' : Node) → i + 1 ≡ left → i < length ns → offset_bits (get_or ns i d).term ≡ None → behind_items 0 (take left ns) ≡ behind_items 0 (take i ns) + own_bits (get_or ns i d').term
behind_next_own ns i left d d' e lt is =
    ap (λ n. behind_items 0 (take n ns)) (one_before i left e) ∙ behind_more 0 ns i d lt ∙ behind_own (get_or ns i d).term (behind_items 0 (take i ns)) is
    ∙ ap (λ (n : Node). behind_items 0 (take i ns) + own_bits n.term) (any_default ns i d d' lt)

pub written_anywhere : (ns : List Node) (i : ℕ) (d d' : Node) (here there : ℕ) → i < length ns → offset_bits (get_or ns i d').term ≡ None → written_term here (get_or ns i d).term ≡ written_term there (get_or ns i d).term
written_anywhere ns i d d' here there lt is = any_bit (get_or ns i d).term here there (ap (λ (n : Node). offset_bits n.term) (any_default ns i d d' lt) ∙ is)

pub none_behind : (ns : List Node) (i bit : ℕ) → length ns ≤ i → length (written_items bit (drop i ns)) ≡ 0
none_behind ns i bit le = ap (λ ms. length (written_items bit ms)) (drop_all i ns le)
