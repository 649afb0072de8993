-- What a node's parts say, read at the list of the nodes.
use Rattle.std.proofs.Common.{Option, ◌≡◌, ℕ, zero, suc, ◌+◌, ◌%◌, ◌<◌, ◌≤◌, List, [], ◌∷◌, ◌++◌, length, take, get_or, Vec, Global, refl, sym, ap, ◌∙◌, arith, append_assoc, length-append}
use Rattle.std.proofs.lemmas.List.{take_more, append-nil, length-take-le}
use Rattle.acpi_values.specs.Paths.{NameSeg}
use Rattle.acpi_values.specs.Operators.{Letter}
use Rattle.asl_tree.specs.declared.path.Path.{Path}
use Rattle.asl_tree.specs.declared.term.Op.{Op}
use Rattle.asl_tree.specs.declared.term.Word.{Word}
use Rattle.asl_tree.specs.declared.term.Node.{Node}
use Rattle.asl_tree.specs.declared.term.Term.{Term}
use Rattle.asl_tree.specs.declared.term.NamedDescriptor.{NamedDescriptor}
use Rattle.asl_tree.specs.declared.term.Term as D
use Rattle.asl_tree.specs.Literals.{word_number}
use Rattle.aml_sizes.specs.declared.style.IntegerStyle.{IntegerStyle}
use Rattle.aml_sizes.specs.Leaves.{Leaf, Characters, Bytes, fill_bytes, leaf_of, leaves_of, operand_bytes, first_letter, letters_behind, letter_number, listed_byte_of, listed_bytes}
use Rattle.aml_sizes.specs.Codes.{letters_of}
use Rattle.aml_sizes.specs.Items.{written_items}
use Rattle.aml_sizes.specs.TermBytes.{number_bytes, body_part, front_part, whole_form, term_bytes, row_bytes, nodes_bytes}
use Rattle.aml_sizes.specs.Items.{written_name}
use Rattle.aml_sizes.specs.Forms.{form_bytes}
use Rattle.aml_sizes.proofs.Letters.{next_letter}
use Rattle.aml_sizes.specs.Capped.{capped}
use Rattle.aml_sizes.proofs.Counted.{capped_whole}
use mathlib.Core.Former.{Count}

-- the rows that a term holds
abbrev pub args_row : Term → (n : Count) × D.Row_of-Node n
args_row (D.Form' op shape args shape' body) = (_, args)
args_row (D.Call' path shape args) = (_, args)
args_row _ = (_, D.end_of-Node)

abbrev pub body_row : Term → (n : Count) × D.Row_of-Node n
body_row (D.Form' op shape args shape' body) = (_, body)
body_row _ = (_, D.end_of-Node)

-- the nodes of a row
abbrev pub nodes_in : (n : Count) × D.Row_of-Node n → List Node
nodes_in row = D.items-the_row-Node row.0 row.1

pub leaf_number : (ns : List Node) → length (leaves_of ns) ≡ length ns
leaf_number [] = refl
leaf_number (n ∷ ns) = ap suc (leaf_number ns)

module _ (style : IntegerStyle) where
  pub rows : (letters : List Letter) (m : _) (row : D.Row_of-Node m) → row_bytes style letters row ≡ nodes_bytes style letters (D.items-the_row-Node m row)
  unfolding term_bytes nodes_bytes
  rows letters m D.end_of-Node = refl
  rows letters m (D.more_of-Node id place term rest) = ap (λ bs. operand_bytes (first_letter letters) (leaf_of term) (term_bytes style term) ++ bs) (rows (letters_behind letters) _ rest)

  -- the bytes of a term by its form
  pub integer_is : (number : ℕ) → term_bytes style (D.Integer number) ≡ number_bytes style number
  unfolding term_bytes
  integer_is number = refl

  pub word_is : (word : Word) → term_bytes style (D.Word word) ≡ number_bytes style (word_number word)
  unfolding term_bytes
  word_is word = refl

  pub text_is : (text : List ℕ) → term_bytes style (D.Text text) ≡ 0x0D ∷ (text ++ 0x00 ∷ [])
  unfolding term_bytes
  text_is text = refl

  pub fill_is : (bytes : List ℕ) (named : List NamedDescriptor) → term_bytes style (D.Fill bytes named) ≡ []
  unfolding term_bytes
  fill_is bytes named = refl

  pub unit_is : (segment : NameSeg) (bits : ℕ) → term_bytes style (D.Unit segment bits) ≡ []
  unfolding term_bytes
  unit_is segment bits = refl

  pub skip_is : (bits : ℕ) → term_bytes style (D.Skip bits) ≡ []
  unfolding term_bytes
  skip_is bits = refl

  pub offset_is : (bytes : ℕ) → term_bytes style (D.Offset bytes) ≡ []
  unfolding term_bytes
  offset_is bytes = refl

  pub access_is : (access attribute : ℕ) (count : Option ℕ) → term_bytes style (D.Access access attribute count) ≡ []
  unfolding term_bytes
  access_is access attribute count = refl

  pub local_is : (index : ℕ) → term_bytes style (D.Local index) ≡ ((0x60 + index) % 256) ∷ []
  unfolding term_bytes
  local_is index = refl

  pub arg_is : (index : ℕ) → term_bytes style (D.Arg index) ≡ ((0x68 + index) % 256) ∷ []
  unfolding term_bytes
  arg_is index = refl

  pub debug_is : term_bytes style D.Debug ≡ 0x5B ∷ 0x31 ∷ []
  unfolding term_bytes
  debug_is = refl

  pub omitted_is : term_bytes style D.Omitted ≡ 0x00 ∷ []
  unfolding term_bytes
  omitted_is = refl

  pub name_is : (path : Path) → term_bytes style (D.Name path) ≡ written_name path
  unfolding term_bytes
  name_is path = refl

  pub call_is : (path : Path) (args : Vec Node Global) → term_bytes style (D.Call path args) ≡ written_name path ++ nodes_bytes style [] args.items
  unfolding term_bytes
  call_is path args =
      let a = args_row (D.Call path args) in
      ap (λ bs. written_name path ++ bs) (rows [] a.0 a.1 ∙ ap (nodes_bytes style []) (D.items_hidden-the_row-Node-0 args))

  pub form_of : (op : Op) (args body : Vec Node Global) → term_bytes style (D.Form op args body) ≡ form_bytes style op args.items body.items
  unfolding term_bytes
  form_of op args body =
      let a = args_row (D.Form op args body) in
      let b = body_row (D.Form op args body) in
      ap (λ bs. whole_form style op (leaves_of (nodes_in a)) bs (leaves_of (nodes_in b)) (row_bytes style [] b.1) (written_items 0 (nodes_in b))) (rows (letters_of op) a.0 a.1)
      ∙ ap (λ bs. whole_form style op (leaves_of (nodes_in a)) (nodes_bytes style (letters_of op) (nodes_in a)) (leaves_of (nodes_in b)) bs (written_items 0 (nodes_in b))) (rows [] b.0 b.1)
      ∙ ap (λ ns. form_bytes style op ns (nodes_in b)) (D.items_hidden-the_row-Node-0 args)
      ∙ ap (form_bytes style op args.items) (D.items_hidden-the_row-Node-0 body)

  -- what stands before a body, and the body
  abbrev part_of : Op → List Node → List ℕ
  part_of op ns = body_part style op (leaves_of ns) (nodes_bytes style [] ns) (written_items 0 ns)

  abbrev front_of : Op → List Node → ℕ → ℕ → List ℕ
  front_of op ns n size = front_part style op (leaves_of ns) (nodes_bytes style (letters_of op) ns) n size

  -- a form by its nodes
  pub form_is : (op : Op) (args body : Vec Node Global) (term : Term) (arg_nodes body_nodes : List Node) → term ≡ D.Form op args body → arg_nodes ≡ args.items → body_nodes ≡ body.items → form_bytes style op arg_nodes body_nodes ≡ term_bytes style term
  form_is op args body term arg_nodes body_nodes et ea eb =
      ap (λ ns. form_bytes style op ns body_nodes) ea ∙ ap (form_bytes style op args.items) eb ∙ sym (form_of op args body) ∙ ap (term_bytes style) (sym et)

  -- the front of a form whose body has so many nodes and so many bytes
  front_is : (op : Op) (args body : List Node) (nodes size : ℕ) → nodes ≡ length body → size ≡ length (part_of op body) → front_of op args nodes size ++ part_of op body ≡ form_bytes style op args body
  front_is op args body nodes size en es =
      ap (λ n. front_of op args n size ++ part_of op body) (en ∙ sym (leaf_number body))
      ∙ ap (λ n. front_of op args (length (leaves_of body)) n ++ part_of op body) es

  -- a form whose body, and then what stands before it, were put
  pub form_put : (op : Op) (args body : List Node) (nodes size : ℕ) (out out1 out2 : List ℕ) → nodes ≡ length body → size ≡ length (body_part style op (leaves_of body) (nodes_bytes style [] body) (written_items 0 body))
      → out1 ≡ body_part style op (leaves_of body) (nodes_bytes style [] body) (written_items 0 body) ++ out → out2 ≡ front_part style op (leaves_of args) (nodes_bytes style (letters_of op) args) nodes size ++ out1 → out2 ≡ form_bytes style op args body ++ out
  form_put op args body nodes size out out1 out2 en es e1 e2 =
      e2 ∙ ap (λ bs. front_of op args nodes size ++ bs) e1 ∙ sym (append_assoc (front_of op args nodes size) (part_of op body) out) ∙ ap (λ bs. bs ++ out) (front_is op args body nodes size en es)

  -- how long a form is
  pub form_length : (op : Op) (args body : List Node) (nodes size : ℕ) → nodes ≡ length body → size ≡ length (body_part style op (leaves_of body) (nodes_bytes style [] body) (written_items 0 body))
      → length (front_part style op (leaves_of args) (nodes_bytes style (letters_of op) args) nodes size) + size ≡ length (form_bytes style op args body)
  form_length op args body nodes size en es =
      let whole : length (front_of op args nodes size ++ part_of op body) ≡ length (form_bytes style op args body) = ap length (front_is op args body nodes size en es) in
      let both = length-append (front_of op args nodes size) (part_of op body) in
      omega (arith, whole, both, es)

  pub form_room : (op : Op) (args body : List Node) → length (body_part style op (leaves_of body) (nodes_bytes style [] body) (written_items 0 body)) ≤ length (form_bytes style op args body)
  form_room op args body =
      let whole = form_length op args body (length body) (length (part_of op body)) refl refl in
      omega (arith, whole)

  -- a form by the size of its body, as far as it is counted
  pub form_size : (op : Op) (args body : List Node) (nodes size : ℕ) → nodes ≡ length body → size ≡ capped (length (body_part style op (leaves_of body) (nodes_bytes style [] body) (written_items 0 body)))
      → capped (length (front_part style op (leaves_of args) (nodes_bytes style (letters_of op) args) nodes size) + size) ≡ capped (length (form_bytes style op args body))
  form_size op args body nodes size en es =
      let part = length (part_of op body) in
      ap (λ n. capped (length (front_of op args nodes n) + n)) es
      ∙ capped_whole (λ n. length (front_of op args nodes n)) part
      ∙ ap capped (form_length op args body nodes part en refl)

  -- a call by its nodes
  pub call_nodes : (path : Path) (args : Vec Node Global) (term : Term) (nodes : List Node) → term ≡ D.Call path args → nodes ≡ args.items → written_name path ++ nodes_bytes style [] nodes ≡ term_bytes style term
  call_nodes path args term nodes et en = ap (λ ns. written_name path ++ nodes_bytes style [] ns) en ∙ sym (call_is path args) ∙ ap (term_bytes style) (sym et)

  pub nodes_done : (letters : List Letter) (ns : List Node) (left : ℕ) (out whole : List ℕ) → left ≤ 0 → nodes_bytes style letters (take left ns) ++ out ≡ whole → out ≡ whole
  unfolding nodes_bytes
  nodes_done letters ns zero out whole le e = e
  nodes_done letters ns (suc left) out whole le e = absurd (omega (arith, le))

  -- one node more at the end
  pub nodes_append : (letters : List Letter) (ns : List Node) (n : Node) → nodes_bytes style letters (ns ++ n ∷ []) ≡ nodes_bytes style letters ns ++ operand_bytes (letter_number letters (length ns)) (leaf_of n.term) (term_bytes style n.term)
  unfolding nodes_bytes
  nodes_append [] [] n = append-nil _
  nodes_append (letter ∷ letters) [] n = append-nil _
  nodes_append letters (first ∷ ns) n =
      ap (λ bs. operand_bytes (first_letter letters) (leaf_of first.term) (term_bytes style first.term) ++ bs) (nodes_append (letters_behind letters) ns n)
      ∙ ap (λ letter. operand_bytes (first_letter letters) (leaf_of first.term) (term_bytes style first.term) ++ (nodes_bytes style (letters_behind letters) ns ++ operand_bytes letter (leaf_of n.term) (term_bytes style n.term))) (next_letter letters (length ns))
      ∙ sym (append_assoc (operand_bytes (first_letter letters) (leaf_of first.term) (term_bytes style first.term)) (nodes_bytes style (letters_behind letters) ns) (operand_bytes (letter_number letters (suc (length ns))) (leaf_of n.term) (term_bytes style n.term)))

  node_more : (letters : List Letter) (ns : List Node) (i left : ℕ) (d : Node) → i + 1 ≡ left → i < length ns → nodes_bytes style letters (take left ns) ≡ nodes_bytes style letters (take i ns) ++ operand_bytes (letter_number letters i) (leaf_of (get_or ns i d).term) (term_bytes style (get_or ns i d).term)
  node_more letters ns i left d e lt =
      let count : length (take i ns) ≡ i = length-take-le i ns (omega arith) in
      ap (λ n. nodes_bytes style letters (take n ns)) (sym e) ∙ ap (nodes_bytes style letters) (take_more ns i d lt) ∙ nodes_append letters (take i ns) (get_or ns i d)
      ∙ ap (λ n. nodes_bytes style letters (take i ns) ++ operand_bytes (letter_number letters n) (leaf_of (get_or ns i d).term) (term_bytes style (get_or ns i d).term)) count

  -- one node more, in bytes
  pub nodes_longer : (letters : List Letter) (ns : List Node) (i left : ℕ) (d : Node) → i + 1 ≡ left → i < length ns → length (nodes_bytes style letters (take left ns)) ≡ length (nodes_bytes style letters (take i ns)) + length (operand_bytes (letter_number letters i) (leaf_of (get_or ns i d).term) (term_bytes style (get_or ns i d).term))
  nodes_longer letters ns i left d e lt =
      ap length (node_more letters ns i left d e lt) ∙ length-append (nodes_bytes style letters (take i ns)) (operand_bytes (letter_number letters i) (leaf_of (get_or ns i d).term) (term_bytes style (get_or ns i d).term))

  -- none is left
  pub none_left : (letters : List Letter) (ns : List Node) (left : ℕ) → left ≤ 0 → length (nodes_bytes style letters (take left ns)) ≡ 0
  unfolding nodes_bytes
  none_left letters ns zero le = refl
  none_left letters ns (suc left) le = absurd (omega (arith, le))

  -- the loop from the last node to the first: what is left to write, and what is written
  pub next_nodes : (letters : List Letter) (ns : List Node) (i left : ℕ) (d : Node) (out out' whole : List ℕ) → i + 1 ≡ left → i < length ns → nodes_bytes style letters (take left ns) ++ out ≡ whole → out' ≡ operand_bytes (letter_number letters i) (leaf_of (get_or ns i d).term) (term_bytes style (get_or ns i d).term) ++ out → nodes_bytes style letters (take i ns) ++ out' ≡ whole
  next_nodes letters ns i left d out out' whole e lt before is =
      let own = operand_bytes (letter_number letters i) (leaf_of (get_or ns i d).term) (term_bytes style (get_or ns i d).term) in
      let more = node_more letters ns i left d e lt in
      ap (λ bs. nodes_bytes style letters (take i ns) ++ bs) is ∙ sym (append_assoc (nodes_bytes style letters (take i ns)) own out) ∙ ap (λ bs. bs ++ out) (sym more) ∙ before

-- a Buffer's body of several terms is a list
pub many_listed : (ns : List Node) → 2 ≤ length ns → fill_bytes (leaves_of ns) ≡ listed_bytes (leaves_of ns)
many_listed [] le = absurd (omega (arith, le))
many_listed (a ∷ []) le = absurd (omega (arith, le))
many_listed (a ∷ b ∷ ns) le = by_leaf (leaf_of a.term)
  where
    by_leaf : (leaf : Leaf) → fill_bytes (leaf ∷ leaf_of b.term ∷ leaves_of ns) ≡ listed_bytes (leaf ∷ leaf_of b.term ∷ leaves_of ns)
    by_leaf (Characters text) = refl
    by_leaf (Bytes bytes) = refl
    by_leaf _ = refl

listed_append : (ns : List Node) (n : Node) → listed_bytes (leaves_of (ns ++ n ∷ [])) ≡ listed_bytes (leaves_of ns) ++ listed_byte_of (leaf_of n.term) ∷ []
listed_append [] n = refl
listed_append (first ∷ ns) n = ap (λ bs. listed_byte_of (leaf_of first.term) ∷ bs) (listed_append ns n)

pub listed_number : (ns : List Node) → length (listed_bytes (leaves_of ns)) ≡ length ns
listed_number [] = refl
listed_number (n ∷ ns) = ap suc (listed_number ns)

-- the same for the list of a Buffer
pub next_listed : (ns : List Node) (i left : ℕ) (d : Node) (byte : ℕ) (out out' whole : List ℕ) → i + 1 ≡ left → i < length ns → byte ≡ listed_byte_of (leaf_of (get_or ns i d).term) → listed_bytes (leaves_of (take left ns)) ++ out ≡ whole → out' ≡ byte ∷ out → listed_bytes (leaves_of (take i ns)) ++ out' ≡ whole
next_listed ns i left d byte out out' whole e lt here before is =
    let more : listed_bytes (leaves_of (take left ns)) ≡ listed_bytes (leaves_of (take i ns)) ++ byte ∷ [] =
    ap (λ n. listed_bytes (leaves_of (take n ns))) (sym e) ∙ ap (λ ms. listed_bytes (leaves_of ms)) (take_more ns i d lt) ∙ listed_append (take i ns) (get_or ns i d)
    ∙ ap (λ b. listed_bytes (leaves_of (take i ns)) ++ b ∷ []) (sym here) in
    ap (λ bs. listed_bytes (leaves_of (take i ns)) ++ bs) is ∙ sym (append_assoc (listed_bytes (leaves_of (take i ns))) (byte ∷ []) out) ∙ ap (λ bs. bs ++ out) (sym more) ∙ before

pub ruleset term_rules = (integer_is, word_is, text_is, fill_is, unit_is, skip_is, offset_is, access_is, local_is, arg_is, debug_is, omitted_is, name_is, call_is, form_of)
