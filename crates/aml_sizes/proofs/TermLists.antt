-- The bytes of lists of terms: by their nodes, one node more at the front, and as far as they are counted.
use Rattle.std.proofs.Common.{inl, inr, ◌≡◌, ℕ, zero, suc, ◌+◌, ◌/◌, ◌<◌, ◌≤◌, Bool, true, false, List, [], ◌∷◌, ◌++◌, length, drop, get_or, Vec, Global, refl, sym, ap, ◌∙◌, arith, length-append}
use Rattle.std.specs.Prelude.{if◌then◌else◌}
use Rattle.std.proofs.lemmas.Bool.{cases_lt}
use Rattle.std.proofs.lemmas.Bool.Decides.{nat_tests}
use Rattle.std.proofs.lemmas.List.{append-nil, drop_more}
use Rattle.byteorder.specs.Numbers.{length-bytes_low_first}
use Rattle.aml_code.specs.Encoding.{package_length_form, package_length_more, package_length_bytes}
use Rattle.asl_tree.specs.declared.term.Op.{Op}
use Rattle.asl_tree.specs.declared.term.Control.TheVariants as Control
use Rattle.asl_tree.specs.declared.term.Node.{Node}
use Rattle.asl_tree.specs.declared.term.Term.{Term}
use Rattle.asl_tree.specs.declared.term.Term as D
use Rattle.term_places.specs.Places.{holds_terms}
use Rattle.aml_sizes.specs.declared.style.IntegerStyle.{IntegerStyle}
use Rattle.aml_sizes.specs.Capped.{capped}
use Rattle.aml_sizes.specs.Codes.{letters_of}
use Rattle.aml_sizes.specs.TermBytes.{head_bytes, term_bytes, nodes_bytes}
use Rattle.aml_sizes.specs.TermLists.{else_if_head, own_head, run_of, run_from, own_bytes, row_terms, row_later, terms_bytes, later_of, container_bytes}
use Rattle.aml_sizes.specs.Pieces.{is_container}
use Rattle.aml_sizes.proofs.Counted.{capped_whole}
use Rattle.aml_sizes.proofs.Rows.{rows, args_row, body_row}

pub if_not : (c : Bool) (xs ys : List ℕ) → c ≡ false → (if c then xs else ys) ≡ ys
if_not true xs ys e = absurd (grind arith)
if_not false xs ys e = refl

-- ---- by the nodes

module _ (style : IntegerStyle) where
  mutual
    unfolding own_bytes terms_bytes

    pub rows_are : (m : _) (row : D.Row_of-Node m) → row_terms style row ≡ terms_bytes style (D.items-the_row-Node m row)
    rows_are m D.end_of-Node = refl
    rows_are m (D.more_of-Node id place term rest) =
        ap (λ n. own_bytes style n term ++ row_terms style rest) (laters_are _ rest)
        ∙ ap (λ bs. own_bytes style (later_of style (D.items-the_row-Node _ rest)) term ++ bs) (rows_are _ rest)

    pub laters_are : (m : _) (row : D.Row_of-Node m) → row_later style row ≡ later_of style (D.items-the_row-Node m row)
    laters_are m D.end_of-Node = refl
    laters_are m (D.more_of-Node id place term rest) = ap (λ n. run_from term (length (own_bytes style n term)) n) (laters_are _ rest)

  form_by : (later : ℕ) (op : Op) (args body : Vec Node Global) → own_bytes style later (D.Form op args body) ≡ (if holds_terms op then container_bytes style op args.items body.items later else term_bytes style (D.Form op args body))
  unfolding own_bytes
  form_by later op args body =
      let a = args_row (D.Form op args body) in
      let b = body_row (D.Form op args body) in
      let whole = term_bytes style (D.Form op args body) in
      ap (λ bs. if holds_terms op then own_head op bs (length (row_terms style b.1)) later ++ row_terms style b.1 else whole) (rows style (letters_of op) a.0 a.1 ∙ ap (nodes_bytes style (letters_of op)) (D.items_hidden-the_row-Node-0 args))
      ∙ ap (λ bs. if holds_terms op then own_head op (nodes_bytes style (letters_of op) args.items) (length bs) later ++ bs else whole) (rows_are b.0 b.1 ∙ ap (terms_bytes style) (D.items_hidden-the_row-Node-0 body))

  -- a form that holds terms
  pub container_is : (later : ℕ) (op : Op) (args body : Vec Node Global) (term : Term) (arg_nodes body_nodes : List Node) → term ≡ D.Form op args body → arg_nodes ≡ args.items → body_nodes ≡ body.items → holds_terms op ≡ true → container_bytes style op arg_nodes body_nodes later ≡ own_bytes style later term
  container_is later op args body term arg_nodes body_nodes et ea eb h =
      ap (λ ns. container_bytes style op ns body_nodes later) ea ∙ ap (λ ns. container_bytes style op args.items ns later) eb
      ∙ sym (form_by later op args body ∙ ap (λ c. if c then container_bytes style op args.items body.items later else term_bytes style (D.Form op args body)) h)
      ∙ ap (own_bytes style later) (sym et)

  -- another term
  pub alone_is : (later : ℕ) (t : Term) → is_container t ≡ false → own_bytes style later t ≡ term_bytes style t
  unfolding own_bytes
  alone_is later (D.Form' op shape args shape' body) h = if_not (holds_terms op) _ _ h
  alone_is later _ h = refl

-- ---- one node more at the front

drop_next : (ns : List Node) (i left : ℕ) (d : Node) → i + 1 ≡ left → i < length ns → d ≡ get_or ns i d → drop i ns ≡ d ∷ drop left ns
drop_next ns i left d e lt here = drop_more ns i d lt ∙ ap (λ (n : Node). n ∷ drop (i + 1) ns) (sym here) ∙ ap (λ k. d ∷ drop k ns) e

-- what is said of a list, said of its first node and those behind it
pub at_next : {Y : Type 0} (F : List Node → Y) (ns : List Node) (i left : ℕ) (d : Node) → i + 1 ≡ left → i < length ns → d ≡ get_or ns i d → F (drop i ns) ≡ F (d ∷ drop left ns)
at_next F ns i left d e lt here = ap F (drop_next ns i left d e lt here)

module _ (style : IntegerStyle) where
  terms_cons : (n : Node) (ns : List Node) → terms_bytes style (n ∷ ns) ≡ own_bytes style (later_of style ns) n.term ++ terms_bytes style ns
  unfolding terms_bytes
  terms_cons n ns = refl

  pub later_cons : (n : Node) (ns : List Node) → later_of style (n ∷ ns) ≡ run_from n.term (length (own_bytes style (later_of style ns) n.term)) (later_of style ns)
  unfolding terms_bytes
  later_cons n ns = refl

  pub none_bytes : terms_bytes style [] ≡ []
  unfolding terms_bytes
  none_bytes = refl

  pub none_later : later_of style [] ≡ 0
  unfolding terms_bytes
  none_later = refl

  pub terms_longer : (n : Node) (ns : List Node) → length (terms_bytes style (n ∷ ns)) ≡ length (own_bytes style (later_of style ns) n.term) + length (terms_bytes style ns)
  terms_longer n ns = ap length (terms_cons n ns) ∙ length-append (own_bytes style (later_of style ns) n.term) (terms_bytes style ns)

  -- the bytes of a run are among those of the list
  run_few : (op : Op) (own later : ℕ) → run_of op own later ≤ own + later
  run_few (Op.Control Control.ElseIf) own later = omega arith
  run_few (Op.Control Control.Else) own later = omega arith
  run_few op own later = omega arith

  from_few : (t : Term) (own later : ℕ) → run_from t own later ≤ own + later
  from_few (D.Form' op shape args shape' body) own later = run_few op own later
  from_few _ own later = omega arith

  pub later_within : (ns : List Node) → later_of style ns ≤ length (terms_bytes style ns)
  later_within [] = omega (arith, none_later)
  later_within (n ∷ ns) = omega (arith, later_cons n ns, terms_longer n ns, from_few n.term (length (own_bytes style (later_of style ns) n.term)) (later_of style ns), later_within ns)

  pub rest_within : (ns : List Node) (i : ℕ) → length (terms_bytes style (drop i ns)) ≤ length (terms_bytes style ns)
  rest_within ns zero = omega arith
  rest_within [] (suc i) = omega arith
  rest_within (n ∷ ns) (suc i) = omega (arith, terms_longer n ns, rest_within ns i)

-- ---- as far as they are counted

large_form : (content : ℕ) → 1048576 ≤ content → length (package_length_bytes content) ≡ 4
large_form content le =
    let more : package_length_more content ≡ 3 = grind (arith, nat_tests) in
    let three : length (package_length_form 3 content) ≡ 4 = ap suc (length-bytes_low_first 0 3 ((content + 4) / 16)) in
    ap (λ k. length (package_length_form k content)) more ∙ three

-- the length of a package that was counted only so far has as many bytes
pub capped_length : (content : ℕ) → length (package_length_bytes (capped content)) ≡ length (package_length_bytes content)
capped_length content =
    elim (cases_lt content 18446744073709551616) [
      | inl few ↦ let itself : capped content ≡ content = omega (arith, few) in ap (λ n. length (package_length_bytes n)) itself
      | inr many ↦ large_form (capped content) (omega (arith, many)) ∙ sym (large_form content (omega (arith, many)))
    ]

-- the head of a package with nothing before its terms
pub else_length : (content : ℕ) → length (head_bytes (Op.Control Control.Else) [] content) ≡ length (package_length_bytes content) + 1
else_length content =
    let size = length {A = ℕ} [] + content in
    let whole : length (head_bytes (Op.Control Control.Else) [] content) ≡ suc (length (package_length_bytes size ++ [])) = refl in
    let same : length (package_length_bytes size ++ []) ≡ length (package_length_bytes content) = ap length (append-nil (package_length_bytes size)) ∙ ap (λ n. length (package_length_bytes n)) (let e : size ≡ content = omega arith in e) in
    omega (arith, whole, same)

pub else_if_length : (front : List ℕ) (size later : ℕ) → length (else_if_head front size later) ≡ length (package_length_bytes (length (head_bytes (Op.Control Control.If) front size) + size + later)) + 1 + length (head_bytes (Op.Control Control.If) front size)
else_if_length front size later =
    let first = head_bytes (Op.Control Control.If) front size in
    let all = length first + size + later in
    length-append (head_bytes (Op.Control Control.Else) [] all) first ∙ ap (λ n. n + length first) (else_length all)

-- the run behind a form that was counted only so far
pub capped_later : (op : Op) (front : List ℕ) (size later : ℕ) → length (own_head op front size (capped later)) ≡ length (own_head op front size later)
capped_later (Op.Control Control.ElseIf) front size later =
    let first = length (head_bytes (Op.Control Control.If) front size) in
    let same : capped (first + size + capped later) ≡ capped (first + size + later) = omega arith in
    else_if_length front size (capped later)
    ∙ ap (λ n. n + 1 + first) (sym (capped_length (first + size + capped later)) ∙ ap (λ n. length (package_length_bytes n)) same ∙ capped_length (first + size + later))
    ∙ sym (else_if_length front size later)
capped_later op front size later = refl

pub capped_run : (t : Term) (own own' later later' : ℕ) → own ≡ capped own' → later ≡ capped later' → capped (run_from t own later) ≡ capped (run_from t own' later')
capped_run (D.Form' op shape args shape' body) own own' later later' eo el = by_op op
  where
    by_op : (op : Op) → capped (run_of op own later) ≡ capped (run_of op own' later')
    by_op (Op.Control Control.ElseIf) = omega (arith, eo, el)
    by_op (Op.Control Control.Else) = omega (arith, eo, el)
    by_op op = refl
capped_run _ own own' later later' eo el = refl

-- how long a form that holds terms is, by the size of these
pub container_length : (style : IntegerStyle) (op : Op) (args body : List Node) (size later : ℕ) → size ≡ length (terms_bytes style body) → length (container_bytes style op args body later) ≡ size + length (own_head op (nodes_bytes style (letters_of op) args) size later)
container_length style op args body size later es =
    let front = nodes_bytes style (letters_of op) args in
    let whole = length-append (own_head op front (length (terms_bytes style body)) later) (terms_bytes style body) in
    let own : length (own_head op front size later) ≡ length (own_head op front (length (terms_bytes style body)) later) = ap (λ n. length (own_head op front n later)) es in
    omega (arith, whole, own, es)

pub counted_container : (style : IntegerStyle) (op : Op) (args body : List Node) (size later rest result : ℕ) → size ≡ capped (length (terms_bytes style body)) → later ≡ capped rest → result ≡ capped (length (own_head op (nodes_bytes style (letters_of op) args) size later) + size) → result ≡ capped (length (container_bytes style op args body rest))
counted_container style op args body size later rest result es el er =
    let front = nodes_bytes style (letters_of op) args in
    let n = length (terms_bytes style body) in
    let behind : length (own_head op front size later) ≡ length (own_head op front size rest) = ap (λ k. length (own_head op front size k)) el ∙ capped_later op front size rest in
    let whole : length (container_bytes style op args body rest) ≡ n + length (own_head op front n rest) = container_length style op args body n rest refl in
    let both : capped (length (own_head op front size rest) + size) ≡ capped (length (own_head op front n rest) + n) = ap (λ k. capped (length (own_head op front k rest) + k)) es ∙ capped_whole (λ k. length (own_head op front k rest)) n in
    omega (arith, er, behind, both, whole)
