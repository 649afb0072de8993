-- The lengths of the packages of lists of terms, as they are noted from the last term to the first.
use Rattle.std.proofs.Common.{◌≡◌, ℕ, ◌+◌, ◌<◌, true, false, List, [], ◌∷◌, ◌++◌, length, drop, get_or, Option, Vec, Global, refl, sym, ap, ◌∙◌, subst, arith, append_assoc}
use Rattle.std.specs.Prelude.{if◌then◌else◌}
use Rattle.asl_tree.specs.declared.term.Op.{Op}
use Rattle.asl_tree.specs.declared.term.Node.{Node}
use Rattle.asl_tree.specs.declared.term.Term.{Term}
use Rattle.asl_tree.specs.declared.term.Term as D
use Rattle.term_places.specs.Places.{holds_terms}
use Rattle.aml_sizes.specs.declared.style.IntegerStyle.{IntegerStyle}
use Rattle.aml_sizes.specs.Codes.{letters_of}
use Rattle.asl_tree.specs.declared.term.Control.TheVariants as Control
use Rattle.aml_sizes.specs.TermBytes.{is_package, head_bytes, nodes_bytes}
use Rattle.aml_sizes.specs.TermLists.{is_else_if, own_head, row_terms, terms_bytes, later_of}
use Rattle.aml_sizes.specs.PackageLengths.{package_length, head_lengths, term_lengths, row_lengths, nodes_lengths, own_lengths, row_terms_lengths, terms_lengths, container_lengths, Noted}
use Rattle.aml_sizes.specs.Pieces.{is_container}
use Rattle.aml_sizes.proofs.Rows.{rows, args_row, body_row}
use Rattle.aml_sizes.proofs.TermLists.{if_not, rows_are, laters_are, at_next}
use Rattle.aml_sizes.proofs.NotedLengths.{noted_none, noted_both, noted_as, row_is}

module _ (style : IntegerStyle) where
  terms_row : (m : _) (row : D.Row_of-Node m) → row_terms_lengths style row ≡ terms_lengths style (D.items-the_row-Node m row)
  unfolding own_lengths terms_lengths
  terms_row m D.end_of-Node = refl
  terms_row m (D.more_of-Node id place term rest) =
      ap (λ n. own_lengths style n term ++ row_terms_lengths style rest) (laters_are style _ rest)
      ∙ ap (λ ls. own_lengths style (later_of style (D.items-the_row-Node _ rest)) term ++ ls) (terms_row _ rest)

  form_by : (later : ℕ) (op : Op) (args body : Vec Node Global) → own_lengths style later (D.Form op args body) ≡ (if holds_terms op then container_lengths style op args.items body.items later else term_lengths style (D.Form op args body))
  unfolding own_lengths
  form_by later op args body =
      let a = args_row (D.Form op args body) in
      let b = body_row (D.Form op args body) in
      let whole = term_lengths style (D.Form op args body) in
      ap (λ bs. if holds_terms op then head_lengths op bs (length (row_terms style b.1)) later ++ (row_lengths style (letters_of op) a.1 ++ row_terms_lengths style b.1) else whole) (rows style (letters_of op) a.0 a.1 ∙ ap (nodes_bytes style (letters_of op)) (D.items_hidden-the_row-Node-0 args))
      ∙ ap (λ bs. if holds_terms op then head_lengths op (nodes_bytes style (letters_of op) args.items) (length bs) later ++ (row_lengths style (letters_of op) a.1 ++ row_terms_lengths style b.1) else whole) (rows_are style b.0 b.1 ∙ ap (terms_bytes style) (D.items_hidden-the_row-Node-0 body))
      ∙ ap (λ ls. if holds_terms op then head_lengths op (nodes_bytes style (letters_of op) args.items) (length (terms_bytes style body.items)) later ++ (ls ++ row_terms_lengths style b.1) else whole) (row_is style (letters_of op) a.0 a.1 ∙ ap (nodes_lengths style (letters_of op)) (D.items_hidden-the_row-Node-0 args))
      ∙ ap (λ ls. if holds_terms op then head_lengths op (nodes_bytes style (letters_of op) args.items) (length (terms_bytes style body.items)) later ++ (nodes_lengths style (letters_of op) args.items ++ ls) else whole) (terms_row b.0 b.1 ∙ ap (terms_lengths style) (D.items_hidden-the_row-Node-0 body))

  -- a form that holds terms
  pub container_lengths_are : (later : ℕ) (op : Op) (args body : Vec Node Global) (term : Term) (arg_nodes body_nodes : List Node) → term ≡ D.Form op args body → arg_nodes ≡ args.items → body_nodes ≡ body.items → holds_terms op ≡ true → container_lengths style op arg_nodes body_nodes later ≡ own_lengths style later term
  container_lengths_are later op args body term arg_nodes body_nodes et ea eb h =
      ap (λ ns. container_lengths style op ns body_nodes later) ea ∙ ap (λ ns. container_lengths style op args.items ns later) eb
      ∙ sym (form_by later op args body ∙ ap (λ c. if c then container_lengths style op args.items body.items later else term_lengths style (D.Form op args body)) h)
      ∙ ap (own_lengths style later) (sym et)

  -- another term
  pub alone_lengths_are : (later : ℕ) (t : Term) → is_container t ≡ false → own_lengths style later t ≡ term_lengths style t
  unfolding own_lengths
  alone_lengths_are later (D.Form' op shape args shape' body) h = if_not (holds_terms op) _ _ h
  alone_lengths_are later _ h = refl

  lengths_cons : (n : Node) (ns : List Node) → terms_lengths style (n ∷ ns) ≡ own_lengths style (later_of style ns) n.term ++ terms_lengths style ns
  unfolding terms_lengths
  lengths_cons n ns = refl

  no_lengths : terms_lengths style [] ≡ []
  unfolding terms_lengths
  no_lengths = refl

  -- the loop from the last node to the first: what is noted
  pub next_noted : (ns : List Node) (i left later : ℕ) (d : Node) (before between now : Option (List ℕ)) → i + 1 ≡ left → i < length ns → d ≡ get_or ns i d → later ≡ later_of style (drop left ns) → Noted (terms_lengths style (drop left ns)) before between → Noted (own_lengths style later d.term) between now → Noted (terms_lengths style (drop i ns)) before now
  next_noted ns i left later d before between now e lt here behind rest own =
      noted_as (own_lengths style later d.term ++ terms_lengths style (drop left ns)) (terms_lengths style (drop i ns)) before now
      (at_next (terms_lengths style) ns i left d e lt here ∙ lengths_cons d (drop left ns) ∙ ap (λ n. own_lengths style n d.term ++ terms_lengths style (drop left ns)) (sym behind))
      (noted_both (own_lengths style later d.term) (terms_lengths style (drop left ns)) before between now rest own)

  pub none_noted : (ns : List Node) (notes : Option (List ℕ)) → ns ≡ [] → Noted (terms_lengths style ns) notes notes
  none_noted ns notes e = noted_as [] (terms_lengths style ns) notes notes (ap (terms_lengths style) e ∙ no_lengths) (noted_none notes)

  -- a form whose body is a list of terms, whose body and then whose arguments and own lengths were noted
  pub container_noted : (op : Op) (args body : List Node) (size later : ℕ) (before between now now' : Option (List ℕ)) → size ≡ length (terms_bytes style body) → Noted (terms_lengths style body) before between
      → Noted (head_lengths op (nodes_bytes style (letters_of op) args) size later ++ nodes_lengths style (letters_of op) args) between now → now' ≡ now → Noted (container_lengths style op args body later) before now'
  container_noted op args body size later before between now now' es inside front same =
      let own = head_lengths op (nodes_bytes style (letters_of op) args) (length (terms_bytes style body)) later in
      let own_noted : Noted (own ++ nodes_lengths style (letters_of op) args) between now = subst (λ n. Noted (head_lengths op (nodes_bytes style (letters_of op) args) n later ++ nodes_lengths style (letters_of op) args) between now) es front in
      subst (λ n. Noted (container_lengths style op args body later) before n) (sym same)
      (noted_as ((own ++ nodes_lengths style (letters_of op) args) ++ terms_lengths style body) (container_lengths style op args body later) before now (sym (append_assoc own (nodes_lengths style (letters_of op) args) (terms_lengths style body)))
      (noted_both (own ++ nodes_lengths style (letters_of op) args) (terms_lengths style body) before between now inside own_noted))

-- a form that is no ElseIf is one package at most
pub one_package : (op : Op) (front : List ℕ) (size later : ℕ) → is_else_if op ≡ false → head_lengths op front size later ≡ (if is_package op then package_length (length front + size) ∷ [] else [])
one_package (Op.Control Control.ElseIf) front size later e = absurd (grind arith)
one_package op front size later e = refl

pub one_head : (op : Op) (front : List ℕ) (size later : ℕ) → is_else_if op ≡ false → own_head op front size later ≡ head_bytes op front size
one_head (Op.Control Control.ElseIf) front size later e = absurd (grind arith)
one_head op front size later e = refl

-- an ElseIf is the one that is known
pub else_if_op : (op : Op) → is_else_if op ≡ true → op ≡ Op.Control Control.ElseIf
else_if_op (Op.Control Control.ElseIf) e = refl
else_if_op op e = absurd (grind arith)
