-- The pieces of nodes: what they join to, and one node more at the front.
use Rattle.std.proofs.Common.{◌≡◌, ℕ, ◌+◌, ◌-◌, ◌<◌, ◌≤◌, Bool, true, false, List, [], ◌∷◌, ◌++◌, length, drop, get_or, Vec, Global, refl, sym, ap, ◌∙◌, arith, append_assoc}
use Rattle.std.specs.Prelude.{if◌then◌else◌}
use Rattle.std.proofs.lemmas.List.{append-nil}
use Rattle.iasl_messages.specs.declared.place.Place.{Place}
use Rattle.iasl_messages.specs.declared.place.Line.{Line}
use Rattle.iasl_messages.specs.declared.place.Piece.{Piece}
use Rattle.asl_tree.specs.declared.term.Op.{Op}
use Rattle.asl_tree.specs.declared.term.Node.{Node}
use Rattle.asl_tree.specs.declared.term.Term.{Term}
use Rattle.asl_tree.specs.declared.term.Term as D
use Rattle.aml_sizes.specs.declared.style.IntegerStyle.{IntegerStyle}
use Rattle.term_places.specs.Places.{holds_terms}
use Rattle.aml_sizes.specs.Codes.{letters_of}
use Rattle.aml_sizes.specs.TermBytes.{term_bytes, row_bytes, nodes_bytes}
use Rattle.aml_sizes.specs.TermLists.{own_head, own_bytes, row_terms, row_later, terms_bytes, later_of, container_bytes}
use Rattle.aml_sizes.specs.Pieces.{joined_pieces, piece_at, is_container, form_pieces, container_pieces, term_pieces, row_pieces, nodes_pieces}
use Rattle.aml_sizes.proofs.Joined.{joined_pieces-append}
use Rattle.aml_sizes.proofs.Rows.{rows, args_row, body_row}
use Rattle.aml_sizes.proofs.TermLists.{rows_are, laters_are, at_next, terms_longer, rest_within, none_bytes, container_length}

module _ (style : IntegerStyle) (lines : List Line) where
  form_joined : (c : Bool) (place : Place) (head whole rest : List ℕ) (inner : List Piece) → joined_pieces inner ≡ rest → joined_pieces (form_pieces style lines c place head whole inner) ≡ (if c then head ++ rest else whole)
  form_joined true place head whole rest inner e = ap (λ bs. head ++ bs) e
  form_joined false place head whole rest inner e = append-nil whole

  mutual
    unfolding term_pieces own_bytes

    term_joined : (later : ℕ) (place : Place) (t : Term) → joined_pieces (term_pieces style lines later place t) ≡ own_bytes style later t
    term_joined later place (D.Form' op shape args shape' body) = form_joined (holds_terms op) place _ _ (row_terms style body) (row_pieces style lines body) (row_joined body)
    term_joined later place _ = append-nil _

    row_joined : {m : _} (row : D.Row_of-Node m) → joined_pieces (row_pieces style lines row) ≡ row_terms style row
    row_joined D.end_of-Node = refl
    row_joined (D.more_of-Node id place term rest) =
        joined_pieces-append (term_pieces style lines (row_later style rest) place term) (row_pieces style lines rest)
        ∙ ap (λ bs. bs ++ joined_pieces (row_pieces style lines rest)) (term_joined (row_later style rest) place term)
        ∙ ap (λ bs. own_bytes style (row_later style rest) term ++ bs) (row_joined rest)

  row_nodes : (m : _) (row : D.Row_of-Node m) → row_pieces style lines row ≡ nodes_pieces style lines (D.items-the_row-Node m row)
  unfolding term_pieces nodes_pieces
  row_nodes m D.end_of-Node = refl
  row_nodes m (D.more_of-Node id place term rest) =
      ap (λ n. term_pieces style lines n place term ++ row_pieces style lines rest) (laters_are style _ rest)
      ∙ ap (λ ps. term_pieces style lines (later_of style (D.items-the_row-Node _ rest)) place term ++ ps) (row_nodes _ rest)

  pub nodes_joined : (ns : List Node) → joined_pieces (nodes_pieces style lines ns) ≡ terms_bytes style ns
  unfolding nodes_pieces terms_bytes
  nodes_joined [] = refl
  nodes_joined (n ∷ ns) =
      joined_pieces-append (term_pieces style lines (later_of style ns) n.place n.term) (nodes_pieces style lines ns)
      ∙ ap (λ bs. bs ++ joined_pieces (nodes_pieces style lines ns)) (term_joined (later_of style ns) n.place n.term)
      ∙ ap (λ bs. own_bytes style (later_of style ns) n.term ++ bs) (nodes_joined ns)

  -- the pieces of a form
  form_pieces_of : (later : ℕ) (place : Place) (op : Op) (args body : Vec Node Global) → term_pieces style lines later place (D.Form op args body) ≡ form_pieces style lines (holds_terms op) place (own_head op (nodes_bytes style (letters_of op) args.items) (length (terms_bytes style body.items)) later) (term_bytes style (D.Form op args body)) (nodes_pieces style lines body.items)
  unfolding term_pieces
  form_pieces_of later place op args body =
      let a = args_row (D.Form op args body) in
      let b = body_row (D.Form op args body) in
      let whole = term_bytes style (D.Form op args body) in
      let front = nodes_bytes style (letters_of op) args.items in
      ap (λ bs. form_pieces style lines (holds_terms op) place (own_head op bs (length (row_terms style b.1)) later) whole (row_pieces style lines b.1)) (rows style (letters_of op) a.0 a.1 ∙ ap (nodes_bytes style (letters_of op)) (D.items_hidden-the_row-Node-0 args))
      ∙ ap (λ bs. form_pieces style lines (holds_terms op) place (own_head op front (length bs) later) whole (row_pieces style lines b.1)) (rows_are style b.0 b.1 ∙ ap (terms_bytes style) (D.items_hidden-the_row-Node-0 body))
      ∙ ap (form_pieces style lines (holds_terms op) place (own_head op front (length (terms_bytes style body.items)) later) whole) (row_nodes b.0 b.1 ∙ ap (nodes_pieces style lines) (D.items_hidden-the_row-Node-0 body))

  -- the pieces of a form that holds terms
  pub container_is_term : (later : ℕ) (place : Place) (op : Op) (args body : Vec Node Global) (term : Term) (arg_nodes body_nodes : List Node) → term ≡ D.Form op args body → arg_nodes ≡ args.items → body_nodes ≡ body.items → holds_terms op ≡ true → container_pieces style lines place op arg_nodes body_nodes later ≡ term_pieces style lines later place term
  container_is_term later place op args body term arg_nodes body_nodes et ea eb h =
      ap (λ ns. container_pieces style lines place op ns body_nodes later) ea ∙ ap (λ ns. container_pieces style lines place op args.items ns later) eb
      ∙ sym (form_pieces_of later place op args body ∙ ap (λ c. form_pieces style lines c place (own_head op (nodes_bytes style (letters_of op) args.items) (length (terms_bytes style body.items)) later) (term_bytes style (D.Form op args body)) (nodes_pieces style lines body.items)) h)
      ∙ ap (term_pieces style lines later place) (sym et)

  -- the piece of another term
  pub whole_of : (later : ℕ) (place : Place) (t : Term) → is_container t ≡ false → term_pieces style lines later place t ≡ piece_at lines place (term_bytes style t) ∷ []
  unfolding term_pieces
  whole_of later place (D.Form' op shape args shape' body) h =
      ap (λ c. form_pieces style lines c place (own_head op (row_bytes style (letters_of op) args) (length (row_terms style body)) later) (term_bytes style (D.Form' op shape args shape' body)) (row_pieces style lines body)) h
  whole_of later place _ h = refl

  pub nodes_cons : (n : Node) (ns : List Node) → nodes_pieces style lines (n ∷ ns) ≡ term_pieces style lines (later_of style ns) n.place n.term ++ nodes_pieces style lines ns
  unfolding nodes_pieces
  nodes_cons n ns = refl

  pub no_pieces : nodes_pieces style lines [] ≡ []
  unfolding nodes_pieces
  no_pieces = refl

-- lists that grow by the pieces from the last to the first
module _ {X : Type 0} (f : List Piece → List X) (f_append : (front bs : List Piece) → f (front ++ bs) ≡ f bs ++ f front) where
  -- the loop from the last node to the first: what is drafted
  pub next_drafted : (style : IntegerStyle) (lines : List Line) (ns : List Node) (i left later : ℕ) (d : Node) (drafted drafted' initial : List X) → i + 1 ≡ left → i < length ns → d ≡ get_or ns i d → later ≡ later_of style (drop left ns) → drafted ≡ initial ++ f (nodes_pieces style lines (drop left ns)) → drafted' ≡ drafted ++ f (term_pieces style lines later d.place d.term) → drafted' ≡ initial ++ f (nodes_pieces style lines (drop i ns))
  next_drafted style lines ns i left later d drafted drafted' initial e lt here behind before is =
      let rest = drop left ns in
      let own = term_pieces style lines (later_of style rest) d.place d.term in
      is ∙ ap (λ n. drafted ++ f (term_pieces style lines n d.place d.term)) behind ∙ ap (λ xs. xs ++ f own) before
      ∙ append_assoc initial (f (nodes_pieces style lines rest)) (f own)
      ∙ ap (λ xs. initial ++ xs) (sym (f_append own (nodes_pieces style lines rest)) ∙ ap f (sym (nodes_cons style lines d rest)) ∙ sym (at_next (λ ms. f (nodes_pieces style lines ms)) ns i left d e lt here))

  -- a container whose body and then whose own piece were drafted
  pub container_drafted : (own : Piece) (parts : List Piece) (before between after : List X) → between ≡ before ++ f parts → after ≡ between ++ f (own ∷ []) → after ≡ before ++ f (own ∷ parts)
  container_drafted own parts before between after is is' =
      is' ∙ ap (λ xs. xs ++ f (own ∷ [])) is ∙ append_assoc before (f parts) (f (own ∷ [])) ∙ ap (λ xs. before ++ xs) (sym (f_append (own ∷ []) parts))

  -- none is drafted yet
  pub none_drafted : f [] ≡ [] → (style : IntegerStyle) (lines : List Line) (ns : List Node) (drafted : List X) → ns ≡ [] → drafted ≡ drafted ++ f (nodes_pieces style lines ns)
  none_drafted none style lines ns drafted e = sym (append-nil drafted) ∙ ap (λ xs. drafted ++ xs) (sym (ap (λ ms. f (nodes_pieces style lines ms)) e ∙ ap f (no_pieces style lines) ∙ none))

pub grown_by : (before after more : ℕ) → after ≡ before + more → after - before ≡ more
grown_by before after more e = omega (arith, e)

-- one node more, in bytes
pub next_size : (style : IntegerStyle) (ns : List Node) (i left later : ℕ) (d : Node) (size size' initial : ℕ) → i + 1 ≡ left → i < length ns → d ≡ get_or ns i d → later ≡ later_of style (drop left ns) → size ≡ initial + length (terms_bytes style (drop left ns)) → size' ≡ size + length (own_bytes style later d.term) → size' ≡ initial + length (terms_bytes style (drop i ns))
next_size style ns i left later d size size' initial e lt here behind before is =
    let more : length (terms_bytes style (drop i ns)) ≡ length (own_bytes style (later_of style (drop left ns)) d.term) + length (terms_bytes style (drop left ns)) = at_next (λ ms. length (terms_bytes style ms)) ns i left d e lt here ∙ terms_longer style d (drop left ns) in
    let own : length (own_bytes style later d.term) ≡ length (own_bytes style (later_of style (drop left ns)) d.term) = ap (λ n. length (own_bytes style n d.term)) behind in
    omega (arith, more, own, before, is)

-- a node and those behind it have no more bytes than all
pub node_within : (style : IntegerStyle) (ns : List Node) (i left later : ℕ) (d : Node) → i + 1 ≡ left → i < length ns → d ≡ get_or ns i d → later ≡ later_of style (drop left ns) → length (terms_bytes style (drop left ns)) + length (own_bytes style later d.term) ≤ length (terms_bytes style ns)
node_within style ns i left later d e lt here behind =
    let next = next_size style ns i left later d (0 + length (terms_bytes style (drop left ns))) (0 + length (terms_bytes style (drop left ns)) + length (own_bytes style later d.term)) 0 e lt here behind refl refl in
    omega (arith, next, rest_within style ns i)

pub none_size : (style : IntegerStyle) (ns : List Node) → ns ≡ [] → length (terms_bytes style ns) ≡ 0
none_size style ns e = ap (λ ms. length (terms_bytes style ms)) e ∙ ap length (none_bytes style)

-- a container is no shorter than its body
pub body_within : (style : IntegerStyle) (op : Op) (args body : List Node) (later : ℕ) → length (terms_bytes style body) ≤ length (container_bytes style op args body later)
body_within style op args body later =
    let whole = container_length style op args body (length (terms_bytes style body)) later refl in
    omega (arith, whole)
