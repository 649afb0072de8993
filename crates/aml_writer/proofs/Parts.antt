-- The bytes of the pieces of nodes, from the last node to the first.
use Rattle.std.proofs.Common.{◌≡◌, ℕ, zero, suc, ◌+◌, ◌<◌, true, false, List, [], ◌∷◌, ◌++◌, length, drop, get_or, map, Vec, Global, refl, sym, ap, ◌∙◌, subst, append_assoc}
use Rattle.std.proofs.lemmas.List.{map-append}
use Rattle.iasl_messages.specs.declared.place.Place.{Place}
use Rattle.iasl_messages.specs.declared.place.Piece.{Piece}
use Rattle.asl_tree.specs.declared.term.Op.{Op}
use Rattle.asl_tree.specs.declared.term.Node.{Node}
use Rattle.asl_tree.specs.declared.term.Term.{Term}
use Rattle.asl_tree.specs.declared.term.Term as D
use Rattle.term_places.specs.Places.{holds_terms}
use Rattle.aml_sizes.specs.declared.style.IntegerStyle.{IntegerStyle}
use Rattle.aml_sizes.specs.Codes.{letters_of}
use Rattle.aml_sizes.specs.TermBytes.{term_bytes, nodes_bytes}
use Rattle.aml_sizes.specs.TermLists.{own_head, terms_bytes, later_of}
use Rattle.aml_sizes.specs.Pieces.{is_container, term_pieces, nodes_pieces}
use Rattle.aml_writer.specs.Fills.{bytes_of, nodes_parts, own_parts, EndsIn, Fills}
use Rattle.aml_sizes.proofs.TermLists.{at_next}
use Rattle.aml_sizes.proofs.NodePieces.{nodes_cons, no_pieces, container_is_term, whole_of}
use Rattle.aml_writer.proofs.Fills.{ends_last, ends_first, none_filled, both_filled}

module _ (style : IntegerStyle) where
  abbrev node_parts : ℕ → Node → List (List ℕ)
  node_parts later n = map bytes_of (term_pieces style [] later n.place n.term)

  parts_first : (n : Node) (ns : List Node) → nodes_parts style (n ∷ ns) ≡ node_parts (later_of style ns) n ++ nodes_parts style ns
  parts_first n ns = ap (map bytes_of) (nodes_cons style [] n ns) ∙ map-append bytes_of (term_pieces style [] (later_of style ns) n.place n.term) (nodes_pieces style [] ns)

  -- the parts of the last nodes, which stand behind others
  last_parts : (ns : List Node) (i : ℕ) → (front : List (List ℕ)) × (nodes_parts style ns ≡ front ++ nodes_parts style (drop i ns))
  last_parts ns zero = ([], refl)
  last_parts [] (suc i) = ([], refl)
  last_parts (n ∷ ns) (suc i) =
      let rest = last_parts ns i in
      let own = node_parts (later_of style ns) n in
      (own ++ rest.0, parts_first n ns ∙ ap (λ parts. own ++ parts) rest.1 ∙ sym (append_assoc own rest.0 (nodes_parts style (drop i ns))))

  parts_rest : (ns : List Node) (i left later : ℕ) (d : Node) → i + 1 ≡ left → i < length ns → d ≡ get_or ns i d → later ≡ later_of style (drop left ns) → nodes_parts style (drop i ns) ≡ node_parts later d ++ nodes_parts style (drop left ns)
  parts_rest ns i left later d e lt here behind =
      at_next (nodes_parts style) ns i left d e lt here ∙ parts_first d (drop left ns) ∙ ap (λ n. node_parts n d ++ nodes_parts style (drop left ns)) (sym behind)

  -- the loop from the last node to the first: the room that is left ends in that of the next
  pub node_ends : (ns : List Node) (i left later : ℕ) (d : Node) (s t : List ℕ) (p q : List Piece) → i + 1 ≡ left → i < length ns → d ≡ get_or ns i d → later ≡ later_of style (drop left ns) → EndsIn s (nodes_parts style ns) → Fills (nodes_parts style (drop left ns)) s t p q → EndsIn t (map bytes_of (term_pieces style [] later d.place d.term))
  node_ends ns i left later d s t p q e lt here behind ends put =
      let front = last_parts ns i in
      let own = node_parts later d in
      let rest = nodes_parts style (drop left ns) in
      let all : nodes_parts style ns ≡ (front.0 ++ own) ++ rest = front.1 ∙ ap (λ parts. front.0 ++ parts) (parts_rest ns i left later d e lt here behind) ∙ sym (append_assoc front.0 own rest) in
      ends_last front.0 own t (ends_first (front.0 ++ own) rest s t p q (subst (EndsIn s) all ends) put)

  -- and what was put in
  pub next_filled : (ns : List Node) (i left later : ℕ) (d : Node) (s t u : List ℕ) (p q r : List Piece) → i + 1 ≡ left → i < length ns → d ≡ get_or ns i d → later ≡ later_of style (drop left ns) → Fills (nodes_parts style (drop left ns)) s t p q → Fills (map bytes_of (term_pieces style [] later d.place d.term)) t u q r → Fills (nodes_parts style (drop i ns)) s u p r
  next_filled ns i left later d s t u p q r e lt here behind first second =
      subst (λ parts. Fills parts s u p r) (sym (parts_rest ns i left later d e lt here behind)) (both_filled (node_parts later d) (nodes_parts style (drop left ns)) s t u p q r first second)

-- a container's parts
pub container_parts : (style : IntegerStyle) (later : ℕ) (place : Place) (op : Op) (args body : Vec Node Global) (term : Term) (arg_nodes body_nodes : List Node) → term ≡ D.Form op args body → arg_nodes ≡ args.items → body_nodes ≡ body.items → holds_terms op ≡ true → map bytes_of (term_pieces style [] later place term) ≡ own_parts style op arg_nodes body_nodes later
container_parts style later place op args body term arg_nodes body_nodes et ea eb h = ap (map bytes_of) (sym (container_is_term style [] later place op args body term arg_nodes body_nodes et ea eb h))

-- a form that holds terms
module _ (style : IntegerStyle) (op : Op) (args body : List Node) (later : ℕ) where
  abbrev head_of : ℕ → List ℕ
  head_of size = own_head op (nodes_bytes style (letters_of op) args) size later

  pub own_ends : (spaces : List ℕ) → EndsIn spaces (own_parts style op args body later) → EndsIn spaces (nodes_parts style body)
  own_ends spaces h = ends_last (head_of (length (terms_bytes style body)) ∷ []) (nodes_parts style body) spaces h

  pub own_head_ends : (size : ℕ) (s t : List ℕ) (p q : List Piece) → EndsIn s (own_parts style op args body later) → Fills (nodes_parts style body) s t p q → size ≡ length (terms_bytes style body) → EndsIn t (head_of size ∷ [])
  own_head_ends size s t p q h put e = subst (λ n. EndsIn t (head_of n ∷ [])) (sym e) (ends_first (head_of (length (terms_bytes style body)) ∷ []) (nodes_parts style body) s t p q h put)

  pub own_filled : (size : ℕ) (s t u : List ℕ) (p q r : List Piece) → Fills (nodes_parts style body) s t p q → Fills (head_of size ∷ []) t u q r → size ≡ length (terms_bytes style body) → Fills (own_parts style op args body later) s u p r
  own_filled size s t u p q r first second e = both_filled (head_of (length (terms_bytes style body)) ∷ []) (nodes_parts style body) s t u p q r first (subst (λ n. Fills (head_of n ∷ []) t u q r) e second)

-- a term that holds no list of terms
pub whole_parts : (style : IntegerStyle) (later : ℕ) (place : Place) (t : Term) → is_container t ≡ false → map bytes_of (term_pieces style [] later place t) ≡ term_bytes style t ∷ []
whole_parts style later place t h = ap (map bytes_of) (whole_of style [] later place t h)

-- the loop begins with none that is put in
pub none_parts : (style : IntegerStyle) (ns : List Node) (s : List ℕ) (p : List Piece) → ns ≡ [] → Fills (nodes_parts style ns) s s p p
none_parts style ns s p e = subst (λ parts. Fills parts s s p p) (sym (ap (nodes_parts style) e ∙ ap (map bytes_of) (no_pieces style []))) (none_filled s p)
