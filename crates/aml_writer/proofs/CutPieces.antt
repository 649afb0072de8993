-- The pieces of nodes that can be written are cut from the encoding of their trees.
use Rattle.std.proofs.Common.{◌≡◌, ℕ, suc, ◌+◌, Bool, true, false, List, [], ◌∷◌, ◌++◌, length, refl, sym, ap, ◌∙◌, subst, arith, append_assoc, length-append}
use Rattle.std.specs.Prelude.{if◌then◌else◌}
use Rattle.std.proofs.lemmas.List.{append-nil}
use Rattle.iasl_messages.specs.declared.place.Place.{Place}
use Rattle.iasl_messages.specs.declared.place.Line.{Line}
use Rattle.iasl_messages.specs.declared.place.Piece.{Piece}
use Rattle.asl_tree.specs.declared.program.Block.{Block}
use Rattle.asl_tree.specs.declared.term.Op.{Op}
use Rattle.asl_tree.specs.declared.term.Declaration.TheVariants as Declaration
use Rattle.asl_tree.specs.declared.term.Control.TheVariants as Control
use Rattle.asl_tree.specs.declared.term.Node.{Node}
use Rattle.asl_tree.specs.declared.term.Term.{Term}
use Rattle.asl_tree.specs.declared.term.Term as D
use Rattle.asl_tree.specs.Names.{Known}
use Rattle.asl_tree.specs.Tree.{At, Tree, Integer, Use, Method, Container', Scope, If, ElseIf, Else, While, Trees, no_trees, tree}
use Rattle.asl_tree.specs.View.{form, tree_of, row_trees, trees_of}
use Rattle.else_runs.specs.Runs.{before, nested_in, nested_all}
use Rattle.term_places.specs.Places.{holds_terms, inner_places, row_places, term_places, places_of}
use Rattle.aml_code.specs.Encoding.{name_bytes}
use Rattle.aml_code.specs.Header.{fields_of}
use Rattle.aml_meaning.specs.Codes.{ScopeCode, IfCode, ElseCode, WhileCode}
use Rattle.aml_meaning.specs.Encoded.{encoded, encoded_terms}
use Rattle.aml_sessions.specs.Ready.{AreReady}
use Rattle.aml_sizes.specs.declared.style.IntegerStyle.{IntegerStyle}
use Rattle.aml_sizes.specs.Styles.{style_of}
use Rattle.aml_sizes.specs.Codes.{letters_of}
use Rattle.aml_sizes.specs.TermBytes.{term_bytes, row_bytes}
use Rattle.aml_sizes.specs.TermLists.{is_else_if, own_head, row_terms, row_later, terms_bytes, later_of}
use Rattle.aml_sizes.specs.Pieces.{piece_at, form_pieces, term_pieces, row_pieces, nodes_pieces, table_pieces}
use Rattle.aml_writer.specs.Cuts.{opening_of, opening, operand, else_length, run_length, cut, cut_all, header_of, table_parts, pieces_with, ArePieces}
use Rattle.aml_sizes.proofs.Forms.{IsWhole, AreWhole, trees_bytes}
use Rattle.aml_sizes.proofs.Holds.{holds, form_holds}
use Rattle.aml_sizes.proofs.Runs.{IsListed, AreListed, unnested, else_if_listed, listed_before, listed_parts, alone_before, rest_listed}
use Rattle.aml_sizes.proofs.Encodings.{all_listed, written, row_written, rows_written, nodes_written, ready_bytes}
use Rattle.aml_writer.proofs.Cuts.{else_length_is, else_if_opening}

-- a term that holds no list of terms is one part
alone_cut : (style : IntegerStyle) (later : ℕ) (t : Tree) → holds t ≡ false → cut style.width style.short later t ≡ operand style.width style.short t ∷ []
alone_cut style later (Method at name flags body) e = absurd (grind arith)
alone_cut style later (Container' kind at name body) e = absurd (grind arith)
alone_cut style later (Scope here at name body) e = absurd (grind arith)
alone_cut style later (If test body) e = absurd (grind arith)
alone_cut style later (ElseIf test body) e = absurd (grind arith)
alone_cut style later (Else body) e = absurd (grind arith)
alone_cut style later (While test body) e = absurd (grind arith)
alone_cut style later t e = refl

nested_whole : (t : Tree) (rest : Trees) → holds t ≡ false → AreListed (before (nested_in t) rest) → IsWhole (nested_in t)
nested_whole (Method at name flags body) rest e h = absurd (grind arith)
nested_whole (Container' kind at name body) rest e h = absurd (grind arith)
nested_whole (Scope here at name body) rest e h = absurd (grind arith)
nested_whole (If test body) rest e h = absurd (grind arith)
nested_whole (ElseIf test body) rest e h = absurd (grind arith)
nested_whole (Else body) rest e h = absurd (grind arith)
nested_whole (While test body) rest e h = absurd (grind arith)
nested_whole t rest e h = h.0

-- the arguments and the terms of a form that holds some, where it can be written before others
other_parts : (here : At) (op : Op) (args body rest : Trees) → holds_terms op ≡ true → is_else_if op ≡ false → AreListed (before (nested_in (form here op args body)) rest) → AreWhole args × AreListed (nested_all body)
other_parts here op args body rest c e h = listed_parts here op args (nested_all body) c e (subst AreListed (listed_before here op args body rest c e h) h).0

held_parts : (here : At) (op : Op) (args body rest : Trees) → holds_terms op ≡ true → AreListed (before (nested_in (form here op args body)) rest) → AreWhole args × AreListed (nested_all body)
held_parts here (Op.Control Control.ElseIf) (tree test no_trees) body rest c h =
    let parts = else_if_listed (nested_in test) (nested_all body) rest h in ((subst IsWhole (unnested test parts.0.0) parts.0.0, tt), parts.0.1)
held_parts here (Op.Control Control.ElseIf) _ body rest c h = absurd h.0
held_parts here op args body rest c h = other_parts here op args body rest c refl h

module _ (style : IntegerStyle) where
  abbrev parts : Trees → List (List ℕ)
  parts body = cut_all style.width style.short body

  abbrev content : Trees → List ℕ
  content body = encoded_terms style.width style.short body

  abbrev value : Tree → List ℕ
  value test = encoded style.width style.short test

  -- an operand that can be written has no runs
  operand_is : (test : Tree) → IsWhole (nested_in test) → value test ++ [] ≡ operand style.width style.short test
  operand_is test h = append-nil (value test) ∙ ap value (sym (unnested test h))

  -- what stands before the terms of a form
  head_is : (here : At) (op : Op) (args body rest : Trees) (later : ℕ) → holds_terms op ≡ true → AreListed (before (nested_in (form here op args body)) rest)
      → own_head op (trees_bytes style (letters_of op) args) (length (content body)) later ∷ parts body ≡ cut style.width style.short later (form here op args body)
  head_is here (Op.Declaration Declaration.Method) (tree (Use at name) (tree (Integer arity) no_trees)) body rest later e h = refl
  head_is here (Op.Declaration Declaration.Method) _ body rest later e h = absurd h.0
  head_is here (Op.Declaration Declaration.Device) (tree (Use at name) no_trees) body rest later e h = refl
  head_is here (Op.Declaration Declaration.Device) _ body rest later e h = absurd h.0
  head_is here (Op.Declaration Declaration.ThermalZone) (tree (Use at name) no_trees) body rest later e h = refl
  head_is here (Op.Declaration Declaration.ThermalZone) _ body rest later e h = absurd h.0
  head_is here (Op.Declaration Declaration.PowerResource) (tree (Use at name) (tree (Integer level) (tree (Integer order) no_trees))) body rest later e h = refl
  head_is here (Op.Declaration Declaration.PowerResource) _ body rest later e h = absurd h.0
  head_is here (Op.Declaration Declaration.Processor) (tree (Use at name) (tree (Integer number) (tree (Integer address) (tree (Integer size) no_trees)))) body rest later e h = refl
  head_is here (Op.Declaration Declaration.Processor) _ body rest later e h = absurd h.0
  head_is here (Op.Declaration Declaration.Scope) (tree (Use at name) no_trees) body rest later e h = ap (λ bs. opening style.width style.short ScopeCode bs body ∷ parts body) (append-nil (name_bytes name))
  head_is here (Op.Declaration Declaration.Scope) _ body rest later e h = absurd h.0
  head_is here (Op.Control Control.If) (tree test no_trees) body rest later e h = ap (λ bs. opening style.width style.short IfCode bs body ∷ parts body) (operand_is test h.0.0)
  head_is here (Op.Control Control.If) _ body rest later e h = absurd h.0
  head_is here (Op.Control Control.ElseIf) (tree test no_trees) body rest later e h =
      let size = length (content body) in
      let listed = else_if_listed (nested_in test) (nested_all body) rest h in
      ap (λ bs. bs ∷ parts body) (else_if_opening style.width style.short (value test ++ []) size later ∙ ap (λ bs. opening_of ElseCode (opening_of IfCode bs size) (size + later)) (operand_is test listed.0.0))
  head_is here (Op.Control Control.ElseIf) _ body rest later e h = absurd h.0
  head_is here (Op.Control Control.Else) no_trees body rest later e h = refl
  head_is here (Op.Control Control.Else) _ body rest later e h = absurd h.0
  head_is here (Op.Control Control.While) (tree test no_trees) body rest later e h = ap (λ bs. opening style.width style.short WhileCode bs body ∷ parts body) (operand_is test h.0.0)
  head_is here (Op.Control Control.While) _ body rest later e h = absurd h.0
  head_is here _ _ body rest later e h = absurd (grind arith)

-- ---- pieces that have these places and these parts, before others

abbrev Fit : List Line → List Place → List (List ℕ) → List Piece → Type 0
Fit lines places parts pieces =
    (length places ≡ length parts) × ((ps : List Place) (bs : List (List ℕ)) → pieces_with lines (places ++ ps) (parts ++ bs) ≡ pieces ++ pieces_with lines ps bs)

fit-append : (lines : List Line) (places : List Place) (parts : List (List ℕ)) (pieces : List Piece) (places' : List Place) (parts' : List (List ℕ)) (pieces' : List Piece) → Fit lines places parts pieces → Fit lines places' parts' pieces' → Fit lines (places ++ places') (parts ++ parts') (pieces ++ pieces')
fit-append lines places parts pieces places' parts' pieces' h k = (
  length-append places places' ∙ ap (λ n. n + length places') h.0 ∙ ap (λ n. length parts + n) k.0 ∙ sym (length-append parts parts'),
  λ ps bs.
      ap (λ at. pieces_with lines at ((parts ++ parts') ++ bs)) (append_assoc places places' ps)
      ∙ ap (pieces_with lines (places ++ (places' ++ ps))) (append_assoc parts parts' bs)
      ∙ h.1 (places' ++ ps) (parts' ++ bs)
      ∙ ap (λ more. pieces ++ more) (k.1 ps bs)
      ∙ sym (append_assoc pieces pieces' (pieces_with lines ps bs)),
)

fit_is : (lines : List Line) (places : List Place) (parts : List (List ℕ)) (pieces : List Piece) → Fit lines places parts pieces → pieces ≡ pieces_with lines places parts
fit_is lines places parts pieces h =
    sym (append-nil pieces) ∙ sym (h.1 [] []) ∙ ap (λ at. pieces_with lines at (parts ++ [])) (append-nil places) ∙ ap (pieces_with lines places) (append-nil parts)

-- one more at the front
put_fit : (lines : List Line) (place : Place) (part : List ℕ) (places : List Place) (parts : List (List ℕ)) (inner : List Piece) → Fit lines places parts inner → Fit lines (place ∷ places) (part ∷ parts) (piece_at lines place part ∷ inner)
put_fit lines place part places parts inner h = (ap suc h.0, λ ps bs. ap (λ more. piece_at lines place part ∷ more) (h.1 ps bs))

one_fit : (lines : List Line) (place : Place) (bytes : List ℕ) → Fit lines (place ∷ []) (bytes ∷ []) (piece_at lines place bytes ∷ [])
one_fit lines place bytes = (refl, λ ps bs. refl)

module _ (style : IntegerStyle) (lines : List Line) where
  alone_fit : (place : Place) (t : Tree) (rest : Trees) (later : ℕ) (whole : List ℕ) → holds t ≡ false → (IsWhole t → whole ≡ encoded style.width style.short t) → AreListed (before (nested_in t) rest) → Fit lines (place ∷ []) (cut style.width style.short later t) (piece_at lines place whole ∷ [])
  alone_fit place t rest later whole e w h =
      let k = (alone_before t rest e h).1 in
      let same = unnested t (nested_whole t rest e h) in
      let is : whole ∷ [] ≡ cut style.width style.short later t = ap (λ bs. bs ∷ []) (w k ∙ ap (encoded style.width style.short) (sym same)) ∙ sym (alone_cut style later t e) in
      subst (λ ps. Fit lines (place ∷ []) ps (piece_at lines place whole ∷ [])) is (one_fit lines place whole)

  form_fit : (place : Place) (at : At) (op : Op) (args body rest : Trees) (later : ℕ) (c : Bool) → holds_terms op ≡ c → AreListed (before (nested_in (form at op args body)) rest) → (front inside whole : List ℕ) (places : List Place) (inner : List Piece)
      → (AreListed (nested_all body) → Fit lines places (cut_all style.width style.short body) inner) → (AreWhole args → front ≡ trees_bytes style (letters_of op) args) → (AreListed (nested_all body) → inside ≡ encoded_terms style.width style.short body)
      → (IsWhole (form at op args body) → whole ≡ encoded style.width style.short (form at op args body))
      → Fit lines (place ∷ (if c then places else [])) (cut style.width style.short later (form at op args body)) (form_pieces style lines c place (own_head op front (length inside) later) whole inner)
  form_fit place at op args body rest later true e h front inside whole places inner g f i w =
      let k = held_parts at op args body rest e h in
      let own = own_head op front (length inside) later in
      let is : own ∷ cut_all style.width style.short body ≡ cut style.width style.short later (form at op args body) =
      ap (λ bs. own_head op bs (length inside) later ∷ cut_all style.width style.short body) (f k.0)
      ∙ ap (λ bs. own_head op (trees_bytes style (letters_of op) args) (length bs) later ∷ cut_all style.width style.short body) (i k.1)
      ∙ head_is style at op args body rest later e h in
      subst (λ ps. Fit lines (place ∷ places) ps (piece_at lines place own ∷ inner)) is (put_fit lines place own places (cut_all style.width style.short body) inner (g k.1))
  form_fit place at op args body rest later false e h front inside whole places inner g f i w = alone_fit place (form at op args body) rest later whole (form_holds at op args body e) w h

  mutual
    unfolding tree_of term_pieces inner_places

    term_fit : (later : ℕ) (place : Place) (at : At) (t : Term) (rest : Trees) → AreListed (before (nested_in (tree_of at t)) rest) → Fit lines (place ∷ inner_places t) (cut style.width style.short later (tree_of at t)) (term_pieces style lines later place t)
    term_fit later place at (D.Form' op shape args shape' body) rest h =
        form_fit place at op (row_trees args) (row_trees body) rest later (holds_terms op) refl h (row_bytes style (letters_of op) args) (row_terms style body) (term_bytes style (D.Form' op shape args shape' body)) (row_places body) (row_pieces style lines body)
        (λ b. row_fit body b) (row_written style (letters_of op) args) (λ b. (rows_written style body b).0) (written style at (D.Form' op shape args shape' body))
    term_fit later place at t rest h = alone_fit place (tree_of at t) rest later (term_bytes style t) refl (written style at t) h

    row_fit : {m : _} (row : D.Row_of-Node m) → AreListed (nested_all (row_trees row)) → Fit lines (row_places row) (cut_all style.width style.short (row_trees row)) (row_pieces style lines row)
    row_fit D.end_of-Node h = (refl, λ ps bs. refl)
    row_fit (D.more_of-Node id place term rest) h =
        let at : At = record { id = id; place = place } in
        let behind = rest_listed (nested_in (tree_of at term)) (nested_all (row_trees rest)) h in
        let later : row_later style rest ≡ run_length style.width style.short (row_trees rest) = (rows_written style rest behind).1 ∙ else_length_is style.width style.short (nested_all (row_trees rest)) in
        let own : Fit lines (place ∷ inner_places term) (cut style.width style.short (run_length style.width style.short (row_trees rest)) (tree_of at term)) (term_pieces style lines (row_later style rest) place term) =
        subst (λ n. Fit lines (place ∷ inner_places term) (cut style.width style.short n (tree_of at term)) (term_pieces style lines (row_later style rest) place term)) later (term_fit (row_later style rest) place at term (nested_all (row_trees rest)) h) in
        fit-append lines (place ∷ inner_places term) (cut style.width style.short (run_length style.width style.short (row_trees rest)) (tree_of at term)) (term_pieces style lines (row_later style rest) place term) (row_places rest) (cut_all style.width style.short (row_trees rest)) (row_pieces style lines rest) own (row_fit rest behind)

  nodes_fit : (ns : List Node) → AreListed (nested_all (trees_of ns)) → Fit lines (places_of ns) (cut_all style.width style.short (trees_of ns)) (nodes_pieces style lines ns)
  unfolding trees_of nodes_pieces places_of
  nodes_fit [] h = (refl, λ ps bs. refl)
  nodes_fit (n ∷ ns) h =
      let at : At = record { id = n.id; place = n.place } in
      let behind = rest_listed (nested_in (tree_of at n.term)) (nested_all (trees_of ns)) h in
      let later : later_of style ns ≡ run_length style.width style.short (trees_of ns) = (nodes_written style ns behind).1 ∙ else_length_is style.width style.short (nested_all (trees_of ns)) in
      let own : Fit lines (term_places n) (cut style.width style.short (run_length style.width style.short (trees_of ns)) (tree_of at n.term)) (term_pieces style lines (later_of style ns) n.place n.term) =
      subst (λ k. Fit lines (term_places n) (cut style.width style.short k (tree_of at n.term)) (term_pieces style lines (later_of style ns) n.place n.term)) later (term_fit (later_of style ns) n.place at n.term (nested_all (trees_of ns)) h) in
      fit-append lines (term_places n) (cut style.width style.short (run_length style.width style.short (trees_of ns)) (tree_of at n.term)) (term_pieces style lines (later_of style ns) n.place n.term) (places_of ns) (cut_all style.width style.short (trees_of ns)) (nodes_pieces style lines ns) own (nodes_fit ns behind)

-- the pieces of ready terms
pub pieces_are_cut : (known : Known) (style : IntegerStyle) (lines : List Line) (ns : List Node) → AreReady ⊥ known (nested_all (trees_of ns)) [] → ArePieces lines (places_of ns) (cut_all style.width style.short (trees_of ns)) (nodes_pieces style lines ns)
pieces_are_cut known style lines ns ready =
    let places = places_of ns in
    let parts = cut_all style.width style.short (trees_of ns) in
    let pieces = nodes_pieces style lines ns in
    let fit = nodes_fit style lines ns (all_listed known (nested_all (trees_of ns)) [] ready) in record { as_many = fit.0; are = fit_is lines places parts pieces fit }

-- the pieces of a ready block's table
pub table_is_cut : (known : Known) (short : Bool) (lines : List Line) (block : Block) (pieces : List Piece) → pieces ≡ table_pieces (style_of block short) lines block → AreReady ⊥ known (nested_all (trees_of block.terms.items)) [] → ArePieces lines (block.place ∷ places_of block.terms.items) (table_parts (fields_of block) short (trees_of block.terms.items)) pieces
table_is_cut known short lines block pieces is ready =
    let style = style_of block short in
    let ns = block.terms.items in
    let terms = pieces_are_cut known style lines ns ready in record {
      as_many = ap suc terms.as_many;
      are = is
          ∙ ap (λ content. piece_at lines block.place (header_of (fields_of block) content) ∷ nodes_pieces style lines ns) (ready_bytes known style ns ready)
          ∙ ap (λ ps. piece_at lines block.place (header_of (fields_of block) (encoded_terms style.width style.short (trees_of ns))) ∷ ps) terms.are;
    }
