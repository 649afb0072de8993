-- The bytes of lists of terms. A run, which is an If or nothing and then ElseIfs and an Else, stands in its list as
-- siblings, while in the bytes an ElseIf is an Else that begins with an If and has the run behind it inside.
use Rattle.std.specs.Prelude.{ℕ, ◌+◌, Bool, true, false, if◌then◌else◌, List, [], ◌∷◌, ◌++◌, length}
use Rattle.asl_tree.specs.declared.term.Control.TheVariants as Control
use Rattle.asl_tree.specs.declared.term.Op.{Op}
use Rattle.asl_tree.specs.declared.term.Node.{Node}
use Rattle.asl_tree.specs.declared.term.Term.{Term}
use Rattle.asl_tree.specs.declared.term.Term as D
use Rattle.term_places.specs.Places.{holds_terms}
use Rattle.aml_sizes.specs.declared.style.IntegerStyle.{IntegerStyle}
use Rattle.aml_sizes.specs.Codes.{letters_of}
use Rattle.aml_sizes.specs.TermBytes.{head_bytes, term_bytes, row_bytes, nodes_bytes}

abbrev pub is_else_if : Op → Bool
is_else_if (Op.Control Control.ElseIf) = true
is_else_if op = false

-- an ElseIf up to its terms, which have so many bytes, before so many of its run: an Else, and the If that begins it
abbrev pub else_if_head : List ℕ → ℕ → ℕ → List ℕ
else_if_head front size later =
    let first = head_bytes (Op.Control Control.If) front size in
    head_bytes (Op.Control Control.Else) [] (length first + size + later) ++ first

-- a form that holds terms up to these, which have so many bytes, before so many of its run
abbrev pub own_head : Op → List ℕ → ℕ → ℕ → List ℕ
own_head (Op.Control Control.ElseIf) front size later = else_if_head front size later
own_head op front size later = head_bytes op front size

-- how many bytes the ElseIfs and the Else that stand first have, where a form of so many stands before so many of them
abbrev pub run_of : Op → ℕ → ℕ → ℕ
run_of (Op.Control Control.ElseIf) own later = own + later
run_of (Op.Control Control.Else) own later = own
run_of op own later = 0

abbrev pub run_from : Term → ℕ → ℕ → ℕ
run_from (D.Form' op shape args shape' body) own later = run_of op own later
run_from _ own later = 0

module _ (style : IntegerStyle) where
  unfoldable mutual
    -- a term before so many bytes of its run
    pub own_bytes : ℕ → Term → List ℕ
    own_bytes later (D.Form' op shape args shape' body) =
        if holds_terms op then own_head op (row_bytes style (letters_of op) args) (length (row_terms body)) later ++ row_terms body
        else term_bytes style (D.Form' op shape args shape' body)
    own_bytes later term = term_bytes style term

    pub row_terms : {m : _} → D.Row_of-Node m → List ℕ
    row_terms D.end_of-Node = []
    row_terms (D.more_of-Node id place term rest) = own_bytes (row_later rest) term ++ row_terms rest

    pub row_later : {m : _} → D.Row_of-Node m → ℕ
    row_later D.end_of-Node = 0
    row_later (D.more_of-Node id place term rest) = run_from term (length (own_bytes (row_later rest) term)) (row_later rest)

  -- the bytes of a list of terms, and those of the ElseIfs and the Else that stand first in it
  unfoldable mutual
    pub terms_bytes : List Node → List ℕ
    terms_bytes [] = []
    terms_bytes (node ∷ nodes) = own_bytes (later_of nodes) node.term ++ terms_bytes nodes

    pub later_of : List Node → ℕ
    later_of [] = 0
    later_of (node ∷ nodes) = run_from node.term (length (own_bytes (later_of nodes) node.term)) (later_of nodes)

  -- a form whose body is a list of terms
  abbrev pub container_bytes : Op → List Node → List Node → ℕ → List ℕ
  container_bytes op args body later =
      own_head op (nodes_bytes style (letters_of op) args) (length (terms_bytes body)) later ++ terms_bytes body
