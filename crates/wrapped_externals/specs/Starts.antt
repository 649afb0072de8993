-- Where the terms of a program stand whose Externals stand in Ifs: each of these Ifs stands at the place of the first External in it.
use Rattle.std.specs.Prelude.{Bool, true, false, not, ◌&&◌, List, [], ◌∷◌, ◌++◌}
use Rattle.iasl_messages.specs.declared.place.Place.{Place}
use Rattle.asl_tree.specs.Tree.{Tree, External, Method, Container', Scope, If, ElseIf, Else, While, Trees, no_trees, tree}
use Rattle.wrapped_externals.specs.Wraps.{starts_branch}

-- whether no Else stands behind the Externals that stand first
abbrev pub is_free : Trees → Bool
is_free (tree (External here at name type parameters) terms) = is_free terms
is_free terms = not (starts_branch terms)

-- For each term of the term lists in a term, in preorder, whether a run of Externals that is put into an If starts with it
abbrev mutual
  pub inner_starts : Tree → List Bool
  inner_starts (Method at name flags body) = starts false body
  inner_starts (Container' kind at name body) = starts false body
  inner_starts (Scope here at name body) = starts false body
  inner_starts (If test body) = starts false body
  inner_starts (ElseIf test body) = starts false body
  inner_starts (Else body) = starts false body
  inner_starts (While test body) = starts false body
  inner_starts term = []

  -- the same of a list of terms; `inside` says whether an External stands directly before them
  pub starts : (inside : Bool) → Trees → List Bool
  starts inside no_trees = []
  starts inside (tree (External here at name type parameters) terms) = (not inside && is_free terms) ∷ starts true terms
  starts inside (tree term terms) = (false ∷ inner_starts term) ++ starts false terms

-- places with one more before each that has a flag
abbrev pub with_ifs : List Bool → List Place → List Place
with_ifs (true ∷ flags) (place ∷ places) = place ∷ place ∷ with_ifs flags places
with_ifs (false ∷ flags) (place ∷ places) = place ∷ with_ifs flags places
with_ifs flags places = places

-- the places of the terms of a program with its Externals in Ifs, where that is asked for, by those of its terms
abbrev pub placed_where : Bool → Trees → List Place → List Place
placed_where true terms places = with_ifs (starts false terms) places
placed_where false terms places = places
