-- The places of lists that are put together or changed at a node.
use Rattle.std.proofs.Common.{◌≡◌, ℕ, zero, suc, ◌<◌, List, [], ◌∷◌, ◌++◌, length, get_or, set, Vec, Global, refl, sym, ap, ◌∙◌, arith, append_assoc}
use Rattle.std.specs.Prelude.{if◌then◌else◌}
use Rattle.std.proofs.lemmas.List.{append-nil}
use Rattle.asl_tree.specs.declared.term.Op.{Op}
use Rattle.asl_tree.specs.declared.term.Node.{Node}
use Rattle.asl_tree.specs.declared.term.Term.{Term}
use Rattle.asl_tree.specs.declared.term.Term as D
use Rattle.term_places.specs.Places.{holds_terms, inner_places, row_places, term_places, places_of}
use mathlib.Core.Former.{Count}

pub rows : (m : _) (row : D.Row_of-Node m) → row_places row ≡ places_of (D.items-the_row-Node m row)
unfolding inner_places places_of
rows m D.end_of-Node = refl
rows m (D.more_of-Node id place term rest) = ap (λ ps. (place ∷ inner_places term) ++ ps) (rows _ rest)

-- what stands in the braces of a form
abbrev pub body_row : Term → (n : Count) × D.Row_of-Node n
body_row (D.Form' op shape args shape' body) = (_, body)
body_row _ = (_, D.end_of-Node)

-- the terms in the braces of a form
pub form_places : (op : Op) (args body : Vec Node Global) → inner_places (D.Form op args body) ≡ (if holds_terms op then places_of body.items else [])
unfolding inner_places
form_places op args body =
    let b = body_row (D.Form op args body) in
    ap (λ ps. if holds_terms op then ps else []) (rows b.0 b.1 ∙ ap places_of (D.items_hidden-the_row-Node-0 body))

pub no_places : places_of [] ≡ []
unfolding places_of
no_places = refl

pub places_cons : (node : Node) (nodes : List Node) → places_of (node ∷ nodes) ≡ term_places node ++ places_of nodes
unfolding places_of
places_cons node nodes = refl

pub places-append : (xs ys : List Node) → places_of (xs ++ ys) ≡ places_of xs ++ places_of ys
unfolding places_of
places-append [] ys = refl
places-append (x ∷ xs) ys = ap (λ ps. term_places x ++ ps) (places-append xs ys) ∙ sym (append_assoc (term_places x) (places_of xs) (places_of ys))

pub one_place : (node : Node) → places_of (node ∷ []) ≡ term_places node
unfolding places_of
one_place node = append-nil (term_places node)

-- another node with the same places in the place of one
pub places_set : (nodes : List Node) (i : ℕ) (node new : Node) → i < length nodes → term_places new ≡ term_places (get_or nodes i node) → places_of (set nodes i new) ≡ places_of nodes
unfolding places_of
places_set [] i node new lt e = absurd (omega (arith, lt))
places_set (n ∷ nodes) zero node new lt e = ap (λ ps. ps ++ places_of nodes) e
places_set (n ∷ nodes) (suc i) node new lt e = ap (λ ps. term_places n ++ ps) (places_set nodes i node new (omega (arith, lt)) e)
