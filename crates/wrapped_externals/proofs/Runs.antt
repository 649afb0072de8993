-- A run of Externals behind other nodes.
use Rattle.std.proofs.Common.{◌≡◌, Bool, true, false, List, [], ◌∷◌, ◌++◌, Vec, Global, Option, Some, None, refl, sym, ap, ◌∙◌, arith}
use Rattle.std.specs.Prelude.{not, slice_get}
use Rattle.std.proofs.lemmas.List.{append-nil}
use Rattle.iasl_messages.specs.declared.place.Place.{Place}
use Rattle.asl_tree.specs.declared.term.Op.{Op}
use Rattle.asl_tree.specs.declared.term.Control.TheVariants as Control
use Rattle.asl_tree.specs.declared.term.Literal.TheVariants as Literal
use Rattle.asl_tree.specs.declared.term.Node.{Node}
use Rattle.asl_tree.specs.declared.term.Term.{Term}
use Rattle.asl_tree.specs.declared.term.Term as D
use Rattle.asl_tree.specs.Tree.{At, Constant, If, Trees, no_trees, tree}
use Rattle.asl_tree.specs.View.{form, tree_of, trees_of}
use Rattle.acpi_names.specs.Walked.{node_tree}
use Rattle.acpi_names.proofs.Trees.{form_tree}
use Rattle.asl_lower.specs.Nests.{joined}
use Rattle.asl_lower.proofs.Backwards.{behind_all, joined_none}
use Rattle.term_places.specs.Places.{inner_places, places_of}
use Rattle.term_places.proofs.Places.{no_places, one_place, places_cons, places-append}
use Rattle.wrapped_externals.specs.Wraps.{in_if}
use Rattle.wrapped_externals.specs.Starts.{with_ifs}
use Rattle.wrapped_externals.proofs.Nodes.{none}
use Rattle.wrapped_externals.proofs.Places.{no_place}

one_tree : (node : Node) (nodes : List Node) → trees_of (node ∷ nodes) ≡ tree (node_tree node) (trees_of nodes)
unfolding trees_of
one_tree node nodes = refl

-- the If, with its test
pub guard_tree : (at : At) (zero : Node) (empty void args body : Vec Node Global) → empty.items ≡ [] → void.items ≡ [] → zero.term ≡ D.Form (Op.Literal Literal.Zero) empty void → args.items ≡ zero ∷ []
    → tree_of at (D.Form (Op.Control Control.If) args body) ≡ If (Constant Literal.Zero) (trees_of body.items)
guard_tree at zero empty void args body e f is ea =
    let here : At = record { id = zero.id; place = zero.place } in
    form_tree at (Op.Control Control.If) args body
    ∙ ap (λ ts. form at (Op.Control Control.If) ts (trees_of body.items)) (ap trees_of ea ∙ one_tree zero [] ∙ ap (tree (node_tree zero)) none)
    ∙ ap (λ t. form at (Op.Control Control.If) (tree t no_trees) (trees_of body.items))
    (ap (tree_of here) is ∙ form_tree here (Op.Literal Literal.Zero) empty void
    ∙ ap (λ ts. form here (Op.Literal Literal.Zero) ts (trees_of void.items)) (ap trees_of e ∙ none) ∙ ap (form here (Op.Literal Literal.Zero) no_trees) (ap trees_of f ∙ none))

trees_append : (xs ys : List Node) → trees_of (xs ++ ys) ≡ joined (trees_of xs) (trees_of ys)
unfolding trees_of
trees_append [] ys = refl
trees_append (x ∷ xs) ys = ap (tree (node_tree x)) (trees_append xs ys)

kept_run : (ts : Trees) → in_if ts true ≡ ts
kept_run no_trees = refl
kept_run (tree t ts) = refl

kept_places : (ps : List Place) → with_ifs (false ∷ []) ps ≡ ps
kept_places [] = refl
kept_places (p ∷ ps) = refl

-- the first of a run
abbrev or_node : Node → Option Node → Node
or_node node None = node
or_node node (Some other) = other

abbrev pub later : List Node → List Node
later [] = []
later (node ∷ nodes) = nodes

pub first_none : (run : List Node) → slice_get run 0 ≡ None → run ≡ []
first_none [] e = refl
first_none (node ∷ nodes) e = absurd (grind arith)

pub first_some : (run : List Node) (node : Node) → slice_get run 0 ≡ Some node → run ≡ node ∷ later run
first_some [] node e = absurd (grind arith)
first_some (n ∷ nodes) node e = ap (λ o. or_node n o ∷ nodes) e

-- a run that is kept
pub kept_trees : (old new run : List Node) (kept : Bool) → kept ≡ true → new ≡ old ++ run → trees_of new ≡ joined (trees_of old) (in_if (trees_of run) kept)
kept_trees old new run kept is e = ap trees_of e ∙ trees_append old run ∙ ap (joined (trees_of old)) (sym (ap (in_if (trees_of run)) is ∙ kept_run (trees_of run)))

pub kept_placed : (old new run : List Node) (kept : Bool) → kept ≡ true → new ≡ old ++ run → places_of new ≡ places_of old ++ with_ifs (not kept ∷ []) (places_of run)
kept_placed old new run kept is e =
    ap places_of e ∙ places-append old run ∙ ap (λ ps. places_of old ++ ps) (sym (ap (λ c. with_ifs (not c ∷ []) (places_of run)) is ∙ kept_places (places_of run)))

-- no run
pub no_trees_put : (old run : List Node) (kept : Bool) → run ≡ [] → trees_of old ≡ joined (trees_of old) (in_if (trees_of run) kept)
no_trees_put old run kept e = sym (ap (λ ts. joined (trees_of old) (in_if ts kept)) (ap trees_of e ∙ none) ∙ joined_none (trees_of old))

pub no_places_put : (old run : List Node) (kept : Bool) → run ≡ [] → places_of old ≡ places_of old ++ with_ifs (not kept ∷ []) (places_of run)
no_places_put old run kept e =
    sym (ap (λ ps. places_of old ++ with_ifs (not kept ∷ []) ps) (ap places_of e ∙ no_places) ∙ ap (λ ps. places_of old ++ ps) (no_place (not kept)) ∙ append-nil (places_of old))

-- a run that an If takes
pub if_trees : (old new run rest : List Node) (first made : Node) (kept : Bool) → kept ≡ false → run ≡ first ∷ rest → ((at : At) → tree_of at made.term ≡ If (Constant Literal.Zero) (trees_of run)) → new ≡ old ++ made ∷ []
    → trees_of new ≡ joined (trees_of old) (in_if (trees_of run) kept)
if_trees old new run rest first made kept is er em e =
    let made_of : trees_of run ≡ tree (node_tree first) (trees_of rest) = ap trees_of er ∙ one_tree first rest in
    ap trees_of e ∙ behind_all old made ∙ ap (λ t. joined (trees_of old) (tree t no_trees)) (em (record { id = made.id; place = made.place }) ∙ ap (If (Constant Literal.Zero)) made_of)
    ∙ ap (joined (trees_of old)) (sym (ap (in_if (trees_of run)) is ∙ ap (λ ts. in_if ts false) made_of))

pub if_placed : (old new run rest : List Node) (first made : Node) (kept : Bool) → kept ≡ false → run ≡ first ∷ rest → made.place ≡ first.place → inner_places made.term ≡ places_of run → new ≡ old ++ made ∷ []
    → places_of new ≡ places_of old ++ with_ifs (not kept ∷ []) (places_of run)
if_placed old new run rest first made kept is er ep em e =
    let behind = inner_places first.term ++ places_of rest in
    let inside : places_of run ≡ first.place ∷ behind = ap places_of er ∙ places_cons first rest in
    ap places_of e ∙ places-append old (made ∷ []) ∙ ap (λ ps. places_of old ++ ps) (one_place made)
    ∙ ap (λ p. places_of old ++ (p ∷ inner_places made.term)) ep ∙ ap (λ ps. places_of old ++ (first.place ∷ ps)) (em ∙ inside)
    ∙ ap (λ ps. places_of old ++ ps) (sym (ap (λ c. with_ifs (not c ∷ []) (places_of run)) is ∙ ap (with_ifs (true ∷ [])) inside))
