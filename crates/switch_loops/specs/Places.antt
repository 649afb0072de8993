-- The places of the terms of a program whose Switches are loops, in preorder: a term that stays has its own place, and what
-- is made for a Switch has the Switch's; but the test of a Case has the Case's place, and the Else of a Default the Default's.
use Rattle.std.specs.Prelude.{Bool, true, false, if◌then◌else◌, List, [], ◌∷◌, ◌++◌, Option, Some, None}
use Rattle.iasl_messages.specs.declared.place.Place.{Place}
use Rattle.asl_tree.specs.declared.term.Control.TheVariants as Control
use Rattle.asl_tree.specs.declared.term.Declaration.TheVariants as Declaration
use Rattle.asl_tree.specs.declared.term.Op.{Op}
use Rattle.asl_tree.specs.declared.term.Node.{Node}
use Rattle.asl_tree.specs.declared.term.Term.{Term}
use Rattle.asl_tree.specs.declared.term.Term as D
use Rattle.asl_tree.specs.View.{row_trees, trees_of}
use Rattle.acpi_names.specs.Walked.{term_shape}
use Rattle.hidden_locals.specs.Crossing.{have_continue}
use Rattle.term_places.specs.Places.{holds_terms}
use Rattle.switch_loops.specs.Kinds.{form_kind, shape_kind}
use Rattle.switch_loops.specs.declared.kind.TermRole.{TermRole}

-- a Default, where there is one: its place, and the places of the terms for it
abbrev pub DefaultPlaces : Type 0
DefaultPlaces = Option (Place × List Place)

-- behind Cases it is an Else; with no Case before it only its terms are left
abbrev pub else_places : DefaultPlaces → List Place
else_places None = []
else_places (Some default) = default.0 ∷ default.1

abbrev pub alone_places : DefaultPlaces → List Place
alone_places None = []
alone_places (Some default) = default.1

-- the tests of the Cases, and the Default
abbrev pub chain_places : List Place → DefaultPlaces → List Place
chain_places [] default = alone_places default
chain_places (place ∷ places) default = (place ∷ places) ++ else_places default

-- a loop of one turn: a Store begins it, and Break ends it
abbrev pub turn_places : Place → List Place → List Place
turn_places place chain = place ∷ place ∷ (chain ++ place ∷ [])

-- the loop, and where a Continue crosses it the Stores and the test of the flag
abbrev pub loop_places : (crossed inside : Bool) → Place → List Place → List Place
loop_places false inside place turn = turn
loop_places true false place turn = place ∷ (turn ++ place ∷ place ∷ place ∷ [])
loop_places true true place turn = turn ++ place ∷ place ∷ []

-- a Continue that crosses a loop is a Store and a Break
abbrev pub continue_places : Bool → Place → List Place
continue_places inside place = if inside then place ∷ place ∷ [] else place ∷ []

-- whether a Switch is around what stands in the braces of a form, in the same loop
abbrev pub body_inside : Op → Bool → Bool
body_inside (Op.Control Control.While) inside = false
body_inside (Op.Declaration Declaration.Method) inside = false
body_inside op inside = inside

-- a form that stays: its place, and those of the terms in its braces
abbrev pub own_places : Op → Place → List Place → List Place
own_places op place inner = place ∷ (if holds_terms op then inner else [])

-- a form: `inner` are the places of the terms in its braces, and `chain` those of the tests of its Cases
abbrev pub form_places : TermRole → Op → (inside crossed : Bool) → Place → List Place → List Place → List Place
form_places TermRole.Switch op inside crossed place inner chain = loop_places crossed inside place (turn_places place chain)
form_places TermRole.Continue op inside crossed place inner chain = continue_places inside place
form_places kind op inside crossed place inner chain = own_places op place inner

abbrev pub case_places : TermRole → Place → List Place → List Place
case_places TermRole.Case place inner = place ∷ inner
case_places kind place inner = []

abbrev pub default_places : TermRole → Place → List Place → DefaultPlaces → DefaultPlaces
default_places TermRole.Default place inner later = Some (place, inner)
default_places kind place inner later = later

unfoldable mutual
  -- what stands for a term at a place
  pub looped_at : Bool → Place → Term → List Place
  looped_at inside place (D.Form' op shape args shape' body) =
      form_places (form_kind op (row_trees args) (row_trees body)) op inside (have_continue (row_trees body)) place
      (looped_row (body_inside op inside) body) (chain_places (cases_row body) (default_row body))
  looped_at inside place _ = place ∷ []

  pub looped_row : {m : _} → Bool → D.Row_of-Node m → List Place
  looped_row inside D.end_of-Node = []
  looped_row inside (D.more_of-Node id place term rest) = looped_at inside place term ++ looped_row inside rest

  -- the terms of a Case or of a Default
  pub braces : Term → List Place
  braces (D.Form' op shape args shape' body) = looped_row true body
  braces _ = []

  -- the Cases of a Switch, and its Default
  pub cases_row : {m : _} → D.Row_of-Node m → List Place
  cases_row D.end_of-Node = []
  cases_row (D.more_of-Node id place term rest) = case_places (shape_kind (term_shape term)) place (braces term) ++ cases_row rest

  pub default_row : {m : _} → D.Row_of-Node m → DefaultPlaces
  default_row D.end_of-Node = None
  default_row (D.more_of-Node id place term rest) = default_places (shape_kind (term_shape term)) place (braces term) (default_row rest)

-- the terms of a list
unfoldable pub looped_places : Bool → List Node → List Place
looped_places inside [] = []
looped_places inside (node ∷ nodes) = looped_at inside node.place node.term ++ looped_places inside nodes

-- the Cases among some nodes, and their Default
unfoldable pub cases_places : List Node → List Place
cases_places [] = []
cases_places (node ∷ nodes) = case_places (shape_kind (term_shape node.term)) node.place (braces node.term) ++ cases_places nodes

unfoldable pub first_default_places : List Node → DefaultPlaces
first_default_places [] = None
first_default_places (node ∷ nodes) = default_places (shape_kind (term_shape node.term)) node.place (braces node.term)
    (first_default_places nodes)

-- a Switch, and a form, by their nodes
abbrev pub switch_looped : Bool → Place → List Node → List Place
switch_looped inside place cases = loop_places (have_continue (trees_of cases)) inside place
    (turn_places place (chain_places (cases_places cases) (first_default_places cases)))

abbrev pub form_looped : Bool → Place → Op → List Node → List Node → List Place
form_looped inside place op args body =
    form_places (form_kind op (trees_of args) (trees_of body)) op inside (have_continue (trees_of body)) place
    (looped_places (body_inside op inside) body) (chain_places (cases_places body) (first_default_places body))

abbrev pub default_node_places : Option Node → DefaultPlaces
default_node_places None = None
default_node_places (Some node) = Some (node.place, braces node.term)
