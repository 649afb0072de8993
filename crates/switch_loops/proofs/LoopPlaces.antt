-- The places of loops, by the nodes for which they are made.
use Rattle.std.proofs.Common.{◌≡◌, Bool, true, false, List, [], ◌∷◌, ◌++◌, length, reverse, Vec, Global, Option, Some, refl, sym, ap, ◌∙◌, arith, append_assoc}
use Rattle.std.specs.Prelude.{not, if◌then◌else◌, filter}
use Rattle.std.proofs.lemmas.List.{append-nil}
use Rattle.iasl_messages.specs.declared.place.Place.{Place}
use Rattle.asl_tree.specs.declared.term.Op.{Op}
use Rattle.asl_tree.specs.declared.term.Node.{Node}
use Rattle.asl_tree.specs.declared.term.Term.{Term}
use Rattle.asl_tree.specs.declared.term.Term as D
use Rattle.asl_tree.specs.declared.term.Term.TheVariants as V
use Rattle.asl_tree.specs.View.{trees_of}
use Rattle.acpi_names.specs.Parts.{is_form}
use Rattle.acpi_names.specs.Walked.{TermShape, OfForm, term_shape}
use Rattle.acpi_names.proofs.Trees.{form_rows}
use Rattle.hidden_locals.specs.Crossing.{have_continue}
use Rattle.term_places.specs.Places.{holds_terms, inner_places, places_of}
use Rattle.term_places.proofs.Places.{body_row, no_places}
use Rattle.switch_loops.specs.Kinds.{form_kind, shape_kind, is_default, default_node}
use Rattle.switch_loops.specs.Links.{first_default}
use Rattle.switch_loops.specs.Places.{DefaultPlaces, body_inside, braces, case_places, cases_places, cases_row, chain_places, default_node_places, default_places, default_row, first_default_places, form_looped, form_places, own_places, looped_at, looped_places, looped_row}
use Rattle.switch_loops.specs.declared.kind.TermRole.{TermRole}

-- ---- rows as their nodes

looped_rows : (m : _) (inside : Bool) (row : D.Row_of-Node m) → looped_row inside row ≡ looped_places inside (D.items-the_row-Node m row)
unfolding looped_row looped_places
looped_rows m inside D.end_of-Node = refl
looped_rows m inside (D.more_of-Node id place term rest) = ap (λ ps. looped_at inside place term ++ ps) (looped_rows _ inside rest)

cases_rows : (m : _) (row : D.Row_of-Node m) → cases_row row ≡ cases_places (D.items-the_row-Node m row)
unfolding cases_row cases_places
cases_rows m D.end_of-Node = refl
cases_rows m (D.more_of-Node id place term rest) = ap (λ ps. case_places (shape_kind (term_shape term)) place (braces term) ++ ps) (cases_rows _ rest)

default_rows : (m : _) (row : D.Row_of-Node m) → default_row row ≡ first_default_places (D.items-the_row-Node m row)
unfolding default_row first_default_places
default_rows m D.end_of-Node = refl
default_rows m (D.more_of-Node id place term rest) = ap (default_places (shape_kind (term_shape term)) place (braces term)) (default_rows _ rest)

abbrev kind_in : TermShape → TermRole
kind_in shape = shape_kind shape

abbrev continue_in : TermShape → Bool
continue_in (OfForm op args body) = have_continue body
continue_in shape = false

pub form_at : (inside : Bool) (place : Place) (op : Op) (args body : Vec Node Global) → looped_at inside place (D.Form op args body) ≡ form_looped inside place op args.items body.items
unfolding looped_at
form_at inside place op args body =
    let b = body_row (D.Form op args body) in
    ap (λ s. form_places (shape_kind s) op inside (continue_in s) place (looped_row (body_inside op inside) b.1) (chain_places (cases_row b.1) (default_row b.1))) (form_rows op args body)
    ∙ ap (λ ps. form_places (form_kind op (trees_of args.items) (trees_of body.items)) op inside (have_continue (trees_of body.items)) place ps (chain_places (cases_row b.1) (default_row b.1)))
    (looped_rows b.0 (body_inside op inside) b.1 ∙ ap (looped_places (body_inside op inside)) (D.items_hidden-the_row-Node-0 body))
    ∙ ap (λ cs. form_places (form_kind op (trees_of args.items) (trees_of body.items)) op inside (have_continue (trees_of body.items)) place (looped_places (body_inside op inside) body.items) (chain_places cs (default_row b.1)))
    (cases_rows b.0 b.1 ∙ ap cases_places (D.items_hidden-the_row-Node-0 body))
    ∙ ap (λ d. form_places (form_kind op (trees_of args.items) (trees_of body.items)) op inside (have_continue (trees_of body.items)) place (looped_places (body_inside op inside) body.items) (chain_places (cases_places body.items) d))
    (default_rows b.0 b.1 ∙ ap first_default_places (D.items_hidden-the_row-Node-0 body))

pub form_braces : (op : Op) (args body : Vec Node Global) → braces (D.Form op args body) ≡ looped_places true body.items
unfolding braces
form_braces op args body =
    let b = body_row (D.Form op args body) in looped_rows b.0 true b.1 ∙ ap (looped_places true) (D.items_hidden-the_row-Node-0 body)

pub not_formed : (t : Term) → ((o : Op) (v w : Vec Node Global) → t ≡ D.Form o v w → ⊥) → is_form t ≡ false
not_formed t never = by_layer (D.out-Term t) (sym (D.roll-out-Term t))
  where
    by_layer : (f : D.Term-F Term Node) → t ≡ D.roll-Term f → is_form t ≡ false
    by_layer (D.Term-F.Form o v w) e = absurd (never o v w (e ∙ V.rolls-Form o v w))
    by_layer (D.Term-F.Call p v) e = ap is_form (e ∙ V.rolls-Call p v)
    by_layer (D.Term-F.Name p) e = ap is_form (e ∙ V.rolls-Name p)
    by_layer (D.Term-F.Integer n) e = ap is_form (e ∙ V.rolls-Integer n)
    by_layer (D.Term-F.Text text) e = ap is_form (e ∙ V.rolls-Text text)
    by_layer (D.Term-F.Fill bytes named) e = ap is_form (e ∙ V.rolls-Fill bytes named)
    by_layer (D.Term-F.Word word) e = ap is_form (e ∙ V.rolls-Word word)
    by_layer (D.Term-F.Local n) e = ap is_form (e ∙ V.rolls-Local n)
    by_layer (D.Term-F.Arg n) e = ap is_form (e ∙ V.rolls-Arg n)
    by_layer (D.Term-F.Debug) e = ap is_form (e ∙ V.rolls-Debug)
    by_layer (D.Term-F.Omitted) e = ap is_form (e ∙ V.rolls-Omitted)
    by_layer (D.Term-F.Unit segment bits) e = ap is_form (e ∙ V.rolls-Unit segment bits)
    by_layer (D.Term-F.Skip n) e = ap is_form (e ∙ V.rolls-Skip n)
    by_layer (D.Term-F.Offset n) e = ap is_form (e ∙ V.rolls-Offset n)
    by_layer (D.Term-F.Access access attribute count) e = ap is_form (e ∙ V.rolls-Access access attribute count)

flat_at : (inside : Bool) (place : Place) (t : Term) → is_form t ≡ false → looped_at inside place t ≡ place ∷ []
unfolding looped_at
flat_at inside place (D.Form' op shape args shape' body) e = absurd (grind arith)
flat_at inside place t e = refl

flat_lowered : (place : Place) (t : Term) → is_form t ≡ false → (place ∷ inner_places t) ≡ place ∷ []
unfolding inner_places
flat_lowered place (D.Form' op shape args shape' body) e = absurd (grind arith)
flat_lowered place t e = refl

pub flat_place : (inside : Bool) (place : Place) (t : Term) → is_form t ≡ false → (place ∷ inner_places t) ≡ looped_at inside place t
flat_place inside place t e = flat_lowered place t e ∙ sym (flat_at inside place t e)

flat_braces : (t : Term) → is_form t ≡ false → braces t ≡ []
unfolding braces
flat_braces (D.Form' op shape args shape' body) e = absurd (grind arith)
flat_braces t e = refl

pub other_braces : (t : Term) → ((o : Op) (v w : Vec Node Global) → t ≡ D.Form o v w → ⊥) → braces t ≡ []
other_braces t never = flat_braces t (not_formed t never)

-- ---- the terms of a list, from the last on

looped-append : (inside : Bool) (xs ys : List Node) → looped_places inside (xs ++ ys) ≡ looped_places inside xs ++ looped_places inside ys
unfolding looped_places
looped-append inside [] ys = refl
looped-append inside (x ∷ xs) ys = ap (λ ps. looped_at inside x.place x.term ++ ps) (looped-append inside xs ys) ∙ sym (append_assoc (looped_at inside x.place x.term) (looped_places inside xs) (looped_places inside ys))

looped_single : (inside : Bool) (node : Node) → looped_places inside (node ∷ []) ≡ looped_at inside node.place node.term
unfolding looped_places
looped_single inside node = append-nil (looped_at inside node.place node.term)

pub places_none : (inside : Bool) (nodes made : List Node) → made ≡ [] → looped_places inside nodes ++ places_of (reverse made) ≡ looped_places inside nodes
places_none inside nodes made e = ap (λ ns. looped_places inside nodes ++ places_of (reverse ns)) e ∙ ap (λ ps. looped_places inside nodes ++ ps) no_places ∙ append-nil (looped_places inside nodes)

pub places_next : (inside : Bool) (left more made new : List Node) (node : Node) (whole : List Place) → left ≡ more ++ node ∷ [] → places_of (reverse new) ≡ looped_at inside node.place node.term ++ places_of (reverse made)
    → looped_places inside left ++ places_of (reverse made) ≡ whole → looped_places inside more ++ places_of (reverse new) ≡ whole
places_next inside left more made new node whole e f h =
    ap (λ ps. looped_places inside more ++ ps) f ∙ sym (append_assoc (looped_places inside more) (looped_at inside node.place node.term) (places_of (reverse made)))
    ∙ ap (λ ps. ps ++ places_of (reverse made)) (ap (λ ps. looped_places inside more ++ ps) (sym (looped_single inside node)) ∙ sym (looped-append inside more (node ∷ [])) ∙ ap (looped_places inside) (sym e)) ∙ h

pub places_end : (inside : Bool) (left : List Node) (ps : List Place) → length left ≡ 0 → ps ≡ looped_places inside left ++ ps
unfolding looped_places
places_end inside [] ps e = refl
places_end inside (node ∷ left) ps e = absurd (omega (arith, e))

-- ---- the chain of a Switch

abbrev pub tested : Node → List Place
tested node = case_places (shape_kind (term_shape node.term)) node.place (braces node.term)

no_case : (k : TermRole) (place : Place) (ps : List Place) → is_default k ≡ true → case_places k place ps ≡ []
no_case TermRole.Case place ps e = absurd cc
no_case k place ps e = refl

cases_kept : (nodes : List Node) → cases_places (filter (λ node. not (default_node node)) nodes) ≡ cases_places nodes
unfolding cases_places
cases_kept [] = refl
cases_kept (node ∷ nodes) = by_default (default_node node) refl (cases_kept nodes)
  where
    by_default : (c : Bool) → default_node node ≡ c → cases_places (filter (λ node. not (default_node node)) nodes) ≡ cases_places nodes → cases_places (if not c then node ∷ filter (λ node. not (default_node node)) nodes else filter (λ node. not (default_node node)) nodes) ≡ tested node ++ cases_places nodes
    by_default true e h = h ∙ sym (ap (λ ps. ps ++ cases_places nodes) (no_case (shape_kind (term_shape node.term)) node.place (braces node.term) e))
    by_default false e h = ap (λ ps. tested node ++ ps) h

pub cases_next : (left more : List Node) (node : Node) (old new whole : List Place) → reverse left ≡ node ∷ reverse more → new ≡ old ++ tested node → old ++ cases_places (reverse left) ≡ whole → new ++ cases_places (reverse more) ≡ whole
unfolding cases_places
cases_next left more node old new whole e f h =
    ap (λ ps. ps ++ cases_places (reverse more)) f ∙ append_assoc old (tested node) (cases_places (reverse more)) ∙ ap (λ ns. old ++ cases_places ns) (sym e) ∙ h

pub cases_none : (nodes left : List Node) (old : List Place) → reverse left ≡ filter (λ node. not (default_node node)) nodes → old ≡ [] → old ++ cases_places (reverse left) ≡ cases_places nodes
cases_none nodes left old e f = ap (λ ps. ps ++ cases_places (reverse left)) f ∙ ap cases_places e ∙ cases_kept nodes

cases_end : (left : List Node) (ps whole : List Place) → length left ≡ 0 → ps ++ cases_places (reverse left) ≡ whole → ps ≡ whole
unfolding cases_places
cases_end [] ps whole n e = sym (append-nil ps) ∙ e
cases_end (node ∷ left) ps whole n e = absurd (omega (arith, n))

pub chain_end : (left nodes : List Node) (tests made : List Place) (d e : DefaultPlaces) → made ≡ chain_places tests d → length left ≡ 0 → tests ++ cases_places (reverse left) ≡ cases_places nodes → d ≡ e → made ≡ chain_places (cases_places nodes) e
chain_end left nodes tests made d e is n h same = is ∙ ap (λ ps. chain_places ps d) (cases_end left tests (cases_places nodes) n h) ∙ ap (chain_places (cases_places nodes)) same

one_default : (k : TermRole) (node : Node) (ps : List Place) (d : DefaultPlaces) (first : Option Node) → d ≡ default_node_places first → ps ≡ braces node.term → default_places k node.place ps d ≡ default_node_places (if is_default k then Some node else first)
one_default TermRole.Default node ps d first e f = ap (λ ps. Some (node.place, ps)) f
one_default k node ps d first e f = e

pub first_places : (nodes : List Node) → first_default_places nodes ≡ default_node_places (first_default nodes)
unfolding first_default_places
first_places [] = refl
first_places (node ∷ nodes) = one_default (shape_kind (term_shape node.term)) node (braces node.term) (first_default_places nodes) (first_default nodes) (first_places nodes) refl

-- ---- forms

pub flat_kind : (t : Term) → is_form t ≡ false → shape_kind (term_shape t) ≡ TermRole.Other
flat_kind (D.Form' op shape args shape' body) e = absurd (grind arith)
flat_kind t e = refl

pub not_case : (k : TermRole) (place : Place) (ps old : List Place) → (k ≡ TermRole.Case → ⊥) → old ≡ old ++ case_places k place ps
not_case TermRole.Case place ps old never = absurd (never refl)
not_case k place ps old never = sym (append-nil old)

pub flat_case : (t : Term) (place : Place) (old : List Place) → ((o : Op) (v w : Vec Node Global) → t ≡ D.Form o v w → ⊥) → old ≡ old ++ case_places (shape_kind (term_shape t)) place (braces t)
flat_case t place old never = not_case (shape_kind (term_shape t)) place (braces t) old (λ e. let k : TermRole.Other ≡ TermRole.Case = sym (flat_kind t (not_formed t never)) ∙ e in absurd cc)

pub case_placed : (t : Term) (op : Op) (args body : Vec Node Global) (place : Place) → t ≡ D.Form op args body
    → case_places (form_kind op (trees_of args.items) (trees_of body.items)) place (looped_places true body.items) ≡ case_places (shape_kind (term_shape t)) place (braces t)
case_placed t op args body place e =
    sym (ap (λ t. case_places (shape_kind (term_shape t)) place (braces t)) e ∙ ap (λ s. case_places (shape_kind s) place (braces (D.Form op args body))) (form_rows op args body)
    ∙ ap (case_places (form_kind op (trees_of args.items) (trees_of body.items)) place) (form_braces op args body))

pub case_tested : (k : TermRole) (place : Place) (ps : List Place) → k ≡ TermRole.Case → place ∷ ps ≡ case_places k place ps
case_tested k place ps e = sym (ap (λ k. case_places k place ps) e)

pub form_placed : (inside : Bool) (place : Place) (t : Term) (op : Op) (args body : Vec Node Global) → t ≡ D.Form op args body → form_looped inside place op args.items body.items ≡ looped_at inside place t
form_placed inside place t op args body e = sym (ap (looped_at inside place) e ∙ form_at inside place op args body)

pub term_braces : (t : Term) (op : Op) (args body : Vec Node Global) → t ≡ D.Form op args body → looped_places true body.items ≡ braces t
term_braces t op args body e = sym (ap braces e ∙ form_braces op args body)

-- a form that stays
pub kept_kind : (k : TermRole) (op : Op) (inside crossed : Bool) (place : Place) (inner chain : List Place) → (k ≡ TermRole.Switch → ⊥) → (k ≡ TermRole.Continue → ⊥) → form_places k op inside crossed place inner chain ≡ own_places op place inner
kept_kind TermRole.Switch op inside crossed place inner chain no_switch no_continue = absurd (no_switch refl)
kept_kind TermRole.Continue op inside crossed place inner chain no_switch no_continue = absurd (no_continue refl)
kept_kind k op inside crossed place inner chain no_switch no_continue = refl

inner_if : (c : Bool) (place : Place) (xs ys : List Place) → (c ≡ true → xs ≡ ys) → place ∷ (if c then xs else []) ≡ place ∷ (if c then ys else [])
inner_if true place xs ys h = ap (λ ps. place ∷ ps) (h refl)
inner_if false place xs ys h = refl

pub inner_same : (op : Op) (place : Place) (xs ys : List Place) → (holds_terms op ≡ true → xs ≡ ys) → own_places op place xs ≡ own_places op place ys
inner_same op place xs ys h = inner_if (holds_terms op) place xs ys h
