-- What is found in terms, and what it says of them.
use Rattle.std.proofs.Common.{◌≡◌, ℕ, suc, ◌<◌, ◌≤◌, ◌+◌, Bool, true, false, List, [], ◌∷◌, ◌++◌, length, get_or, Vec, Global, refl, sym, ap, subst, ◌∙◌, arith, below_more}
use Rattle.iasl_messages.specs.declared.place.Place.{Place}
use Rattle.asl_tree.specs.declared.term.Op.{Op}
use Rattle.asl_tree.specs.declared.term.Control.TheVariants as Control
use Rattle.asl_tree.specs.declared.term.Declaration.TheVariants as Declaration
use Rattle.asl_tree.specs.declared.term.Node.{Node}
use Rattle.asl_tree.specs.declared.term.Term.{Term}
use Rattle.asl_tree.specs.declared.term.Term as D
use Rattle.asl_tree.specs.Tree.{At, Trees, tree}
use Rattle.asl_tree.specs.View.{form, tree_of, trees_of}
use Rattle.acpi_names.specs.Walked.{node_tree}
use Rattle.term_places.specs.Places.{holds_terms, inner_places, places_of, term_places}
use Rattle.asl_lower.proofs.Turns.{any_default}
use Rattle.hidden_locals.specs.Crossing.{have_continue}
use Rattle.hidden_locals.specs.Switches.{plan_of, without_switches}
use Rattle.hidden_locals.specs.Turns.{nth}
use Rattle.switch_loops.specs.Braces.{braces_of}
use Rattle.switch_loops.specs.Found.{joined, IsSoOf, IsSoIn}
use Rattle.switch_loops.specs.Kinds.{form_kind}
use Rattle.switch_loops.specs.Links.{in_braces, looped_all, plan_as, put}
use Rattle.switch_loops.specs.Places.{body_inside, cases_places, chain_places, first_default_places, form_places, own_places, looped_at, looped_places}
use Rattle.switch_loops.specs.Switched.{is_switch}
use Rattle.switch_loops.specs.declared.braces.Braces.{Braces}
use Rattle.switch_loops.specs.declared.found.Found.{Found}
use Rattle.switch_loops.specs.declared.kind.TermRole.{TermRole}
use Rattle.switch_loops.proofs.Alike.{same_terms, plan_whole}
use Rattle.switch_loops.proofs.InPlace.{other_holds, other_within, terms_within, method_within}
use Rattle.switch_loops.proofs.Keeping.{no_switch, continue_is}
use Rattle.switch_loops.proofs.LoopPlaces.{flat_place, form_placed, inner_same, kept_kind, not_formed}
use Rattle.switch_loops.proofs.MadeRows.{form_terms}
use Rattle.switch_loops.proofs.PutRows.{put_form}
use Rattle.switch_loops.proofs.Puts.{continue_form, flat_kept, form_is, put_step}

-- ---- a form in which no Switch is found

outside : (op : Op) → body_inside op false ≡ false
outside (Op.Control Control.While) = refl
outside (Op.Declaration Declaration.Method) = refl
outside op = refl

no_cases : (op : Op) → (braces_of op ≡ Braces.Cases → ⊥) → is_switch op ≡ false
no_cases (Op.Control Control.Switch) never = absurd (never refl)
no_cases op never = refl

form_stays : (flag : ℕ) (values : List ℕ) (at : At) (op : Op) (args body rest : Trees) → is_switch op ≡ false → in_braces flag values false op body ≡ body → put flag values false (form at op args body) rest ≡ tree (form at op args body) rest
form_stays flag values at op args body rest s inner = by_kind (form_kind op args body) refl
  where
    by_kind : (k : TermRole) → form_kind op args body ≡ k → put flag values false (form at op args body) rest ≡ tree (form at op args body) rest
    by_kind TermRole.Switch e = absurd (no_switch op args body s e)
    by_kind TermRole.Continue e = ap (λ t. put flag values false t rest) (continue_form at op args body e) ∙ ap (λ t. tree t rest) (sym (continue_form at op args body e))
    by_kind k e =
        put_form flag values false at op args body (no_switch op args body s) (λ x. let f : k ≡ TermRole.Continue = sym e ∙ x in absurd cc) rest
        ∙ ap (λ ts. tree (form at op args ts) rest) inner

form_alike : (flag other : ℕ) (values others : List ℕ) (at : At) (op : Op) (args body rest : Trees) → is_switch op ≡ false → in_braces flag values false op body ≡ in_braces other others false op body
    → put flag values false (form at op args body) rest ≡ put other others false (form at op args body) rest
form_alike flag other values others at op args body rest s inner = by_kind (form_kind op args body) refl
  where
    by_kind : (k : TermRole) → form_kind op args body ≡ k → put flag values false (form at op args body) rest ≡ put other others false (form at op args body) rest
    by_kind TermRole.Switch e = absurd (no_switch op args body s e)
    by_kind TermRole.Continue e = ap (λ t. put flag values false t rest) (continue_form at op args body e) ∙ ap (λ t. put other others false t rest) (sym (continue_form at op args body e))
    by_kind k e =
        let never = no_switch op args body s in
        let nor : form_kind op args body ≡ TermRole.Continue → ⊥ = λ x. let f : k ≡ TermRole.Continue = sym e ∙ x in absurd cc in
        put_form flag values false at op args body never nor rest ∙ ap (λ ts. tree (form at op args ts) rest) inner ∙ sym (put_form other others false at op args body never nor rest)

form_place_stays : (place : Place) (op : Op) (args body : Trees) (crossed : Bool) (inner places chain : List Place) → is_switch op ≡ false → (holds_terms op ≡ true → inner ≡ places)
    → form_places (form_kind op args body) op false crossed place inner chain ≡ own_places op place places
form_place_stays place op args body crossed inner places chain s h = by_kind (form_kind op args body) refl ∙ inner_same op place inner places h
  where
    by_kind : (k : TermRole) → form_kind op args body ≡ k → form_places k op false crossed place inner chain ≡ own_places op place inner
    by_kind TermRole.Switch e = absurd (no_switch op args body s e)
    by_kind TermRole.Continue e = ap (λ o. own_places o place inner) (sym (continue_is op args body e))
    by_kind k e = kept_kind k op false crossed place inner chain (λ x. absurd cc) (λ x. absurd cc)

-- the same of a node
node_stays : (flag : ℕ) (values : List ℕ) (at : At) (t : Term) (op : Op) (args body : Vec Node Global) (rest : Trees) → t ≡ D.Form op args body → is_switch op ≡ false → in_braces flag values false op (trees_of body.items) ≡ trees_of body.items
    → put flag values false (tree_of at t) rest ≡ tree (tree_of at t) rest
node_stays flag values at t op args body rest e s inner =
    let same = form_is at t op args body e in
    ap (λ t. put flag values false t rest) same ∙ form_stays flag values at op (trees_of args.items) (trees_of body.items) rest s inner ∙ ap (λ t. tree t rest) (sym same)

node_alike : (flag other : ℕ) (values others : List ℕ) (at : At) (t : Term) (op : Op) (args body : Vec Node Global) (rest : Trees) → t ≡ D.Form op args body → is_switch op ≡ false
    → in_braces flag values false op (trees_of body.items) ≡ in_braces other others false op (trees_of body.items) → put flag values false (tree_of at t) rest ≡ put other others false (tree_of at t) rest
node_alike flag other values others at t op args body rest e s inner =
    let same = form_is at t op args body e in
    ap (λ t. put flag values false t rest) same ∙ form_alike flag other values others at op (trees_of args.items) (trees_of body.items) rest s inner ∙ ap (λ t. put other others false t rest) (sym same)

place_stays : (place : Place) (t : Term) (op : Op) (args body : Vec Node Global) → t ≡ D.Form op args body → is_switch op ≡ false → (holds_terms op ≡ true → looped_places (body_inside op false) body.items ≡ places_of body.items)
    → looped_at false place t ≡ (place ∷ inner_places t)
place_stays place t op args body e s h =
    sym (form_placed false place t op args body e)
    ∙ form_place_stays place op (trees_of args.items) (trees_of body.items) (have_continue (trees_of body.items)) (looped_places (body_inside op false) body.items) (places_of body.items) (chain_places (cases_places body.items) (first_default_places body.items)) s h
    ∙ sym (form_terms place op args body) ∙ ap (λ t. place ∷ inner_places t) (sym e)

-- ---- a node by what is found in its braces

pub terms_found : (found : Found) (node : Node) (op : Op) (args body : Vec Node Global) (ys : List Node) → node.term ≡ D.Form op args body → ys ≡ body.items → braces_of op ≡ Braces.Terms → IsSoIn found ys → IsSoOf found node
terms_found Found.Nothing node op args body ys e f b h =
    let s = no_cases op (λ x. let g : Braces.Terms ≡ Braces.Cases = sym b ∙ x in absurd cc) in (
      λ flag values rest. node_stays flag values (record { id = node.id; place = node.place }) node.term op args body rest e s (terms_within flag values false op (trees_of body.items) b ∙ ap (λ c. looped_all flag values c (trees_of body.items)) (outside op) ∙ inner flag values),
      place_stays node.place node.term op args body e s (λ x. ap (λ c. looped_places c body.items) (outside op) ∙ ap (looped_places false) (sym f) ∙ h.1 ∙ ap places_of f),
    )
  where
    inner : (flag : ℕ) (values : List ℕ) → looped_all flag values false (trees_of body.items) ≡ trees_of body.items
    inner flag values = ap (λ ns. looped_all flag values false (trees_of ns)) (sym f) ∙ h.0 flag values ∙ ap trees_of f
terms_found Found.Methods node op args body ys e f b h = λ flag other values others rest.
    let s = no_cases op (λ x. let g : Braces.Terms ≡ Braces.Cases = sym b ∙ x in absurd cc) in
    node_alike flag other values others (record { id = node.id; place = node.place }) node.term op args body rest e s
    (inner flag values ∙ ap (λ ns. looped_all flag values false (trees_of ns)) (sym f) ∙ h flag other values others ∙ ap (λ ns. looped_all other others false (trees_of ns)) f ∙ sym (inner other others))
  where
    inner : (flag : ℕ) (values : List ℕ) → in_braces flag values false op (trees_of body.items) ≡ looped_all flag values false (trees_of body.items)
    inner flag values = terms_within flag values false op (trees_of body.items) b ∙ ap (λ c. looped_all flag values c (trees_of body.items)) (outside op)
terms_found Found.Switch node op args body ys e f b h = tt

pub method_found : (node : Node) (op : Op) (args body : Vec Node Global) → node.term ≡ D.Form op args body → braces_of op ≡ Braces.Method → IsSoOf Found.Methods node
method_found node op args body e b = λ flag other values others rest.
    let s = no_cases op (λ x. let g : Braces.Method ≡ Braces.Cases = sym b ∙ x in absurd cc) in
    node_alike flag other values others (record { id = node.id; place = node.place }) node.term op args body rest e s
    (method_within flag values false op (trees_of body.items) b ∙ sym (method_within other others false op (trees_of body.items) b))

pub other_found : (node : Node) (op : Op) (args body : Vec Node Global) → node.term ≡ D.Form op args body → braces_of op ≡ Braces.Other → IsSoOf Found.Nothing node
other_found node op args body e b =
    let s = no_cases op (λ x. let g : Braces.Other ≡ Braces.Cases = sym b ∙ x in absurd cc) in
    let not_terms : braces_of op ≡ Braces.Terms → ⊥ = λ x. let g : Braces.Other ≡ Braces.Terms = sym b ∙ x in absurd cc in
    let not_method : braces_of op ≡ Braces.Method → ⊥ = λ x. let g : Braces.Other ≡ Braces.Method = sym b ∙ x in absurd cc in (
      λ flag values rest. node_stays flag values (record { id = node.id; place = node.place }) node.term op args body rest e s (other_within flag values false op (trees_of body.items) not_terms not_method),
      place_stays node.place node.term op args body e s (λ x. absurd (other_holds op not_terms not_method x)),
    )

pub flat_found : (node : Node) → ((o : Op) (v w : Vec Node Global) → node.term ≡ D.Form o v w → ⊥) → IsSoOf Found.Nothing node
flat_found node never = (
  λ flag values rest. flat_kept flag values false (record { id = node.id; place = node.place }) node.term rest (not_formed node.term never),
  sym (flat_place false node.place node.term (not_formed node.term never)),
)

-- ---- the terms of a list, one after another

fewer : (node : Node) → IsSoOf Found.Nothing node → IsSoOf Found.Methods node
fewer node h = λ flag other values others rest. h.0 flag values rest ∙ sym (h.0 other others rest)

so_first : (a b : Found) (node : Node) → IsSoOf a node → IsSoOf (joined a b) node
so_first Found.Nothing Found.Nothing node h = h
so_first Found.Nothing Found.Methods node h = fewer node h
so_first Found.Nothing Found.Switch node h = tt
so_first Found.Methods Found.Nothing node h = h
so_first Found.Methods Found.Methods node h = h
so_first Found.Methods Found.Switch node h = tt
so_first Found.Switch b node h = tt

so_second : (a b : Found) (node : Node) → IsSoOf b node → IsSoOf (joined a b) node
so_second Found.Nothing b node h = h
so_second Found.Methods Found.Nothing node h = fewer node h
so_second Found.Methods Found.Methods node h = h
so_second Found.Methods Found.Switch node h = tt
so_second Found.Switch b node h = tt

-- it is so of some first nodes
abbrev pub FoundTo : Found → List Node → ℕ → Type 0
FoundTo found nodes i = (k : ℕ) → k < i → (e : Node) → IsSoOf found (get_or nodes k e)

pub found_next : (nodes : List Node) (i : ℕ) (node : Node) (found one : Found) → i < length nodes → node ≡ get_or nodes i node → IsSoOf one node → FoundTo found nodes i → FoundTo (joined found one) nodes (i + 1)
found_next nodes i node found one lt is h before =
    below_more (λ k. (e : Node) → IsSoOf (joined found one) (get_or nodes k e)) i (λ k less e. so_first found one (get_or nodes k e) (before k less e))
    (λ e. let P : Node → Type 0 = λ n. IsSoOf (joined found one) n in subst P (is ∙ any_default nodes i node e lt) (so_second found one node h))

stay : (flag : ℕ) (values : List ℕ) (nodes : List Node) → ((k : ℕ) → k < length nodes → (e : Node) → IsSoOf Found.Nothing (get_or nodes k e)) → looped_all flag values false (trees_of nodes) ≡ trees_of nodes
unfolding trees_of
stay flag values [] h = refl
stay flag values (node ∷ nodes) h =
    sym (put_step flag values false (node_tree node) (trees_of nodes)) ∙ ap (put flag values false (node_tree node)) (stay flag values nodes (λ k lt e. h (suc k) (omega (arith, lt)) e))
    ∙ (h 0 (omega arith) node).0 flag values (trees_of nodes)

places_stay : (nodes : List Node) → ((k : ℕ) → k < length nodes → (e : Node) → IsSoOf Found.Nothing (get_or nodes k e)) → looped_places false nodes ≡ places_of nodes
unfolding looped_places places_of
places_stay [] h = refl
places_stay (node ∷ nodes) h =
    ap (λ ps. ps ++ looped_places false nodes) (h 0 (omega arith) node).1 ∙ ap (λ ps. term_places node ++ ps) (places_stay nodes (λ k lt e. h (suc k) (omega (arith, lt)) e))

alike : (flag other : ℕ) (values others : List ℕ) (nodes : List Node) → ((k : ℕ) → k < length nodes → (e : Node) → IsSoOf Found.Methods (get_or nodes k e)) → looped_all flag values false (trees_of nodes) ≡ looped_all other others false (trees_of nodes)
unfolding trees_of
alike flag other values others [] h = refl
alike flag other values others (node ∷ nodes) h =
    sym (put_step flag values false (node_tree node) (trees_of nodes)) ∙ ap (put flag values false (node_tree node)) (alike flag other values others nodes (λ k lt e. h (suc k) (omega (arith, lt)) e))
    ∙ h 0 (omega arith) node flag other values others (looped_all other others false (trees_of nodes)) ∙ put_step other others false (node_tree node) (trees_of nodes)

pub found_all : (found : Found) (nodes : List Node) (i : ℕ) → length nodes ≤ i → FoundTo found nodes i → IsSoIn found nodes
found_all Found.Nothing nodes i le h = (λ flag values. stay flag values nodes (λ k lt e. h k (omega (arith, le, lt)) e), places_stay nodes (λ k lt e. h k (omega (arith, le, lt)) e))
found_all Found.Methods nodes i le h = λ flag other values others. alike flag other values others nodes (λ k lt e. h k (omega (arith, le, lt)) e)
found_all Found.Switch nodes i le h = tt

-- ---- a method's terms, or a block's

whole : (body : Trees) → looped_all (nth (plan_of body).free (plan_of body).levels) (plan_of body).free false body ≡ without_switches body
whole body = let p = plan_of body in same_terms (plan_as (nth p.free p.levels) p.free) p 1 0 (plan_whole p (nth p.free p.levels) refl) false body

pub nothing_whole : (nodes : List Node) → IsSoIn Found.Nothing nodes → trees_of nodes ≡ without_switches (trees_of nodes)
nothing_whole nodes h = let p = plan_of (trees_of nodes) in sym (h.0 (nth p.free p.levels) p.free) ∙ whole (trees_of nodes)

pub methods_whole : (nodes : List Node) (flag : ℕ) (values : List ℕ) → IsSoIn Found.Methods nodes → looped_all flag values false (trees_of nodes) ≡ without_switches (trees_of nodes)
methods_whole nodes flag values h = let p = plan_of (trees_of nodes) in h flag (nth p.free p.levels) values p.free ∙ whole (trees_of nodes)
