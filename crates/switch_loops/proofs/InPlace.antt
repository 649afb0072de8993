-- Terms that are changed where they stand: each keeps its place, and loops are put into its braces.
use Rattle.std.proofs.Common.{◌≡◌, ℕ, suc, ◌<◌, ◌≤◌, Bool, true, false, List, [], ◌∷◌, ◌++◌, length, get_or, Vec, Global, refl, sym, ap, subst, ◌∙◌, arith}
use Rattle.std.proofs.lemmas.List.Folds.{list_all_at}
use Rattle.iasl_messages.specs.declared.place.Place.{Place}
use Rattle.asl_tree.specs.declared.term.Op.{Op}
use Rattle.asl_tree.specs.declared.term.Control.TheVariants as Control
use Rattle.asl_tree.specs.declared.term.Declaration.TheVariants as Declaration
use Rattle.asl_tree.specs.declared.term.Node.{Node}
use Rattle.asl_tree.specs.declared.term.Term.{Term}
use Rattle.asl_tree.specs.declared.term.Term as D
use Rattle.asl_tree.specs.Tree.{At, Continue, Trees, tree}
use Rattle.asl_tree.specs.View.{form, tree_of, trees_of}
use Rattle.acpi_names.specs.Walked.{node_tree, term_shape}
use Rattle.acpi_names.proofs.Trees.{form_tree}
use Rattle.term_places.specs.Places.{holds_terms, inner_places, places_of, term_places}
use Rattle.asl_lower.proofs.Turns.{Turns}
use Rattle.hidden_locals.specs.Crossing.{have_continue}
use Rattle.hidden_locals.specs.Switches.{without_switches}
use Rattle.switch_loops.specs.Braces.{braces_of}
use Rattle.switch_loops.specs.Given.{IsGiven, AreGiven}
use Rattle.switch_loops.specs.Kept.{all_kept, is_kept}
use Rattle.switch_loops.specs.Kinds.{form_kind, shape_kind}
use Rattle.switch_loops.specs.Links.{in_braces, looped_all, put}
use Rattle.switch_loops.specs.Places.{body_inside, cases_places, chain_places, first_default_places, form_places, own_places, looped_at, looped_places}
use Rattle.switch_loops.specs.declared.braces.Braces.{Braces}
use Rattle.switch_loops.specs.declared.kind.TermRole.{TermRole}
use Rattle.switch_loops.proofs.Keeping.{continue_is, kept_outside, kind_at}
use Rattle.switch_loops.proofs.LoopPlaces.{flat_place, form_placed, inner_same, kept_kind, not_formed}
use Rattle.switch_loops.proofs.MadeRows.{form_terms}
use Rattle.switch_loops.proofs.PutRows.{put_form}
use Rattle.switch_loops.proofs.Puts.{continue_form, flat_kept, form_is, put_step}
use Rattle.switch_loops.proofs.Wholes.{kept_one}

-- ---- what stands in the braces of a form

abbrev within : ℕ → List ℕ → Bool → Braces → Trees → Trees
within flag values inside Braces.Terms body = looped_all flag values inside body
within flag values inside Braces.Method body = without_switches body
within flag values inside braces body = body

braces_trees : (flag : ℕ) (values : List ℕ) (inside : Bool) (op : Op) (body : Trees) → in_braces flag values inside op body ≡ within flag values (body_inside op inside) (braces_of op) body
braces_trees flag values inside (Op.Declaration Declaration.Method) body = refl
braces_trees flag values inside (Op.Declaration Declaration.Device) body = refl
braces_trees flag values inside (Op.Declaration Declaration.ThermalZone) body = refl
braces_trees flag values inside (Op.Declaration Declaration.PowerResource) body = refl
braces_trees flag values inside (Op.Declaration Declaration.Processor) body = refl
braces_trees flag values inside (Op.Declaration Declaration.Scope) body = refl
braces_trees flag values inside (Op.Control Control.If) body = refl
braces_trees flag values inside (Op.Control Control.ElseIf) body = refl
braces_trees flag values inside (Op.Control Control.Else) body = refl
braces_trees flag values inside (Op.Control Control.While) body = refl
braces_trees flag values inside (Op.Control Control.Switch) body = refl
braces_trees flag values inside op body = refl

abbrev hold : Braces → Bool
hold Braces.Terms = true
hold Braces.Method = true
hold braces = false

braces_hold : (op : Op) → holds_terms op ≡ hold (braces_of op)
braces_hold (Op.Declaration Declaration.Method) = refl
braces_hold (Op.Declaration Declaration.Device) = refl
braces_hold (Op.Declaration Declaration.ThermalZone) = refl
braces_hold (Op.Declaration Declaration.PowerResource) = refl
braces_hold (Op.Declaration Declaration.Processor) = refl
braces_hold (Op.Declaration Declaration.Scope) = refl
braces_hold (Op.Control Control.If) = refl
braces_hold (Op.Control Control.ElseIf) = refl
braces_hold (Op.Control Control.Else) = refl
braces_hold (Op.Control Control.While) = refl
braces_hold (Op.Control Control.Switch) = refl
braces_hold op = refl

pub is_method : (op : Op) → braces_of op ≡ Braces.Method → op ≡ Op.Declaration Declaration.Method
is_method (Op.Declaration Declaration.Method) e = refl
is_method (Op.Control Control.Switch) e = absurd cc
is_method op e = absurd cc

pub terms_within : (flag : ℕ) (values : List ℕ) (inside : Bool) (op : Op) (body : Trees) → braces_of op ≡ Braces.Terms → in_braces flag values inside op body ≡ looped_all flag values (body_inside op inside) body
terms_within flag values inside op body e = braces_trees flag values inside op body ∙ ap (λ b. within flag values (body_inside op inside) b body) e

pub method_within : (flag : ℕ) (values : List ℕ) (inside : Bool) (op : Op) (body : Trees) → braces_of op ≡ Braces.Method → in_braces flag values inside op body ≡ without_switches body
method_within flag values inside op body e = braces_trees flag values inside op body ∙ ap (λ b. within flag values (body_inside op inside) b body) e

pub other_within : (flag : ℕ) (values : List ℕ) (inside : Bool) (op : Op) (body : Trees) → (braces_of op ≡ Braces.Terms → ⊥) → (braces_of op ≡ Braces.Method → ⊥) → in_braces flag values inside op body ≡ body
other_within flag values inside op body not_terms not_method = braces_trees flag values inside op body ∙ by_braces (braces_of op) refl
  where
    by_braces : (b : Braces) → braces_of op ≡ b → within flag values (body_inside op inside) b body ≡ body
    by_braces Braces.Terms e = absurd (not_terms e)
    by_braces Braces.Method e = absurd (not_method e)
    by_braces b e = refl

pub terms_hold : (op : Op) → braces_of op ≡ Braces.Terms → holds_terms op ≡ true
terms_hold op e = braces_hold op ∙ ap hold e

pub method_holds : (op : Op) → braces_of op ≡ Braces.Method → holds_terms op ≡ true
method_holds op e = braces_hold op ∙ ap hold e

pub other_holds : (op : Op) → (braces_of op ≡ Braces.Terms → ⊥) → (braces_of op ≡ Braces.Method → ⊥) → holds_terms op ≡ true → ⊥
other_holds op not_terms not_method h = by_braces (braces_of op) refl (sym (braces_hold op) ∙ h)
  where
    by_braces : (b : Braces) → braces_of op ≡ b → hold b ≡ true → ⊥
    by_braces Braces.Terms e f = not_terms e
    by_braces Braces.Method e f = not_method e
    by_braces b e f = absurd cc

pub method_inside : (op : Op) (inside : Bool) → braces_of op ≡ Braces.Method → body_inside op inside ≡ false
method_inside op inside e = ap (λ o. body_inside o inside) (is_method op e)

-- ---- a form that keeps its place

kept_form : (flag : ℕ) (values : List ℕ) (inside : Bool) (at : At) (op : Op) (args body made : Trees) → is_kept inside (form_kind op args body) ≡ true → IsGiven (form at op args body)
    → ((holds_terms op ≡ true → AreGiven body) → made ≡ in_braces flag values inside op body) → (rest : Trees) → tree (form at op args made) rest ≡ put flag values inside (form at op args body) rest
kept_form flag values inside at op args body made kept g h rest = by_kind (form_kind op args body) refl
  where
    by_kind : (k : TermRole) → form_kind op args body ≡ k → tree (form at op args made) rest ≡ put flag values inside (form at op args body) rest
    by_kind TermRole.Switch e = let f : false ≡ true = sym (ap (is_kept inside) e) ∙ kept in absurd cc
    by_kind TermRole.Continue e =
        let is = continue_is op args body e in
        let same = continue_form at op args body e in
        let out : inside ≡ false = kept_outside inside (sym (ap (is_kept inside) e) ∙ kept) in
        let none : holds_terms op ≡ true → AreGiven body = λ x. let f : false ≡ true = sym (ap holds_terms is) ∙ x in absurd cc in
        ap (λ ts. tree (form at op args ts) rest) (h none ∙ ap (λ o. in_braces flag values inside o body) is) ∙ ap (λ t. tree t rest) same
        ∙ sym (ap (λ b. put flag values b Continue rest) out) ∙ ap (λ t. put flag values inside t rest) (sym same)
    by_kind k e =
        ap (λ t. tree t rest) (kept_one flag values inside at op args body made g h)
        ∙ sym (put_form flag values inside at op args body (λ x. let f : k ≡ TermRole.Switch = sym e ∙ x in absurd cc) (λ x. let f : k ≡ TermRole.Continue = sym e ∙ x in absurd cc) rest)

kept_places : (inside : Bool) (place : Place) (op : Op) (args body : Trees) (crossed : Bool) (places inner chain : List Place) → is_kept inside (form_kind op args body) ≡ true → (holds_terms op ≡ true → places ≡ inner)
    → own_places op place places ≡ form_places (form_kind op args body) op inside crossed place inner chain
kept_places inside place op args body crossed places inner chain kept h = by_kind (form_kind op args body) refl
  where
    by_kind : (k : TermRole) → form_kind op args body ≡ k → own_places op place places ≡ form_places k op inside crossed place inner chain
    by_kind TermRole.Switch e = let f : false ≡ true = sym (ap (is_kept inside) e) ∙ kept in absurd cc
    by_kind TermRole.Continue e =
        ap (λ o. own_places o place places) (continue_is op args body e)
        ∙ sym (ap (λ b. form_places TermRole.Continue op b crossed place inner chain) (kept_outside inside (sym (ap (is_kept inside) e) ∙ kept)))
    by_kind k e = inner_same op place places inner h ∙ sym (kept_kind k op inside crossed place inner chain (λ x. absurd cc) (λ x. absurd cc))

-- a term before a loop is put into its braces, and behind that
pub record IsLooped (flag : ℕ) (values : List ℕ) (inside : Bool) (old now : Node) : Type 0 where
  pub is : IsGiven (node_tree old) → (rest : Trees) → tree (node_tree now) rest ≡ put flag values inside (node_tree old) rest
  pub places : term_places now ≡ looped_at inside old.place old.term

pub form_looped_at : (flag : ℕ) (values : List ℕ) (inside : Bool) (at : At) (t : Term) (op : Op) (args body made : Vec Node Global) → t ≡ D.Form op args body → is_kept inside (shape_kind (term_shape t)) ≡ true
    → ((holds_terms op ≡ true → AreGiven (trees_of body.items)) → trees_of made.items ≡ in_braces flag values inside op (trees_of body.items))
    → IsGiven (tree_of at t) → (rest : Trees) → tree (tree_of at (D.Form op args made)) rest ≡ put flag values inside (tree_of at t) rest
form_looped_at flag values inside at t op args body made e kept h g rest =
    let same = form_is at t op args body e in
    ap (λ t. tree t rest) (form_tree at op args made)
    ∙ kept_form flag values inside at op (trees_of args.items) (trees_of body.items) (trees_of made.items) (sym (ap (is_kept inside) (kind_at t op args body e)) ∙ kept) (subst IsGiven same g) h rest
    ∙ ap (λ t. put flag values inside t rest) (sym same)

pub form_placed_at : (inside : Bool) (place : Place) (t : Term) (op : Op) (args body made : Vec Node Global) → t ≡ D.Form op args body → is_kept inside (shape_kind (term_shape t)) ≡ true
    → (holds_terms op ≡ true → places_of made.items ≡ looped_places (body_inside op inside) body.items) → (place ∷ inner_places (D.Form op args made)) ≡ looped_at inside place t
form_placed_at inside place t op args body made e kept h =
    form_terms place op args made
    ∙ kept_places inside place op (trees_of args.items) (trees_of body.items) (have_continue (trees_of body.items)) (places_of made.items) (looped_places (body_inside op inside) body.items) (chain_places (cases_places body.items) (first_default_places body.items))
    (sym (ap (is_kept inside) (kind_at t op args body e)) ∙ kept) h
    ∙ form_placed inside place t op args body e

pub flat_looped : (flag : ℕ) (values : List ℕ) (inside : Bool) (at : At) (t : Term) (rest : Trees) → ((o : Op) (v w : Vec Node Global) → t ≡ D.Form o v w → ⊥) → tree (tree_of at t) rest ≡ put flag values inside (tree_of at t) rest
flat_looped flag values inside at t rest never = sym (flat_kept flag values inside at t rest (not_formed t never))

pub flat_placed : (inside : Bool) (place : Place) (t : Term) → ((o : Op) (v w : Vec Node Global) → t ≡ D.Form o v w → ⊥) → (place ∷ inner_places t) ≡ looped_at inside place t
flat_placed inside place t never = flat_place inside place t (not_formed t never)

-- ---- the terms of a list

trees_looped : (flag : ℕ) (values : List ℕ) (inside : Bool) (old now : List Node) → length now ≡ length old → ((k : ℕ) → k < length old → (e : Node) → IsLooped flag values inside (get_or old k e) (get_or now k e))
    → AreGiven (trees_of old) → trees_of now ≡ looped_all flag values inside (trees_of old)
unfolding trees_of
trees_looped flag values inside [] [] size h g = refl
trees_looped flag values inside [] (n ∷ now) size h g = absurd (omega (arith, size))
trees_looped flag values inside (o ∷ old) [] size h g = absurd (omega (arith, size))
trees_looped flag values inside (o ∷ old) (n ∷ now) size h g =
    ap (tree (node_tree n)) (trees_looped flag values inside old now (omega (arith, size)) (λ k lt e. h (suc k) (omega (arith, lt)) e) g.1)
    ∙ (h 0 (omega arith) o).is g.0 (looped_all flag values inside (trees_of old)) ∙ put_step flag values inside (node_tree o) (trees_of old)

places_looped : (flag : ℕ) (values : List ℕ) (inside : Bool) (old now : List Node) → length now ≡ length old → ((k : ℕ) → k < length old → (e : Node) → IsLooped flag values inside (get_or old k e) (get_or now k e))
    → places_of now ≡ looped_places inside old
unfolding places_of looped_places
places_looped flag values inside [] [] size h = refl
places_looped flag values inside [] (n ∷ now) size h = absurd (omega (arith, size))
places_looped flag values inside (o ∷ old) [] size h = absurd (omega (arith, size))
places_looped flag values inside (o ∷ old) (n ∷ now) size h =
    ap (λ ps. ps ++ places_of now) (h 0 (omega arith) o).places
    ∙ ap (λ ps. looped_at inside o.place o.term ++ ps) (places_looped flag values inside old now (omega (arith, size)) (λ k lt e. h (suc k) (omega (arith, lt)) e))

pub each_looped : (flag : ℕ) (values : List ℕ) (inside : Bool) (old now : List Node) (i : ℕ) → length old ≤ i → Turns (λ k. IsLooped flag values inside) old now i
    → (AreGiven (trees_of old) → trees_of now ≡ looped_all flag values inside (trees_of old)) × (places_of now ≡ looped_places inside old)
each_looped flag values inside old now i le turns =
    let each : (k : ℕ) → k < length old → (e : Node) → IsLooped flag values inside (get_or old k e) (get_or now k e) = λ k lt e. turns.done k (omega (arith, lt, le)) e in
    (trees_looped flag values inside old now turns.size each, places_looped flag values inside old now turns.size each)

-- the next term keeps its place
pub kept_next : (flag : ℕ) (values : List ℕ) (inside : Bool) (old now all : List Node) (i : ℕ) (node : Node) → Turns (λ k. IsLooped flag values inside) old now i → i < length old → node ≡ get_or now i node → old ≡ all → all_kept inside all ≡ true
    → is_kept inside (shape_kind (term_shape (get_or now i node).term)) ≡ true
kept_next flag values inside old now all i node turns lt is same kept =
    ap (λ (n : Node). is_kept inside (shape_kind (term_shape n.term))) (turns.rest i node (omega arith)) ∙ by_kept (is_kept inside (shape_kind (term_shape (get_or old i node).term))) refl
  where
    by_kept : (b : Bool) → is_kept inside (shape_kind (term_shape (get_or old i node).term)) ≡ b → b ≡ true
    by_kept true e = refl
    by_kept false e =
        let f : false ≡ true = sym (list_all_at (λ (n : Node). is_kept inside (shape_kind (term_shape n.term))) old i node lt e) ∙ ap (all_kept inside) same ∙ kept in absurd cc
