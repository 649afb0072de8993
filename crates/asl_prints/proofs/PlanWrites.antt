-- The plans of what stands for what prints.
use Rattle.std.proofs.Common.{◌≡◌, ℕ, ◌<◌, ◌≤◌, Bool, true, false, List, [], ◌∷◌, ◌++◌, length, get_or, drop, Vec, Global, refl, sym, ap, ◌∙◌, subst, arith}
use Rattle.std.specs.Prelude.{if◌then◌else◌}
use Rattle.iasl_messages.specs.declared.place.Place.{Place}
use Rattle.acpi_values.specs.declared.operator.Plain.{Plain}
use Rattle.acpi_values.specs.declared.operator.DataOp.{DataOp}
use Rattle.asl_tree.specs.declared.term.Control.TheVariants as Control
use Rattle.asl_tree.specs.declared.term.Op.{Op}
use Rattle.asl_tree.specs.declared.term.Node.{Node}
use Rattle.asl_tree.specs.declared.term.Term.{Term}
use Rattle.asl_tree.specs.declared.term.Term as D
use Rattle.asl_tree.specs.Formats.{cut}
use Rattle.asl_tree.specs.Tree.{Tree, String, Trees, no_trees, tree}
use Rattle.asl_tree.specs.View.{trees_of}
use Rattle.term_plans.specs.Plans.{Plan, a_text, debug, omitted, a_form, Plans, no_plans, plan, plan_of, plans_of}
use Rattle.term_plans.proofs.Plans.{plan_form}
use Rattle.asl_prints.specs.Nodes.{CanPrint, IsPrint}
use Rattle.asl_prints.specs.Texts.{all_texts}
use Rattle.asl_prints.specs.Plans.{operator, concatenated, with_text, with_arguments, is_filled, print_plan, spread}
use Rattle.asl_prints.specs.PlanParts.{fills, placed, printed, prints, text_plan}
use Rattle.asl_prints.proofs.Writes.{first_text, print_row, not_print}
use Rattle.asl_prints.proofs.PlanTrees.{Stands, StandAll, is_literal, text_stands, filled_stand, nodes_stand}
use Rattle.asl_prints.proofs.PlanNodes.{no_nodes, node_first, same_place}
use Rattle.asl_prints.proofs.Writes as W

-- a place and a plan
abbrev at_place : Place → Plan → Place × Plan
at_place here p = (here, p)

pub operator_made : (id : ℕ) (place : Place) (op : DataOp) (args body : Vec Node Global) → body.items ≡ []
    → placed (record { id = id; place = place; term = D.Form (Op.Plain (Plain.Data op)) args body }) ≡ (place, operator op (plans_of args.items))
operator_made id place op args body e =
    ap (λ (p : Plan). at_place place p) (plan_form (Op.Plain (Plain.Data op)) args body ∙ ap (a_form (Op.Plain (Plain.Data op)) (plans_of args.items)) (ap plans_of e ∙ no_nodes))

pub text_made : (id : ℕ) (place : Place) (text : List ℕ) → placed (record { id = id; place = place; term = D.Text text }) ≡ (place, a_text text)
unfolding plan_of
text_made id place text = refl

pub debug_made : (id : ℕ) (place : Place) → placed (record { id = id; place = place; term = D.Debug }) ≡ (place, debug)
unfolding plan_of
debug_made id place = refl

three_plans : (a b c : Node) → plans_of (a ∷ b ∷ c ∷ []) ≡ plan a.place (plan_of a.term) (plan b.place (plan_of b.term) (plan c.place (plan_of c.term) no_plans))
unfolding plans_of
three_plans a b c = refl

two_plans : (a b : Node) → plans_of (a ∷ b ∷ []) ≡ plan a.place (plan_of a.term) (plan b.place (plan_of b.term) no_plans)
unfolding plans_of
two_plans a b = refl

omitted_plan : (node : Node) → node.term ≡ D.Omitted → plan_of node.term ≡ omitted
unfolding plan_of
omitted_plan node e = ap plan_of e

-- the place and the plan of a node, by both
place_is : (node : Node) (place : Place) (p : Plan) → placed node ≡ (place, p) → node.place ≡ place
place_is node place p e = ap (λ (q : Place × Plan). q.0) e

plan_is : (node : Node) (place : Place) (p : Plan) → placed node ≡ (place, p) → plan_of node.term ≡ p
plan_is node place p e = ap (λ (q : Place × Plan). q.1) e

-- ---- Concatenates

pub concatenate_pushed : (here : Place) (made : Place × Plan) (first second none : Node) (a b c d : List Node) → made ≡ (here, operator DataOp.Concatenate (plans_of d)) → a ≡ [] → b ≡ a ++ first ∷ [] → c ≡ b ++ second ∷ [] → d ≡ c ++ none ∷ [] → none.term ≡ D.Omitted
    → none.place ≡ here → first.place ≡ here → made ≡ (here, concatenated here (plan_of first.term) second.place (plan_of second.term))
concatenate_pushed here made first second none a b c d m ea eb ec ed o n f =
    let op = λ (ps : Plans). at_place here (operator DataOp.Concatenate ps) in
    m ∙ ap (λ ns. op (plans_of ns)) (ed ∙ ap (λ ns. ns ++ none ∷ []) ec ∙ ap (λ ns. (ns ++ second ∷ []) ++ none ∷ []) eb ∙ ap (λ ns. ((ns ++ first ∷ []) ++ second ∷ []) ++ none ∷ []) ea)
    ∙ ap op (three_plans first second none)
    ∙ ap (λ p. op (plan p (plan_of first.term) (plan second.place (plan_of second.term) (plan none.place (plan_of none.term) no_plans)))) f
    ∙ ap (λ p. op (plan here (plan_of first.term) (plan second.place (plan_of second.term) (plan p (plan_of none.term) no_plans)))) n
    ∙ ap (λ p. op (plan here (plan_of first.term) (plan second.place (plan_of second.term) (plan here p no_plans)))) (omitted_plan none o)

pub text_none : (here : Place) (front : Node) (text : List ℕ) → length text ≡ 0 → front.place ≡ here → placed front ≡ (here, with_text here (plan_of front.term) text)
text_none here front [] e f = ap (λ (p : Place). at_place p (plan_of front.term)) f
text_none here front (c ∷ text) e f = absurd (omega (arith, e))

pub with_text_some : (here : Place) (front behind : Node) (made : Place × Plan) (text now : List ℕ) → (length text ≡ 0 → ⊥) → now ≡ text → placed behind ≡ (here, a_text now) → (front.place ≡ here → made ≡ (here, concatenated here (plan_of front.term) behind.place (plan_of behind.term)))
    → front.place ≡ here → made ≡ (here, with_text here (plan_of front.term) text)
with_text_some here front behind made [] now h n b m f = absurd (h refl)
with_text_some here front behind made (c ∷ text) now h n b m f =
    m f ∙ ap (λ (q : Place × Plan). at_place here (concatenated here (plan_of front.term) q.0 q.1)) b ∙ ap (λ t. at_place here (concatenated here (plan_of front.term) here (a_text t))) n

pub argument_made : (here : Place) (front arg copy both : Node) (made : Place × Plan) (text : List ℕ) → placed copy ≡ placed arg → (front.place ≡ here → placed both ≡ (here, concatenated here (plan_of front.term) copy.place (plan_of copy.term)))
    → (both.place ≡ here → made ≡ (here, with_text here (plan_of both.term) text)) → front.place ≡ here → made ≡ (here, with_text here (concatenated here (plan_of front.term) arg.place (plan_of arg.term)) text)
argument_made here front arg copy both made text c b m f =
    let e = b f ∙ ap (λ (q : Place × Plan). at_place here (concatenated here (plan_of front.term) q.0 q.1)) c in
    let x = concatenated here (plan_of front.term) arg.place (plan_of arg.term) in
    m (place_is both here x e) ∙ ap (λ p. at_place here (with_text here p text)) (plan_is both here x e)

-- the first node of some
pub first_plan : (nodes : List Node) (node : Node) → 1 ≤ length nodes → node ≡ get_or nodes 0 node → plans_of nodes ≡ plan node.place (plan_of node.term) (plans_of (drop 1 nodes))
unfolding plans_of
first_plan [] node h e = absurd (omega (arith, h))
first_plan (n ∷ nodes) node h e = ap (λ (m : Node). plan m.place (plan_of m.term) (plans_of nodes)) (sym e)

pub joined_next : (here : Place) (front next : Node) (made : Place × Plan) (text : List ℕ) (argument : Node) (texts texts' : List (List ℕ)) (args args' : List Node) → 1 ≤ length texts → 1 ≤ length args → text ≡ get_or texts 0 text → argument ≡ get_or args 0 argument → texts' ≡ drop 1 texts → args' ≡ drop 1 args
    → (front.place ≡ here → placed next ≡ (here, with_text here (concatenated here (plan_of front.term) argument.place (plan_of argument.term)) text)) → (next.place ≡ here → made ≡ (here, with_arguments here (plan_of next.term) texts' (plans_of args')))
    → front.place ≡ here → made ≡ (here, with_arguments here (plan_of front.term) texts (plans_of args))
joined_next here front next made text argument texts texts' args args' h k et ea rt ra n m f =
    let x = with_text here (concatenated here (plan_of front.term) argument.place (plan_of argument.term)) text in
    let e = n f in
    m (place_is next here x e)
    ∙ ap (λ p. at_place here (with_arguments here p texts' (plans_of args'))) (plan_is next here x e)
    ∙ ap (λ ts. at_place here (with_arguments here x ts (plans_of args'))) rt
    ∙ ap (λ ns. at_place here (with_arguments here x (drop 1 texts) (plans_of ns))) ra
    ∙ sym (ap (λ ts. at_place here (with_arguments here (plan_of front.term) ts (plans_of args))) (first_text texts text h et) ∙ ap (λ ps. at_place here (with_arguments here (plan_of front.term) (text ∷ drop 1 texts) ps)) (first_plan args argument k ea))

pub joined_none : (here : Place) (front : Node) (texts : List (List ℕ)) (args : List Node) → length texts < 1 → front.place ≡ here → placed front ≡ (here, with_arguments here (plan_of front.term) texts (plans_of args))
joined_none here front [] args h f = ap (λ (p : Place). at_place p (plan_of front.term)) f
joined_none here front (text ∷ texts) args h f = absurd (omega (arith, h))

pub joined_last : (here : Place) (front : Node) (texts : List (List ℕ)) (args : List Node) → length args < 1 → front.place ≡ here → placed front ≡ (here, with_arguments here (plan_of front.term) texts (plans_of args))
joined_last here front texts (node ∷ args) h f = absurd (omega (arith, h))
joined_last here front [] [] h f = ap (λ (p : Place). at_place p (plan_of front.term)) f
joined_last here front (text ∷ texts) [] h f = ap (λ (p : Place). at_place p (plan_of front.term)) f ∙ sym (ap (λ ps. at_place here (with_arguments here (plan_of front.term) (text ∷ texts) ps)) no_nodes)

-- ---- what a format says

pub value_made : (here : Place) (made : Place × Plan) (front : Node) (format first now : List ℕ) (all behind : List (List ℕ)) (args : Plans) → all ≡ all_texts format → 1 ≤ length all → first ≡ get_or all 0 first → now ≡ first → behind ≡ drop 1 all → placed front ≡ (here, a_text now)
    → (front.place ≡ here → made ≡ (here, with_arguments here (plan_of front.term) behind args)) → made ≡ (here, with_arguments here (a_text (cut format).0) (cut format).1 args)
value_made here made front format first now all behind args t h f n r s v =
    let e = s ∙ ap (λ text. at_place here (a_text text)) n in
    let ts = sym (first_text all first h f) ∙ t in
    v (place_is front here (a_text first) e) ∙ ap (λ p. at_place here (with_arguments here p behind args)) (plan_is front here (a_text first) e)
    ∙ ap (λ (texts : List (List ℕ)). at_place here (with_arguments here (a_text (get_or texts 0 [])) behind args)) ts
    ∙ ap (λ texts. at_place here (with_arguments here (a_text (cut format).0) texts args)) (r ∙ ap (drop 1) t)

text_is : (t : Term) (text : List ℕ) → t ≡ D.Text text → plan_of t ≡ a_text text
unfolding plan_of
text_is t text e = ap plan_of e

pub format_made : (here : Place) (made : Place × Plan) (format : Node) (text now : List ℕ) (args : Plans) → format.term ≡ D.Text text → now ≡ text → made ≡ (here, with_arguments here (a_text (cut now).0) (cut now).1 args) → fills (plan format.place (plan_of format.term) args) ≡ true
    → made ≡ (here, text_plan here (plan format.place (plan_of format.term) args))
format_made here made format text now args e n m can =
    m ∙ ap (λ t. at_place here (text_plan here (plan format.place (a_text t) args))) n ∙ sym (ap (λ p. at_place here (text_plan here (plan format.place p args))) (text_is format.term text e))

pub no_literal : (t : Term) → ((text : List ℕ) → t ≡ D.Text text → ⊥) → is_literal (plan_of t) ≡ false
unfolding plan_of
no_literal (D.Text text) never = absurd (never text refl)
no_literal t never = refl

pub fills_literal : (place : Place) (p : Plan) (ps : Plans) → is_literal p ≡ false → fills (plan place p ps) ≡ true → ⊥
fills_literal place (a_text text) ps e can = cc
fills_literal place p ps e can = cc

pub no_format : (here : Place) (made : Place × Plan) (format : Node) (args : Plans) → ((text : List ℕ) → format.term ≡ D.Text text → ⊥) → fills (plan format.place (plan_of format.term) args) ≡ true → made ≡ (here, text_plan here (plan format.place (plan_of format.term) args))
no_format here made format args never can = absurd (fills_literal format.place (plan_of format.term) args (no_literal format.term never) can)

pub listed_made : (here : Place) (made : Place × Plan) (format : Node) (args behind : List Node) → 1 ≤ length args → format ≡ get_or args 0 format → behind ≡ drop 1 args
    → (fills (plan format.place (plan_of format.term) (plans_of behind)) ≡ true → made ≡ (here, text_plan here (plan format.place (plan_of format.term) (plans_of behind)))) → fills (plans_of args) ≡ true → made ≡ (here, text_plan here (plans_of args))
listed_made here made format args behind h f r m can =
    let e = first_plan args format h f ∙ ap (λ ns. plan format.place (plan_of format.term) (plans_of ns)) (sym r) in
    m (sym (ap fills e) ∙ can) ∙ ap (λ ps. at_place here (text_plan here ps)) (sym e)

pub listed_none : (here : Place) (made : Place × Plan) (args : List Node) → length args < 1 → fills (plans_of args) ≡ true → made ≡ (here, text_plan here (plans_of args))
unfolding plans_of
listed_none here made [] h can = absurd cc
listed_none here made (node ∷ args) h can = absurd (omega (arith, h))

-- ---- Stores

pub store_pushed : (here : Place) (made : Place × Plan) (value target : Node) (a b c : List Node) → made ≡ (here, operator DataOp.Store (plans_of c)) → a ≡ [] → b ≡ a ++ value ∷ [] → c ≡ b ++ target ∷ []
    → made ≡ (here, operator DataOp.Store (plan value.place (plan_of value.term) (plan target.place (plan_of target.term) no_plans)))
store_pushed here made value target a b c m ea eb ec =
    m ∙ ap (λ ns. at_place here (operator DataOp.Store (plans_of ns))) (ec ∙ ap (λ ns. ns ++ target ∷ []) eb ∙ ap (λ ns. (ns ++ value ∷ []) ++ target ∷ []) ea)
    ∙ ap (λ ps. at_place here (operator DataOp.Store ps)) (two_plans value target)

-- a Store of what is said
stored_said : (here : Place) (made : Place × Plan) (value target : Node) (ps : Plans) → placed value ≡ (here, text_plan here ps) → made ≡ (here, operator DataOp.Store (plan value.place (plan_of value.term) (plan target.place (plan_of target.term) no_plans)))
    → made ≡ (here, operator DataOp.Store (plan here (text_plan here ps) (plan target.place (plan_of target.term) no_plans)))
stored_said here made value target ps v m = m ∙ ap (λ (q : Place × Plan). at_place here (operator DataOp.Store (plan q.0 q.1 (plan target.place (plan_of target.term) no_plans)))) v

pub debug_printed : (here : Place) (made : Place × Plan) (value target : Node) (ps : Plans) → placed target ≡ (here, debug) → (fills ps ≡ true → placed value ≡ (here, text_plan here ps))
    → made ≡ (here, operator DataOp.Store (plan value.place (plan_of value.term) (plan target.place (plan_of target.term) no_plans))) → prints (Op.Control Control.Printf) ps ≡ true → made ≡ (here, printed here (Op.Control Control.Printf) ps)
debug_printed here made value target ps d v m can =
    stored_said here made value target ps (v can) m ∙ ap (λ (q : Place × Plan). at_place here (operator DataOp.Store (plan here (text_plan here ps) (plan q.0 q.1 no_plans)))) d

pub place_made : (here : Place) (made : Place × Plan) (value target copy : Node) (args behind : List Node) → 1 ≤ length args → target ≡ get_or args 0 target → placed copy ≡ placed target → behind ≡ drop 1 args → (fills (plans_of behind) ≡ true → placed value ≡ (here, text_plan here (plans_of behind)))
    → made ≡ (here, operator DataOp.Store (plan value.place (plan_of value.term) (plan copy.place (plan_of copy.term) no_plans))) → prints (Op.Control Control.Fprintf) (plans_of args) ≡ true → made ≡ (here, printed here (Op.Control Control.Fprintf) (plans_of args))
place_made here made value target copy args behind h t c r v m can =
    let e = first_plan args target h t ∙ ap (λ ns. plan target.place (plan_of target.term) (plans_of ns)) (sym r) in
    stored_said here made value copy (plans_of behind) (v (sym (ap (prints (Op.Control Control.Fprintf)) e) ∙ can)) m
    ∙ ap (λ (q : Place × Plan). at_place here (operator DataOp.Store (plan here (text_plan here (plans_of behind)) (plan q.0 q.1 no_plans)))) c
    ∙ ap (λ ps. at_place here (printed here (Op.Control Control.Fprintf) ps)) (sym e)

pub into_none : (here : Place) (made : Place × Plan) (args : List Node) → length args < 1 → prints (Op.Control Control.Fprintf) (plans_of args) ≡ true → made ≡ (here, printed here (Op.Control Control.Fprintf) (plans_of args))
unfolding plans_of
into_none here made [] h can = absurd cc
into_none here made (node ∷ args) h can = absurd (omega (arith, h))

-- ---- a form

pub to_printf : (here : Place) (made : Place × Plan) (op : Op) (ps : Plans) → op ≡ Op.Control Control.Printf → (prints (Op.Control Control.Printf) ps ≡ true → made ≡ (here, printed here (Op.Control Control.Printf) ps)) → prints op ps ≡ true → made ≡ (here, printed here op ps)
to_printf here made op ps o m can = m (sym (ap (λ o. prints o ps) o) ∙ can) ∙ ap (λ o. at_place here (printed here o ps)) (sym o)

pub to_fprintf : (here : Place) (made : Place × Plan) (op : Op) (ps : Plans) → op ≡ Op.Control Control.Fprintf → (prints (Op.Control Control.Fprintf) ps ≡ true → made ≡ (here, printed here (Op.Control Control.Fprintf) ps)) → prints op ps ≡ true → made ≡ (here, printed here op ps)
to_fprintf here made op ps o m can = m (sym (ap (λ o. prints o ps) o) ∙ can) ∙ ap (λ o. at_place here (printed here o ps)) (sym o)

pub no_print : (here : Place) (made : Place × Plan) (op : Op) (ps : Plans) → (op ≡ Op.Control Control.Printf → ⊥) → (op ≡ Op.Control Control.Fprintf → ⊥) → prints op ps ≡ true → made ≡ (here, printed here op ps)
no_print here made (Op.Control Control.Printf) ps a b can = absurd (a refl)
no_print here made (Op.Control Control.Fprintf) ps a b can = absurd (b refl)
no_print here made op ps a b can = absurd cc

-- what prints as a tree prints as a plan
literal : (p : Plan) (format : List ℕ) → Stands p (String format) → is_literal p ≡ true
literal p format s = sym (text_stands p (String format) s)

fills_stands : (place : Place) (p : Plan) (ps : Plans) (format : List ℕ) (ts : Trees) → Stands p (String format) → StandAll ps ts → is_literal p ≡ true → is_filled format ps ≡ true → fills (plan place p ps) ≡ true
fills_stands place (a_text text) ps format ts s r e f = ap (λ (t : Tree). is_filled (text_in t) ps) (sym s) ∙ f
  where
    text_in : Tree → List ℕ
    text_in (String text) = text
    text_in t = []
fills_stands place p ps format ts s r e f = absurd cc

pub prints_stand : (op : Op) (ps : Plans) (ts : Trees) → StandAll ps ts → CanPrint op ts → prints op ps ≡ true
prints_stand (Op.Control Control.Printf) (plan a p ps) (tree (String format) ts) s can =
    fills_stands a p ps format ts s.0 s.1 (literal p format s.0) (filled_stand format ps ts s.1 ∙ can.0)
prints_stand (Op.Control Control.Printf) no_plans (tree (String format) ts) s can = absurd s
prints_stand (Op.Control Control.Fprintf) (plan a target (plan b p ps)) (tree place (tree (String format) ts)) s can =
    fills_stands b p ps format ts s.1.0 s.1.1 (literal p format s.1.0) (filled_stand format ps ts s.1.1 ∙ can.0)
prints_stand (Op.Control Control.Fprintf) no_plans (tree place (tree (String format) ts)) s can = absurd s
prints_stand (Op.Control Control.Fprintf) (plan a target no_plans) (tree place (tree (String format) ts)) s can = absurd s.1
prints_stand op ps ts s can = absurd can

spread_print : (here : Place) (op : Op) (ps : Plans) → prints op ps ≡ true → plan here (printed here op ps) no_plans ≡ spread here (a_form op ps no_plans) no_plans
spread_print here (Op.Control Control.Printf) (plan b (a_text format) args) can =
    sym (ap (λ (d : Bool). if d then plan here (print_plan here here debug format args) no_plans else plan here (a_form (Op.Control Control.Printf) (plan b (a_text format) args) no_plans) no_plans) can)
spread_print here (Op.Control Control.Fprintf) (plan a target (plan b (a_text format) args)) can =
    sym (ap (λ (d : Bool). if d then plan here (print_plan here a target format args) no_plans else plan here (a_form (Op.Control Control.Fprintf) (plan a target (plan b (a_text format) args)) no_plans) no_plans) can)
spread_print here op ps can = absurd cc

no_braces : (ps : Plans) → StandAll ps no_trees → ps ≡ no_plans
no_braces no_plans s = refl
no_braces (plan place p ps) s = absurd s

pub print_made : (node : Node) (op : Op) (args body : Vec Node Global) (made : Node) (now : List Node) → node.term ≡ D.Form op args body → now ≡ args.items → IsPrint node.term → (prints op (plans_of now) ≡ true → placed made ≡ (node.place, printed node.place op (plans_of now)))
    → plans_of (made ∷ []) ≡ spread node.place (plan_of node.term) no_plans
print_made node op args body made now e n h m =
    let is = print_row op args body (subst IsPrint e h) in
    let can = prints_stand op (plans_of args.items) (trees_of args.items) (nodes_stand args.items) is.0 in
    let none = no_braces (plans_of body.items) (subst (StandAll (plans_of body.items)) is.1 (nodes_stand body.items)) in
    node_first made [] ∙ ap (plan made.place (plan_of made.term)) no_nodes
    ∙ same_place made node.place (printed node.place op (plans_of args.items)) no_plans (m (ap (λ ns. prints op (plans_of ns)) n ∙ can) ∙ ap (λ ns. at_place node.place (printed node.place op (plans_of ns))) n)
    ∙ spread_print node.place op (plans_of args.items) can
    ∙ ap (λ qs. spread node.place (a_form op (plans_of args.items) qs) no_plans) (sym none)
    ∙ sym (ap (λ t. spread node.place (plan_of t) no_plans) e ∙ ap (λ p. spread node.place p no_plans) (plan_form op args body))

pub no_print_form : (node : Node) (made : Node) → ((o : Op) (v w : Vec Node Global) → node.term ≡ D.Form o v w → ⊥) → IsPrint node.term → plans_of (made ∷ []) ≡ spread node.place (plan_of node.term) no_plans
no_print_form node made not_form h = absurd (not_print node.term not_form h)

-- a text that may be empty, as trees and as plans
pub ruleset text_rules = (W.text_none, W.with_text_some, text_none, with_text_some)

-- no more texts or arguments, as trees and as plans
pub ruleset joined_rules = (W.joined_none, W.joined_last, joined_none, joined_last)
