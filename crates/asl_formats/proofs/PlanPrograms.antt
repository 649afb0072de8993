-- The plans of nodes that are formed one after another, from the last on.
use Rattle.std.proofs.Common.{◌≡◌, ℕ, Bool, true, false, List, [], ◌∷◌, ◌++◌, length, reverse, Vec, Global, refl, sym, ap, ◌∙◌, arith}
use Rattle.std.specs.Prelude.{if◌then◌else◌}
use Rattle.std.proofs.lemmas.List.{reverse-append}
use Rattle.iasl_messages.specs.declared.place.Place.{Place}
use Rattle.asl_tree.specs.declared.path.Path.{Path}
use Rattle.asl_tree.specs.declared.term.Control.TheVariants as Control
use Rattle.asl_tree.specs.declared.term.Op.{Op}
use Rattle.asl_tree.specs.declared.term.Node.{Node}
use Rattle.asl_tree.specs.declared.term.Term.{Term}
use Rattle.asl_tree.specs.declared.term.Term as D
use Rattle.asl_tree.specs.declared.term.Term.TheVariants as V
use Rattle.asl_tree.specs.Tree.{At, Tree, String, Trees, no_trees, tree}
use Rattle.asl_tree.specs.View.{tree_of, trees_of}
use Rattle.term_plans.specs.Plans.{Plan, a_text, debug, a_call, a_form, Plans, no_plans, plan, join, plan_of, plans_of}
use Rattle.term_plans.proofs.Plans.{plan_form, plan_call}
use Rattle.asl_prints.specs.Forms as F
use Rattle.asl_prints.specs.Nodes.{node_tree}
use Rattle.asl_formats.specs.Stands.{stand_of, form_stand}
use Rattle.asl_formats.specs.declared.stand.Stand.{Stand}
use Rattle.asl_formats.specs.declared.stand.Stand.TheVariants as S
use Rattle.asl_prints.specs.Plans.{optional, while_plan, is_steppable, is_filled, print_plan, spread, formed_plan, formed_args, formed_plans, formed_body}
use Rattle.asl_formats.specs.PlanPass.{backward_plans, spread_all}
use Rattle.asl_prints.specs.PlanParts.{placed}
use Rattle.asl_formats.proofs.StandForms.{stand_form}
use Rattle.asl_formats.proofs.Standing.{loop_not, text_not}
use Rattle.asl_prints.proofs.PlanTrees.{Stands, StandAll, nodes_stand, filled_stand, steppable_stands}
use Rattle.asl_prints.proofs.PlanNodes.{join_none, join_assoc, no_nodes, node_first, same_place}

pub pushed : (old new : List Node) (node : Node) → new ≡ old ++ node ∷ [] → backward_plans new ≡ plan node.place (plan_of node.term) (backward_plans old)
pushed old new node e = ap backward_plans e ∙ ap plans_of (reverse-append old (node ∷ [])) ∙ node_first node (reverse old)

none_left : (nodes : List Node) → length nodes ≡ 0 → plans_of nodes ≡ no_plans
none_left [] e = no_nodes
none_left (node ∷ nodes) e = absurd (omega (arith, e))

none_backward : (made : List Node) → made ≡ [] → backward_plans made ≡ no_plans
none_backward made e = ap backward_plans e ∙ no_nodes

-- ---- terms that are moved

plans_last : (nodes : List Node) (node : Node) (ps : Plans) → join (plans_of (nodes ++ node ∷ [])) ps ≡ join (plans_of nodes) (plan node.place (plan_of node.term) ps)
unfolding plans_of
plans_last [] node ps = refl
plans_last (n ∷ nodes) node ps = ap (plan n.place (plan_of n.term)) (plans_last nodes node ps)

pub moved_next : (left more made new : List Node) (node : Node) (whole : Plans) → left ≡ more ++ node ∷ [] → new ≡ made ++ node ∷ [] → join (plans_of left) (backward_plans made) ≡ whole → join (plans_of more) (backward_plans new) ≡ whole
moved_next left more made new node whole e f h =
    ap (join (plans_of more)) (pushed made new node f) ∙ sym (plans_last more node (backward_plans made)) ∙ ap (λ ns. join (plans_of ns) (backward_plans made)) (sym e) ∙ h

pub moved_all : (left made : List Node) (whole : Plans) → length left ≡ 0 → join (plans_of left) (backward_plans made) ≡ whole → backward_plans made ≡ whole
moved_all left made whole e h = sym (ap (λ ps. join ps (backward_plans made)) (none_left left e)) ∙ h

-- ---- terms with what stands for them

both_joined : (c : Bool) (here : Place) (p : Plan) (ps rest : Plans) → join (if c then ps else plan here p no_plans) rest ≡ (if c then join ps rest else plan here p rest)
both_joined true here p ps rest = refl
both_joined false here p ps rest = refl

if_joined : (c : Bool) (ps qs : Plans) (rs : Plans) → ps ≡ qs → (if c then ps else rs) ≡ (if c then qs else rs)
if_joined c ps qs rs e = ap (λ ps. if c then ps else rs) e

-- a term before others is a term alone, and then the others
spread_joined : (here : Place) (p : Plan) (rest : Plans) → join (spread here p no_plans) rest ≡ spread here p rest
spread_joined here (a_form (Op.Control Control.For) (plan a start (plan b test (plan c step no_plans))) body) rest =
    let made = while_plan b test (optional c step) body in
    let itself = a_form (Op.Control Control.For) (plan a start (plan b test (plan c step no_plans))) body in
    both_joined (is_steppable start step body) here itself (join (optional a start) (plan here made no_plans)) rest
    ∙ if_joined (is_steppable start step body) (join (join (optional a start) (plan here made no_plans)) rest) (join (optional a start) (plan here made rest)) (plan here itself rest)
    (join_assoc (optional a start) (plan here made no_plans) rest)
spread_joined here (a_form (Op.Control Control.Printf) (plan b (a_text format) args) no_plans) rest =
    both_joined (is_filled format args) here (a_form (Op.Control Control.Printf) (plan b (a_text format) args) no_plans) (plan here (print_plan here here debug format args) no_plans) rest
spread_joined here (a_form (Op.Control Control.Fprintf) (plan a target (plan b (a_text format) args)) no_plans) rest =
    both_joined (is_filled format args) here (a_form (Op.Control Control.Fprintf) (plan a target (plan b (a_text format) args)) no_plans) (plan here (print_plan here a target format args) no_plans) rest
spread_joined here p rest = refl

pub loop_put : (old new terms : List Node) (node : Node) → plans_of terms ≡ spread node.place (plan_of node.term) no_plans → backward_plans new ≡ join (plans_of terms) (backward_plans old) → backward_plans new ≡ spread node.place (plan_of node.term) (backward_plans old)
loop_put old new terms node t e = e ∙ ap (λ ps. join ps (backward_plans old)) t ∙ spread_joined node.place (plan_of node.term) (backward_plans old)

pub text_put : (old new : List Node) (node made : Node) → plans_of (made ∷ []) ≡ spread node.place (plan_of node.term) no_plans → new ≡ old ++ made ∷ [] → backward_plans new ≡ spread node.place (plan_of node.term) (backward_plans old)
text_put old new node made t e =
    let alone = node_first made [] ∙ ap (plan made.place (plan_of made.term)) no_nodes in
    pushed old new made e ∙ ap (λ ps. join ps (backward_plans old)) (sym alone ∙ t) ∙ spread_joined node.place (plan_of node.term) (backward_plans old)

-- a term that stays
for_stays : (here : Place) (ps qs : Plans) (at : At) (ts us : Trees) (rest : Plans) → StandAll ps ts → StandAll qs us → form_stand (Op.Control Control.For) ts us ≡ S.Itself → plan here (a_form (Op.Control Control.For) ps qs) rest ≡ spread here (a_form (Op.Control Control.For) ps qs) rest
for_stays here (plan a start (plan b test (plan c step no_plans))) qs at (tree x (tree y (tree z no_trees))) us rest s r e =
    sym (ap (λ (d : Bool). if d then join (optional a start) (plan here (while_plan b test (optional c step) qs) rest) else plan here (a_form (Op.Control Control.For) (plan a start (plan b test (plan c step no_plans))) qs) rest)
    (steppable_stands start step qs x z us s.0 s.1.1.0 r ∙ loop_not (F.is_steppable x z us) e))
for_stays here (plan a start (plan b test (plan c step no_plans))) qs at no_trees us rest s r e = absurd s
for_stays here (plan a start (plan b test (plan c step no_plans))) qs at (tree x no_trees) us rest s r e = absurd s.1
for_stays here (plan a start (plan b test (plan c step no_plans))) qs at (tree x (tree y no_trees)) us rest s r e = absurd s.1.1
for_stays here (plan a start (plan b test (plan c step no_plans))) qs at (tree x (tree y (tree z (tree w ws)))) us rest s r e = absurd s.1.1.1
for_stays here no_plans qs at ts us rest s r e = refl
for_stays here (plan a p no_plans) qs at ts us rest s r e = refl
for_stays here (plan a p (plan b q no_plans)) qs at ts us rest s r e = refl
for_stays here (plan a p (plan b q (plan c l (plan d m ps)))) qs at ts us rest s r e = refl

-- the text of a tree
abbrev text_in : Tree → List ℕ
text_in (String text) = text
text_in t = []

printf_stays : (here b : Place) (format : List ℕ) (args : Plans) (t : Tree) (ts us : Trees) (rest : Plans) → t ≡ String format → StandAll args ts → StandAll no_plans us → form_stand (Op.Control Control.Printf) (tree t ts) us ≡ S.Itself
    → plan here (a_form (Op.Control Control.Printf) (plan b (a_text format) args) no_plans) rest ≡ spread here (a_form (Op.Control Control.Printf) (plan b (a_text format) args) no_plans) rest
printf_stays here b format args t ts no_trees rest is s r e =
    let e : form_stand (Op.Control Control.Printf) (tree (String format) ts) no_trees ≡ S.Itself = ap (λ t. form_stand (Op.Control Control.Printf) (tree t ts) no_trees) (sym is) ∙ e in
    sym (ap (λ (d : Bool). if d then plan here (print_plan here here debug format args) rest else plan here (a_form (Op.Control Control.Printf) (plan b (a_text format) args) no_plans) rest)
    (filled_stand format args ts s ∙ text_not (F.is_filled format ts) e))
printf_stays here b format args t ts (tree u us) rest is s r e = absurd r

fprintf_stays : (here a b : Place) (target : Plan) (format : List ℕ) (args : Plans) (place t : Tree) (ts us : Trees) (rest : Plans) → t ≡ String format → StandAll args ts → StandAll no_plans us → form_stand (Op.Control Control.Fprintf) (tree place (tree t ts)) us ≡ S.Itself
    → plan here (a_form (Op.Control Control.Fprintf) (plan a target (plan b (a_text format) args)) no_plans) rest ≡ spread here (a_form (Op.Control Control.Fprintf) (plan a target (plan b (a_text format) args)) no_plans) rest
fprintf_stays here a b target format args place t ts no_trees rest is s r e =
    let e : form_stand (Op.Control Control.Fprintf) (tree place (tree (String format) ts)) no_trees ≡ S.Itself = ap (λ t. form_stand (Op.Control Control.Fprintf) (tree place (tree t ts)) no_trees) (sym is) ∙ e in
    sym (ap (λ (d : Bool). if d then plan here (print_plan here a target format args) rest else plan here (a_form (Op.Control Control.Fprintf) (plan a target (plan b (a_text format) args)) no_plans) rest)
    (filled_stand format args ts s ∙ text_not (F.is_filled format ts) e))
fprintf_stays here a b target format args place t ts (tree u us) rest is s r e = absurd r

form_stays : (here : Place) (op : Op) (ps qs : Plans) (at : At) (ts us : Trees) (rest : Plans) → StandAll ps ts → StandAll qs us → form_stand op ts us ≡ S.Itself → plan here (a_form op ps qs) rest ≡ spread here (a_form op ps qs) rest
form_stays here (Op.Control Control.For) ps qs at ts us rest s r e = for_stays here ps qs at ts us rest s r e
form_stays here (Op.Control Control.Printf) (plan b (a_text format) args) no_plans at (tree t ts) us rest s r e = printf_stays here b format args t ts us rest s.0 s.1 r e
form_stays here (Op.Control Control.Printf) (plan b (a_text format) args) no_plans at no_trees us rest s r e = absurd s
form_stays here (Op.Control Control.Fprintf) (plan a target (plan b (a_text format) args)) no_plans at (tree place (tree t ts)) us rest s r e = fprintf_stays here a b target format args place t ts us rest s.1.0 s.1.1 r e
form_stays here (Op.Control Control.Fprintf) (plan a target (plan b (a_text format) args)) no_plans at no_trees us rest s r e = absurd s
form_stays here (Op.Control Control.Fprintf) (plan a target (plan b (a_text format) args)) no_plans at (tree place no_trees) us rest s r e = absurd s.1
form_stays here op ps qs at ts us rest s r e = refl

stays : (here : Place) (p : Plan) (t : Tree) (rest : Plans) → Stands p t → stand_of t ≡ S.Itself → plan here p rest ≡ spread here p rest
stays here (a_form op ps qs) t rest s e = form_stays here op ps qs s.0 s.1 s.2 rest s.4 s.5 (sym (ap stand_of s.3 ∙ stand_form s.0 op s.1 s.2) ∙ e)
stays here p t rest s e = refl

pub node_stands : (node : Node) → Stands (plan_of node.term) (node_tree node)
unfolding plans_of trees_of
node_stands node = (nodes_stand (node ∷ [])).0

pub itself_put : (old new : List Node) (node : Node) (stand : Stand) → ((at : At) → stand_of (tree_of at node.term) ≡ stand) → stand ≡ S.Itself → new ≡ old ++ node ∷ [] → backward_plans new ≡ spread node.place (plan_of node.term) (backward_plans old)
itself_put old new node stand h s e =
    pushed old new node e ∙ stays node.place (plan_of node.term) (node_tree node) (backward_plans old) (node_stands node) (h (record { id = node.id; place = node.place }) ∙ s)

-- ---- terms, each with what stands for it, before others

abbrev pub spread_before : Plans → Plans → Plans
spread_before no_plans rest = rest
spread_before (plan place p ps) rest = spread place p (spread_before ps rest)

spread_last : (nodes : List Node) (node : Node) (rest : Plans) → spread_before (plans_of (nodes ++ node ∷ [])) rest ≡ spread_before (plans_of nodes) (spread node.place (plan_of node.term) rest)
unfolding plans_of
spread_last [] node rest = refl
spread_last (n ∷ nodes) node rest = ap (spread n.place (plan_of n.term)) (spread_last nodes node rest)

spread_none : (ps : Plans) → spread_before ps no_plans ≡ spread_all ps
spread_none no_plans = refl
spread_none (plan place p ps) = ap (spread place p) (spread_none ps)

pub spread_begun : (nodes made : List Node) → made ≡ [] → spread_before (plans_of nodes) (backward_plans made) ≡ spread_all (plans_of nodes)
spread_begun nodes made e = ap (spread_before (plans_of nodes)) (none_backward made e) ∙ spread_none (plans_of nodes)

pub spread_next : (left more made new : List Node) (node : Node) (whole : Plans) → left ≡ more ++ node ∷ [] → backward_plans new ≡ spread node.place (plan_of node.term) (backward_plans made) → spread_before (plans_of left) (backward_plans made) ≡ whole → spread_before (plans_of more) (backward_plans new) ≡ whole
spread_next left more made new node whole e f h =
    ap (spread_before (plans_of more)) f ∙ sym (spread_last more node (backward_plans made)) ∙ ap (λ ns. spread_before (plans_of ns) (backward_plans made)) (sym e) ∙ h

pub spread_done : (left made : List Node) (whole : Plans) → length left ≡ 0 → spread_before (plans_of left) (backward_plans made) ≡ whole → backward_plans made ≡ whole
spread_done left made whole e h = sym (ap (λ ps. spread_before ps (backward_plans made)) (none_left left e)) ∙ h

pub all_spread : (ps : Plans) → spread_all (formed_args ps) ≡ formed_plans ps
unfolding formed_plan
all_spread no_plans = refl
all_spread (plan place p ps) = ap (spread place (formed_plan p)) (all_spread ps)

-- ---- terms each by itself

args_last : (nodes : List Node) (node : Node) (ps : Plans) → join (formed_args (plans_of (nodes ++ node ∷ []))) ps ≡ join (formed_args (plans_of nodes)) (plan node.place (formed_plan (plan_of node.term)) ps)
unfolding plans_of formed_plan
args_last [] node ps = refl
args_last (n ∷ nodes) node ps = ap (plan n.place (formed_plan (plan_of n.term))) (args_last nodes node ps)

pub each_begun : (nodes made : List Node) → made ≡ [] → join (formed_args (plans_of nodes)) (backward_plans made) ≡ formed_args (plans_of nodes)
each_begun nodes made e = ap (join (formed_args (plans_of nodes))) (none_backward made e) ∙ join_none (formed_args (plans_of nodes))

pub each_next : (left more made new : List Node) (node low : Node) (whole : Plans) → left ≡ more ++ node ∷ [] → new ≡ made ++ low ∷ [] → placed low ≡ (node.place, formed_plan (plan_of node.term))
    → join (formed_args (plans_of left)) (backward_plans made) ≡ whole → join (formed_args (plans_of more)) (backward_plans new) ≡ whole
each_next left more made new node low whole e f same h =
    ap (join (formed_args (plans_of more))) (pushed made new low f ∙ same_place low node.place (formed_plan (plan_of node.term)) (backward_plans made) same) ∙ sym (args_last more node (backward_plans made))
    ∙ ap (λ ns. join (formed_args (plans_of ns)) (backward_plans made)) (sym e) ∙ h

none_formed : (nodes : List Node) → length nodes ≡ 0 → formed_args (plans_of nodes) ≡ no_plans
unfolding formed_plan
none_formed nodes e = ap formed_args (none_left nodes e)

pub each_done : (left made : List Node) (whole : Plans) → length left ≡ 0 → join (formed_args (plans_of left)) (backward_plans made) ≡ whole → backward_plans made ≡ whole
each_done left made whole e h = sym (ap (λ ps. join ps (backward_plans made)) (none_formed left e)) ∙ h

-- ---- a term

abbrev pub is_flat : Term → Bool
is_flat (D.Call' path shape args) = false
is_flat (D.Form' op shape args shape' body) = false
is_flat _ = true

flat_formed : (t : Term) → is_flat t ≡ true → plan_of t ≡ formed_plan (plan_of t)
unfolding plan_of formed_plan
flat_formed (D.Call' path shape args) e = absurd cc
flat_formed (D.Form' op shape args shape' body) e = absurd cc
flat_formed t e = refl

pub flat_term : (t : Term) → ((p : Path) (v : Vec Node Global) → t ≡ D.Call p v → ⊥) → ((o : Op) (v w : Vec Node Global) → t ≡ D.Form o v w → ⊥) → is_flat t ≡ true
flat_term t not_call not_form = by_layer (D.out-Term t) (sym (D.roll-out-Term t))
  where
    by_layer : (f : D.Term-F Term Node) → t ≡ D.roll-Term f → is_flat t ≡ true
    by_layer (D.Term-F.Call p v) e = absurd (not_call p v (e ∙ V.rolls-Call p v))
    by_layer (D.Term-F.Form o v w) e = absurd (not_form o v w (e ∙ V.rolls-Form o v w))
    by_layer (D.Term-F.Name p) e = ap is_flat (e ∙ V.rolls-Name p)
    by_layer (D.Term-F.Integer n) e = ap is_flat (e ∙ V.rolls-Integer n)
    by_layer (D.Term-F.Text text) e = ap is_flat (e ∙ V.rolls-Text text)
    by_layer (D.Term-F.Fill bytes named) e = ap is_flat (e ∙ V.rolls-Fill bytes named)
    by_layer (D.Term-F.Word word) e = ap is_flat (e ∙ V.rolls-Word word)
    by_layer (D.Term-F.Local n) e = ap is_flat (e ∙ V.rolls-Local n)
    by_layer (D.Term-F.Arg n) e = ap is_flat (e ∙ V.rolls-Arg n)
    by_layer (D.Term-F.Debug) e = ap is_flat (e ∙ V.rolls-Debug)
    by_layer (D.Term-F.Omitted) e = ap is_flat (e ∙ V.rolls-Omitted)
    by_layer (D.Term-F.Unit segment bits) e = ap is_flat (e ∙ V.rolls-Unit segment bits)
    by_layer (D.Term-F.Skip n) e = ap is_flat (e ∙ V.rolls-Skip n)
    by_layer (D.Term-F.Offset n) e = ap is_flat (e ∙ V.rolls-Offset n)
    by_layer (D.Term-F.Access access attribute count) e = ap is_flat (e ∙ V.rolls-Access access attribute count)

pub other_formed : (t : Term) → ((p : Path) (v : Vec Node Global) → t ≡ D.Call p v → ⊥) → ((o : Op) (v w : Vec Node Global) → t ≡ D.Form o v w → ⊥) → plan_of t ≡ formed_plan (plan_of t)
other_formed t not_call not_form = flat_formed t (flat_term t not_call not_form)

call_plan : (path : Path) (args : Plans) → formed_plan (a_call path args) ≡ a_call path (formed_args args)
unfolding formed_plan
call_plan path args = refl

form_plan : (op : Op) (args body : Plans) → formed_plan (a_form op args body) ≡ a_form op (formed_args args) (formed_body op (formed_args body) (formed_plans body) body)
unfolding formed_plan
form_plan op args body = refl

pub call_formed : (t : Term) (path : Path) (args made : Vec Node Global) → t ≡ D.Call path args → plans_of made.items ≡ formed_args (plans_of args.items) → plan_of (D.Call path made) ≡ formed_plan (plan_of t)
call_formed t path args made e h =
    plan_call path made ∙ ap (a_call path) h ∙ sym (ap (λ t. formed_plan (plan_of t)) e ∙ ap formed_plan (plan_call path args) ∙ call_plan path (plans_of args.items))

pub form_formed : (t : Term) (op : Op) (args body made more : Vec Node Global) → t ≡ D.Form op args body → plans_of made.items ≡ formed_args (plans_of args.items)
    → plans_of more.items ≡ formed_body op (formed_args (plans_of body.items)) (formed_plans (plans_of body.items)) (plans_of body.items) → plan_of (D.Form op made more) ≡ formed_plan (plan_of t)
form_formed t op args body made more e ha hb =
    plan_form op made more ∙ ap (λ ps. a_form op ps (plans_of more.items)) ha ∙ ap (a_form op (formed_args (plans_of args.items))) hb
    ∙ sym (ap (λ t. formed_plan (plan_of t)) e ∙ ap formed_plan (plan_form op args body) ∙ form_plan op (plans_of args.items) (plans_of body.items))
