-- The trees of terms that are taken apart.
use Rattle.std.proofs.Common.{◌≡◌, ℕ, ◌+◌, Vec, Global, refl, sym, ap, ◌∙◌}
use mathlib.Core.Former.{Count}
use Rattle.asl_tree.specs.declared.path.Path.{Path}
use Rattle.asl_tree.specs.declared.term.Op.{Op}
use Rattle.asl_tree.specs.declared.term.Node.{Node}
use Rattle.asl_tree.specs.declared.term.Term.{Term}
use Rattle.asl_tree.specs.declared.term.Term as D
use Rattle.asl_tree.specs.declared.term.Term.TheVariants as V
use Rattle.asl_tree.specs.Tree.{At, Call, tree}
use Rattle.asl_tree.specs.View.{form, tree_of, row_trees, trees_of}
use Rattle.term_plans.specs.Plans.{Plans, a_call, a_form, plan_of, plans_of}
use Rattle.term_plans.proofs.Plans.{plan_call, plan_form}
use Rattle.asl_numbers.specs.Numbers.{inside, nodes, numbered, numbered_all}

rows : (m : _) (row : D.Row_of-Node m) → row_trees row ≡ trees_of (D.items-the_row-Node m row)
unfolding tree_of trees_of
rows m D.end_of-Node = refl
rows m (D.more_of-Node id place term rest) = ap (tree (tree_of (record { id = id; place = place }) term)) (rows _ rest)

abbrev args_row : Term → (n : Count) × D.Row_of-Node n
args_row (D.Form' op shape args shape' body) = (_, args)
args_row (D.Call' path shape args) = (_, args)
args_row _ = (_, D.end_of-Node)

abbrev body_row : Term → (n : Count) × D.Row_of-Node n
body_row (D.Form' op shape args shape' body) = (_, body)
body_row _ = (_, D.end_of-Node)

pub tree_form : (at : At) (op : Op) (args body : Vec Node Global) → tree_of at (D.Form op args body) ≡ form at op (trees_of args.items) (trees_of body.items)
unfolding tree_of
tree_form at op args body =
    let a = args_row (D.Form op args body) in
    let b = body_row (D.Form op args body) in
    ap (λ ts. form at op ts (row_trees b.1)) (rows a.0 a.1 ∙ ap trees_of (D.items_hidden-the_row-Node-0 args))
    ∙ ap (λ ts. form at op (trees_of args.items) ts) (rows b.0 b.1 ∙ ap trees_of (D.items_hidden-the_row-Node-0 body))

pub tree_call : (at : At) (path : Path) (args : Vec Node Global) → tree_of at (D.Call path args) ≡ Call at path (trees_of args.items)
unfolding tree_of
tree_call at path args =
    let a = args_row (D.Call path args) in
    ap (Call at path) (rows a.0 a.1 ∙ ap trees_of (D.items_hidden-the_row-Node-0 args))

-- ---- with their numbers

pub use_call : (at : At) (next : ℕ) (path : Path) (args : Plans) → numbered at next (a_call path args) ≡ Call at path (numbered_all next args)
unfolding numbered
use_call at next path args = refl

pub use_form : (at : At) (next : ℕ) (op : Op) (args body : Plans) → numbered at next (a_form op args body) ≡ form at op (numbered_all next args) (numbered_all (next + nodes args) body)
unfolding numbered
use_form at next op args body = refl

-- ---- terms with no nodes inside

pub none_inside : (t : Term) → ((p : Path) (v : Vec Node Global) → t ≡ D.Call p v → ⊥) → ((o : Op) (v w : Vec Node Global) → t ≡ D.Form o v w → ⊥) → inside (plan_of t) ≡ 0
unfolding plan_of
none_inside t no_call no_form = by_layer (D.out-Term t) (sym (D.roll-out-Term t))
  where
    by_layer : (f : D.Term-F Term Node) → t ≡ D.roll-Term f → inside (plan_of t) ≡ 0
    by_layer (D.Term-F.Call p v) e = absurd (no_call p v (e ∙ V.rolls-Call p v))
    by_layer (D.Term-F.Form o v w) e = absurd (no_form o v w (e ∙ V.rolls-Form o v w))
    by_layer (D.Term-F.Integer n) e = ap (λ t. inside (plan_of t)) (e ∙ V.rolls-Integer n)
    by_layer (D.Term-F.Text text) e = ap (λ t. inside (plan_of t)) (e ∙ V.rolls-Text text)
    by_layer (D.Term-F.Fill bytes named) e = ap (λ t. inside (plan_of t)) (e ∙ V.rolls-Fill bytes named)
    by_layer (D.Term-F.Word word) e = ap (λ t. inside (plan_of t)) (e ∙ V.rolls-Word word)
    by_layer (D.Term-F.Local n) e = ap (λ t. inside (plan_of t)) (e ∙ V.rolls-Local n)
    by_layer (D.Term-F.Arg n) e = ap (λ t. inside (plan_of t)) (e ∙ V.rolls-Arg n)
    by_layer (D.Term-F.Debug) e = ap (λ t. inside (plan_of t)) (e ∙ V.rolls-Debug)
    by_layer (D.Term-F.Omitted) e = ap (λ t. inside (plan_of t)) (e ∙ V.rolls-Omitted)
    by_layer (D.Term-F.Name p) e = ap (λ t. inside (plan_of t)) (e ∙ V.rolls-Name p)
    by_layer (D.Term-F.Unit segment bits) e = ap (λ t. inside (plan_of t)) (e ∙ V.rolls-Unit segment bits)
    by_layer (D.Term-F.Skip n) e = ap (λ t. inside (plan_of t)) (e ∙ V.rolls-Skip n)
    by_layer (D.Term-F.Offset n) e = ap (λ t. inside (plan_of t)) (e ∙ V.rolls-Offset n)
    by_layer (D.Term-F.Access access attribute count) e = ap (λ t. inside (plan_of t)) (e ∙ V.rolls-Access access attribute count)

pub alone_numbered : (t : Term) (at : At) (next : ℕ) → ((p : Path) (v : Vec Node Global) → t ≡ D.Call p v → ⊥) → ((o : Op) (v w : Vec Node Global) → t ≡ D.Form o v w → ⊥) → tree_of at t ≡ numbered at next (plan_of t)
unfolding plan_of tree_of numbered
alone_numbered t at next no_call no_form = by_layer (D.out-Term t) (sym (D.roll-out-Term t))
  where
    same_as : (u : Term) → t ≡ u → tree_of at u ≡ numbered at next (plan_of u) → tree_of at t ≡ numbered at next (plan_of t)
    same_as u e h = ap (tree_of at) e ∙ h ∙ sym (ap (λ t. numbered at next (plan_of t)) e)

    by_layer : (f : D.Term-F Term Node) → t ≡ D.roll-Term f → tree_of at t ≡ numbered at next (plan_of t)
    by_layer (D.Term-F.Call p v) e = absurd (no_call p v (e ∙ V.rolls-Call p v))
    by_layer (D.Term-F.Form o v w) e = absurd (no_form o v w (e ∙ V.rolls-Form o v w))
    by_layer (D.Term-F.Integer n) e = same_as (D.Integer n) (e ∙ V.rolls-Integer n) refl
    by_layer (D.Term-F.Text text) e = same_as (D.Text text) (e ∙ V.rolls-Text text) refl
    by_layer (D.Term-F.Fill bytes named) e = same_as (D.Fill bytes named) (e ∙ V.rolls-Fill bytes named) refl
    by_layer (D.Term-F.Word word) e = same_as (D.Word word) (e ∙ V.rolls-Word word) refl
    by_layer (D.Term-F.Local n) e = same_as (D.Local n) (e ∙ V.rolls-Local n) refl
    by_layer (D.Term-F.Arg n) e = same_as (D.Arg n) (e ∙ V.rolls-Arg n) refl
    by_layer (D.Term-F.Debug) e = same_as D.Debug (e ∙ V.rolls-Debug) refl
    by_layer (D.Term-F.Omitted) e = same_as D.Omitted (e ∙ V.rolls-Omitted) refl
    by_layer (D.Term-F.Name p) e = same_as (D.Name p) (e ∙ V.rolls-Name p) refl
    by_layer (D.Term-F.Unit segment bits) e = same_as (D.Unit segment bits) (e ∙ V.rolls-Unit segment bits) refl
    by_layer (D.Term-F.Skip n) e = same_as (D.Skip n) (e ∙ V.rolls-Skip n) refl
    by_layer (D.Term-F.Offset n) e = same_as (D.Offset n) (e ∙ V.rolls-Offset n) refl
    by_layer (D.Term-F.Access access attribute count) e = same_as (D.Access access attribute count) (e ∙ V.rolls-Access access attribute count) refl

-- ---- a term with its nodes numbered where they stand

pub call_inside : (t : Term) (path : Path) (args : Vec Node Global) → t ≡ D.Call path args → inside (plan_of t) ≡ nodes (plans_of args.items)
call_inside t path args e = ap (λ t. inside (plan_of t)) e ∙ ap inside (plan_call path args)

pub form_inside : (t : Term) (op : Op) (args body : Vec Node Global) → t ≡ D.Form op args body → inside (plan_of t) ≡ nodes (plans_of args.items) + nodes (plans_of body.items)
form_inside t op args body e = ap (λ t. inside (plan_of t)) e ∙ ap inside (plan_form op args body)

pub call_numbered : (at : At) (first : ℕ) (t : Term) (path : Path) (args made : Vec Node Global) → t ≡ D.Call path args → trees_of made.items ≡ numbered_all first (plans_of args.items) → tree_of at (D.Call path made) ≡ numbered at first (plan_of t)
call_numbered at first t path args made e h =
    tree_call at path made ∙ ap (Call at path) h ∙ sym (use_call at first path (plans_of args.items)) ∙ ap (numbered at first) (sym (ap plan_of e ∙ plan_call path args))

pub call_plan : (t : Term) (path : Path) (args made : Vec Node Global) → t ≡ D.Call path args → plans_of made.items ≡ plans_of args.items → plan_of (D.Call path made) ≡ plan_of t
call_plan t path args made e h = plan_call path made ∙ ap (a_call path) h ∙ sym (ap plan_of e ∙ plan_call path args)

pub form_numbered : (at : At) (first next : ℕ) (t : Term) (op : Op) (args body made terms : Vec Node Global) → t ≡ D.Form op args body → trees_of made.items ≡ numbered_all first (plans_of args.items) → next ≡ first + nodes (plans_of args.items) → trees_of terms.items ≡ numbered_all next (plans_of body.items)
    → tree_of at (D.Form op made terms) ≡ numbered at first (plan_of t)
form_numbered at first next t op args body made terms e a n b =
    tree_form at op made terms ∙ ap (λ ts. form at op ts (trees_of terms.items)) a ∙ ap (form at op (numbered_all first (plans_of args.items))) (b ∙ ap (λ k. numbered_all k (plans_of body.items)) n)
    ∙ sym (use_form at first op (plans_of args.items) (plans_of body.items)) ∙ ap (numbered at first) (sym (ap plan_of e ∙ plan_form op args body))

pub form_plan : (t : Term) (op : Op) (args body made terms : Vec Node Global) → t ≡ D.Form op args body → plans_of made.items ≡ plans_of args.items → plans_of terms.items ≡ plans_of body.items → plan_of (D.Form op made terms) ≡ plan_of t
form_plan t op args body made terms e a b =
    plan_form op made terms ∙ ap (λ ps. a_form op ps (plans_of terms.items)) a ∙ ap (a_form op (plans_of args.items)) b ∙ sym (ap plan_of e ∙ plan_form op args body)
