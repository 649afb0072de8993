-- The plans of nodes that are made or taken apart.
use Rattle.std.proofs.Common.{◌≡◌, List, [], ◌∷◌, Vec, Global, refl, ap, ◌∙◌}
use mathlib.Core.Former.{Count}
use Rattle.asl_tree.specs.declared.path.Path.{Path}
use Rattle.asl_tree.specs.declared.term.Op.{Op}
use Rattle.asl_tree.specs.declared.term.Node.{Node}
use Rattle.asl_tree.specs.declared.term.Term.{Term}
use Rattle.asl_tree.specs.declared.term.Term as D
use Rattle.term_plans.specs.Plans.{a_call, a_form, no_plans, plan, plan_of, row_plans, plans_of}

rows : (m : _) (row : D.Row_of-Node m) → row_plans row ≡ plans_of (D.items-the_row-Node m row)
unfolding plan_of plans_of
rows m D.end_of-Node = refl
rows m (D.more_of-Node id place term rest) = ap (λ ts. plan place (plan_of term) ts) (rows _ rest)

abbrev args_row : Term → (n : Count) × D.Row_of-Node n
args_row (D.Form' op shape args shape' body) = (_, args)
args_row (D.Call' path shape args) = (_, args)
args_row _ = (_, D.end_of-Node)

abbrev body_row : Term → (n : Count) × D.Row_of-Node n
body_row (D.Form' op shape args shape' body) = (_, body)
body_row _ = (_, D.end_of-Node)

pub plan_form : (op : Op) (args body : Vec Node Global) → plan_of (D.Form op args body) ≡ a_form op (plans_of args.items) (plans_of body.items)
unfolding plan_of
plan_form op args body =
    let a = args_row (D.Form op args body) in
    let b = body_row (D.Form op args body) in
    ap (λ ts. a_form op ts (row_plans b.1)) (rows a.0 a.1 ∙ ap plans_of (D.items_hidden-the_row-Node-0 args))
    ∙ ap (λ ts. a_form op (plans_of args.items) ts) (rows b.0 b.1 ∙ ap plans_of (D.items_hidden-the_row-Node-0 body))

pub plan_call : (path : Path) (args : Vec Node Global) → plan_of (D.Call path args) ≡ a_call path (plans_of args.items)
unfolding plan_of
plan_call path args =
    let a = args_row (D.Call path args) in
    ap (a_call path) (rows a.0 a.1 ∙ ap plans_of (D.items_hidden-the_row-Node-0 args))

pub no_plans_are : plans_of [] ≡ no_plans
unfolding plans_of
no_plans_are = refl

pub more_plans_are : (first : Node) (rest : List Node) → plans_of (first ∷ rest) ≡ plan first.place (plan_of first.term) (plans_of rest)
unfolding plans_of
more_plans_are first rest = refl

pub ruleset plan_rules = (plan_form, plan_call, no_plans_are, more_plans_are)
