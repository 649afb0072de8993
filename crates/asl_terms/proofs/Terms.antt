-- How many terms stand in a Package, and what stands in a Case.
use Rattle.std.proofs.Common.{◌≡◌, suc, List, [], ◌∷◌, ◌++◌, length, append-nil, Vec, Global, refl, sym, ap, ◌∙◌, arith, ◌==◌, true, false, Some, None, if◌then◌else◌}
use Rattle.iasl_messages.specs.declared.message.Message.{Message}
use Rattle.asl_tree.specs.declared.path.Path.{Path}
use Rattle.asl_tree.specs.declared.term.Op.{Op}
use Rattle.asl_tree.specs.declared.term.Node.{Node}
use Rattle.asl_tree.specs.declared.term.Term.{Term}
use Rattle.asl_tree.specs.declared.term.Term as D
use Rattle.term_plans.specs.Plans.{plan_of, plans_of, how_many}
use Rattle.std.proofs.lemmas.Bool.Decides.{nat_tests}
use Rattle.term_plans.proofs.Plans.{plan_form, plan_call, no_plans_are, more_plans_are}
use Rattle.term_plans.proofs.Terms.{term_rules}
use Rattle.asl_terms.specs.Terms.{is_package, member_count, are_none, is_case_form, is_case_member}

pub nothing_more : (ms : List Message) → ms ++ [] ≡ ms
nothing_more ms = append-nil ms

-- as many plans as nodes
pub plan_count : (nodes : List Node) → how_many (plans_of nodes) ≡ length nodes
unfolding plans_of
plan_count [] = refl
plan_count (node ∷ nodes) = ap suc (plan_count nodes)

count_form : (o : Op) (args body : Vec Node Global) → member_count (plan_of (D.Form o args body)) ≡ (if is_package o then Some (length body.items) else None)
count_form o args body = ap member_count (plan_form o args body) ∙ ap (λ n. if is_package o then Some n else None) (plan_count body.items)

pub count_package : (o : Op) (args body : Vec Node Global) → is_package o ≡ true → member_count (plan_of (D.Form o args body)) ≡ Some (length body.items)
count_package o args body e = count_form o args body ∙ ap (λ b. if b then Some (length body.items) else None) e

pub count_other : (o : Op) (args body : Vec Node Global) → is_package o ≡ false → member_count (plan_of (D.Form o args body)) ≡ None
count_other o args body e = count_form o args body ∙ ap (λ b. if b then Some (length body.items) else None) e

pub count_call : (path : Path) (args : Vec Node Global) → member_count (plan_of (D.Call path args)) ≡ None
count_call path args = ap member_count (plan_call path args)

pub ruleset count_rules = (term_rules, count_package, count_other, count_call)

pub none_are : (nodes : List Node) → (length nodes == 0) ≡ are_none (plans_of nodes)
none_are [] = sym (ap are_none no_plans_are)
none_are (node ∷ nodes) = let e : (length (node ∷ nodes) == 0) ≡ false = grind (arith, nat_tests) in e ∙ sym (ap are_none (more_plans_are node nodes))

pub case_form : (t : Term) (op : Op) (args body : Vec Node Global) (xs ys : List Node) → t ≡ D.Form op args body → xs ≡ args.items → ys ≡ body.items → is_case_form op (plans_of xs) (plans_of ys) ≡ is_case_member (plan_of t)
case_form t op args body xs ys e a b =
    ap (λ ns. is_case_form op (plans_of ns) (plans_of ys)) a ∙ ap (λ ns. is_case_form op (plans_of args.items) (plans_of ns)) b ∙ sym (ap (λ t. is_case_member (plan_of t)) e ∙ ap is_case_member (plan_form op args body))
