-- The words of a field's list, by what their arguments come to.
use Rattle.std.proofs.Common.{◌≡◌, ℕ, ◌%◌, ◌<◌, ◌≤◌, length, get_or, List, None, sym, ap, ◌∙◌, Vec, Global}
use Rattle.asl_tree.specs.declared.path.Path.{Path}
use Rattle.asl_tree.specs.declared.term.Op.{Op}
use Rattle.asl_tree.specs.declared.term.Node.{Node}
use Rattle.asl_tree.specs.declared.term.Term as D
use Rattle.term_plans.specs.Plans.{plan_of, plans_of, plan_at, an_access, number_of}
use Rattle.asl_terms.specs.Terms.{accessed_as, connected_to}
use Rattle.term_plans.proofs.Plans.{plan_form, plan_call}
use Rattle.term_plans.proofs.Lists.{at_some, at_none}
use Rattle.term_plans.proofs.Terms.{omitted_term}

pub accessed_form : (access : ℕ) (o : Op) (args body : Vec Node Global) → accessed_as access (plan_of (D.Form o args body)) ≡ an_access access (number_of (plan_of (D.Form o args body)) % 256) None
accessed_form access o args body = ap (accessed_as access) (plan_form o args body) ∙ ap (λ p. an_access access (number_of p % 256) None) (sym (plan_form o args body))

pub accessed_call : (access : ℕ) (path : Path) (args : Vec Node Global) → accessed_as access (plan_of (D.Call path args)) ≡ an_access access (number_of (plan_of (D.Call path args)) % 256) None
accessed_call access path args = ap (accessed_as access) (plan_call path args) ∙ ap (λ p. an_access access (number_of p % 256) None) (sym (plan_call path args))

pub ruleset accessed_rules = (accessed_form, accessed_call)

pub connected_form : (o : Op) (args body : Vec Node Global) → connected_to (plan_of (D.Form o args body)) ≡ plan_of (D.Form o args body)
connected_form o args body = ap connected_to (plan_form o args body) ∙ sym (plan_form o args body)

pub connected_call : (path : Path) (args : Vec Node Global) → connected_to (plan_of (D.Call path args)) ≡ plan_of (D.Call path args)
connected_call path args = ap connected_to (plan_call path args) ∙ sym (plan_call path args)

pub ruleset connected_rules = (connected_form, connected_call)

pub access_some : (access : ℕ) (nodes : List Node) (d : Node) → 1 < length nodes → d ≡ get_or nodes 1 d → accessed_as access (plan_of d.term) ≡ accessed_as access (plan_at (plans_of nodes) 1)
access_some access nodes d lt e = ap (λ (n : Node). accessed_as access (plan_of n.term)) e ∙ ap (accessed_as access) (sym (at_some nodes 1 d lt))

pub access_none : (access : ℕ) (nodes : List Node) → length nodes ≤ 1 → accessed_as access (plan_of D.Omitted) ≡ accessed_as access (plan_at (plans_of nodes) 1)
access_none access nodes le = ap (accessed_as access) (omitted_term ∙ sym (at_none nodes 1 le))

pub ruleset access_rules = (access_some, access_none)
