-- Macros that stand for what their strings come to.
use Rattle.std.proofs.Common.{◌≡◌, ℕ, ◌<◌, length, get_or, List, sym, ap, ◌∙◌, Vec, Global}
use Rattle.iasl_messages.specs.declared.place.Place.{Place}
use Rattle.asl_tree.specs.declared.term.Op.{Op}
use Rattle.asl_tree.specs.declared.term.Special.{Special}
use Rattle.asl_tree.specs.declared.term.NamedDescriptor.{NamedDescriptor}
use Rattle.asl_tree.specs.declared.term.Node.{Node}
use Rattle.asl_tree.specs.declared.term.Term as D
use Rattle.term_plans.specs.Plans.{plan_of, plans_of, plan_at, a_form, a_fill, omitted}
use Rattle.asl_terms.specs.Terms.{buffer_plan}
use Rattle.term_plans.specs.Plans.{one_plan}
use Rattle.term_plans.proofs.Plans.{plan_form}
use Rattle.term_plans.proofs.Terms.{omitted_term, fill_term}
use Rattle.term_plans.proofs.Lists.{at_some, at_none, join_first}

pub buffer_is : (args body : Vec Node Global) (place : Place) (bytes : List ℕ) (named : List NamedDescriptor) → plans_of args.items ≡ one_plan place omitted → plans_of body.items ≡ one_plan place (a_fill bytes named) → plan_of (D.Form (Op.Special Special.Buffer) args body) ≡ buffer_plan place bytes named
buffer_is args body place bytes named e f = plan_form (Op.Special Special.Buffer) args body ∙ ap (λ ps. a_form (Op.Special Special.Buffer) ps (plans_of body.items)) e ∙ ap (a_form (Op.Special Special.Buffer) (one_plan place omitted)) f

pub first_some : (nodes : List Node) (d : Node) → 0 < length nodes → d ≡ get_or nodes 0 d → plan_of d.term ≡ plan_at (plans_of nodes) 0
first_some nodes d lt e = ap (λ (n : Node). plan_of n.term) e ∙ sym (at_some nodes 0 d lt)

pub ruleset buffer_rules = (omitted_term, fill_term, buffer_is, join_first)

pub ruleset first_rules = (omitted_term, first_some, at_none)
