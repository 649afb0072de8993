-- A block without terms is formed.
use Rattle.std.proofs.Common.{◌≡◌, List, [], ◌∷◌, sym, subst, arith}
use Rattle.asl_tree.specs.declared.term.Node.{Node}
use Rattle.asl_tree.specs.declared.term.Term.{Term}
use Rattle.asl_tree.specs.declared.term.Term as D
use Rattle.asl_numbers.specs.Numbers.{numbered_all}
use Rattle.named_sessions.specs.Shaped.{AreFormed, AreNamed}
use Rattle.term_plans.specs.Plans.{plan, plan_of, plans_of, no_plans}

pub none_formed : (nodes : List Node) → nodes ≡ [] → AreFormed (Unit {0}) AreNamed (Unit {0}) (Unit {0}) (numbered_all 0 (plans_of nodes))
unfolding plans_of numbered_all
none_formed [] e = tt
none_formed (node ∷ nodes) e = absurd cc

argument_formed : (node : Node) → node.term ≡ D.Arg 0 → AreFormed (Unit {0}) AreNamed (Unit {0}) (Unit {0}) (numbered_all 0 (plans_of (node ∷ [])))
unfolding plans_of numbered_all plan_of
argument_formed node e = subst (λ (t : Term). AreFormed (Unit {0}) AreNamed (Unit {0}) (Unit {0}) (numbered_all 0 (plan node.place (plan_of t) no_plans))) (sym e) (omega arith, tt, tt)

-- and so is one of an argument alone
pub one_formed : (nodes : List Node) (node : Node) → nodes ≡ node ∷ [] → node.term ≡ D.Arg 0 → AreFormed (Unit {0}) AreNamed (Unit {0}) (Unit {0}) (numbered_all 0 (plans_of nodes))
one_formed nodes node e t = subst (λ (ns : List Node). AreFormed (Unit {0}) AreNamed (Unit {0}) (Unit {0}) (numbered_all 0 (plans_of ns))) (sym e) (argument_formed node t)
