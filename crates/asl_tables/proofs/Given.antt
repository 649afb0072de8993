-- No value is left out of a formed program of which a Switch chooses.
use Rattle.std.proofs.Common.{◌≡◌, sym, subst}
use Rattle.asl_tree.specs.Tree.{Tree, Omitted, Package, VarPackage, Method, Container', Scope, If, ElseIf, Else, While, Switch, Case, Default, Trees, no_trees, tree}
use Rattle.named_sessions.specs.Shaped.{AreNamed, IsCaseMember, AreCaseMembers, HaveCaseMembers, IsCaseValue, IsFormed, AreFormed, AreFormedCases}
use Rattle.asl_prints.specs.Forms.{formed_all}
use Rattle.form_shapes.specs.Near.{AreNear}
use Rattle.form_shapes.proofs.Formed.{forms_formed}
use Rattle.switch_loops.specs.Given.{HasValue, HaveValues, HasCaseValue, IsGiven, AreGiven}

abbrev Formed : Tree → Type 0
Formed = IsFormed ⊥ AreNamed (Unit {0}) (Unit {0})

abbrev FormedTerms : Trees → Type 0
FormedTerms = AreFormed ⊥ AreNamed (Unit {0}) (Unit {0})

value_given : (t : Tree) → Formed t → HasValue t
value_given Omitted h = absurd h
value_given _ h = tt

member_given : (t : Tree) → IsCaseMember t → HasValue t
member_given Omitted h = absurd h
member_given _ h = tt

members_given : (ts : Trees) → AreCaseMembers ts → HaveValues ts
members_given no_trees h = tt
members_given (tree t ts) h = (member_given t h.0, members_given ts h.1)

some_given : (ts : Trees) → HaveCaseMembers ts → HaveValues ts
some_given no_trees h = absurd h
some_given (tree t ts) h = members_given (tree t ts) h

case_given : (t : Tree) → IsCaseValue t → HasCaseValue t
case_given (Package n members) h = some_given members h
case_given (VarPackage size members) h = some_given members h.1
case_given Omitted h = absurd h
case_given _ h = tt

mutual
  term_given : (t : Tree) → Formed t → IsGiven t
  term_given (If test body) h = terms_given body h.2
  term_given (ElseIf test body) h = terms_given body h.2
  term_given (Else body) h = terms_given body h
  term_given (While test body) h = terms_given body h.2
  term_given (Container' kind at name body) h = terms_given body h.2
  term_given (Scope here at name body) h = terms_given body h.1
  term_given (Method at name flags body) h = terms_given body h.2
  term_given (Switch value cases) h = (value_given value h.2, cases_given cases h.3)
  term_given (Case value body) h = absurd h
  term_given (Default body) h = absurd h
  term_given _ h = tt

  terms_given : (ts : Trees) → FormedTerms ts → AreGiven ts
  terms_given no_trees h = tt
  terms_given (tree t ts) h = (term_given t h.0, terms_given ts h.2)

  cases_given : (ts : Trees) → AreFormedCases ⊥ AreNamed (Unit {0}) (Unit {0}) ts → AreGiven ts
  cases_given no_trees h = tt
  cases_given (tree (Case value body) ts) h = ((case_given value h.0, terms_given body h.1), cases_given ts h.2)
  cases_given (tree (Default body) no_trees) h = (terms_given body h, tt)
  cases_given (tree _ _) h = absurd h

-- nor of what stands for its Fors and for what prints
pub forms_given : (terms made : Trees) → AreFormed (Unit {0}) AreNamed (Unit {0}) (Unit {0}) terms → AreNear terms → made ≡ formed_all terms → AreGiven made
forms_given terms made h near e = subst AreGiven (sym e) (terms_given (formed_all terms) (forms_formed AreNamed (Unit {0}) (Unit {0}) terms h near))
