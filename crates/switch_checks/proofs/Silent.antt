-- Where nothing is told, there are Locals enough.
use Rattle.std.proofs.Common.{◌≡◌, Bool, true, false, not, List, [], ◌∷◌, ◌++◌, refl}
use Rattle.iasl_messages.specs.declared.place.Place.{Place}
use Rattle.asl_tree.specs.Tree.{Tree, Method, Container', Scope, If, ElseIf, Else, While, For, Switch, Case, Default, Trees, no_trees, tree}
use Rattle.term_plans.specs.Plans.{Plan, Plans, plan_at}
use Rattle.hidden_locals.specs.Switches.{IsEnough, is_enough, HasLocals, HaveLocalsInside, HaveLocals}
use Rattle.hidden_locals.proofs.Enough.{enough_holds}
use Rattle.switch_checks.specs.Told.{told}
use Rattle.switch_checks.specs.Locals.{body_of, rest_of, own_error, method_errors, all_method_errors, few_locals}

first_none : {A : Type 0} (xs ys : List A) → xs ++ ys ≡ [] → xs ≡ []
first_none [] ys e = refl
first_none (x ∷ xs) ys e = absurd cc

last_none : {A : Type 0} (xs ys : List A) → xs ++ ys ≡ [] → ys ≡ []
last_none [] ys e = e
last_none (x ∷ xs) ys e = absurd cc

not_told : (enough : Bool) (place : Place) → told (not enough) 6061 place ≡ [] → enough ≡ true
not_told true place e = refl
not_told false place e = absurd cc

own_enough : (terms : Trees) (plans : Plans) → own_error terms plans ≡ [] → IsEnough terms
own_enough terms plans e = enough_holds terms (not_told (is_enough terms) _ e)

mutual
  methods_enough : (term : Tree) (p : Plan) → method_errors term p ≡ [] → HasLocals term
  methods_enough (Method at name flags body) p e =
      (own_enough body (body_of p) (first_none (own_error body (body_of p)) (all_method_errors body (body_of p)) e), all_enough body (body_of p) (last_none (own_error body (body_of p)) (all_method_errors body (body_of p)) e))
  methods_enough (Container' kind at name body) p e = all_enough body (body_of p) e
  methods_enough (Scope here at name body) p e = all_enough body (body_of p) e
  methods_enough (If test body) p e = all_enough body (body_of p) e
  methods_enough (ElseIf test body) p e = all_enough body (body_of p) e
  methods_enough (Else body) p e = all_enough body (body_of p) e
  methods_enough (While test body) p e = all_enough body (body_of p) e
  methods_enough (For start test step body) p e = all_enough body (body_of p) e
  methods_enough (Switch value cases) p e = all_enough cases (body_of p) e
  methods_enough (Case value body) p e = all_enough body (body_of p) e
  methods_enough (Default body) p e = all_enough body (body_of p) e
  methods_enough term p e = tt

  all_enough : (terms : Trees) (plans : Plans) → all_method_errors terms plans ≡ [] → HaveLocalsInside terms
  all_enough no_trees plans e = tt
  all_enough (tree term terms) plans e =
      let first = method_errors term (plan_at plans 0) in
      let others = all_method_errors terms (rest_of plans) in
      (methods_enough term (plan_at plans 0) (first_none first others e), all_enough terms (rest_of plans) (last_none first others e))

pub have_locals : (terms : Trees) (plans : Plans) → few_locals terms plans ≡ [] → HaveLocals terms
have_locals terms plans e =
    (own_enough terms plans (first_none (own_error terms plans) (all_method_errors terms plans) e), all_enough terms plans (last_none (own_error terms plans) (all_method_errors terms plans) e))
