-- Where the parts of a plan stand.
use Rattle.std.specs.Prelude.{ℕ, List}
use Rattle.std.specs.List.{AllByRecursion}
use Rattle.asl_tree.specs.declared.term.NamedDescriptor.{NamedDescriptor}
use Rattle.term_plans.specs.Plans.{Plan, a_fill, a_call, a_form, Plans, no_plans, plan}
use Rattle.term_plans.specs.Places.{IsIn}

-- the names of descriptors stand in some of so many files
abbrev pub NamesWithin : ℕ → List NamedDescriptor → Type 0
NamesWithin files = AllByRecursion (λ (named : NamedDescriptor). IsIn files named.place)

-- each part of the plan, at any depth, stands in one of so many files
abbrev mutual
  pub PlanWithin : ℕ → Plan → Type 0
  PlanWithin files (a_fill bytes named) = NamesWithin files named
  PlanWithin files (a_call name args) = PlansWithin files args
  PlanWithin files (a_form op args body) = PlansWithin files args × PlansWithin files body
  PlanWithin files _ = Unit {0}

  pub PlansWithin : ℕ → Plans → Type 0
  PlansWithin files no_plans = Unit {0}
  PlansWithin files (plan place p ps) = IsIn files place × PlanWithin files p × PlansWithin files ps
