-- The members of a Switch as they are written, and its Cases with a Default behind them.
use Rattle.std.proofs.Common.{◌≡◌, Bool, true, false, refl}
use Rattle.std.specs.Prelude.{◌||◌, if◌then◌else◌}
use Rattle.iasl_messages.specs.declared.place.Place.{Place}
use Rattle.asl_tree.specs.Tree.{Tree, Case, Default, Trees, no_trees, tree}
use Rattle.asl_words.specs.declared.operator.Body.{Body}
use Rattle.asl_words.specs.declared.operator.Body.TheVariants as braces
use Rattle.term_plans.specs.Plans.{Plan, Plans, no_plans, plan, join}
use Rattle.asl_terms.specs.Terms.{is_default_plan, default_last}
use Rattle.term_plans.specs.Plans.{one_plan}
use Rattle.asl_numbers.specs.Numbers.{numbered}
use Rattle.program_shapes.proofs.Fits.{FormedCases, IsCase, IsDefault, IsBranch}
use Rattle.program_shapes.proofs.Operators.{BodyFit}
use Rattle.program_shapes.proofs.Plans.{PlanAs, PlansAs, none_as, more_as}

abbrev pub BranchAs : Bool → Plan → Type 0
BranchAs true p = PlanAs IsDefault p
BranchAs false p = PlanAs IsCase p

-- a Case, or a Default where none stands before
abbrev pub IsBranchBehind : Bool → Plan → Type 0
IsBranchBehind defaulted p = BranchAs (is_default_plan p) p × (is_default_plan p ≡ true → defaulted ≡ false)

abbrev pub AreBranches : Bool → Plans → Type 0
AreBranches defaulted no_plans = Unit {0}
AreBranches defaulted (plan place p ps) = IsBranchBehind defaulted p × AreBranches (defaulted || is_default_plan p) ps

-- what is written in braces
abbrev pub ContentsFit : Body → Plans → Type 0
ContentsFit braces.Cases ps = AreBranches false ps
ContentsFit b ps = PlansAs (BodyFit b) ps

case_branch : (t : Tree) → IsCase t → IsBranch t
case_branch (Case value body) h = h
case_branch _ h = absurd h

default_branch : (t : Tree) → IsDefault t → IsBranch t
default_branch (Default body) h = h
default_branch _ h = absurd h

pub branch_as : (defaulted : Bool) (p : Plan) → IsBranchBehind defaulted p → PlanAs IsBranch p
branch_as defaulted p h = by (is_default_plan p) h.0
  where
    by : (b : Bool) → BranchAs b p → PlanAs IsBranch p
    by true k = λ at next. default_branch (numbered at next p) (k at next)
    by false k = λ at next. case_branch (numbered at next p) (k at next)

case_more : (t : Tree) (ts : Trees) → IsCase t → FormedCases ts → FormedCases (tree t ts)
case_more (Case value body) ts h k = (h.0, h.1, k)
case_more _ ts h k = absurd h

default_alone : (t : Tree) (ts : Trees) → IsDefault t → ts ≡ no_trees → FormedCases (tree t ts)
default_alone (Default body) no_trees h e = h
default_alone (Default body) (tree t ts) h e = absurd cc
default_alone _ ts h e = absurd h

no_truth : true ≡ false → ⊥
no_truth e = absurd cc

-- Cases with a Default behind them
cases_then : (ps : Plans) (place : Place) (d : Plan) → AreBranches true ps → PlanAs IsDefault d → PlansAs FormedCases (join ps (one_plan place d))
cases_then no_plans place d h k = more_as FormedCases (λ ts. ts ≡ no_trees) IsDefault place d no_plans default_alone k (none_as (λ ts. ts ≡ no_trees) refl)
cases_then (plan at p ps) place d h k = by (is_default_plan p) h.0.0 h.0.1 (cases_then ps place d h.1 k)
  where
    by : (b : Bool) → BranchAs b p → (b ≡ true → true ≡ false) → PlansAs FormedCases (join ps (one_plan place d)) → PlansAs FormedCases (plan at p (join ps (one_plan place d)))
    by true c never rest = absurd (no_truth (never refl))
    by false c never rest = more_as FormedCases FormedCases IsCase at p (join ps (one_plan place d)) case_more c rest

-- a Default stands behind the Cases of its Switch, wherever it is written
pub cases_arranged : (ps : Plans) → AreBranches false ps → PlansAs FormedCases (default_last ps)
cases_arranged no_plans h = none_as FormedCases tt
cases_arranged (plan place p ps) h = by (is_default_plan p) h.0.0 h.1 (cases_arranged ps)
  where
    by : (b : Bool) → BranchAs b p → AreBranches b ps → (AreBranches false ps → PlansAs FormedCases (default_last ps)) → PlansAs FormedCases (if b then join ps (one_plan place p) else plan place p (default_last ps))
    by true c k go = cases_then ps place p k c
    by false c k go = more_as FormedCases FormedCases IsCase place p (default_last ps) case_more c (go k)
