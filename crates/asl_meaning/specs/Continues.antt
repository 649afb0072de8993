-- Terms that a Continue may leave, and runs that never end with one.
use Rattle.std.specs.Prelude.{Bool, true, false, ◌||◌}
use Rattle.acpi_state.specs.State.{State}
use Rattle.acpi_state.specs.Outcomes.{Flow, Result, Done, Stopped, Run}
use Rattle.acpi_state.specs.Outcomes as O
use Rattle.asl_tree.specs.Tree.{Tree, Container', Scope, If, ElseIf, Else, Switch, Case, Default, Continue, Trees, no_trees, tree}

-- no Continue
abbrev pub NoContinue : Flow → Type 0
NoContinue O.Continue = ⊥
NoContinue f = Unit {0}

-- a result that is no Continue
abbrev pub Lasts : Result Flow → Type 0
Lasts (Done f) = NoContinue f
Lasts (Stopped x) = Unit {0}

-- a run that never ends with one
pub record Lasting (m : Run Trees Flow) : Type 0 where
  pub by : (s : State Trees) → Lasts (m s).result

-- whether a Continue may leave a term
abbrev mutual
  pub has_continue : Tree → Bool
  has_continue Continue = true
  has_continue (Container' kind at name body) = have_continue body
  has_continue (Scope here at name body) = have_continue body
  has_continue (If test body) = have_continue body
  has_continue (ElseIf test body) = have_continue body
  has_continue (Else body) = have_continue body
  has_continue (Switch value cases) = have_continue cases
  has_continue (Case value body) = have_continue body
  has_continue (Default body) = have_continue body
  has_continue _ = false

  pub have_continue : Trees → Bool
  have_continue no_trees = false
  have_continue (tree term terms) = has_continue term || have_continue terms
