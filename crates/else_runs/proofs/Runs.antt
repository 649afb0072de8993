-- Runs one after another, and an ElseIf that takes the Else behind it.
use Rattle.std.proofs.Common.{◌≡◌, ℕ, Bool, true, false, List, refl, sym, ap, ◌∙◌}
use Rattle.std.proofs.Math.Path.{fun_ext}
use Rattle.acpi_values.specs.declared.width.Width.{Width}
use Rattle.acpi_values.specs.Paths.{AbsolutePath}
use Rattle.acpi_values.specs.Values.{Value}
use Rattle.acpi_state.specs.State.{State}
use Rattle.acpi_state.specs.Outcomes.{Flow, Normal, Gives, NoValue, Result, Done, Stopped, Run, done, next, then_run, on_flow}
use Rattle.asl_tree.specs.Names.{Known}
use Rattle.asl_tree.specs.Tree.{Tree, If, Else, ElseIf, Trees, no_trees, tree}
use Rattle.asl_meaning.specs.Meaning as S
use Rattle.asl_meaning.specs.Meaning.{SourceRun}
use Rattle.else_runs.specs.Runs.{before, nested_in, nested_all}

pub assoc_at : {B A C D : Type 0} (m : Run B A) (k : A → Run B C) (l : C → Run B D) (s : State B) → then_run (then_run m k) l s ≡ then_run m (λ a. then_run (k a) l) s
assoc_at {B} {A} m k l s = by_result (m s).result (m s).state
  where
    by_result : (r : Result A) (t : State B) → next (next r t k).result (next r t k).state l ≡ next r t (λ a. then_run (k a) l)
    by_result (Done a) t = refl
    by_result (Stopped x) t = refl

pub then_assoc : {B A C D : Type 0} (m : Run B A) (k : A → Run B C) (l : C → Run B D) → then_run (then_run m k) l ≡ then_run m (λ a. then_run (k a) l)
then_assoc m k l = fun_ext (λ s. assoc_at m k l s)

pub then_unit : {B : Type 0} (m : Run B (Unit {0})) → then_run m (λ u. done tt) ≡ m
then_unit {B} m = fun_ext (λ s. by_result (m s).result (m s).state)
  where
    by_result : (r : Result (Unit {0})) (t : State B) → next r t (λ u. done tt) ≡ record { result = r; state = t }
    by_result (Done u) t = refl
    by_result (Stopped x) t = refl

-- no Else that follows is to run
abbrev pub NoDue : Result Flow → Type 0
NoDue (Done (Normal true)) = ⊥
NoDue _ = Unit {0}

abbrev pub NoElseIf : Trees → Type 0
NoElseIf (tree (ElseIf test body) rest) = ⊥
NoElseIf _ = Unit {0}

first_ok : (t : Tree) (ts : Trees) → NoElseIf (before t ts)
first_ok (ElseIf test body) (tree (Else other) rest) = tt
first_ok (ElseIf test body) ts = tt
first_ok t ts = tt

pub nested_ok : (ts : Trees) → NoElseIf (nested_all ts)
nested_ok no_trees = tt
nested_ok (tree t ts) = first_ok (nested_in t) (nested_all ts)

module _ (width : Width) (known : Known) (turns : ℕ) (call : AbsolutePath → List Value → SourceRun Flow) where
  abbrev R : Tree → AbsolutePath → Bool → SourceRun Flow
  R = S.run width known turns call

  abbrev L : Trees → AbsolutePath → Bool → SourceRun Flow
  L = S.run_all width known turns call

  pub ends : (ts : Trees) (scope : AbsolutePath) (due : Bool) (s : State Trees) → NoDue (L ts scope due s).result
  ends no_trees scope due s = tt
  ends (tree t ts) scope due s = by_result (R t scope due s).result (R t scope due s).state (λ d u. ends ts scope d u)
    where
      by_result : (r : Result Flow) (u : State Trees) → ((d : Bool) (u : State Trees) → NoDue (L ts scope d u).result) → NoDue (next r u (λ flow. on_flow flow (L ts scope))).result
      by_result (Done (Normal d)) u go = go d u
      by_result (Done (Gives v)) u go = go false u
      by_result (Done NoValue) u go = go false u
      by_result (Done _) u go = tt
      by_result (Stopped x) u go = tt

  abbrev last : Flow → SourceRun Flow
  last f = on_flow f (λ d. done (Normal false))

  -- what follows a term that asks for no Else
  past : (m : SourceRun Flow) (go : Bool → SourceRun Flow) (s : State Trees) → NoDue (m s).result → then_run (then_run m last) (λ f. on_flow f go) s ≡ then_run m (λ f. on_flow f go) s
  past m go s h = assoc_at m last (λ f. on_flow f go) s ∙ by_result (m s).result (m s).state h
    where
      by_result : (r : Result Flow) (u : State Trees) → NoDue r → next r u (λ f. then_run (last f) (λ f. on_flow f go)) ≡ next r u (λ f. on_flow f go)
      by_result (Done (Normal true)) u h = absurd h
      by_result (Done (Normal false)) u h = refl
      by_result (Done _) u h = refl
      by_result (Stopped x) u h = refl

  else_ends : (body : Trees) (scope : AbsolutePath) (due : Bool) (s : State Trees) → NoDue (R (Else body) scope due s).result
  else_ends body scope true s = ends body scope false s
  else_ends body scope false s = tt

  -- an If whose Else is inside
  with_else : (m : SourceRun Flow) (other rest : Trees) (scope : AbsolutePath) (s : State Trees) → then_run (then_run m (λ f. on_flow f (L (tree (Else other) no_trees) scope))) (λ f. on_flow f (L rest scope)) s ≡ then_run m (λ f. on_flow f (L (tree (Else other) rest) scope)) s
  with_else m other rest scope s = assoc_at m (λ f. on_flow f (L (tree (Else other) no_trees) scope)) (λ f. on_flow f (L rest scope)) s ∙ by_result (m s).result (m s).state
    where
      by_result : (r : Result Flow) (u : State Trees) → next r u (λ f. then_run (on_flow f (L (tree (Else other) no_trees) scope)) (λ f. on_flow f (L rest scope))) ≡ next r u (λ f. on_flow f (L (tree (Else other) rest) scope))
      by_result (Done (Normal d)) u = past (R (Else other) scope d) (L rest scope) u (else_ends other scope d u)
      by_result (Done (Gives v)) u = past (R (Else other) scope false) (L rest scope) u tt
      by_result (Done NoValue) u = past (R (Else other) scope false) (L rest scope) u tt
      by_result (Done _) u = refl
      by_result (Stopped x) u = refl

  -- an If with no Else
  no_else : (m : SourceRun Flow) (go : Bool → SourceRun Flow) (s : State Trees) → go true ≡ go false → then_run (then_run m last) (λ f. on_flow f go) s ≡ then_run m (λ f. on_flow f go) s
  no_else m go s e = assoc_at m last (λ f. on_flow f go) s ∙ by_result (m s).result (m s).state
    where
      by_result : (r : Result Flow) (u : State Trees) → next r u (λ f. then_run (last f) (λ f. on_flow f go)) ≡ next r u (λ f. on_flow f go)
      by_result (Done (Normal true)) u = ap (λ m. m u) (sym e)
      by_result (Done (Normal false)) u = refl
      by_result (Done _) u = refl
      by_result (Stopped x) u = refl

  abbrev IsFreeOfElse : Trees → Type 0
  IsFreeOfElse (tree (Else body) rest) = ⊥
  IsFreeOfElse (tree (ElseIf test body) rest) = ⊥
  IsFreeOfElse _ = Unit {0}

  pub due_free : (ts : Trees) (scope : AbsolutePath) → IsFreeOfElse ts → L ts scope true ≡ L ts scope false
  due_free no_trees scope h = refl
  due_free (tree (Else body) rest) scope h = absurd h
  due_free (tree (ElseIf test body) rest) scope h = absurd h
  due_free (tree t rest) scope h = refl

  before_at : (t : Tree) (ts : Trees) (scope : AbsolutePath) (due : Bool) (s : State Trees) → NoElseIf ts → L (before t ts) scope due s ≡ then_run (R t scope due) (λ f. on_flow f (L ts scope)) s
  before_at (ElseIf test body) (tree (ElseIf other more) rest) scope due s h = absurd h
  before_at (ElseIf test body) (tree (Else other) rest) scope false s h = refl
  before_at (ElseIf test body) (tree (Else other) rest) scope true s h = with_else (R (If test body) scope false) other rest scope s
  before_at (ElseIf test body) no_trees scope false s h = refl
  before_at (ElseIf test body) no_trees scope true s h = no_else (R (If test body) scope false) (L no_trees scope) s refl
  before_at (ElseIf test body) (tree t rest) scope false s h = refl
  before_at (ElseIf test body) (tree t rest) scope true s h = no_else (R (If test body) scope false) (L (tree t rest) scope) s (due_free (tree t rest) scope tt)
  before_at t ts scope due s h = refl

  pub before_same : (t : Tree) (ts : Trees) (scope : AbsolutePath) (due : Bool) → NoElseIf ts → L (before t ts) scope due ≡ then_run (R t scope due) (λ f. on_flow f (L ts scope))
  before_same t ts scope due h = fun_ext (λ s. before_at t ts scope due s h)
