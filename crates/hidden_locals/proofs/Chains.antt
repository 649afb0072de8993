-- The chain of a Switch's Cases, and its Default.
use Rattle.std.proofs.Common.{◌≡◌, ℕ, Bool, true, false, refl, ap, ◌∙◌, subst}
use Rattle.std.proofs.Math.Path.{fun_ext}
use Rattle.std.specs.Prelude.{if◌then◌else◌, List}
use Rattle.acpi_values.specs.declared.width.Width.{Width}
use Rattle.acpi_values.specs.Paths.{AbsolutePath}
use Rattle.acpi_values.specs.Values.{Value}
use Rattle.acpi_state.specs.State.{State}
use Rattle.acpi_state.specs.Outcomes.{Flow, Normal, Gives, NoValue, Break, Continue, Return, Result, Done, Stopped, Outcome, Run, done, next, then_run, act, value_of, on_flow}
use Rattle.acpi_state.specs.Acts.{number_of}
use Rattle.acpi_state.specs.Loops.{is_true}
use Rattle.asl_tree.specs.Names.{Known}
use Rattle.asl_tree.specs.Tree.{Tree, If, ElseIf, Else, Case, Default, Trees, no_trees, tree}
use Rattle.asl_meaning.specs.Meaning as S
use Rattle.hidden_locals.specs.Worlds.{World}
use Rattle.hidden_locals.specs.Runs.{Veiled, left}
use Rattle.hidden_locals.specs.Steps.{Taken, EndsAt, Goes}
use Rattle.hidden_locals.specs.Crossing.{FlagIs, cross, NoContinue, Lasts, Lasting, AfterTerm, Crossed}
use Rattle.hidden_locals.specs.Turns.{Plan}
use Rattle.hidden_locals.specs.Switches.{opened, links, default_link}
use Rattle.hidden_locals.proofs.Steps.{goes_then, goes_so, goes_to, goes_done}
use Rattle.hidden_locals.proofs.Turns.{assoc_at}
use Rattle.hidden_locals.proofs.Tests.{truth_flow, truth_is, Tests}

-- ElseIfs, and an Else behind them or none
abbrev pub AreBranches : Trees → Type 0
AreBranches no_trees = Unit {0}
AreBranches (tree (ElseIf test body) rest) = AreBranches rest
AreBranches (tree (Else body) no_trees) = Unit {0}
AreBranches terms = ⊥

pub links_are_branches : (plan : Plan) (level : ℕ) (cases default : Trees) → AreBranches default → AreBranches (links plan level cases default)
links_are_branches plan level no_trees default h = h
links_are_branches plan level (tree (Case value body) rest) default h = links_are_branches plan level rest default h
links_are_branches plan level (tree t rest) default h = links_are_branches plan level rest default h

pub default_is_branch : (plan : Plan) (level : ℕ) (cases : Trees) → AreBranches (default_link plan level cases)
default_is_branch plan level no_trees = tt
default_is_branch plan level (tree (Default body) rest) = tt
default_is_branch plan level (tree t rest) = default_is_branch plan level rest

module _ (width : Width) (known : Known) (turns : ℕ) (call : AbsolutePath → List Value → Run Trees Flow) where
  abbrev R : Tree → AbsolutePath → Bool → Run Trees Flow
  R = S.run width known turns call

  abbrev L : Trees → AbsolutePath → Bool → Run Trees Flow
  L = S.run_all width known turns call

  -- a list never ends with an Else that is to run
  pub list_ends : (ts : Trees) (scope : AbsolutePath) (due : Bool) (go : Bool → Run Trees Flow) → go false ≡ done (Normal false) → (s : State Trees) → then_run (L ts scope due) (λ f. on_flow f go) s ≡ L ts scope due s
  list_ends no_trees scope due go e s = ap (λ (m : Run Trees Flow). m s) e
  list_ends (tree t ts) scope due go e s =
      assoc_at (R t scope due) (λ f. on_flow f (L ts scope)) (λ f. on_flow f go) s
      ∙ ap (λ (k : Flow → Run Trees Flow). then_run (R t scope due) k s) (fun_ext (λ f. each f (λ d u. list_ends ts scope d go e u)))
    where
      each : (f : Flow) → ((d : Bool) (u : State Trees) → then_run (L ts scope d) (λ f. on_flow f go) u ≡ L ts scope d u) → then_run (on_flow f (L ts scope)) (λ f. on_flow f go) ≡ on_flow f (L ts scope)
      each (Normal d) h = fun_ext (λ u. h d u)
      each (Gives v) h = fun_ext (λ u. h false u)
      each NoValue h = fun_ext (λ u. h false u)
      each Break h = refl
      each Continue h = refl
      each (Return v) h = refl

  -- what follows the test of a Case
  abbrev after_test : Trees → Trees → AbsolutePath → Flow → Run Trees Flow
  after_test body rest scope f =
      then_run (then_run (then_run (value_of f) (λ v. act (number_of width v))) (λ n. if is_true n then L body scope false else done (Normal true))) (λ f. on_flow f (L rest scope))

  case_runs : (test : Tree) (body rest : Trees) (scope : AbsolutePath) (due : Bool) (s : State Trees) → L (tree (If test body) rest) scope due s ≡ then_run (R test scope false) (after_test body rest scope) s
  case_runs test body rest scope due s = by_test (R test scope false s).result (R test scope false s).state
    where
      by_test : (r : Result Flow) (t : State Trees) →
          (let a = next r t value_of in let n = next a.result a.state (λ v. act (number_of width v)) in let b = next n.result n.state (λ n. if is_true n then L body scope false else done (Normal true)) in next b.result b.state (λ f. on_flow f (L rest scope)))
          ≡ next r t (after_test body rest scope)
      by_test (Done f) t = refl
      by_test (Stopped x) t = refl

  case_tested : (b : Bool) (body rest : Trees) (scope : AbsolutePath) (s : State Trees) → after_test body rest scope (truth_flow width b) s ≡ then_run (if b then L body scope false else done (Normal true)) (λ f. on_flow f (L rest scope)) s
  case_tested b body rest scope s = ap (λ c. then_run (if c then L body scope false else done (Normal true)) (λ f. on_flow f (L rest scope)) s) (truth_is width b)

  -- the branches behind a Case, where it ran and where it did not
  branches_passed : (rest : Trees) → AreBranches rest → (scope : AbsolutePath) → L rest scope false ≡ done (Normal false)
  branches_passed no_trees h scope = refl
  branches_passed (tree (ElseIf test body) rest) h scope = branches_passed rest h scope
  branches_passed (tree (Else body) no_trees) h scope = refl
  branches_passed (tree (Else body) (tree t ts)) h scope = absurd h
  branches_passed (tree t ts) h scope = absurd h

  branches_run : (rest : Trees) → AreBranches rest → (scope : AbsolutePath) (s : State Trees) → L rest scope true s ≡ L (opened rest) scope false s
  branches_run no_trees h scope s = refl
  branches_run (tree (ElseIf test body) rest) h scope s = refl
  branches_run (tree (Else body) no_trees) h scope s = list_ends body scope false (L no_trees scope) refl s
  branches_run (tree (Else body) (tree t ts)) h scope s = absurd h
  branches_run (tree t ts) h scope s = absurd h

module _ (convert : Trees → Trees) (IsKept : Trees → Type 0) where
  -- what a run that never ends with a Continue goes to
  pub goes_lasting : {Before : Veiled → Type 0} {After : Veiled → Flow → Type 0} {c : Flow → Flow} {m m' : Run Trees Flow} → Lasting m → Goes convert IsKept Before After c m m' → Goes convert IsKept Before (λ t f. After t f × NoContinue f) c m m'
  goes_lasting {After = After} {m = m} h g = record { by = λ j fine before. let e = g.by j fine before in record { result = e.result; end = e.end; later = e.later; fine = e.fine; holds = both e.result e.end e.holds (subst Lasts (ap (λ (o : Outcome Trees Flow). o.result) e.left_is) (h.by (left convert IsKept j))); keeps = e.keeps; left_is = e.left_is; right_is = e.right_is } }
    where
      both : (r : Result Flow) (t : Veiled) → EndsAt convert IsKept After r t → Lasts r → EndsAt convert IsKept (λ t f. After t f × NoContinue f) r t
      both (Done f) t p q = (p, q)
      both (Stopped x) t p q = tt

  module _ (w : World) (i k : ℕ) (low : Bool) (v : Value) (width : Width) (known : Known) (turns : ℕ) (call call' : AbsolutePath → List Value → Run Trees Flow) where
    abbrev pub Chained : Run Trees Flow → Run Trees Flow → Type 0
    Chained m m' = Goes convert IsKept (λ t. Taken w i k (FlagIs low) t v) (AfterTerm convert IsKept w k true low) (cross true) m m'

    -- a Case that is tested, and those behind it
    pub chained_case : (hits : Run Trees Bool) (others : Run Trees Flow) (test : Tree) (body body' : Trees) (rest : Trees) → AreBranches rest → (scope : AbsolutePath) →
        Tests convert IsKept w i k (FlagIs low) v width known turns call call' hits (S.run width known turns call' test scope false) → Crossed convert IsKept w k true low (S.run_all width known turns call body scope false) (S.run_all width known turns call' body' scope false) → Chained others (S.run_all width known turns call' (opened rest) scope false) →
        Chained (then_run hits (λ hit. if hit then S.run_all width known turns call body scope false else others)) (S.run_all width known turns call' (tree (If test body') rest) scope false)
    chained_case hits others test body body' rest h scope ht hb ho =
        goes_to convert IsKept (fun_ext (λ s. case_runs width known turns call' test body' rest scope false s))
        (goes_then convert IsKept (AfterTerm convert IsKept w k true low) (cross true) (after_test width known turns call' body' rest scope) ht
        (λ hit. goes_to convert IsKept (fun_ext (λ s. case_tested width known turns call' hit body' rest scope s)) (by_hit hit)))
      where
        by_hit : (hit : Bool) → Chained (if hit then S.run_all width known turns call body scope false else others) (then_run (if hit then S.run_all width known turns call' body' scope false else done (Normal true)) (λ f. on_flow f (S.run_all width known turns call' rest scope)))
        by_hit true = goes_to convert IsKept (fun_ext (λ s. list_ends width known turns call' body' scope false (S.run_all width known turns call' rest scope) (branches_passed width known turns call' rest h scope) s)) (goes_so convert IsKept (λ j taken. taken.other) (λ t f p. p) hb)
        by_hit false = goes_to convert IsKept (fun_ext (λ s. branches_run width known turns call' rest h scope s)) ho

    -- nothing is left to do
    pub chained_end : Chained (done (Normal false)) (done (Normal false))
    chained_end = goes_done convert IsKept (λ t. Taken w i k (FlagIs low) t v) (AfterTerm convert IsKept w k true low) (cross true) (Normal false) (λ j taken. (taken.other, tt))
