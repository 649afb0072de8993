-- What a loop of one turn does.
use Rattle.std.proofs.Common.{◌≡◌, ℕ, suc, Bool, false, List, refl, sym, ap, ◌∙◌}
use Rattle.std.proofs.Math.Path.{fun_ext}
use Rattle.acpi_values.specs.declared.width.Width.{Width}
use Rattle.acpi_values.specs.Paths.{AbsolutePath}
use Rattle.acpi_values.specs.Values.{Value}
use Rattle.acpi_state.specs.State.{State}
use Rattle.acpi_state.specs.Outcomes.{Flow, Normal, Gives, NoValue, Break, Continue, Return, Result, Done, Stopped, Outcome, Run, done, next, then_run, on_flow}
use Rattle.acpi_state.specs.Loops.{is_true, after_turn, loop}
use Rattle.asl_tree.specs.Names.{Known}
use Rattle.asl_tree.specs.Tree.{Trees, no_trees, tree}
use Rattle.asl_tree.specs.Tree as T
use Rattle.asl_meaning.specs.Meaning as S
use Rattle.hidden_locals.specs.Turns.{one_word, then_trees, turn_of}

pub assoc_at : {B A C D : Type 0} (m : Run B A) (k : A → Run B C) (l : C → Run B D) (s : State B) → then_run (then_run m k) l s ≡ then_run m (λ a. then_run (k a) l) s
assoc_at {B} {A} m k l s = by_result (m s).result (m s).state
  where
    by_result : (r : Result A) (t : State B) → next (next r t k).result (next r t k).state l ≡ next r t (λ a. then_run (k a) l)
    by_result (Done a) t = refl
    by_result (Stopped x) t = refl

-- what a loop of one turn gives, by what its terms give
abbrev pub turned : {B : Type 0} → Run B Flow → Flow → Run B Flow
turned again Continue = again
turned again (Return v) = done (Return v)
turned again f = done (Normal false)

module _ (width : Width) (known : Known) (call : AbsolutePath → List Value → Run Trees Flow) where
  abbrev L : ℕ → Trees → AbsolutePath → Bool → Run Trees Flow
  L turns = S.run_all width known turns call

  -- terms and then Break
  with_break : (turns : ℕ) (terms : Trees) (scope : AbsolutePath) (due : Bool) (s : State Trees) → L turns (then_trees terms (tree T.Break no_trees)) scope due s ≡ then_run (L turns terms scope due) (λ f. on_flow f (λ d. done Break)) s
  with_break turns no_trees scope due s = refl
  with_break turns (tree t ts) scope due s =
      ap (λ (k : Flow → Run Trees Flow). then_run (S.run width known turns call t scope due) k s) (fun_ext (λ f. each f (λ d u. with_break turns ts scope d u)))
      ∙ sym (assoc_at (S.run width known turns call t scope due) (λ f. on_flow f (L turns ts scope)) (λ f. on_flow f (λ d. done Break)) s)
    where
      each : (f : Flow) → ((d : Bool) (u : State Trees) → L turns (then_trees ts (tree T.Break no_trees)) scope d u ≡ then_run (L turns ts scope d) (λ f. on_flow f (λ d. done Break)) u) →
          on_flow f (L turns (then_trees ts (tree T.Break no_trees)) scope) ≡ then_run (on_flow f (L turns ts scope)) (λ f. on_flow f (λ d. done Break))
      each (Normal d) h = fun_ext (λ u. h d u)
      each (Gives v) h = fun_ext (λ u. h false u)
      each NoValue h = fun_ext (λ u. h false u)
      each Break h = refl
      each Continue h = refl
      each (Return v) h = refl

  -- the turns that are left
  abbrev pub again : ℕ → ℕ → Trees → AbsolutePath → Run Trees Flow
  again bound turns terms scope = loop {X = Unit {0}} turns (then_run (S.size_by width known (S.run width known bound call one_word scope false)) (λ n. done (is_true n, tt))) (λ u. L bound (then_trees terms (tree T.Break no_trees)) scope false)

  -- the loop takes one turn, which every bound allows; only a Continue would begin another
  pub one_turn : (turns : ℕ) (terms : Trees) (scope : AbsolutePath) (due : Bool) (s : State Trees) →
      S.run width known (suc turns) call (turn_of terms) scope due s ≡ then_run (L (suc turns) terms scope false) (turned (again (suc turns) turns terms scope)) s
  one_turn turns terms scope due s =
      ap (λ (o : Outcome Trees Flow). next o.result o.state (λ f. after_turn f (again (suc turns) turns terms scope))) (with_break (suc turns) terms scope false s)
      ∙ by_result (L (suc turns) terms scope false s).result (L (suc turns) terms scope false s).state
    where
      by_result : (r : Result Flow) (t : State Trees) → next (next r t (λ f. on_flow f (λ d. done Break))).result (next r t (λ f. on_flow f (λ d. done Break))).state (λ f. after_turn f (again (suc turns) turns terms scope)) ≡ next r t (turned (again (suc turns) turns terms scope))
      by_result (Done (Normal d)) t = refl
      by_result (Done (Gives v)) t = refl
      by_result (Done NoValue) t = refl
      by_result (Done Break) t = refl
      by_result (Done Continue) t = refl
      by_result (Done (Return v)) t = refl
      by_result (Stopped x) t = refl
