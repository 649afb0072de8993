-- Lists of terms that do what others do, but for Locals that these hide.
use Rattle.std.specs.Prelude.{ℕ, Bool, List, [], ◌∷◌}
use Rattle.acpi_values.specs.declared.width.Width.{Width}
use Rattle.acpi_values.specs.Paths.{AbsolutePath}
use Rattle.acpi_values.specs.Values.{Value}
use Rattle.acpi_state.specs.Outcomes.{Flow, Run}
use Rattle.asl_tree.specs.Names.{Known}
use Rattle.asl_tree.specs.Tree.{Trees}
use Rattle.asl_meaning.specs.Meaning.{run_all}
use Rattle.hidden_locals.specs.Worlds.{World, ClearAll, ClearFlow, Shows}
use Rattle.hidden_locals.specs.Runs.{Reach, Everywhere, From}
use Rattle.hidden_locals.specs.Crossing.{Lasting}

-- the world of a load whose shown Locals are these
abbrev pub start_in : (ℕ → Bool) → World
start_in shown = record { shown = shown ∷ []; running = 0 ∷ [] }

module _ (convert : Trees → Trees) (IsKept : Trees → Type 0) where
  -- two ways to call that do the same wherever the arguments are clear
  abbrev pub CallAlike : (call call' : AbsolutePath → List Value → Run Trees Flow) → Type 0
  CallAlike call call' = (w : World) (path : AbsolutePath) (args : List Value) → ClearAll w args →
      From convert IsKept Everywhere w ClearFlow (λ f. f) (call path args) (call' path args)

  -- in an activation that shows these Locals, the second terms do what the first do, if their calls do,
  -- which never end with a Continue; what the activations of the reach hide stays
  pub record DoesAs (reach : Reach) (width : Width) (known : Known) (turns : ℕ) (shown : ℕ → Bool) (terms terms' : Trees) : Type 0 where
    pub by : (call call' : AbsolutePath → List Value → Run Trees Flow) → CallAlike call call' →
        ((path : AbsolutePath) (args : List Value) → Lasting (call path args)) → (w : World) → Shows shown w →
        (scope : AbsolutePath) (due : Bool) →
        From convert IsKept reach w ClearFlow (λ f. f) (run_all width known turns call terms scope due)
        (run_all width known turns call' terms' scope due)
