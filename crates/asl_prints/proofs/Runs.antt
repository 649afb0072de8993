-- Runs one after another.
use Rattle.std.proofs.Common.{◌≡◌, refl, ap}
use Rattle.std.proofs.Math.Path.{fun_ext}
use Rattle.acpi_state.specs.State.{State}
use Rattle.acpi_state.specs.Outcomes.{Result, Done, Stopped, Run, next, then_run}

pub assoc_at : {B A C D : Type 0} (m : Run B A) (k : A → Run B C) (l : C → Run B D) (s : State B) → then_run (then_run m k) l s ≡ then_run m (λ a. then_run (k a) l) s
assoc_at {B} {A} m k l s = by_result (m s).result (m s).state
  where
    by_result : (r : Result A) (t : State B) → next (next r t k).result (next r t k).state l ≡ next r t (λ a. then_run (k a) l)
    by_result (Done a) t = refl
    by_result (Stopped x) t = refl

pub then_assoc : {B A C D : Type 0} (m : Run B A) (k : A → Run B C) (l : C → Run B D) → then_run (then_run m k) l ≡ then_run m (λ a. then_run (k a) l)
then_assoc m k l = fun_ext (λ s. assoc_at m k l s)

-- what follows a run may be replaced by what does the same
pub then_same : {B A C : Type 0} (m : Run B A) {k k' : A → Run B C} → ((a : A) → k a ≡ k' a) → then_run m k ≡ then_run m k'
then_same m h = ap (λ k. then_run m k) (fun_ext h)
