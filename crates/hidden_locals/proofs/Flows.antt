-- Runs that never end with a Continue, and terms that stand in no loop of one turn.
use Rattle.std.proofs.Common.{◌≡◌, ℕ, false, refl, ap, ◌∙◌, subst}
use Rattle.acpi_state.specs.Outcomes.{Flow, Result, Done, Stopped, map_result, Outcome, Run}
use Rattle.acpi_state.specs.Outcomes as O
use Rattle.asl_tree.specs.Tree.{Trees}
use Rattle.hidden_locals.specs.Worlds.{World, shown_here, ClearFlow, AreBegun}
use Rattle.hidden_locals.specs.Runs.{Veiled, Everywhere, Outside, left, right, Ends, From}
use Rattle.hidden_locals.specs.Steps.{EndsAt}
use Rattle.hidden_locals.specs.Crossing.{cross, AfterTerm, Lasts, Lasting, Crossed}
use Rattle.hidden_locals.proofs.Steps.{hidden_here}
use Rattle.hidden_locals.proofs.Crossing.{ClearNoContinue}

module _ (convert : Trees → Trees) (IsKept : Trees → Type 0) where
  -- a run that ends with no Continue
  pub from_lasting : (w : World) {m m' : Run Trees Flow} → Lasting m → From convert IsKept Everywhere w ClearFlow (λ f. f) m m' → From convert IsKept Everywhere w ClearNoContinue (λ f. f) m m'
  from_lasting w {m = m} h g = record { by = λ j later fine. let e = g.by j later fine in record { result = e.result; end = e.end; later = e.later; fine = e.fine; holds = both e.result e.end e.holds (subst Lasts (ap (λ (o : Outcome Trees Flow). o.result) e.left_is) (h.by (left convert IsKept j))); keeps = e.keeps; left_is = e.left_is; right_is = e.right_is } }
    where
      both : (r : Result Flow) (t : Veiled) → Ends convert IsKept ClearFlow r t → Lasts r → Ends convert IsKept ClearNoContinue r t
      both (Done f) t p q = (p, q)
      both (Stopped x) t p q = tt

  -- terms that stand in no loop of one turn, whatever flag they use
  pub from_crossed : (w : World) (k : ℕ) {m m' : Run Trees Flow} → AreBegun w w.running → shown_here w k ≡ false → Crossed convert IsKept w k false false m m' → From convert IsKept Outside w ClearFlow (λ f. f) m m'
  from_crossed w k begun hidden h = record {
    by = λ j later fine. let e = h.by j fine (record { later = later; hidden = hidden_here w j.world k begun later hidden; holds = tt }) in
        record { result = e.result; end = e.end; later = e.later; fine = e.fine; holds = clear e.result e.end e.holds; keeps = e.keeps; left_is = e.left_is; right_is = e.right_is ∙ ap (λ r. record { result = r; state = right convert IsKept e.end }) (same e.result) };
  }
    where
      clear : (r : Result Flow) (t : Veiled) → EndsAt convert IsKept (AfterTerm convert IsKept w k false false) r t → Ends convert IsKept ClearFlow r t
      clear (Done f) t p = p.1
      clear (Stopped x) t p = tt

      same : (r : Result Flow) → map_result (cross false) r ≡ map_result (λ f. f) r
      same (Done O.Continue) = refl
      same (Done f) = refl
      same (Stopped x) = refl
