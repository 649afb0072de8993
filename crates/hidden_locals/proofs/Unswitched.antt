-- A program with Switches has the same sessions as with loops for them.
use Rattle.std.proofs.Common.{◌≡◌, ℕ, suc, ◌+◌, ◌<◌, ◌≤◌, Bool, true, false, List, length, refl, sym, ◌∙◌, arith}
use Rattle.std.specs.Prelude.{if◌then◌else◌, nat_eq}
use Rattle.acpi_values.specs.declared.width.Width.{Width}
use Rattle.acpi_values.specs.Values.{Value}
use Rattle.acpi_state.specs.Objects.{Names}
use Rattle.acpi_state.specs.Asked.{IsAsked}
use Rattle.acpi_state.specs.Sessions.{Request}
use Rattle.asl_tree.specs.Names.{Known}
use Rattle.asl_tree.specs.Tree.{Trees}
use Rattle.asl_meaning.specs.Meaning.{run_all}
use Rattle.asl_meaning.specs.SourceSession.{source_session}
use Rattle.hidden_locals.specs.Worlds.{World, shown_here, ClearFlow, ClearNames, Shows}
use Rattle.hidden_locals.specs.Runs.{Outside, From}
use Rattle.hidden_locals.specs.Locals.{locals_all, name_local}
use Rattle.hidden_locals.specs.Programs.{start_in, DoesAs}
use Rattle.hidden_locals.specs.Turns.{others, nth}
use Rattle.hidden_locals.specs.Switches.{depth_all, are_crossed, plan_of, without_switches, IsUnswitchable}
use Rattle.hidden_locals.proofs.Flows.{from_crossed}
use Rattle.hidden_locals.proofs.Sessions as Sessions
use Rattle.hidden_locals.proofs.Free.{others_small, others_differ, others_unnamed, past, unnamed_past, small_differs}
use Rattle.hidden_locals.proofs.Switches.{LevelFree, lists}

module _ (body : Trees) (w : World) (f : Shows (name_local body) w) where
  abbrev named : List ℕ
  named = locals_all body

  hidden : (k : ℕ) → name_local body k ≡ false → shown_here w k ≡ false
  hidden k e = f.exact k ∙ e

  level_free : (k : ℕ) → depth_all body ≤ length (others named) → ((level : ℕ) → level < depth_all body → nat_eq k (nth (others named) level) ≡ false) → (level : ℕ) → level < depth_all body → LevelFree w (plan_of body) k level
  level_free k enough other level lt =
      let within : level < length (others named) = omega (arith, enough, lt) in
      record { small = others_small named level within; other = other level lt; hidden = hidden (nth (others named) level) (others_unnamed named level within) }

-- a body does what it does with loops for its Switches
pub unswitched_does : (width : Width) (known : Known) (n : ℕ) (body : Trees) → IsUnswitchable body → DoesAs without_switches IsUnswitchable Outside width known (suc n) (name_local body) body (without_switches body)
unswitched_does width known n body h = record {
  by = λ call call' calls last w f scope due.
      let does : (k : ℕ) → name_local body k ≡ false → depth_all body ≤ length (others (locals_all body)) → ((level : ℕ) → level < depth_all body → nat_eq k (nth (others (locals_all body)) level) ≡ false) → (are_crossed body ≡ true → (k ≡ nth (others (locals_all body)) (depth_all body)) × (k < 8)) →
      From without_switches IsUnswitchable Outside w ClearFlow (λ f. f) (run_all width known (suc n) call body scope due) (run_all width known (suc n) call' (without_switches body) scope due) =
      λ k unnamed enough other flagged.
      from_crossed without_switches IsUnswitchable w k f.begun (hidden body w f k unnamed)
      (lists w (name_local body) (λ i e. f.exact i ∙ e) f.begun width known n call call' calls last (plan_of body) k (level_free body w f k enough other) body h.1 (λ i e. e) 0 (omega arith) false false
      (record { lowered = λ e. absurd (grind arith); flagged = flagged }) scope due) in
      by_crossed (are_crossed body) refl h.0 does;
}
  where
    by_crossed : (c : Bool) → are_crossed body ≡ c → depth_all body + (if c then 1 else 0) ≤ length (others (locals_all body)) → {X : Type 0} →
        ((k : ℕ) → name_local body k ≡ false → depth_all body ≤ length (others (locals_all body)) → ((level : ℕ) → level < depth_all body → nat_eq k (nth (others (locals_all body)) level) ≡ false) → (are_crossed body ≡ true → (k ≡ nth (others (locals_all body)) (depth_all body)) × (k < 8)) → X) → X
    by_crossed true e enough does =
        let within : depth_all body < length (others (locals_all body)) = omega (arith, enough) in
        does (nth (others (locals_all body)) (depth_all body)) (others_unnamed (locals_all body) (depth_all body) within) (omega (arith, enough)) (λ level lt. others_differ (locals_all body) level (depth_all body) lt within) (λ u. (refl, others_small (locals_all body) (depth_all body) within))
    by_crossed false e enough does =
        does (past (locals_all body)) (unnamed_past (locals_all body)) (omega (arith, enough))
        (λ level lt. small_differs (locals_all body) (nth (others (locals_all body)) level) (others_small (locals_all body) level (omega (arith, enough, lt)))) (λ u. absurd (grind (arith, e, u)))

-- every program whose terms, and whose methods' bodies, have Locals enough
pub same_unswitched : (width : Width) (known : Known) (n : ℕ) (terms : Trees) → IsUnswitchable terms → (there : Names) (answers : List Value) (requests : List Request) → ClearNames (start_in (name_local terms)) there → IsAsked width (suc n) answers requests →
    source_session width known (without_switches terms) there (suc n) answers requests ≡ source_session width known terms there (suc n) answers requests
same_unswitched width known n terms h there answers requests names asked =
    sym (Sessions.same_sessions without_switches IsUnswitchable name_local width known (suc n) (λ body h. unswitched_does width known n body h) (name_local terms) terms (without_switches terms) (unswitched_does width known n terms h) there answers requests names asked)
