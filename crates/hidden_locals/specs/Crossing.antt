-- The flag of an activation, a hidden Local which says that a Continue is on its way out of loops of one turn.
use Rattle.std.specs.Prelude.{◌≡◌, ℕ, Bool, true, false, if◌then◌else◌, List, Option, Some}
use Rattle.acpi_values.specs.declared.width.Width.{Width}
use Rattle.acpi_values.specs.Paths.{AbsolutePath}
use Rattle.acpi_values.specs.Values.{Value, Data, Integer}
use Rattle.acpi_state.specs.Outcomes.{Flow, Normal, Return, Result, Done, Stopped, Run, done, then_run, value_of}
use Rattle.acpi_state.specs.Outcomes as O
use Rattle.asl_tree.specs.Names.{Known}
use Rattle.asl_tree.specs.Tree.{Tree, Trees}
pub use Rattle.asl_meaning.specs.Continues.{NoContinue, Lasts, Lasting, has_continue, have_continue}
use Rattle.asl_meaning.specs.Meaning.{run}
use Rattle.hidden_locals.specs.Worlds.{World, ClearFlow}
use Rattle.hidden_locals.specs.Runs.{Veiled}
use Rattle.hidden_locals.specs.Steps.{Marked, Taken, Goes}

-- the flag is low, where that is known
abbrev pub FlagIs : Bool → Option Value → Type 0
FlagIs true o = o ≡ Some (Data (Integer 0))
FlagIs false o = Unit {0}

abbrev pub IsRaised : Option Value → Type 0
IsRaised o = o ≡ Some (Data (Integer 1))

abbrev pub FlagCrossing : Bool → Bool → Option Value → Type 0
FlagCrossing true low o = IsRaised o
FlagCrossing false low o = FlagIs low o

-- the flag after a term: a Continue inside loops of one turn raises it
abbrev pub FlagAfter : Bool → Bool → Flow → Option Value → Type 0
FlagAfter inside low O.Continue o = FlagCrossing inside low o
FlagAfter inside low f o = FlagIs low o

-- how the other side ends: inside loops of one turn a Continue leaves them as a Break
abbrev pub cross : Bool → Flow → Flow
cross inside O.Continue = if inside then O.Break else O.Continue
cross inside f = f

-- the same behind a loop of one turn, which never ends in another way
abbrev pub FlagBehind : Flow → Option Value → Type 0
FlagBehind (Normal false) o = FlagIs true o
FlagBehind O.Continue o = IsRaised o
FlagBehind (Return v) o = FlagIs true o
FlagBehind f o = ⊥

abbrev pub behind : Flow → Flow
behind O.Continue = Normal false
behind f = f

-- what is left of a flow behind terms that Break leaves: nothing but a Continue and a Return
abbrev pub past_break : Flow → Flow
past_break O.Continue = O.Continue
past_break (Return v) = Return v
past_break f = Normal false

-- the value of a term, and a run that goes on with it until a Break
abbrev pub value_at : Width → Known → ℕ → (AbsolutePath → List Value → Run Trees Flow) → Tree → AbsolutePath → Run Trees Value
value_at width known turns call value scope = then_run (run width known turns call value scope false) value_of

abbrev pub until_break : Run Trees Value → (Value → Run Trees Flow) → Run Trees Flow
until_break value with_value = then_run value (λ v. then_run (with_value v) (λ f. done (past_break f)))

module _ (convert : Trees → Trees) (IsKept : Trees → Type 0) (w : World) (flag : ℕ) where
  -- what holds after a term
  abbrev pub AfterTerm : (inside low : Bool) → Veiled → Flow → Type 0
  AfterTerm inside low t f = Marked w flag (FlagAfter inside low f) t × ClearFlow t.world f

  -- two runs of terms
  abbrev pub Crossed : (inside low : Bool) → Run Trees Flow → Run Trees Flow → Type 0
  Crossed inside low m m' = Goes convert IsKept (Marked w flag (FlagIs low)) (AfterTerm inside low) (cross inside) m m'

  -- a run, and a loop of one turn that a Continue crosses
  abbrev pub Looped : Run Trees Flow → Run Trees Flow → Type 0
  Looped m m' = Goes convert IsKept (Marked w flag (FlagIs true)) (λ t f. Marked w flag (FlagBehind f) t × ClearFlow t.world f) behind m m'

  -- the terms of such a loop do what is done with a value, which a hidden Local keeps for them
  abbrev pub Keeping : ℕ → Value → Run Trees Flow → Run Trees Flow → Type 0
  Keeping i v m m' = Goes convert IsKept (λ t. Taken w i flag (FlagIs true) t v) (AfterTerm true true) (cross true) m m'

  -- the same of a loop that no Continue crosses
  abbrev pub KeepingAll : (low : Bool) → ℕ → Value → Run Trees Flow → Run Trees Flow → Type 0
  KeepingAll low i v m m' = Goes convert IsKept (λ t. Taken w i flag (FlagIs low) t v) (λ t f. AfterTerm true low t f × NoContinue f)
      (cross true) m m'
