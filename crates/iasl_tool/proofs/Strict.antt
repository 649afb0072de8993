-- Notes that are let pass, and whether a warning among them refuses a source.
use Rattle.std.proofs.Common.{◌≡◌, ℕ, Bool, true, false, List, [], ◌∷◌, refl, ap}
use Rattle.std.specs.Prelude.{◌&&◌, ◌||◌, not, All}
use Rattle.std.proofs.lemmas.List.Elements.{All-nil, All-cons, All-weaker}
use Rattle.std.proofs.lemmas.List.Folds.{list_any_none}
use Rattle.iasl_messages.specs.declared.message.Message.{Message}
use Rattle.iasl_messages.specs.declared.severity.Severity.{Severity}
use Rattle.iasl_messages.specs.declared.severity.Severity.TheVariants.{Remark, Warning, Error}
use Rattle.iasl_messages.specs.Severity.{severity_of, is_same}
use Rattle.iasl_options.specs.Asking.{Asked}
use Rattle.iasl_tool.specs.Told.{is_ignored}
use Rattle.iasl_tool.specs.Due.{has_warning}
use Rattle.iasl_tool.specs.Headline.{LetsPass}

-- a warning that is there is ignored
abbrev Passes : List (List ℕ) → Message → Type 0
Passes ignored note = severity_of note.number ≡ Warning → is_ignored ignored note.number ≡ true

fails_test : (severity : Severity) (is : Bool) → (severity ≡ Warning → is ≡ true) → (is_same Warning severity && not is) ≡ false
fails_test Remark is h = refl
fails_test Warning is h = ap not (h refl)
fails_test Error is h = refl

passes_test : (severity : Severity) (is : Bool) → (is_same Warning severity && not is) ≡ false → severity ≡ Warning → is ≡ true
passes_test Remark is e same = absurd cc
passes_test Warning true e same = refl
passes_test Warning false e same = absurd cc
passes_test Error is e same = absurd cc

no_warning : (ignored : List (List ℕ)) (notes : List Message) → All (Passes ignored) notes → has_warning ignored notes ≡ false
no_warning ignored notes h =
    list_any_none (λ (note : Message). is_same Warning (severity_of note.number) && not (is_ignored ignored note.number)) notes
    (All-weaker (Passes ignored) (λ (note : Message). (is_same Warning (severity_of note.number) && not (is_ignored ignored note.number)) ≡ false)
    (λ note. fails_test (severity_of note.number) (is_ignored ignored note.number)) notes h)

neither : (b c : Bool) → (b || c) ≡ false → (b ≡ false) × (c ≡ false)
neither true c h = absurd cc
neither false c h = (refl, h)

all_pass : (ignored : List (List ℕ)) (notes : List Message) → has_warning ignored notes ≡ false → All (Passes ignored) notes
all_pass ignored [] e = All-nil (Passes ignored)
all_pass ignored (note ∷ notes) e =
    let both = neither (is_same Warning (severity_of note.number) && not (is_ignored ignored note.number)) (has_warning ignored notes) e in
    All-cons (Passes ignored) note notes (passes_test (severity_of note.number) (is_ignored ignored note.number) both.0) (all_pass ignored notes both.1)

-- notes that are let pass refuse nothing
pub is_passed : (asked : Asked) (notes : List Message) → LetsPass asked notes → (asked.switches.strict && has_warning asked.ignored notes) ≡ false
is_passed asked notes h = by_strict asked.switches.strict h
  where
    by_strict : (strict : Bool) → (strict ≡ true → All (Passes asked.ignored) notes) → (strict && has_warning asked.ignored notes) ≡ false
    by_strict true k = no_warning asked.ignored notes (k refl)
    by_strict false k = refl

-- notes that refuse nothing are let pass
pub lets_pass : (asked : Asked) (notes : List Message) → (asked.switches.strict && has_warning asked.ignored notes) ≡ false → LetsPass asked notes
lets_pass asked notes e = by_strict asked.switches.strict e
  where
    by_strict : (strict : Bool) → (strict && has_warning asked.ignored notes) ≡ false → strict ≡ true → All (Passes asked.ignored) notes
    by_strict true k same = all_pass asked.ignored notes k
    by_strict false k same = absurd cc
