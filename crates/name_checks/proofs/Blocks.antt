-- A block, and its mentions.
use Rattle.std.proofs.Common.{◌≡◌, true, List, [], ◌∷◌, map, length, arith, refl, sym, ap, ◌∙◌}
use Rattle.acpi_values.specs.Paths.{AbsolutePath}
use Rattle.iasl_messages.specs.declared.message.Message.{Message}
use Rattle.iasl_messages.specs.declared.message.Stage.{Stage}
use Rattle.iasl_messages.specs.declared.message.Stage.TheVariants as stage
use Rattle.name_checks.specs.Faults.{fault_as}
use Rattle.name_checks.specs.declared.fault.Fault.{Fault}
use Rattle.asl_tree.specs.Tree.{Trees}
use Rattle.asl_meaning.specs.Declarations.{nothing_declared}
use Rattle.acpi_names.specs.Errors.{NameError, whole_of, name_errors, type_errors}
use Rattle.acpi_names.specs.Mentions.{block_mentions, all_errors, all_types}
use Rattle.acpi_names.specs.Terms.{are_terms}
use Rattle.acpi_names.proofs.MentionErrors.{block_errors}
use Rattle.acpi_names.proofs.MentionTypes.{block_types}
use Rattle.name_kinds.specs.Seen.{seen}
use Rattle.name_kinds.proofs.Seeing.{block_seen}
use Rattle.name_checks.specs.Messages.{message_of, first_errors}
use Rattle.name_checks.specs.Refusals.{Refuses}

-- the errors of names of a block are those of its mentions
pub names_told : (terms : Trees) → are_terms terms ≡ true → all_errors (seen (block_mentions terms [] nothing_declared)) (block_mentions terms [] nothing_declared) nothing_declared ≡ name_errors terms
names_told terms are =
    ap (λ w. all_errors w (block_mentions terms [] nothing_declared) nothing_declared) (block_seen terms are) ∙ sym (block_errors (whole_of terms) terms are [] nothing_declared)

-- and those of kinds, where nothing is wrong with its names
pub kinds_told : (terms : Trees) → are_terms terms ≡ true → name_errors terms ≡ [] → all_types (seen (block_mentions terms [] nothing_declared)) (block_mentions terms [] nothing_declared) ≡ type_errors terms
kinds_told terms are none =
    ap (λ w. all_types w (block_mentions terms [] nothing_declared)) (block_seen terms are) ∙ sym (block_types (whole_of terms) terms are [] nothing_declared none)

-- nothing is told where nothing is wrong, and only there
pub none_wrong : (errors : List NameError) (told : List Message) → told ≡ map message_of errors → length told ≡ 0 → errors ≡ []
none_wrong [] told e h = refl
none_wrong (x ∷ errors) told e h = absurd (omega (arith, ap length e, h))

pub some_wrong : (errors : List NameError) (told : List Message) → told ≡ map message_of errors → (length told ≡ 0 → ⊥) → map message_of errors ≡ [] → ⊥
some_wrong errors told e some none = some (ap length (e ∙ none))

-- the first errors are those of names, where there are any, or else those of kinds
pub first_kinds : (names kinds : List NameError) → names ≡ [] → map message_of kinds ≡ map message_of (first_errors names kinds)
first_kinds [] kinds none = refl
first_kinds (x ∷ names) kinds none = absurd (cc)

pub none_first : (names kinds : List NameError) → names ≡ [] → kinds ≡ [] → first_errors names kinds ≡ []
none_first [] kinds none h = h
none_first (x ∷ names) kinds none h = absurd (cc)

pub refuses_first : (s : Stage) (names kinds : List NameError) → Refuses s (map message_of names) → Refuses s (map message_of (first_errors names kinds))
refuses_first (stage.Refused messages) [] kinds h = absurd (h.1 refl)
refuses_first (stage.Refused messages) (x ∷ names) kinds h = h
refuses_first stage.Memory names kinds h = h

fused : (paths : List AbsolutePath) (faults : List Fault) → map (λ f. message_of (fault_as paths f)) faults ≡ map message_of (map (fault_as paths) faults)
fused paths [] = refl
fused paths (f ∷ faults) = ap (λ ms. message_of (fault_as paths f) ∷ ms) (fused paths faults)

-- the messages of the faults that are found
pub faults_told : (paths : List AbsolutePath) (faults : List Fault) (errors : List Message) (found : List NameError) → errors ≡ map (λ f. message_of (fault_as paths f)) faults → map (fault_as paths) faults ≡ found → errors ≡ map message_of found
faults_told paths faults errors found e h = e ∙ fused paths faults ∙ ap (map message_of) h
