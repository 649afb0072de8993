-- What is told of the names of terms.
use Rattle.std.proofs.Common.{◌≡◌, ℕ, ◌<◌, Bool, false, true, List, [], ◌∷◌, length, get_or, Option, Some, None, is_some, refl, sym, ap, ◌∙◌, subst}
use Rattle.iasl_messages.specs.declared.message.Message.{Message}
use Rattle.iasl_messages.specs.declared.message.Stage.{Stage}
use Rattle.iasl_messages.specs.declared.message.Stage.TheVariants.{Refused as Refused'}
use Rattle.std.specs.Prelude.{map}
use Rattle.acpi_values.specs.Paths.{AbsolutePath}
use Rattle.acpi_names.specs.Paths.{number_in, is_flagged, is_named_in}
use Rattle.acpi_names.specs.Tables.{entry_at, Tabled, Flags}
use Rattle.acpi_names.proofs.Closed.{number_within}
use Rattle.acpi_names.specs.Errors.{NameError, name_errors, type_errors}
use Rattle.acpi_names.specs.Terms.{are_terms}
use Rattle.asl_numbers.specs.Numbers.{numbered_all}
use Rattle.term_plans.specs.Plans.{Plans}
use Rattle.asl_tree.specs.Tree.{Trees}
use Rattle.name_checks.specs.Refusals.{Refuses}
use Rattle.name_checks.specs.Messages.{message_of, first_errors, told_errors}
use Rattle.descriptor_fields.specs.Declaring.{names_descriptors}
use Rattle.descriptor_checks.specs.Resolved.{described_paths, resolved_terms}
use Rattle.descriptor_checks.specs.Told.{names_told, kinds_told}
use Rattle.descriptor_shapes.proofs.Blocks.{unnamed_paths, unnamed_resolved, unnamed_names, unnamed_kinds}
use Rattle.block_outcomes.specs.Joined.{first_told}
use Rattle.block_checks.specs.Told.{told_of_names}
use Rattle.block_checks.specs.Findings.{IsNamed}
use Rattle.block_checks.specs.declared.names.Findings.{Findings}
use Rattle.block_checks.specs.declared.names.Findings.TheVariants.{Wrong}

-- nothing is told of two classes where nothing is told of each
pub both_first : (messages others : List Message) → first_told messages others ≡ [] → (messages ≡ []) × (others ≡ [])
both_first [] others e = (refl, e)
both_first (m ∷ ms) others e = absurd cc

-- a stage that refuses
pub stage_named : (stage : Stage) (messages errors : List Message) (also : AbsolutePath → Bool) (terms : Trees) → Refuses stage errors → stage ≡ Refused' messages → IsNamed (Wrong messages) errors also terms
stage_named stage messages errors also terms h e =
    let refuses = subst (λ (s : Stage). Refuses s errors) e h in
    (refuses.0, λ none. refuses.1 (sym refuses.0 ∙ none))

-- no errors of names, nor of kinds
pub none_told : (terms : Trees) → name_errors terms ≡ [] → type_errors terms ≡ [] → told_errors terms ≡ []
none_told terms names types = by (name_errors terms) (type_errors terms) names types
  where
    by : (ns ts : List NameError) → ns ≡ [] → ts ≡ [] → map message_of (first_errors ns ts) ≡ []
    by [] [] en et = refl
    by [] (t ∷ ts) en et = absurd cc
    by (n ∷ ns) ts en et = absurd cc

module _ (ps : Plans) (none : names_descriptors ps ≡ false) (are : are_terms (numbered_all 0 ps) ≡ true) where
  unnamed_told : told_errors (numbered_all 0 ps) ≡ told_of_names ps
  unnamed_told = by (name_errors (numbered_all 0 ps)) (type_errors (numbered_all 0 ps)) (unnamed_names ps none are) (unnamed_kinds ps none are)
    where
      by : (ns ts : List NameError) → names_told ps ≡ map message_of ns → (ns ≡ [] → kinds_told ps ≡ map message_of ts) → map message_of (first_errors ns ts) ≡ first_told (names_told ps) (kinds_told ps)
      by [] ts names kinds = sym (ap (λ ms. first_told ms (kinds_told ps)) names ∙ kinds refl)
      by (n ∷ ns) ts names kinds = sym (ap (λ ms. first_told ms (kinds_told ps)) names)

  -- they are what is told of the terms alone, and no descriptor stands in the way of a name
  pub unnamed_named : (found : Findings) (terms : Trees) → terms ≡ numbered_all 0 ps → IsNamed found (told_errors terms) (λ path. false) terms → IsNamed found (told_of_names ps) (described_paths ps) (numbered_all 0 (resolved_terms ps))
  unnamed_named found terms is h =
      subst (λ qs. IsNamed found (told_of_names ps) (described_paths ps) (numbered_all 0 qs)) (sym (unnamed_resolved ps none))
      (subst (λ also. IsNamed found (told_of_names ps) also (numbered_all 0 ps)) (sym (unnamed_paths ps none))
      (subst (λ told. IsNamed found told (λ path. false) (numbered_all 0 ps)) unnamed_told (subst (λ ts. IsNamed found (told_errors ts) (λ path. false) ts) is h)))

-- ---- the paths of descriptors

module _ {A : Type 0} (paths : List AbsolutePath) (flags : List Bool) (table : List (Option A)) (look : AbsolutePath → Option A) (tabled : Tabled paths table look) (noted : (n : ℕ) → n < length paths → get_or flags n false ≡ is_some (get_or table n None)) where
  -- flags that note the entries of a table say which paths have these
  pub noted_flags : Flags paths flags (λ path. is_some (look path))
  noted_flags path = by_number (number_in paths path) refl ∙ ap is_some (tabled path)
    where
      by_number : (o : Option ℕ) → number_in paths path ≡ o → is_named_in paths flags path ≡ is_some (entry_at table (number_in paths path))
      by_number None e = ap (is_flagged flags) e ∙ sym (ap (λ o. is_some (entry_at table o)) e)
      by_number (Some n) e = ap (is_flagged flags) e ∙ noted n (number_within paths path n e) ∙ sym (ap (λ o. is_some (entry_at table o)) e)

-- no flags say that there are none
pub no_flags : (paths : List AbsolutePath) (flags : List Bool) → flags ≡ [] → Flags paths flags (λ path. false)
no_flags paths flags e path = ap (λ fs. is_named_in paths fs path) e ∙ by_number (number_in paths path)
  where
    by_number : (o : Option ℕ) → is_flagged [] o ≡ false
    by_number None = refl
    by_number (Some n) = refl
