-- A program without the terms that declare descriptors, numbered anew: its errors, its names and its index.
use Rattle.std.proofs.Common.{◌≡◌, ℕ, Bool, true, false, List, [], get_or, sym, ap, ◌∙◌, subst}
use Rattle.std.specs.Prelude.{if◌then◌else◌}
use Rattle.acpi_values.specs.Paths.{AbsolutePath}
use Rattle.asl_tree.specs.Tree.{Trees}
use Rattle.asl_meaning.specs.Declarations.{Declarations, declarations, is_named}
use Rattle.acpi_names.specs.Errors.{Whole, whole_of, name_errors, type_errors}
use Rattle.acpi_names.specs.Parts.{Agrees}
use Rattle.acpi_names.specs.Terms.{are_terms}
use Rattle.term_plans.specs.Plans.{Plans}
use Rattle.asl_numbers.specs.Numbers.{numbered_all}
use Rattle.descriptor_fields.specs.Declaring.{stripped}
use Rattle.unused_names.specs.Left.{left_terms, is_descriptor, DescriptorsAreApart}
use Rattle.unused_names.proofs.Left.{terms_same, terms_left}
use Rattle.unused_names.proofs.Program.{names_stay, kinds_stay, named_left, calls_left, flags_left}
use Rattle.unused_names.proofs.Bare.{same_terms, same_whole, same_names, same_kinds}
use Rattle.stripped_names.specs.Whole.{AreWhole}
use Rattle.stripped_names.proofs.Stripped.{terms_left as all_left}

abbrev program : Plans → Trees
program ps = numbered_all 0 ps

abbrev left : Plans → Trees
left ps = numbered_all 0 (stripped ps)

pub stripped_terms : (ps : Plans) → AreWhole ps → are_terms (program ps) ≡ true → are_terms (left ps) ≡ true
stripped_terms ps whole are = same_terms (left_terms (program ps)) (left ps) (terms_left (program ps) are) (all_left ps 0 0 whole)

pub terms_stripped : (ps : Plans) (more : ℕ) → AreWhole ps → are_terms (numbered_all more (stripped ps)) ≡ true → are_terms (program ps) ≡ true
terms_stripped ps more whole are = sym (terms_same (program ps)) ∙ same_terms (numbered_all more (stripped ps)) (left_terms (program ps)) are (sym (all_left ps 0 more whole))

pub stripped_names : (ps : Plans) → AreWhole ps → are_terms (program ps) ≡ true → name_errors (program ps) ≡ [] → DescriptorsAreApart (program ps) → name_errors (left ps) ≡ []
stripped_names ps whole are names apart =
    same_names (left_terms (program ps)) (left ps) (terms_left (program ps) are) (all_left ps 0 0 whole) (names_stay (program ps) are names apart)

pub stripped_kinds : (ps : Plans) → AreWhole ps → are_terms (program ps) ≡ true → name_errors (program ps) ≡ [] → type_errors (program ps) ≡ [] → DescriptorsAreApart (program ps) → type_errors (left ps) ≡ []
stripped_kinds ps whole are names kinds apart =
    same_kinds (left_terms (program ps)) (left ps) (terms_left (program ps) are) (all_left ps 0 0 whole) (names_stay (program ps) are names apart) (kinds_stay (program ps) are names kinds apart)

left_whole : (ps : Plans) → AreWhole ps → are_terms (program ps) ≡ true → whole_of (left ps) ≡ whole_of (left_terms (program ps))
left_whole ps whole are = same_whole (left_terms (program ps)) (left ps) (terms_left (program ps) are) (all_left ps 0 0 whole)

left_declares : (ps : Plans) → AreWhole ps → are_terms (program ps) ≡ true → declarations (left ps) ≡ declarations (left_terms (program ps))
left_declares ps whole are = ap (λ (w : Whole). w.all) (left_whole ps whole are)

pub stripped_named : (ps : Plans) → AreWhole ps → are_terms (program ps) ≡ true → name_errors (program ps) ≡ [] → DescriptorsAreApart (program ps)
    → (path : AbsolutePath) → is_named (declarations (left ps)) path ≡ (if is_descriptor (program ps) path then false else is_named (declarations (program ps)) path)
stripped_named ps whole are names apart path = ap (λ d. is_named d path) (left_declares ps whole are) ∙ named_left (program ps) are names apart path

pub stripped_calls : (ps : Plans) → AreWhole ps → are_terms (program ps) ≡ true → name_errors (program ps) ≡ [] → DescriptorsAreApart (program ps) → (whole_of (left ps)).calls ≡ (whole_of (program ps)).calls
stripped_calls ps whole are names apart = ap (λ (w : Whole). w.calls) (left_whole ps whole are) ∙ calls_left (program ps) are names apart

pub stripped_index : (ps : Plans) → AreWhole ps → are_terms (program ps) ≡ true → name_errors (program ps) ≡ [] → DescriptorsAreApart (program ps)
    → (paths : List AbsolutePath) (flags others : List Bool) → Agrees paths flags (declarations (program ps))
    → ((n : ℕ) → get_or others n false ≡ (if is_descriptor (program ps) (get_or paths n []) then false else get_or flags n false)) → Agrees paths others (declarations (left ps))
stripped_index ps whole are names apart paths flags others agrees cleared =
    subst (λ (d : Declarations). Agrees paths others d) (sym (left_declares ps whole are)) (flags_left (program ps) are names apart paths flags others agrees cleared)
