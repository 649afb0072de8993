-- An index from which the descriptors' names are taken, by the table of descriptors.
use Rattle.std.proofs.Common.{◌≡◌, ℕ, Bool, true, false, List, [], get_or, Option, Some, None, refl, sym, ap, ◌∙◌}
use Rattle.std.specs.Prelude.{is_some, if◌then◌else◌}
use Rattle.acpi_values.specs.Paths.{AbsolutePath}
use Rattle.asl_tree.specs.declared.term.NamedDescriptor.{NamedDescriptor}
use Rattle.asl_meaning.specs.Declarations.{declarations, is_named}
use Rattle.acpi_names.specs.Errors.{name_errors}
use Rattle.acpi_names.specs.Parts.{Agrees}
use Rattle.acpi_names.specs.Paths.{number_in, is_flagged}
use Rattle.acpi_names.specs.Tables.{entry_at, Tabled}
use Rattle.acpi_names.specs.Terms.{are_terms}
use Rattle.term_plans.specs.Plans.{Plans}
use Rattle.asl_numbers.specs.Numbers.{numbered_all}
use Rattle.descriptor_fields.specs.Declaring.{stripped}
use Rattle.descriptor_checks.specs.Resolved.{table_of}
use Rattle.unused_names.specs.Left.{is_descriptor, DescriptorsAreApart}
use Rattle.stripped_names.specs.Whole.{AreWhole}
use Rattle.stripped_names.proofs.Right.{stripped_named}
use Rattle.stripped_names.proofs.TagPlans.{table_descriptor}

none_left : (b c : Bool) → false ≡ c → false ≡ (if b then false else c)
none_left true c h = refl
none_left false c h = h

-- flags without those at which the table has something
flags_without : (paths : List AbsolutePath) (flags left : List Bool) (table : List (Option NamedDescriptor)) (gone has : AbsolutePath → Bool) (path : AbsolutePath)
    → is_flagged flags (number_in paths path) ≡ has path → is_some (entry_at table (number_in paths path)) ≡ gone path
    → ((n : ℕ) → get_or left n false ≡ (if is_some (get_or table n None) then false else get_or flags n false)) → is_flagged left (number_in paths path) ≡ (if gone path then false else has path)
flags_without paths flags left table gone has path agrees tabled cleared = by_number (number_in paths path) agrees tabled
  where
    by_number : (o : Option ℕ) → is_flagged flags o ≡ has path → is_some (entry_at table o) ≡ gone path → is_flagged left o ≡ (if gone path then false else has path)
    by_number None h k = none_left (gone path) (has path) h
    by_number (Some n) h k = cleared n ∙ ap (λ b. if b then false else get_or flags n false) k ∙ ap (λ b. if gone path then false else b) h

pub forgotten_index : (ps : Plans) → AreWhole ps → are_terms (numbered_all 0 ps) ≡ true → name_errors (numbered_all 0 ps) ≡ [] → DescriptorsAreApart (numbered_all 0 ps)
    → (paths : List AbsolutePath) (flags left : List Bool) (table : List (Option NamedDescriptor)) → Agrees paths flags (declarations (numbered_all 0 ps)) → Tabled paths table (table_of ps)
    → ((n : ℕ) → get_or left n false ≡ (if is_some (get_or table n None) then false else get_or flags n false)) → Agrees paths left (declarations (numbered_all 0 (stripped ps)))
forgotten_index ps whole are names apart paths flags left table agrees tabled cleared path =
    flags_without paths flags left table (is_descriptor (numbered_all 0 ps)) (is_named (declarations (numbered_all 0 ps))) path (agrees path) (ap is_some (tabled path) ∙ table_descriptor ps path whole) cleared
    ∙ sym (stripped_named ps whole are names apart path)
