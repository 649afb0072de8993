-- Where no mention is of a descriptor or of a field of one, and nothing is declared below one, the descriptors are apart.
use Rattle.std.proofs.Common.{◌≡◌, Bool, true, false, List, [], ◌∷◌, Option, Some, None, refl, sym, ◌∙◌}
use Rattle.std.specs.Prelude.{is_some, not}
use Rattle.std.specs.List.{All}
use Rattle.std.proofs.lemmas.List.Elements.{All-head, All-tail}
use Rattle.acpi_values.specs.Paths.{AbsolutePath}
use Rattle.acpi_state.specs.Outcomes.{choose}
use Rattle.asl_tree.specs.declared.path.Path.{Path}
use Rattle.asl_tree.specs.declared.term.NamedDescriptor.{NamedDescriptor}
use Rattle.asl_tree.specs.Names.{declared_path, denoted}
use Rattle.acpi_names.specs.Errors.{NameError, Missing, unless}
use Rattle.acpi_names.specs.Mentions.{Mention, Used', Sought, Called, Declares, Outside, Opens}
use Rattle.term_plans.specs.Plans.{Plans}
use Rattle.asl_numbers.specs.Numbers.{numbered_all}
use Rattle.descriptor_checks.specs.Resolved.{mentions_of, names_of, table_of}
use Rattle.descriptor_checks.specs.Senses.{Sense, Nothing, descriptor_sense, sense_of}
use Rattle.descriptor_checks.specs.Told.{sense_in, below_errors, all_below}
use Rattle.descriptor_checks.specs.Told as told
use Rattle.unused_names.specs.Unused.{is_gone, is_below, Spares}
use Rattle.unused_names.specs.Uses.{UsesOther, UseOthers, IsNotBelow, AreNotBelow}
use Rattle.unused_names.specs.Left.{is_descriptor, DescriptorsAreApart}
use Rattle.unused_names.proofs.Errors.{left_none, right_none}
use Rattle.unused_names.proofs.Sparing.{apart}
use Rattle.stripped_names.specs.Whole.{AreWhole}
use Rattle.stripped_names.proofs.TagPlans.{table_descriptor}

module _ (gone has : AbsolutePath → Bool) (look : AbsolutePath → Option NamedDescriptor) (same : (path : AbsolutePath) → is_some (look path) ≡ gone path) where
  none_there : (o : Option NamedDescriptor) → descriptor_sense o ≡ Nothing → is_some o ≡ false
  none_there None h = refl
  none_there (Some named) h = absurd cc

  spares : (name : Path) (scope : AbsolutePath) → sense_of has look name scope ≡ Nothing → Spares gone has name scope
  spares name scope h = by_path (denoted has name scope) _ h
    where
      by_path : (o : Option AbsolutePath) (other : Sense) → choose o other (λ path. descriptor_sense (look path)) ≡ Nothing → is_gone gone has o ≡ false
      by_path None other h = refl
      by_path (Some path) other h = sym (same path) ∙ none_there (look path) h

  uses_other : (m : Mention) → sense_in has look m ≡ Nothing → UsesOther gone has m
  uses_other (Used' asked at name scope) h = spares name scope h
  uses_other (Sought at name scope) h = tt
  uses_other (Called asked at name args scope) h = spares name scope h
  uses_other (Declares at name as' scope) h = tt
  uses_other (Outside here at name type scope) h = tt
  uses_other (Opens here at name scope inner) h = spares name scope h

  use_others : (ms : List Mention) → All (λ (m : Mention). sense_in has look m ≡ Nothing) ms → UseOthers gone has ms
  use_others [] h = tt
  use_others (m ∷ ms) h = (uses_other m (All-head (λ (m : Mention). sense_in has look m ≡ Nothing) m ms h), use_others ms (All-tail (λ (m : Mention). sense_in has look m ≡ Nothing) m ms h))

  below_same : (path : AbsolutePath) → is_below gone has path ≡ told.is_below look path
  below_same [] = refl
  below_same (segment ∷ outer) = sym (same outer)

  not_below : (b : Bool) (e : NameError) → unless (not b) e ≡ [] → b ≡ false
  not_below true e h = absurd cc
  not_below false e h = refl

  is_not_below : (m : Mention) → below_errors look m ≡ [] → IsNotBelow gone has m
  is_not_below (Declares at name as' scope) h = below_same (declared_path name scope) ∙ not_below (told.is_below look (declared_path name scope)) (Missing at name) h
  is_not_below (Used' asked at name scope) h = tt
  is_not_below (Sought at name scope) h = tt
  is_not_below (Called asked at name args scope) h = tt
  is_not_below (Outside here at name type scope) h = tt
  is_not_below (Opens here at name scope inner) h = tt

  are_not_below : (ms : List Mention) → all_below look ms ≡ [] → AreNotBelow gone has ms
  are_not_below [] h = tt
  are_not_below (m ∷ ms) h = (is_not_below m (left_none (below_errors look m) (all_below look ms) h), are_not_below ms (right_none (below_errors look m) (all_below look ms) h))

pub untold_apart : (ps : Plans) → AreWhole ps → All (λ (m : Mention). sense_in (names_of ps) (table_of ps) m ≡ Nothing) (mentions_of ps) → all_below (table_of ps) (mentions_of ps) ≡ [] → DescriptorsAreApart (numbered_all 0 ps)
untold_apart ps whole uses below =
    let same : (path : AbsolutePath) → is_some (table_of ps path) ≡ is_descriptor (numbered_all 0 ps) path = λ path. table_descriptor ps path whole in
    apart (numbered_all 0 ps) (use_others (is_descriptor (numbered_all 0 ps)) (names_of ps) (table_of ps) same (mentions_of ps) uses)
    (are_not_below (is_descriptor (numbered_all 0 ps)) (names_of ps) (table_of ps) same (mentions_of ps) below)
