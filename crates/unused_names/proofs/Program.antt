-- A program without its descriptors: its errors, its names, and what they denote.
use Rattle.std.proofs.Common.{◌≡◌, ℕ, Bool, true, false, List, [], get_or, Option, Some, None, refl, sym, ap, ◌∙◌, subst}
use Rattle.std.specs.Prelude.{if◌then◌else◌, is_some}
use Rattle.acpi_values.specs.Paths.{AbsolutePath}
use Rattle.acpi_state.specs.Objects.{lookup}
use Rattle.asl_tree.specs.declared.path.Path.{Path}
use Rattle.asl_tree.specs.Names.{denoted}
use Rattle.asl_tree.specs.Tree.{Trees}
use Rattle.asl_meaning.specs.Declarations.{Declarations, nothing_declared, declarations, declare_all, is_named}
use Rattle.acpi_names.specs.Errors.{Whole, whole_of, final, name_errors, type_errors}
use Rattle.acpi_names.specs.Mentions.{Mention, block_mentions, all_errors}
use Rattle.acpi_names.specs.Parts.{Agrees}
use Rattle.acpi_names.specs.Paths.{number_in, is_flagged}
use Rattle.acpi_names.proofs.Numbers.{number_at}
use Rattle.acpi_names.specs.Terms.{are_terms}
use Rattle.acpi_names.proofs.Mentions.{after_block}
use Rattle.acpi_names.proofs.MentionErrors.{block_errors}
use Rattle.name_kinds.specs.Seen.{seen}
use Rattle.name_kinds.proofs.Seeing.{block_seen}
use Rattle.unused_names.specs.Unused.{AreDeclared, Spares, AreSpared}
use Rattle.unused_names.specs.Left.{left_terms, AllMarks, descriptors, is_descriptor, DescriptorsAreApart}
use Rattle.unused_names.proofs.Main.{lessened}
use Rattle.unused_names.proofs.Ends.{Lessened, left_named, denotes_same, final_same}
use Rattle.unused_names.proofs.Left.{terms_left, drops, no_names_left, no_types_left}
use Rattle.unused_names.proofs.Holds.{program_there}
use Rattle.unused_names.proofs.Marking.{marks_block, program_bounds}

declared : (program : Trees) → AreDeclared (is_descriptor program) (block_mentions program [] nothing_declared)
declared program p h = program_there program [] nothing_declared p h

marks : (program : Trees) → are_terms program ≡ true → name_errors program ≡ [] → AllMarks (is_descriptor program) program [] nothing_declared
marks program are names =
    marks_block (is_descriptor program) (whole_of program) there program [] nothing_declared [] (program_bounds (descriptors program [] nothing_declared) (declare_all program [] nothing_declared))
    (sym (block_errors (whole_of program) program are [] nothing_declared) ∙ names)
  where
    there : (p : AbsolutePath) → is_descriptor program p ≡ true → is_some (lookup (whole_of program).all.declared p) ≡ true
    there p h = subst (λ (d : Declarations). is_some (lookup d.declared p) ≡ true) (after_block program [] nothing_declared) (declared program p h)

pub names_stay : (program : Trees) → are_terms program ≡ true → name_errors program ≡ [] → DescriptorsAreApart program → name_errors (left_terms program) ≡ []
names_stay program are names apart = no_names_left (is_descriptor program) program are (marks program are names) (declared program) apart names

pub kinds_stay : (program : Trees) → are_terms program ≡ true → name_errors program ≡ [] → type_errors program ≡ [] → DescriptorsAreApart program → type_errors (left_terms program) ≡ []
kinds_stay program are names kinds apart = no_types_left (is_descriptor program) program are (marks program are names) (declared program) apart names kinds

whole_lessened : (program : Trees) → are_terms program ≡ true → name_errors program ≡ [] → DescriptorsAreApart program → Lessened (is_descriptor program) (whole_of program) (whole_of (left_terms program))
whole_lessened program are names apart =
    subst (λ w. Lessened (is_descriptor program) w (whole_of (left_terms program))) (block_seen program are)
    (subst (λ w. Lessened (is_descriptor program) (seen ms) w) (block_seen (left_terms program) (terms_left program are))
    (lessened (is_descriptor program) ms others (drops (is_descriptor program) program are (marks program are names) (declared program) apart names) (declared program) seen_errors seen_apart))
  where
    ms : List Mention
    ms = block_mentions program [] nothing_declared

    others : List Mention
    others = block_mentions (left_terms program) [] nothing_declared

    seen_errors : all_errors (seen ms) ms nothing_declared ≡ []
    seen_errors = ap (λ w. all_errors w ms nothing_declared) (block_seen program are) ∙ sym (block_errors (whole_of program) program are [] nothing_declared) ∙ names

    seen_apart : AreSpared (is_descriptor program) (is_named (seen ms).all) ms
    seen_apart = subst (λ (w : Whole). AreSpared (is_descriptor program) (is_named w.all) ms) (sym (block_seen program are)) apart

pub named_left : (program : Trees) → are_terms program ≡ true → name_errors program ≡ [] → DescriptorsAreApart program → (p : AbsolutePath) → is_named (declarations (left_terms program)) p ≡ (if is_descriptor program p then false else is_named (declarations program) p)
named_left program are names apart p = left_named (is_descriptor program) (whole_of program) (whole_of (left_terms program)) (whole_lessened program are names apart) p

pub calls_left : (program : Trees) → are_terms program ≡ true → name_errors program ≡ [] → DescriptorsAreApart program → (whole_of (left_terms program)).calls ≡ (whole_of program).calls
calls_left program are names apart = (whole_lessened program are names apart).calls

pub denoted_left : (program : Trees) → are_terms program ≡ true → name_errors program ≡ [] → DescriptorsAreApart program → (name : Path) (scope : AbsolutePath) → Spares (is_descriptor program) (is_named (declarations program)) name scope → denoted (is_named (declarations (left_terms program))) name scope ≡ denoted (is_named (declarations program)) name scope
denoted_left program are names apart name scope spares = denotes_same (is_descriptor program) (whole_of program) (whole_of (left_terms program)) (whole_lessened program are names apart) name scope spares

pub ends_left : (program : Trees) → are_terms program ≡ true → name_errors program ≡ [] → DescriptorsAreApart program → (p : AbsolutePath) → is_descriptor program p ≡ false → final (whole_of (left_terms program)).known p ≡ final (whole_of program).known p
ends_left program are names apart p h = final_same (is_descriptor program) (whole_of program) (whole_of (left_terms program)) (whole_lessened program are names apart) p h

-- the flags of an index, those of descriptors taken back
pub flags_left : (program : Trees) → are_terms program ≡ true → name_errors program ≡ [] → DescriptorsAreApart program → (paths : List AbsolutePath) (flags left : List Bool) → Agrees paths flags (declarations program) → ((n : ℕ) → get_or left n false ≡ (if is_descriptor program (get_or paths n []) then false else get_or flags n false)) → Agrees paths left (declarations (left_terms program))
flags_left program are names apart paths flags left agrees cleared path = by_number (number_in paths path) refl ∙ sym (named_left program are names apart path)
  where
    none_left : (b c : Bool) → false ≡ c → false ≡ (if b then false else c)
    none_left true c h = refl
    none_left false c h = h

    by_number : (o : Option ℕ) → number_in paths path ≡ o → is_flagged left (number_in paths path) ≡ (if is_descriptor program path then false else is_named (declarations program) path)
    by_number None e = ap (is_flagged left) e ∙ none_left (is_descriptor program path) (is_named (declarations program) path) (sym (ap (is_flagged flags) e) ∙ agrees path)
    by_number (Some n) e =
        ap (is_flagged left) e ∙ cleared n ∙ ap (λ p. if is_descriptor program p then false else get_or flags n false) (number_at paths path n e)
        ∙ ap (λ b. if is_descriptor program path then false else b) (sym (ap (is_flagged flags) e) ∙ agrees path)
