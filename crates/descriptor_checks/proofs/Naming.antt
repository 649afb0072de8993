-- The names of a block, looked at one step after the other.
use Rattle.std.proofs.Common.{◌≡◌, true, Bool, List, [], ◌++◌, map, Option, sym, ap, ◌∙◌, subst}
use Rattle.std.proofs.lemmas.List.{map-append}
use Rattle.std.specs.Prelude.{filter}
use Rattle.acpi_values.specs.Paths.{AbsolutePath}
use Rattle.acpi_state.specs.Objects.{lookup}
use Rattle.iasl_messages.specs.declared.message.Message.{Message}
use Rattle.asl_tree.specs.Tree.{Trees}
use Rattle.asl_tree.specs.declared.term.NamedDescriptor.{NamedDescriptor}
use Rattle.asl_meaning.specs.Declarations.{Declarations, is_named, nothing_declared, declarations}
use Rattle.asl_numbers.specs.Numbers.{numbered_all}
use Rattle.term_plans.specs.Plans.{Plans}
use Rattle.acpi_names.specs.Errors.{whole_of}
use Rattle.acpi_names.specs.Mentions.{Mention, after_all, all_errors, all_types, block_mentions}
use Rattle.acpi_names.specs.Parts.{Agrees}
use Rattle.acpi_names.specs.Shown.{all_shown}
use Rattle.acpi_names.specs.Tables.{Tabled}
use Rattle.acpi_names.specs.declared.mention.Mention.{Mention as CodeMention}
use Rattle.acpi_names.specs.Terms.{are_terms}
use Rattle.acpi_names.proofs.Mentions.{after_block}
use Rattle.name_checks.specs.Messages.{message_of}
use Rattle.name_kinds.specs.Seen.{seen}
use Rattle.name_kinds.proofs.Seeing.{block_seen}
use Rattle.descriptor_fields.specs.Nodes.{named_from}
use Rattle.descriptor_checks.specs.Fields.{AreSorted}
use Rattle.descriptor_checks.specs.Resolved.{described, mentions_of, names_of, table_of}
use Rattle.descriptor_checks.specs.Told.{all_below, all_use_faults, is_no_field, is_of_no_descriptor, kinds_wrong, names_wrong}
use Rattle.descriptor_checks.specs.declared.told.Sorted.{Sorted}

-- the names of a block are those that its mentions declare
pub declared_seen : (paths : List AbsolutePath) (named : List Bool) (trees : Trees) (ms : List Mention) → Agrees paths named (declarations trees) → ms ≡ block_mentions trees [] nothing_declared → Agrees paths named (after_all ms nothing_declared)
declared_seen paths named trees ms names told path =
    names path ∙ ap (λ d. is_named d path) (sym (after_block trees [] nothing_declared)) ∙ ap (λ ms. is_named (after_all ms nothing_declared) path) (sym told)

pub seen_declared : (paths : List AbsolutePath) (named : List Bool) (trees : Trees) → Agrees paths named (after_all (block_mentions trees [] nothing_declared) nothing_declared) → Agrees paths named (declarations trees)
seen_declared paths named trees names path = names path ∙ ap (λ d. is_named d path) (after_block trees [] nothing_declared)

-- the mentions of terms whose nodes have numbers
pub mentions_are : (trees : Trees) (ps : Plans) (ms : List Mention) → trees ≡ numbered_all 0 ps → ms ≡ block_mentions trees [] nothing_declared → ms ≡ mentions_of ps
mentions_are trees ps ms numbers told = told ∙ ap (λ ts. block_mentions ts [] nothing_declared) numbers

pub names_are : (paths : List AbsolutePath) (named : List Bool) (trees : Trees) (ps : Plans) → trees ≡ numbered_all 0 ps → Agrees paths named (declarations trees) → Agrees paths named (declarations (numbered_all 0 ps))
names_are paths named trees ps numbers names = subst (λ ts. Agrees paths named (declarations ts)) numbers names

-- the mentions of terms by what they denote
pub sorted_is : (paths : List AbsolutePath) (named : List Bool) (trees : Trees) (ps : Plans) (table : List (Option NamedDescriptor)) (lent mentions : List CodeMention) (sorted : Sorted) → trees ≡ numbered_all 0 ps → Agrees paths named (after_all (block_mentions trees [] nothing_declared) nothing_declared)
    → all_shown paths mentions ≡ block_mentions trees [] nothing_declared → lent ≡ mentions → Tabled paths table (table_of ps)
    → ((d : Declarations) (look : AbsolutePath → Option NamedDescriptor) → Agrees paths named d → Tabled paths table look → AreSorted paths (is_named d) look sorted (all_shown paths lent)) → AreSorted paths (names_of ps) (table_of ps) sorted (mentions_of ps)
sorted_is paths named trees ps table lent mentions sorted numbers names told same tabled are =
    subst (AreSorted paths (names_of ps) (table_of ps) sorted) (ap (all_shown paths) same ∙ mentions_are trees ps (all_shown paths mentions) numbers told)
    (are (declarations (numbered_all 0 ps)) (table_of ps) (names_are paths named trees ps numbers (seen_declared paths named trees names)) tabled)

pub table_is : (paths : List AbsolutePath) (table : List (Option NamedDescriptor)) (ps : Plans) (ms : List Mention) → ms ≡ mentions_of ps → Tabled paths table (lookup (described (named_from 0 ps) ms)) → Tabled paths table (table_of ps)
table_is paths table ps ms e tabled = subst (λ ms. Tabled paths table (lookup (described (named_from 0 ps) ms))) e tabled

-- what is told of the names of a block
module _ (trees : Trees) (ps : Plans) (numbers : trees ≡ numbered_all 0 ps) (formed : are_terms trees ≡ true) where
  whole_is : seen (mentions_of ps) ≡ whole_of (numbered_all 0 ps)
  whole_is = block_seen (numbered_all 0 ps) (ap are_terms (sym numbers) ∙ formed)

  pub names_told : (told below both : List Message) (ms : List Mention) → ms ≡ filter (is_no_field (names_of ps) (table_of ps)) (mentions_of ps) → told ≡ map message_of (all_errors (seen (mentions_of ps)) ms nothing_declared) → below ≡ map message_of (all_below (table_of ps) (mentions_of ps)) → both ≡ told ++ below
      → both ≡ map message_of (names_wrong ps)
  names_told told below both ms kept e f g =
      g ∙ ap (λ xs. xs ++ below) (e ∙ ap (λ w. map message_of (all_errors w ms nothing_declared)) whole_is ∙ ap (λ ms. map message_of (all_errors (whole_of (numbered_all 0 ps)) ms nothing_declared)) kept)
      ∙ ap (λ xs. map message_of (all_errors (whole_of (numbered_all 0 ps)) (filter (is_no_field (names_of ps) (table_of ps)) (mentions_of ps)) nothing_declared) ++ xs) f
      ∙ sym (map-append message_of (all_errors (whole_of (numbered_all 0 ps)) (filter (is_no_field (names_of ps) (table_of ps)) (mentions_of ps)) nothing_declared) (all_below (table_of ps) (mentions_of ps)))

  pub kinds_told : (told uses both : List Message) (ms : List Mention) → ms ≡ filter (is_of_no_descriptor (names_of ps) (table_of ps)) (mentions_of ps) → told ≡ map message_of (all_types (seen (mentions_of ps)) ms) → uses ≡ all_use_faults (names_of ps) (table_of ps) (mentions_of ps) → both ≡ told ++ uses
      → both ≡ kinds_wrong ps
  kinds_told told uses both ms kept e f g =
      g ∙ ap (λ xs. xs ++ uses) (e ∙ ap (λ w. map message_of (all_types w ms)) whole_is ∙ ap (λ ms. map message_of (all_types (whole_of (numbered_all 0 ps)) ms)) kept)
      ∙ ap (λ xs. map message_of (all_types (whole_of (numbered_all 0 ps)) (filter (is_of_no_descriptor (names_of ps) (table_of ps)) (mentions_of ps))) ++ xs) f
