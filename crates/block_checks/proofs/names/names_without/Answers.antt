use Rattle.std.proofs.Common.{◌≡◌, [], arith, length, get_or, true, false, None, sym, ap, ◌∙◌, subst}
use Rattle.std.specs.Prelude.{is_some, if◌then◌else◌}
use Rattle.acpi_state.specs.Objects.{lookup}
use Rattle.asl_tree.specs.View.{trees_of}
use Rattle.asl_meaning.specs.Declarations.{declarations, is_named, nothing_declared}
use Rattle.asl_numbers.specs.Numbers.{numbered_all}
use Rattle.acpi_names.specs.Errors.{whole_of}
use Rattle.acpi_names.specs.Parts.{Agrees}
use Rattle.acpi_names.specs.Paths.{number_in}
use Rattle.acpi_names.specs.Tables.{entry_at, Flags}
use Rattle.acpi_names.specs.Terms.{are_terms}
use Rattle.acpi_names.specs.declared.index.Index.{Index}
use Rattle.acpi_names.proofs.Mentions.{after_block}
use Rattle.name_kinds.proofs.Seeing.{block_seen}
use Rattle.descriptor_checks.specs.Resolved.{checked_terms, resolved_terms, described_paths, table_of}
use Rattle.descriptor_checks.specs.Told.{names_told, kinds_told}
use Rattle.descriptor_shapes.proofs.Blocks.{checked_are_terms, resolved_names, resolved_kinds, resolved_calls, resolved_index}
use Rattle.block_checks.proofs.Named.{both_first, noted_flags}
use Rattle.block_checks.proofs.names.names_without.Goals as goal

pub returns : goal.returns
returns g c =
    let ps = g.ps in
    let known = c.args.known in
    let facts = known.facts in
    let paths = facts.index.paths in
    let trees = c.requires.0 in
    let knows = c.requires.1.0.facts in
    let tabled = c.requires.1.1.0 in
    let formed = c.requires.1.1.1.0 in
    let told = both_first (names_told ps) (kinds_told ps) c.requires.1.1.1.1 in
    let same = c.into_names-index.ensures.index in
    let calls = c.into_names-index.ensures.calls in
    let made = c.forget_descriptors.new.index in
    let at : made.paths ≡ paths = c.forget_descriptors.ensures.paths ∙ ap (λ (i : Index). i.paths) same in
    let left = numbered_all 0 (resolved_terms ps) in
    let are : are_terms (trees_of known.terms.now) ≡ true = ap are_terms trees ∙ checked_are_terms 0 ps formed in
    let index = resolved_index 0 ps formed told.0 told.1 paths facts.index.named.items made.named.items c.args.table.now
    (λ path. knows.agrees path ∙ ap (λ d. is_named d path) (after_block (trees_of known.terms.now) [] nothing_declared) ∙ ap (λ ts. is_named (declarations ts) path) trees) tabled
    (λ n. c.forget_descriptors.ensures.flags n ∙ ap (λ (i : Index). if is_some (get_or c.args.table.now n None) then false else get_or i.named.items n false) same) in
    let described = c.in_ok-described.described.items in
    let sized : length c.into_names-index.result.0.named.items ≡ length paths = ap (λ (i : Index). length i.named.items) same ∙ knows.flags in
    let count : c.len.result ≡ length paths = c.len.ensures ∙ c.into_names-index.result.0.named.ok.0 ∙ sized in
    let noted : Flags paths described (described_paths ps) = noted_flags paths described c.args.table.now (table_of (checked_terms ps)) tabled (λ n lt. c.in_ok-described.ensures.flags n (omega (arith, lt, count))) in
    let long : length made.paths ≡ length paths = ap length at in
    record {
      few = omega (arith, c.in_ok-described.ensures.size, count, long);
      beside = subst (λ p. Flags p described (described_paths ps)) (sym at) noted;
      size = c.forget_descriptors.ensures.size ∙ ap (λ (i : Index). length i.named.items) same ∙ knows.flags ∙ sym (ap length at);
      sized = ap (λ cs. length cs.items) calls ∙ knows.sized.calls ∙ sym (ap length at);
      names = subst (λ p. Agrees p made.named.items (declarations left)) (sym at) index;
      calls = λ path. ap (λ p. entry_at c.into_names-index.result.1.items (number_in p path)) at ∙ ap (λ cs. entry_at cs.items (number_in paths path)) calls ∙ knows.notes.first path
          ∙ ap (λ w. lookup w.calls path) (block_seen (trees_of known.terms.now) are) ∙ ap (λ ts. lookup (whole_of ts).calls path) trees
          ∙ ap (λ cs. lookup cs path) (sym (resolved_calls 0 ps formed told.0 told.1));
      no_names = resolved_names 0 ps formed told.0 told.1;
      no_kinds = resolved_kinds 0 ps formed told.0 told.1;
    }
