use Rattle.std.proofs.Common.{[], get_or, sym, ap, ◌∙◌}
use Rattle.acpi_names.specs.Paths.{is_named_in}
use Rattle.asl_tree.specs.Names.{enclosing, candidates, first_of}
use Rattle.name_spelling.proofs.Spelling.{pushed_path, element_new, item_searched}
use Rattle.name_spelling.proofs.written.other_element.Goals as goal

pub returns-in_ok-path-in-None-nearest-2 : goal.returns-in_ok-path-in-None-nearest-2
returns-in_ok-path-in-None-nearest-2 c =
    let paths = c.args.index.now.paths in
    let scope = get_or paths c.args.scope [] in
    pushed_path c.in_ok-path-in-None-nearest.path c.in_ok-path-in-None-nearest-2.field-0 c.in-Some.segment scope c.in_ok-path-in-None-nearest.ensures c.in_ok-path-in-None-nearest-2.ensures
    ∙ sym (item_searched (is_named_in paths c.args.index.now.named.items) c.args.shorten c.args.name.now c.in-Some.segment scope (sym c.in-Some.ensures)
    ∙ element_new (is_named_in paths c.args.index.now.named.items) c.args.name.now c.in-Some.segment scope (sym c.in-Some.ensures) (ap (λ ns. first_of (candidates (is_named_in paths ns) (enclosing c.in-Some.segment scope))) (sym c.deref.ensures.value) ∙ sym c.in-None-nearest.ensures.path))
