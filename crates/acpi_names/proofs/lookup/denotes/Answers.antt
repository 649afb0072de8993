use Rattle.std.proofs.Common.{◌≡◌, [], get_or, Some, sym, ap, ◌∙◌}
use Rattle.acpi_names.specs.Paths.{number_in, is_flagged, is_named_in}
use Rattle.asl_tree.specs.Names.{below, declared_path}
use Rattle.acpi_names.proofs.Numbers.{number_at}
use Rattle.acpi_names.proofs.Closed.{place_denoted}
use Rattle.acpi_names.proofs.lookup.denotes.Goals as goal

pub returns-then-named-number-clause-path : goal.returns-then-named-number-clause-path
returns-then-named-number-clause-path c =
    let paths = c.args.paths.now in
    let scope = get_or paths c.args.scope [] in
    let n = c.in_ok-number-in-None.number in
    let place = declared_path c.args.name.now scope in
    let same : place ≡ below (get_or paths c.prefixed.result []) c.as_slice.result.now =
    ap (λ p. below p c.args.name.now.segs) (sym c.prefixed.ensures.path) ∙ ap (below (get_or paths c.prefixed.result [])) (sym c.as_slice.ensures) in
    let number : number_in paths place ≡ Some n = ap (number_in paths) same ∙ sym c.in_ok-number-in-None.ensures in
    let here = number_at paths place n number in
    let own : number_in paths (get_or paths n []) ≡ Some n = ap (number_in paths) here ∙ number in
    place_denoted (is_named_in paths c.args.named.now) c.args.name.now scope (get_or paths n []) (sym c.in-None.ensures) here (ap (is_flagged c.args.named.now) own ∙ c.if-named-number.true)
