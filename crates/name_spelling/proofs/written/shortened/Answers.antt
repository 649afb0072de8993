use Rattle.std.proofs.Common.{◌≡◌, ◌||◌, true, [], get_or, sym, ap, ◌∙◌, subst}
use Rattle.acpi_state.specs.Outcomes.{choose}
use Rattle.asl_tree.specs.Names.{denoted}
use Rattle.acpi_names.specs.Paths.{is_named_in}
use Rattle.acpi_names.specs.Shortest.{short_use}
use Rattle.acpi_names.proofs.Shortest.{denoted_known}
use Rattle.name_spelling.specs.Forms.{met_in}
use Rattle.name_spelling.proofs.written.shortened.Goals as goal

pub shortest_used-form-requires-clause-is_met : goal.shortest_used-form-requires-clause-is_met
shortest_used-form-requires-clause-is_met c =
    let paths = c.args.index.now.paths in
    let path = get_or paths c.in-Some.number [] in
    subst (λ named. met_in paths named c.args.also.now path ≡ true) (c.deref.ensures.value ∙ sym c.deref-in-Some.ensures.value)
    (ap (λ is. is || is_named_in paths c.args.also.now path) (denoted_known (is_named_in paths c.deref.result.now) c.args.name.now (get_or paths c.args.scope []) path (sym c.in-Some.ensures.path)))

pub returns-in_ok-name_in-in-Some : goal.returns-in_ok-name_in-in-Some
returns-in_ok-name_in-in-Some c =
    let paths = c.args.index.now.paths in
    let also = c.args.also.now in
    let name = c.args.name.now in
    let scope = get_or paths c.args.scope [] in
    c.in_ok-name_in-in-Some.ensures ∙ c.shortest_used-form.ensures
    ∙ ap (λ named. short_use (met_in paths named also) (get_or paths c.in-Some.number []) scope) c.deref-in-Some.ensures.value
    ∙ ap (λ o. choose o name (λ path. short_use (met_in paths c.args.index.now.named.items also) path scope)) (c.in-Some.ensures.path ∙ ap (λ named. denoted (is_named_in paths named) name scope) c.deref.ensures.value)
