use Rattle.std.proofs.Common.{true, false, [], ◌∷◌, get_or, sym, ap, ◌∙◌}
use Rattle.acpi_state.specs.Outcomes.{choose}
use Rattle.acpi_names.specs.Paths.{is_named_in}
use Rattle.asl_tree.specs.Names.{declared_path, enclosing, candidates, first_of}
use Rattle.name_spelling.proofs.Spelling.{use_unknown, use_placed, use_searched}
use Rattle.name_spelling.proofs.written.ambiguous.Goals as goal

pub returns-in_err-segment : goal.returns-in_err-segment
returns-in_err-segment c =
    let paths = c.args.paths.now in
    rw c.from_residual.ensures
    (use_placed (is_named_in paths c.args.also.now) (is_named_in paths c.args.named.now) c.args.name.now (get_or paths c.args.scope []) (sym c.in_err-segment.ensures))

pub returns-in_err-number : goal.returns-in_err-number
returns-in_err-number c =
    let paths = c.args.paths.now in
    let has = is_named_in paths c.args.named.now in
    let scope = get_or paths c.args.scope [] in
    rw c.from_residual-in_err-number.ensures
    (use_unknown (is_named_in paths c.args.also.now) has c.args.name.now scope
    (ap (λ o. first_of (candidates has (choose o (declared_path c.args.name.now scope ∷ []) (λ seg. enclosing seg scope)))) (sym c.in_ok-segment.ensures) ∙ sym c.in_err-number.ensures.path))

pub returns-then-is_alone : goal.returns-then-is_alone
returns-then-is_alone c =
    let paths = c.args.paths.now in
    use_searched (is_named_in paths c.args.also.now) (is_named_in paths c.args.named.now) c.args.name.now c.in_ok-segment.segment (get_or paths c.args.scope []) (get_or paths c.in_ok-number.number []) true
    (sym c.in_ok-segment.ensures) (sym c.in_ok-number.ensures.path) (sym c.is_alone.ensures ∙ c.if-is_alone.true)

pub returns-else-is_alone : goal.returns-else-is_alone
returns-else-is_alone c =
    let paths = c.args.paths.now in (
      c.in_ok-number.ensures.within,
      use_searched (is_named_in paths c.args.also.now) (is_named_in paths c.args.named.now) c.args.name.now c.in_ok-segment.segment (get_or paths c.args.scope []) (get_or paths c.in_ok-number.number []) false
          (sym c.in_ok-segment.ensures) (sym c.in_ok-number.ensures.path) (sym c.is_alone.ensures ∙ c.if-is_alone.false),
    )
