use Rattle.std.proofs.Common.{[], false, get_or, sym, ◌∙◌}
use Rattle.name_kinds.specs.Kinds.{type_as}
use Rattle.name_checks.proofs.Noting.{outside_before}
use Rattle.name_checks.proofs.so_far.note_outside.Goals as goal

pub returns-then-not-is_in_root-clause-noted : goal.returns-then-not-is_in_root-clause-noted
returns-then-not-is_in_root-clause-noted c d before =
    let paths = c.args.paths.now in
    outside_before paths _ d (get_or paths c.args.number []) (type_as c.args.external) false _ (sym (sym c.is_in_root.ensures ∙ c.if-not-is_in_root.true)) (c.note_external.ensures.noted d before)
