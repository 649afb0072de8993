use Rattle.std.proofs.Common.{[], get_or, sym, ◌∙◌}
use Rattle.name_kinds.specs.Kinds.{type_as}
use Rattle.name_kinds.proofs.Noting.{outside_noted}
use Rattle.name_kinds.proofs.tables.note_outside.Goals as goal

pub returns-then-not-is_in_root-clause-noted : goal.returns-then-not-is_in_root-clause-noted
returns-then-not-is_in_root-clause-noted c has calls d notes =
    let paths = c.args.index.now.paths in
    outside_noted paths has _ calls d (get_or paths c.args.number []) (type_as c.args.external) _ (sym c.is_in_root.ensures ∙ c.if-not-is_in_root.true) (c.note_external.ensures.noted has calls d notes)
