use Rattle.std.proofs.Common.{[], get_or, sym, ap, ◌∙◌, refl}
use Rattle.std.specs.Option.{option_map}
use Rattle.acpi_state.specs.Objects.{lookup}
use Rattle.name_kinds.specs.Kinds.{type_as}
use Rattle.name_kinds.proofs.Noting.{look_set, look_here}
use Rattle.name_checks.proofs.Noting.{first_before, later_before}
use Rattle.name_checks.proofs.so_far.note_external.Goals as goal

pub returns-in-None-clause-noted : goal.returns-in-None-clause-noted
returns-in-None-clause-noted c d before =
    let paths = c.args.paths.now in
    let table = c.args.so_far.now.externals.items in
    let path = get_or paths c.args.number [] in
    let here = look_here type_as paths table c.args.number c.index.result.now (lookup d.external) c.len-count.ensures.distinct c.requires.within c.requires.sized.externals c.index.ensures before.externals in
    first_before paths _ d path (type_as c.args.external) (sym here ∙ ap (option_map type_as) c.in-None.is)
    (record {
      declared = before.declared;
      externals = look_set type_as paths table c.args.number c.args.external _ (lookup d.external) c.len-count.ensures.distinct c.requires.within c.requires.sized.externals refl before.externals;
    })

pub returns-in-Some-clause-noted : goal.returns-in-Some-clause-noted
returns-in-Some-clause-noted c d before =
    let paths = c.args.paths.now in
    let table = c.args.so_far.now.externals.items in
    let path = get_or paths c.args.number [] in
    let here = look_here type_as paths table c.args.number c.index.result.now (lookup d.external) c.len-count.ensures.distinct c.requires.within c.requires.sized.externals c.index.ensures before.externals in
    later_before paths _ d path (type_as c.args.external) (type_as c.in-Some.field-0) (sym here ∙ ap (option_map type_as) c.in-Some.is) before
