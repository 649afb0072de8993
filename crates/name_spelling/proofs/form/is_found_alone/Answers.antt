use Rattle.std.proofs.Common.{[], get_or, sym, ap, ◌∙◌}
use Rattle.std.specs.Prelude.{not}
use Rattle.name_spelling.specs.Forms.{met_in}
use Rattle.acpi_names.proofs.Numbers.{same_places}
use Rattle.name_spelling.proofs.Forms.{differ, alone_told, alone_untold}
use Rattle.name_spelling.proofs.form.is_found_alone.Goals as goal

pub returns-then-first-number : goal.returns-then-first-number
returns-then-first-number c =
    let paths = c.args.paths.now in
    ap not c.is_met_around.ensures
    ∙ alone_told (met_in paths c.args.named.now c.args.also.now) (get_or paths c.args.number []) (get_or paths c.args.scope []) (get_or paths c.in-Some-nearest_met.first []) c.in-Some.below.1 (get_or paths c.in-Some.below.0 []) c.in-Some.ensures.below.1 c.in-Some-nearest_met.ensures.path
    (ap (λ n. get_or paths n []) c.if-first-number.true)

pub returns-else-first-number : goal.returns-else-first-number
returns-else-first-number c =
    let paths = c.args.paths.now in
    differ c.in-Some-nearest_met.first c.args.number c.if-first-number.false
    ∙ sym (alone_untold (met_in paths c.args.named.now c.args.also.now) (get_or paths c.args.number []) (get_or paths c.args.scope []) (get_or paths c.in-Some-nearest_met.first []) c.in-Some.below.1 (get_or paths c.in-Some.below.0 []) c.in-Some.ensures.below.1 c.in-Some-nearest_met.ensures.path
    (same_places paths c.in-Some-nearest_met.first c.args.number c.len-len.ensures.distinct c.in-Some-nearest_met.ensures.within c.requires.path_in ∙ differ c.in-Some-nearest_met.first c.args.number c.if-first-number.false))
