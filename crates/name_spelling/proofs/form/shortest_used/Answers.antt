use Rattle.std.proofs.Common.{true, false, [], get_or, sym, ◌∙◌}
use Rattle.name_spelling.specs.Forms.{met_in}
use Rattle.name_spelling.proofs.Forms.{used_form}
use Rattle.name_spelling.proofs.form.shortest_used.Goals as goal

pub returns-then-is_found_alone : goal.returns-then-is_found_alone
returns-then-is_found_alone c =
    let paths = c.args.paths.now in
    sym (used_form (met_in paths c.args.named.now c.args.also.now) (get_or paths c.args.number []) (get_or paths c.args.scope []) true (sym c.is_found_alone.ensures ∙ c.if-is_found_alone.true))

pub returns-else-is_found_alone : goal.returns-else-is_found_alone
returns-else-is_found_alone c =
    let paths = c.args.paths.now in
    c.shortest_placed.ensures (met_in paths c.args.named.now c.args.also.now) c.requires.is_met
    ∙ sym (used_form (met_in paths c.args.named.now c.args.also.now) (get_or paths c.args.number []) (get_or paths c.args.scope []) false (sym c.is_found_alone.ensures ∙ c.if-is_found_alone.false))
