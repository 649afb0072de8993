use Rattle.std.proofs.Common.{◌≡◌, ◌||◌, [], ◌∷◌, true, get_or, Some, sym, ap, ◌∙◌}
use Rattle.acpi_names.specs.Paths.{is_flagged}
use Rattle.acpi_names.proofs.Numbers.{found_here, number_at}
use Rattle.name_spelling.specs.Forms.{met_in}
use Rattle.name_spelling.proofs.form.nearest_met.Goals as goal

pub returns-then-is_met-clause-path : goal.returns-then-is_met-clause-path
returns-then-is_met-clause-path c =
    let paths = c.args.paths.now in
    let named = c.args.named.now in
    let also = c.args.also.now in
    let around = get_or paths c.loop-number.around [] in
    let number = c.in-Some.ensures.number in
    let there : met_in paths named also (c.args.segment ∷ around) ≡ true = ap (λ o. is_flagged named o || is_flagged also o) (sym number) ∙ sym c.is_met.ensures ∙ c.if-is_met.true in
    ap Some (number_at paths (c.args.segment ∷ around) c.in-Some.number (sym number))
    ∙ sym (found_here (met_in paths named also) c.args.segment around there)
    ∙ c.loop-number.invariant.same
