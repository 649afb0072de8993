use Rattle.std.proofs.Common.{[], get_or, ap, sym, ◌∙◌}
use Rattle.acpi_names.specs.Errors as spec
use Rattle.acpi_names.specs.Shown.{asked_as, spot_as}
use Rattle.name_checks.proofs.Finding.{finds_as, asked_end}
use Rattle.name_checks.proofs.rules.asked_types.Goals as goal

pub returns-in_ok-unless-in-Value : goal.returns-in_ok-unless-in-Value
returns-in_ok-unless-in-Value g c =
    let paths = c.args.facts.now.index.paths in
    finds_as paths c.args.out.now.items c.unless.new.out.items _ _
    (asked_end g.whole paths c.args.target c.name_end-end.result _ _ spec.takes_none (spec.WrongCount (spot_as c.args.at) c.args.name.now) c.takes_none.result (c.takes_none.ensures paths) c.name_end-end.ensures c.requires.1.0
    ∙ ap (λ asked. spec.asked_types g.whole (asked_as asked) (spot_as c.args.at) c.args.name.now (get_or paths c.args.scope [])) (sym c.in-Value.is))
    (c.in_ok-unless-in-Value.ensures paths)

pub returns-in_ok-unless-in-Mutex : goal.returns-in_ok-unless-in-Mutex
returns-in_ok-unless-in-Mutex g c =
    let paths = c.args.facts.now.index.paths in
    finds_as paths c.args.out.now.items c.unless-in-Mutex.new.out.items _ _
    (asked_end g.whole paths c.args.target c.name_end-end.result _ _ spec.is_mutex (spec.WrongKind (spot_as c.args.at) c.args.name.now) c.ends_at_mutex.result (c.ends_at_mutex.ensures paths) c.name_end-end.ensures c.requires.1.0
    ∙ ap (λ asked. spec.asked_types g.whole (asked_as asked) (spot_as c.args.at) c.args.name.now (get_or paths c.args.scope [])) (sym c.in-Mutex.is))
    (c.in_ok-unless-in-Mutex.ensures paths)

pub returns-in_ok-unless-in-Event : goal.returns-in_ok-unless-in-Event
returns-in_ok-unless-in-Event g c =
    let paths = c.args.facts.now.index.paths in
    finds_as paths c.args.out.now.items c.unless-in-Event.new.out.items _ _
    (asked_end g.whole paths c.args.target c.name_end-end.result _ _ spec.is_event (spec.WrongKind (spot_as c.args.at) c.args.name.now) c.ends_at_event.result (c.ends_at_event.ensures paths) c.name_end-end.ensures c.requires.1.0
    ∙ ap (λ asked. spec.asked_types g.whole (asked_as asked) (spot_as c.args.at) c.args.name.now (get_or paths c.args.scope [])) (sym c.in-Event.is))
    (c.in_ok-unless-in-Event.ensures paths)

pub returns-in_ok-unless-in-Unit : goal.returns-in_ok-unless-in-Unit
returns-in_ok-unless-in-Unit g c =
    let paths = c.args.facts.now.index.paths in
    finds_as paths c.args.out.now.items c.unless-in-Unit.new.out.items _ _
    (asked_end g.whole paths c.args.target c.name_end-end.result _ _ spec.is_unit (spec.WrongKind (spot_as c.args.at) c.args.name.now) c.ends_at_unit.result (c.ends_at_unit.ensures paths) c.name_end-end.ensures c.requires.1.0
    ∙ ap (λ asked. spec.asked_types g.whole (asked_as asked) (spot_as c.args.at) c.args.name.now (get_or paths c.args.scope [])) (sym c.in-Unit.is))
    (c.in_ok-unless-in-Unit.ensures paths)

pub returns-in_ok-unless-in-Region : goal.returns-in_ok-unless-in-Region
returns-in_ok-unless-in-Region g c =
    let paths = c.args.facts.now.index.paths in
    finds_as paths c.args.out.now.items c.unless-in-Region.new.out.items _ _
    (asked_end g.whole paths c.args.target c.name_end-end.result _ _ spec.is_region (spec.WrongKind (spot_as c.args.at) c.args.name.now) c.ends_at_region.result (c.ends_at_region.ensures paths) c.name_end-end.ensures c.requires.1.0
    ∙ ap (λ asked. spec.asked_types g.whole (asked_as asked) (spot_as c.args.at) c.args.name.now (get_or paths c.args.scope [])) (sym c.in-Region.is))
    (c.in_ok-unless-in-Region.ensures paths)
