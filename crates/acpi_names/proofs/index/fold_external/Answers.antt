use Rattle.std.proofs.Common.{[], ◌∷◌, get_or, sym}
use Rattle.asl_tree.specs.View.{trees_of}
use Rattle.acpi_names.specs.Mentions as M
use Rattle.acpi_names.specs.Shown.{named_as, spot_as}
use Rattle.acpi_names.proofs.FoldTelling.{external_leads, external_told, external_undeclared, external_untold, leads_as, leads_here, told_value, told_later, told_as, told_no_more}
use Rattle.acpi_names.proofs.Telling.{tells_one}
use Rattle.acpi_names.proofs.index.fold_external.Goals as goal

pub returns-in_ok-declared-in-Some-clause-names : goal.returns-in_ok-declared-in-Some-clause-names
returns-in_ok-declared-in-Some-clause-names c body =
    external_leads c.args.index.now.paths c.declared.new.index.paths c.args.index.now.named.items c.declared.new.index.named.items (trees_of c.args.args.now) body (get_or c.args.index.now.paths c.args.scope []) c.args.object c.args.parameters (named_as c.in-Some.found) (sym c.in-Some.ensures) c.in_ok-declared-in-Some.ensures.names

pub returns-in_ok-declared-in-Some-clause-told : goal.returns-in_ok-declared-in-Some-clause-told
returns-in_ok-declared-in-Some-clause-told c op body =
    let paths = c.args.index.now.paths in
    let m = named_as c.in-Some.found in
    told_as paths c.declared.new.index.paths c.args.index.now.named.items c.args.out.now.items c.push.new.self.items _ _ (λ d agrees. external_told (trees_of c.args.args.now) body (get_or paths c.args.scope []) (spot_as c.args.here) op c.args.object c.args.parameters m d (sym c.in-Some.ensures))
    (told_later paths paths c.declared.new.index.paths c.args.index.now.named.items c.args.out.now.items c.push.new.self.items _ c.in_ok-declared-in-Some.ensures.others
    (told_value paths c.args.index.now.named.items c.args.out.now.items c.push.new.self.items c.args.scope (λ s. M.Outside (spot_as c.args.here) m.0 m.1 (record { type = c.args.object; parameters = c.args.parameters }) s ∷ []) c.requires.scope_in (tells_one c.args.out.now.items c.push.new.self.items _ c.in_ok-push-in-Some.ensures.items)))

pub returns-in-None-clause-names : goal.returns-in-None-clause-names
returns-in-None-clause-names c body =
    leads_as c.args.index.now.paths c.args.index.now.paths c.args.index.now.named.items c.args.index.now.named.items _ _ (λ d. external_undeclared (trees_of c.args.args.now) body (get_or c.args.index.now.paths c.args.scope []) c.args.object c.args.parameters d (sym c.in-None.ensures)) (leads_here c.args.index.now.paths c.args.index.now.named.items)

pub returns-in-None-clause-told : goal.returns-in-None-clause-told
returns-in-None-clause-told c op body =
    told_as c.args.index.now.paths c.args.index.now.paths c.args.index.now.named.items c.args.out.now.items c.args.out.now.items _ _
    (λ d agrees. external_untold (trees_of c.args.args.now) body (get_or c.args.index.now.paths c.args.scope []) (spot_as c.args.here) op c.args.object c.args.parameters d (sym c.in-None.ensures)) (told_no_more c.args.index.now.paths c.args.index.now.named.items c.args.out.now.items)
