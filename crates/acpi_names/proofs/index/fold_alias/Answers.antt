use Rattle.std.proofs.Common.{[], ◌∷◌, get_or, sym}
use Rattle.asl_tree.specs.View.{trees_of}
use Rattle.asl_meaning.specs.Declarations.{AliasOf}
use Rattle.acpi_names.specs.Errors as E
use Rattle.acpi_names.specs.Mentions as M
use Rattle.acpi_names.specs.Shown.{named_as, spot_as}
use Rattle.acpi_names.proofs.FoldTelling.{alias_leads, alias_told, alias_sourceless, alias_no_source, alias_nameless, alias_no_name, leads_as, leads_here, told_value, told_later, told_as, told_no_more}
use Rattle.acpi_names.proofs.Telling.{tells_one, tells_then}
use Rattle.acpi_names.proofs.index.fold_alias.Goals as goal

pub returns-in_ok-push-in-Some-name_at-2-clause-names : goal.returns-in_ok-push-in-Some-name_at-2-clause-names
returns-in_ok-push-in-Some-name_at-2-clause-names c body =
    alias_leads c.args.index.now.paths c.declared.new.index.paths c.args.index.now.named.items c.declared.new.index.named.items (trees_of c.args.args.now) body (get_or c.args.index.now.paths c.args.scope []) (named_as c.in-Some.source) (named_as c.in-Some-name_at.alias) (sym c.in-Some.ensures) (sym c.in-Some-name_at.ensures) c.in_ok-path-in-Some-name_at.ensures.names

pub returns-in_ok-push-in-Some-name_at-2-clause-told : goal.returns-in_ok-push-in-Some-name_at-2-clause-told
returns-in_ok-push-in-Some-name_at-2-clause-told c here op body =
    let paths = c.args.index.now.paths in
    let a = c.args.out.now.items in
    let b = c.push.new.self.items in
    let e = c.push-in-Some-name_at.new.self.items in
    let s = named_as c.in-Some.source in
    let m = named_as c.in-Some-name_at.alias in
    told_as paths c.declared.new.index.paths c.args.index.now.named.items a e _ _ (λ d agrees. alias_told (trees_of c.args.args.now) body (get_or paths c.args.scope []) (spot_as here) op s m d (sym c.in-Some.ensures) (sym c.in-Some-name_at.ensures))
    (told_later paths paths c.declared.new.index.paths c.args.index.now.named.items a e _ c.in_ok-path-in-Some-name_at.ensures.others
    (told_value paths c.args.index.now.named.items a e c.args.scope (λ p. M.Used' E.AnObject s.0 s.1 p ∷ M.Declares m.0 m.1 (AliasOf s.1 p) p ∷ []) c.requires.scope_in
    (tells_then a b e _ _ (tells_one a b _ c.in_ok-push-in-Some-name_at.ensures.items) (tells_one b e _ c.in_ok-push-in-Some-name_at-2.ensures.items))))

pub returns-in-None-name_at-clause-names : goal.returns-in-None-name_at-clause-names
returns-in-None-name_at-clause-names c body =
    leads_as c.args.index.now.paths c.args.index.now.paths c.args.index.now.named.items c.args.index.now.named.items _ _ (λ d. alias_nameless (trees_of c.args.args.now) body (get_or c.args.index.now.paths c.args.scope []) (named_as c.in-Some.source) d (sym c.in-Some.ensures) (sym c.in-None-name_at.ensures)) (leads_here c.args.index.now.paths c.args.index.now.named.items)

pub returns-in-None-name_at-clause-told : goal.returns-in-None-name_at-clause-told
returns-in-None-name_at-clause-told c here op body =
    told_as c.args.index.now.paths c.args.index.now.paths c.args.index.now.named.items c.args.out.now.items c.args.out.now.items _ _
    (λ d agrees. alias_no_name (trees_of c.args.args.now) body (get_or c.args.index.now.paths c.args.scope []) (spot_as here) op (named_as c.in-Some.source) d (sym c.in-Some.ensures) (sym c.in-None-name_at.ensures)) (told_no_more c.args.index.now.paths c.args.index.now.named.items c.args.out.now.items)

pub returns-in-None-clause-told : goal.returns-in-None-clause-told
returns-in-None-clause-told c here op body =
    told_as c.args.index.now.paths c.args.index.now.paths c.args.index.now.named.items c.args.out.now.items c.args.out.now.items _ _ (λ d agrees. alias_no_source (trees_of c.args.args.now) body (get_or c.args.index.now.paths c.args.scope []) (spot_as here) op d (sym c.in-None.ensures)) (told_no_more c.args.index.now.paths c.args.index.now.named.items c.args.out.now.items)

pub returns-in-None-clause-names : goal.returns-in-None-clause-names
returns-in-None-clause-names c body =
    leads_as c.args.index.now.paths c.args.index.now.paths c.args.index.now.named.items c.args.index.now.named.items _ _ (λ d. alias_sourceless (trees_of c.args.args.now) body (get_or c.args.index.now.paths c.args.scope []) d (sym c.in-None.ensures)) (leads_here c.args.index.now.paths c.args.index.now.named.items)
