use Rattle.std.proofs.Common.{◌≡◌, List, IfOk, ap, ◌∙◌, subst}
use Rattle.iasl_messages.specs.declared.place.Place.{Place}
use Rattle.asl_tree.specs.Tree.{Trees}
use Rattle.asl_tree.specs.View.{trees_of}
use Rattle.asl_fold.specs.Folds.{folded_where}
use Rattle.asl_lower.specs.Nodes.{named_all}
use Rattle.asl_prints.specs.Forms.{formed_all}
use Rattle.hidden_locals.specs.Switches.{without_switches}
use Rattle.term_plans.specs.Plans.{plans_of}
use Rattle.term_places.specs.Places.{places_of}
use Rattle.source_pieces.specs.Places.{core_places}
use Rattle.source_pieces.proofs.Planned.{places_planned}
use Rattle.asl_tables.proofs.Given.{forms_given}
use Rattle.asl_tables.proofs.compile.lowered_terms.Goals as goal

pub returns-clause-terms : goal.returns-clause-terms
returns-clause-terms c =
    let source : Trees = trees_of c.args.terms.items in
    let plain : trees_of c.in_ok-plain.plain.items ≡ formed_all source = c.in_ok-plain.ensures.trees in
    let given = forms_given source (trees_of c.in_ok-plain.plain.items) c.requires.formed c.requires.near plain in
    let turns : trees_of c.in_ok-turns.turns.items ≡ without_switches (formed_all source) = c.in_ok-turns.ensures.trees given ∙ ap without_switches plain in
    let named : trees_of c.in_ok-named.named.items ≡ named_all (without_switches (formed_all source)) = c.in_ok-named.ensures.trees ∙ ap named_all turns in
    subst (λ ts. IfOk c.fold_where.result (λ core. trees_of core.items ≡ folded_where c.args.fold c.args.width ts)) named c.fold_where.ensures.trees

pub returns-clause-places : goal.returns-clause-places
returns-clause-places c =
    let planned = places_planned c.args.terms.items c.in_ok-plain.plain.items c.requires.formed c.requires.near c.in_ok-plain.ensures.trees c.in_ok-plain.ensures.plans in
    let named : places_of c.in_ok-named.named.items ≡ core_places (plans_of c.args.terms.items) = c.in_ok-named.ensures.places ∙ c.in_ok-turns.ensures.places ∙ planned in
    subst (λ (ps : List Place). IfOk c.fold_where.result (λ core. places_of core.items ≡ ps)) named c.fold_where.ensures.places
