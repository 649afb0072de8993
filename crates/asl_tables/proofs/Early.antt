-- The core has at least the nodes that the copies of the steps of Fors weigh.
use Rattle.std.proofs.Common.{◌≡◌, ℕ, ◌≤◌, Bool, true, false, List, [], Result, sym, ap, ◌∙◌, subst, arith}
use Rattle.std.specs.Prelude.{IfOk}
use Rattle.std.specs.declared.alloc.AllocError.{AllocError}
use Rattle.iasl_messages.specs.declared.message.Message.{Message}
use Rattle.iasl_messages.specs.declared.place.Place.{Place}
use Rattle.acpi_values.specs.declared.width.Width.{Width}
use Rattle.asl_tree.specs.Tree.{Trees}
use Rattle.asl_prints.specs.Forms.{formed_all}
use Rattle.hidden_locals.specs.Switches.{without_switches}
use Rattle.asl_lower.specs.Nodes.{named_all}
use Rattle.asl_fold.specs.Folds.{folded_where}
use Rattle.named_sessions.specs.Shaped.{AreFormed, AreNamed}
use Rattle.form_shapes.specs.Near.{AreNear}
use Rattle.asl_tree.specs.View.{trees_of}
use Rattle.asl_tree.specs.declared.term.Node.{Node}
use Rattle.acpi_values.specs.Paths.{AbsolutePath}
use Rattle.acpi_values.specs.Revisions.{width_of}
use Rattle.aml_code.specs.Header.{HeaderFields}
use Rattle.iasl_messages.specs.declared.place.Line.{Line}
use Rattle.term_plans.specs.Plans.{Plans, plans_of}
use Rattle.asl_numbers.specs.Numbers.{nodes}
use Rattle.core_nodes.specs.Nodes.{nodes_in}
use Rattle.copy_checks.specs.Copies.{copies_told, IsSizeOf}
use Rattle.copy_checks.specs.declared.copies.ProgramSize.{ProgramSize}
use Rattle.copy_checks.proofs.Telling.{have_numbers, told_of_more}
use Rattle.block_outcomes.specs.declared.outcome.Outcome.{Outcome}
use Rattle.block_outcomes.specs.declared.outcome.Outcome.TheVariants.{Faulty}
use Rattle.asl_tables.specs.declared.compile.Style.{Style}
use Rattle.asl_tables.specs.Compiled.{copies_of, of_right, unless_wrong}
use Rattle.asl_tables.specs.Early.{WeighsNoMore, IsToldEarly}
use Rattle.asl_tables.proofs.Programs.{refused_is, right_comes}
use Rattle.core_nodes.specs.Weights.{integer_weight, weights, copied_in}
use Rattle.core_bounds.proofs.Looping.{loops_weigh}
use Rattle.core_bounds.proofs.Naming.{weights_keep as names_weigh}
use Rattle.core_bounds.proofs.Folding.{weights_keep as folding_weighs}
use Rattle.core_bounds.proofs.Counting.{weights_count as nodes_weigh}
use Rattle.form_bounds.proofs.Copies.{all_copies}

folded_weighs : (fold : Bool) (width : Width) (terms : Trees) → weights (integer_weight fold) terms ≤ weights (integer_weight fold) (folded_where fold width terms)
folded_weighs true width terms = folding_weighs width terms
folded_weighs false width terms = omega arith

least : (fold : Bool) → integer_weight fold ≤ 1
least true = omega arith
least false = omega arith

pub core_weighs : (terms : Trees) → AreFormed (Unit {0}) AreNamed (Unit {0}) (Unit {0}) terms → AreNear terms → (fold : Bool) (width : Width)
    → copied_in (integer_weight fold) 0 terms ≤ nodes_in (folded_where fold width (named_all (without_switches (formed_all terms))))
core_weighs terms formed near fold width =
    let integer : ℕ = integer_weight fold in
    let plain : Trees = formed_all terms in
    let turns : Trees = without_switches plain in
    let named : Trees = named_all turns in
    let core : Trees = folded_where fold width named in
    let one = all_copies integer AreNamed (Unit {0}) (Unit {0}) terms formed near in
    let two = loops_weigh integer plain in
    let three = names_weigh integer turns in
    let four = folded_weighs fold width named in
    let five = nodes_weigh integer (least fold) core in
    omega (arith, one, two, three, four, five)

-- what is told of the weight alone is nothing, or what is told of the core
pub told_early : (fold : Bool) (block : Place) (terms : Trees) (ps : Plans) (size : ProgramSize) (weight : ℕ) (told : List Message) → AreFormed (Unit {0}) AreNamed (Unit {0}) (Unit {0}) terms → AreNear terms → IsSizeOf block ps size
    → WeighsNoMore fold weight terms → told ≡ copies_told size.place (nodes ps) weight → IsToldEarly fold block terms ps told
told_early fold block terms ps size weight told formed near is no_more e = record {
  numbers = λ none. let lt = have_numbers size.place (nodes ps) weight (sym e ∙ none) in omega (arith, lt);
  core = λ some width.
      let core = nodes_in (folded_where fold width (named_all (without_switches (formed_all terms)))) in
      let le = core_weighs terms formed near fold width in
      let more : weight ≤ core = omega (arith, le, no_more) in
      e ∙ told_of_more size.place (nodes ps) weight core more (λ none. some (e ∙ none)) ∙ ap (λ place. copies_told place (nodes ps) core) is.place;
}

-- the same of nodes that are lent
pub early_of : (fold : Bool) (block : Place) (lent nodes : List Node) (terms : Trees) (told : List Message) → lent ≡ nodes → trees_of nodes ≡ terms → IsToldEarly fold block (trees_of lent) (plans_of lent) told → IsToldEarly fold block terms (plans_of nodes) told
early_of fold block lent nodes terms told e f h =
    subst (λ (ts : Trees). IsToldEarly fold block ts (plans_of nodes) told) f (subst (λ (ns : List Node). IsToldEarly fold block (trees_of ns) (plans_of ns) told) e h)

pub size_of : (block : Place) (lent nodes : List Node) (size : ProgramSize) → lent ≡ nodes → IsSizeOf block (plans_of lent) size → IsSizeOf block (plans_of nodes) size
size_of block lent nodes size e h = subst (λ (ns : List Node). IsSizeOf block (plans_of ns) size) e h

-- a block of which too many copies are told early
pub early_wrong : (style : Style) (fields : HeaderFields) (block : Place) (terms : Trees) (ps : Plans) (told : List Message) (it : Outcome) → IsToldEarly style.fold block terms ps told → (told ≡ [] → ⊥) → Faulty told ≡ unless_wrong (copies_of style fields block terms ps) it
early_wrong style fields block terms ps told it h some =
    let e = h.core some (width_of fields.revision) in
    refused_is told (copies_of style fields block terms ps) it (e, λ none. some (e ∙ none))

-- a block of the same place, places, file and header comes to the same
pub same_right : (style : Style) (lines : List Line) (place other : Place) (inner places : List Place) (file own : List ℕ) (fields header : HeaderFields) (also : AbsolutePath → Bool) (terms : Trees) → place ≡ other → inner ≡ places → file ≡ own → fields ≡ header
    → of_right style lines place inner file fields also terms ≡ of_right style lines other places own header also terms
same_right style lines place other inner places file own fields header also terms a b c d =
    ap (λ p. of_right style lines p inner file fields also terms) a ∙ ap (λ ps. of_right style lines other ps file fields also terms) b
    ∙ ap (λ f. of_right style lines other places f fields also terms) c ∙ ap (λ h. of_right style lines other places own h also terms) d

pub others_come : (r : Result Outcome AllocError) (errors : List Message) (it other : Outcome) → errors ≡ [] → it ≡ other → IfOk r (λ made. made ≡ it) → IfOk r (λ made. made ≡ unless_wrong errors other)
others_come r errors it other none same h = right_comes r errors other none (subst (λ (o : Outcome). IfOk r (λ made. made ≡ o)) same h)
