use Rattle.std.proofs.Common.{◌≡◌, [], length, sym, ap, ◌∙◌, subst, arith}
use Rattle.std.proofs.lemmas.List.{nil_from_length}
use Rattle.acpi_values.specs.Revisions.{width_of}
use Rattle.aml_code.specs.Header.{fields_of}
use Rattle.asl_tree.specs.Tree.{Trees}
use Rattle.asl_tree.specs.View.{trees_of}
use Rattle.asl_lower.specs.Nodes.{named_all}
use Rattle.asl_fold.proofs.Asked.{where_shaped}
use Rattle.asl_prints.specs.Forms.{formed_all}
use Rattle.hidden_locals.specs.Switches.{without_switches}
use Rattle.term_plans.specs.Plans.{plans_of}
use Rattle.copy_checks.specs.Copies.{too_many_copies, IsSizeOf}
use Rattle.named_sessions.specs.Shaped.{AreShaped}
use Rattle.source_pieces.specs.Places.{core_places}
use Rattle.term_places.specs.Places.{places_of}
use Rattle.asl_tables.specs.Compiled.{copies_of, lowered_as, of_right}
use Rattle.asl_tables.proofs.Early.{early_of, size_of, early_wrong, same_right, others_come}
use Rattle.asl_tables.proofs.Programs.{refused_is}
use Rattle.asl_tables.proofs.compile.table_of.Goals as goal

pub returns-then-not-is_empty : goal.returns-then-not-is_empty
returns-then-not-is_empty g c =
    let block = c.args.block in
    let told = c.in_ok-early.early in
    let size : IsSizeOf block.place (plans_of c.deref-2.result.now) c.program_size-size.result = size_of block.place c.deref.result.now c.deref-2.result.now c.program_size-size.result (c.deref.ensures.value ∙ sym c.deref-2.ensures.value) c.program_size-size.ensures in
    let early = early_of c.args.style.fold block.place c.deref-2.result.now block.terms.items g.of.0 told c.deref-2.ensures.value c.requires.0 (c.in_ok-early.ensures block.place size) in
    early_wrong c.args.style (fields_of block) block.place g.of.0 (plans_of block.terms.items) told _ early
    (λ e. let none : length told ≡ 0 = ap length e in let never : ⊥ = grind (arith, none, c.is_empty.ensures, c.if-not-is_empty.true) in never)

pub core_errors-requires : goal.core_errors-requires
core_errors-requires g c =
    let block = c.args.block in
    let style = c.args.style in
    let named : Trees = named_all (without_switches (formed_all g.of.0)) in
    let same : trees_of c.deref-3.result.now ≡ lowered_as style (fields_of block) g.of.0 = ap trees_of c.deref-3.ensures.value ∙ c.in_ok-core.ensures.terms ∙ ap (lowered_as style (fields_of block)) c.requires.0 in
    subst AreShaped (sym same) (where_shaped style.fold (width_of block.revision) named c.requires.1.1.1.1.1.0)

pub returns-then-not-is_empty-2 : goal.returns-then-not-is_empty-2
returns-then-not-is_empty-2 g c =
    let block = c.args.block in
    let style = c.args.style in
    let plans = plans_of block.terms.items in
    let told = c.in_ok-errors.errors in
    let size : IsSizeOf block.place plans c.program_size-size.result = size_of block.place c.deref.result.now block.terms.items c.program_size-size.result c.deref.ensures.value c.program_size-size.ensures in
    let same : trees_of c.deref-3.result.now ≡ lowered_as style (fields_of block) g.of.0 = ap trees_of c.deref-3.ensures.value ∙ c.in_ok-core.ensures.terms ∙ ap (lowered_as style (fields_of block)) c.requires.0 in
    refused_is told (copies_of style (fields_of block) block.place g.of.0 plans) _ (
      c.in_ok-errors.ensures block.place plans size ∙ ap (too_many_copies block.place plans) same,
      λ e. let none : length told ≡ 0 = ap length (c.in_ok-errors.ensures block.place plans size ∙ ap (too_many_copies block.place plans) same ∙ e) in let never : ⊥ = grind (arith, none, c.is_empty-2.ensures, c.if-not-is_empty-2.true) in never,
    )

pub returns : goal.returns
returns g c =
    let block = c.args.block in
    let style = c.args.style in
    let plans = plans_of block.terms.items in
    let told = c.in_ok-errors.errors in
    let core = c.in_ok-core.core in
    let size : IsSizeOf block.place plans c.program_size-size.result = size_of block.place c.deref.result.now block.terms.items c.program_size-size.result c.deref.ensures.value c.program_size-size.ensures in
    let same : trees_of c.deref-3.result.now ≡ lowered_as style (fields_of block) g.of.0 = ap trees_of c.deref-3.ensures.value ∙ c.in_ok-core.ensures.terms ∙ ap (lowered_as style (fields_of block)) c.requires.0 in
    let empty : length told ≡ 0 = grind (arith, c.is_empty-2.ensures, c.if-not-is_empty-2.false) in
    let none : copies_of style (fields_of block) block.place g.of.0 plans ≡ [] = sym (c.in_ok-errors.ensures block.place plans size ∙ ap (too_many_copies block.place plans) same) ∙ nil_from_length told empty in
    let right = same_right style c.args.lines.now core.place block.place (places_of core.terms.items) (core_places plans) core.file block.file (fields_of core) (fields_of block) g.of.1 g.of.0 c.in_ok-core.ensures.place c.in_ok-core.ensures.places c.in_ok-core.ensures.file c.in_ok-core.ensures.fields in
    others_come c.written.result (copies_of style (fields_of block) block.place g.of.0 plans) (of_right style c.args.lines.now core.place (places_of core.terms.items) core.file (fields_of core) g.of.1 g.of.0)
    (of_right style c.args.lines.now block.place (core_places plans) block.file (fields_of block) g.of.1 g.of.0) none right c.written.ensures
