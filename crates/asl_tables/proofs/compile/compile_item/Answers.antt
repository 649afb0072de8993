use Rattle.std.proofs.Common.{◌≡◌, List, IfOk, refl, sym, ap, ◌∙◌, subst}
use Rattle.std.specs.Prelude.{◌++◌}
use Rattle.std.proofs.lemmas.Result.{IfOk-weaker}
use Rattle.iasl_messages.specs.declared.message.Message.{Message}
use Rattle.asl_tree.specs.View.{trees_of}
use Rattle.aml_code.specs.Header.{fields_of}
use Rattle.asl_shape.specs.Forms.{alone}
use Rattle.term_plans.specs.Plans.{plans_of}
use Rattle.asl_numbers.specs.Numbers.{numbered_all}
use Rattle.source_pieces.specs.Places.{core_places}
use Rattle.descriptor_checks.specs.Resolved.{described_paths}
use Rattle.block_checks.specs.Findings.{IsNamed}
use Rattle.block_checks.specs.Told.{told_of_names}
use Rattle.asl_tables.specs.Compiled.{literals_in, others_in, told_in, of_right, of_terms, unlowered}
use Rattle.asl_tables.proofs.Findings.{told_by, named_by, told_is, comes_beside}
use Rattle.asl_tables.proofs.Programs.{IsResolvedOf, resolved_block, written_formed, same_told, same_described, same_others, same_notes, block_room, block_formed, block_near, block_shaped, block_comes}
use Rattle.asl_tables.proofs.compile.compile_item.Goals as goal

pub check-requires : goal.check-requires
check-requires c = written_formed (alone c.requires.item) c.args.read.block c.requires.right c.requires.read.block c.requires.kept

pub compile_noted-requires : goal.compile_noted-requires
compile_noted-requires c =
    let items = alone c.requires.item in
    let checked = c.in_ok-checked.checked in
    let made = checked.block in
    let is = c.in_ok-checked.ensures in
    let resolved : IsResolvedOf items made = resolved_block items c.args.read.block made c.requires.read.block is.place is.file is.fields is.plans in
    let terms = trees_of made.terms.items in
    let trees : terms ≡ numbered_all 0 (plans_of made.terms.items) = is.trees ∙ ap (numbered_all 0) (sym is.plans) in
    let told = told_of_names (plans_of c.args.read.block.terms.items) in
    let also = described_paths (plans_of c.args.read.block.terms.items) in
    let named : IsNamed checked.names told also terms = subst (IsNamed checked.names told also) (sym is.trees) is.names in
    let others : checked.errors ≡ others_in items = same_others items c.args.read.block checked.errors c.requires.read.block is.errors in (
      block_room items made c.requires.right resolved c.requires.kept,
      (
        block_formed items made terms c.requires.right resolved c.requires.kept trees,
        (
          named_by checked.names told also terms named,
          (
            is.present,
            (
              block_near items made terms checked.errors resolved trees others,
              block_shaped items made terms checked.errors c.requires.right resolved c.requires.kept trees others,
            ),
          ),
        ),
      ),
    )

pub returns-clause-outcome : goal.returns-clause-outcome
returns-clause-outcome c = λ item kept right read.
    let items = alone item in
    let checked = c.in_ok-checked.checked in
    let made = checked.block in
    let is = c.in_ok-checked.ensures in
    let resolved : IsResolvedOf items made = resolved_block items c.args.read.block made read.block is.place is.file is.fields is.plans in
    let terms = trees_of made.terms.items in
    let trees : terms ≡ numbered_all 0 (plans_of made.terms.items) = is.trees ∙ ap (numbered_all 0) (sym is.plans) in
    let told = told_of_names (plans_of c.args.read.block.terms.items) in
    let also = described_paths (plans_of c.args.read.block.terms.items) in
    let named : IsNamed checked.names told also terms = subst (IsNamed checked.names told also) (sym is.trees) is.names in
    let others : checked.errors ≡ others_in items = same_others items c.args.read.block checked.errors read.block is.errors in
    let first : told_by checked.names ≡ told_in items = same_told items c.args.read.block (told_by checked.names) read.block (told_is checked.names told also terms named) in
    let places = core_places (plans_of made.terms.items) in
    let few = unlowered c.args.style (fields_of made) made.place terms (plans_of made.terms.items) in
    IfOk-weaker c.compile_noted.result _ _
    (λ it h. block_comes c.args.style c.args.lines.now items made terms places (told_by checked.names) checked.errors few it.outcome resolved trees refl first others refl
    (h ∙ comes_beside checked.names told also terms checked.errors few (λ beside. of_right c.args.style c.args.lines.now made.place places made.file (fields_of made) beside terms) named
    ∙ ap (λ beside. of_terms c.args.style c.args.lines.now made.place places made.file (fields_of made) (told_by checked.names) checked.errors few beside terms) (same_described items c.args.read.block read.block)))
    c.compile_noted.ensures.outcome

pub returns-clause-notes : goal.returns-clause-notes
returns-clause-notes c = λ item kept right read.
    let items = alone item in
    let checked = c.in_ok-checked.checked in
    let literals = read.literals in
    let notes = same_notes items c.args.read.block checked.notes read.block c.in_ok-checked.ensures.notes in
    let noted = ap (λ (ms : List Message). ms ++ checked.notes) literals ∙ ap (λ (ms : List Message). literals_in items ++ ms) notes in
    subst (λ (ms : List Message). IfOk c.compile_noted.result (λ it. it.notes ≡ ms)) noted c.compile_noted.ensures.notes
