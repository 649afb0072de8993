use Rattle.std.proofs.Common.{◌≡◌, ℕ, List, Vec, Global, true, [], refl, sym, ap, ◌∙◌, subst}
use Rattle.asl_tree.specs.declared.term.Node.{Node}
use Rattle.acpi_state.specs.Objects.{lookup}
use Rattle.asl_meaning.specs.Declarations.{Declarations, is_named, written_external}
use Rattle.acpi_values.specs.Paths.{AbsolutePath}
use Rattle.acpi_names.specs.Spelled.{spelled_all}
use Rattle.asl_lower.specs.Nodes.{named_all}
use Rattle.asl_prints.specs.Forms.{formed_all}
use Rattle.form_shapes.proofs.Formed.{forms_formed}
use Rattle.form_shapes.proofs.Names.{no_name_errors as no_form_names, no_type_errors as no_form_types}
use Rattle.hidden_locals.specs.Switches.{without_switches}
use Rattle.loop_shapes.proofs.Names.{same_name_errors, same_type_errors}
use Rattle.loop_shapes.proofs.Formed.{loops_formed}
use Rattle.asl_lower.proofs.Errors.{no_name_errors, no_type_errors}
use Rattle.aml_code.specs.Header.{fields_of}
use Rattle.asl_tree.specs.Tree.{Trees}
use Rattle.asl_tree.specs.View.{trees_of}
use Rattle.acpi_names.specs.Errors.{whole_of, name_errors, type_errors}
use Rattle.acpi_names.specs.Parts.{Agrees}
use Rattle.acpi_names.specs.Tables.{Tabled, Flags}
use Rattle.acpi_names.specs.Terms.{are_terms}
use Rattle.acpi_values.specs.Revisions.{width_of}
use Rattle.asl_fold.specs.Folds.{folded_where}
use Rattle.wrapped_externals.specs.Wraps.{wrapped_where}
use Rattle.wrapped_externals.specs.Starts.{placed_where}
use Rattle.wrapped_externals.proofs.Asked as wrapped
use Rattle.term_places.specs.Places.{places_of}
use Rattle.program_shapes.proofs.Cores.{core_looped}
use Rattle.asl_fold.proofs.Asked.{where_shaped, where_name_errors, where_type_errors}
use Rattle.named_sessions.specs.Shaped.{AreFormed, AreNamed, AreShaped}
use Rattle.named_sessions.proofs.Terms.{formed_terms}
use Rattle.asl_tables.proofs.Programs.{like_another}
use Rattle.asl_tables.proofs.compile.written.Goals as goal

pub returns : goal.returns
returns g c =
    let block = c.args.block in
    let terms : Trees = g.of.0 in
    let also = g.of.1 in
    let formed = c.requires.1.0 in
    let near = c.requires.1.1.0 in
    let names = c.requires.1.1.1.1.0 in
    let plain : Trees = formed_all terms in
    let program : Trees = without_switches plain in
    let left : AreFormed ⊥ AreNamed (Unit {0}) (Unit {0}) plain = forms_formed AreNamed (Unit {0}) (Unit {0}) terms formed near in
    let loops : are_terms program ≡ true = formed_terms ⊥ AreNamed (Unit {0}) ⊥ program (loops_formed AreNamed (Unit {0}) (Unit {0}) plain left) in
    let named : name_errors program ≡ [] = same_name_errors AreNamed (Unit {0}) (Unit {0}) plain left ∙ no_form_names AreNamed (Unit {0}) (Unit {0}) terms formed near names.no_names names.no_kinds in
    let called : type_errors program ≡ [] = same_type_errors AreNamed (Unit {0}) (Unit {0}) plain left ∙ no_form_types AreNamed (Unit {0}) (Unit {0}) terms formed near names.no_names names.no_kinds in
    let index = c.args.names.index in
    let wrap = c.args.style.wrap in
    let width = width_of block.revision in
    let low : Trees = folded_where c.args.style.fold width (named_all program) in
    let made : Trees = wrapped_where wrap low in
    let shaped : AreShaped low = where_shaped c.args.style.fold width (named_all program) c.requires.1.1.1.0 in
    let moved : trees_of c.replace-lowered.result.items ≡ low = ap (λ (ts : Vec Node Global). trees_of ts.items) c.replace-lowered.ensures.value ∙ c.requires.1.1.1.1.1 in
    let trees : trees_of c.in_ok-terms.terms.items ≡ made = c.in_ok-terms.ensures.trees ∙ ap (wrapped_where wrap) moved in
    let places : places_of c.in_ok-spelled.spelled.items ≡ placed_where wrap low (places_of block.terms.items) =
    c.in_ok-spelled.ensures.places ∙ c.in_ok-terms.ensures.places (subst AreShaped (sym moved) shaped) ∙ ap (λ ts. placed_where wrap ts (places_of c.replace-lowered.result.items)) moved
    ∙ ap (λ (ts : Vec Node Global). placed_where wrap low (places_of ts.items)) c.replace-lowered.ensures.value in
    let core = core_looped wrap c.args.style.fold width c.args.style.shorten also index.paths index.named.items c.as_slice.result.now terms (trees_of c.in_ok-spelled.spelled.items) formed near names.no_names names.no_kinds
    (subst
    (λ ts. (d : Declarations) (counts : List (AbsolutePath × ℕ)) → Agrees index.paths index.named.items d → Tabled index.paths c.as_slice.result.now (lookup counts) → trees_of c.in_ok-spelled.spelled.items ≡ spelled_all c.args.style.shorten also (is_named d) (written_external counts) ts [])
    trees (λ d counts agrees tabled. c.in_ok-spelled.ensures.trees d counts also agrees tabled (subst (λ flags. Flags index.paths flags also) (sym c.as_slice-2.ensures.value) names.beside)))
    names.names (subst (λ table. Tabled index.paths table (lookup (whole_of terms).calls)) (sym c.as_slice.ensures.value) names.calls) in
    like_another c.args.style c.args.lines.now c.write_core.result block.place block.place (places_of c.in_ok-spelled.spelled.items) (placed_where wrap low (places_of block.terms.items)) block.file block.file (fields_of block) (fields_of block) also made
    refl places refl refl
    (c.write_core.ensures also made (record {
      room = c.requires.0;
      shaped = wrapped.where_shaped wrap low shaped;
      names = wrapped.where_name_errors wrap low ∙ where_name_errors c.args.style.fold width (named_all program) ∙ no_name_errors program loops named;
      counts = wrapped.where_type_errors wrap low ∙ where_type_errors c.args.style.fold width (named_all program) ∙ no_type_errors program loops called;
      core = core;
    }))
