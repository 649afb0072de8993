-- The table of a source in which nothing is wrong does what the source says.
use Rattle.std.proofs.Common.{◌≡◌, ℕ, ◌+◌, ◌≤◌, List, [], length, ◌++◌, arith, length-append, Bool, true, sym, ◌∙◌, subst}
use Rattle.std.proofs.lemmas.Nat.{mod_below}
use Rattle.acpi_values.specs.declared.width.Width.{Width}
use Rattle.aml_code.specs.Header.{header_length, checksum_of, header_with}
use Rattle.aml_meaning.specs.Encoded.{encoded_terms}
use Rattle.aml_sessions.proofs.Tables.{definition_is, width_is, is_header}
use Rattle.named_sessions.specs.Shaped.{AreFormed, AreNamed, AreShaped}
use Rattle.named_sessions.proofs.Main.{is_faithful}
use Rattle.named_sessions.proofs.Terms.{formed_terms}
use Rattle.acpi_names.specs.Errors.{name_errors, type_errors}
use Rattle.acpi_names.specs.Terms.{are_terms}
use Rattle.acpi_state.specs.Sessions.{present_ones}
use Rattle.asl_meaning.specs.Declarations.{known_of, externals}
use Rattle.aml_meaning.specs.ByteSession.{IsFaithful}
use Rattle.aml_sessions.specs.Ready.{AreItems}
use Rattle.asl_lower.specs.Nodes.{named_all}
use Rattle.asl_prints.specs.Forms.{formed_all}
use Rattle.form_shapes.specs.Near.{AreNear}
use Rattle.form_shapes.proofs.Formed.{forms_formed}
use Rattle.form_shapes.proofs.Names.{no_name_errors as no_form_names, no_type_errors as no_form_types}
use Rattle.form_shapes.proofs.Locals.{forms_have_locals}
use Rattle.form_shapes.proofs.Faithful.{does_formed}
use Rattle.hidden_locals.specs.Switches.{without_switches, HaveLocals}
use Rattle.loop_shapes.proofs.Formed.{loops_formed}
use Rattle.loop_shapes.proofs.Names.{same_name_errors, same_type_errors}
use Rattle.loop_shapes.proofs.Faithful.{does_unswitched}
use Rattle.switch_checks.proofs.Silent.{have_locals}
use Rattle.asl_fold.proofs.Asked.{where_shaped, where_name_errors, where_type_errors}
use Rattle.wrapped_externals.proofs.Asked as wrapped
use Rattle.asl_lower.proofs.Named.{same_named}
use Rattle.asl_lower.proofs.Declared.{same_known, same_externals}
use Rattle.asl_lower.proofs.Errors.{no_name_errors, no_type_errors}
use Rattle.asl_tree.specs.Tree.{Trees}
use Rattle.program_shapes.proofs.Lowered.{all_named}
use Rattle.asl_syntax.specs.declared.raw.Raw.{Raw}
use Rattle.asl_syntax.specs.Written.{writtens}
use Rattle.term_plans.specs.Plans.{plan_at, number_of}
use Rattle.asl_shape.specs.Forms.{errors_at, args_of}
use Rattle.program_shapes.specs.Kept.{IsKeptSource}
use Rattle.program_shapes.proofs.Lists.{plans_laid}
use Rattle.program_shapes.proofs.Laid.{terms_laid}
use Rattle.program_shapes.proofs.Near.{plans_near}
use Rattle.program_shapes.proofs.Stripped.{right_names, right_kinds}
use Rattle.descriptor_shapes.proofs.Blocks.{resolved_formed}
use Rattle.program_shapes.specs.Sources.{source_in, plans_in, terms_in, statements_in, layouts_in, fields_in, width_in, lowered_in, core_in, described_in, spelled_in, table_in, IsRight, IsTableOfSource}
use Rattle.program_shapes.proofs.Folded.{does_unfolded}
use Rattle.program_shapes.proofs.Wrapped.{does_unwrapped}
use Rattle.program_shapes.proofs.Blocks.{terms_as, room_in}
use Rattle.program_shapes.proofs.Headers.{HaveRoom}

-- its terms are formed
pub terms_are_formed : (items : List Raw) → errors_at items ≡ [] → IsKeptSource (writtens items) → AreFormed (Unit {0}) AreNamed (Unit {0}) (Unit {0}) (terms_in items)
unfolding errors_at
terms_are_formed items e k = resolved_formed 0 (source_in items) (terms_as (writtens items) e k 0)

-- and laid, where nothing is wrong with the lists of fields
terms_are_laid : (items : List Raw) → errors_at items ≡ [] → layouts_in items ≡ [] → IsKeptSource (writtens items) → AreFormed (Unit {0}) (AreItems 0) (Unit {0}) (Unit {0}) (terms_in items)
terms_are_laid items e l k = terms_laid (Unit {0}) (Unit {0}) (Unit {0}) (terms_in items) (terms_are_formed items e k) (plans_laid 0 (plans_in items) l)

-- no Continue of a For stands in a container in it, where nothing is wrong with its statements
pub terms_are_near : (items : List Raw) → statements_in items ≡ [] → AreNear (terms_in items)
terms_are_near items e = plans_near 0 (plans_in items) e

-- and with what stands for its Fors and for what prints, loops for its Switches and its symbols named, shaped
pub core_is_shaped : (items : List Raw) → errors_at items ≡ [] → statements_in items ≡ [] → layouts_in items ≡ [] → IsKeptSource (writtens items) → AreShaped (named_all (without_switches (formed_all (terms_in items))))
core_is_shaped items e s l k =
    let plain = formed_all (terms_in items) in
    all_named (AreItems 0) ⊥ (without_switches plain)
    (loops_formed (AreItems 0) (Unit {0}) (Unit {0}) plain (forms_formed (AreItems 0) (Unit {0}) (Unit {0}) (terms_in items) (terms_are_laid items e l k) (terms_are_near items s)))

-- what does as a program in which symbols are named does as the program
lowered_faithful : (width : Width) (program : Trees) (bytes : List ℕ) → are_terms program ≡ true → IsFaithful width (known_of (named_all program)) (externals (named_all program)) (named_all program) bytes
    → IsFaithful width (known_of program) (externals program) program bytes
lowered_faithful width program bytes terms faithful =
    let known : IsFaithful width (known_of program) (externals (named_all program)) (named_all program) bytes
    = subst (λ known. IsFaithful width known (externals (named_all program)) (named_all program) bytes) (same_known program terms) faithful in
    let both : IsFaithful width (known_of program) (externals program) (named_all program) bytes = subst (λ names. IsFaithful width (known_of program) names (named_all program) bytes) (same_externals program terms) known in
    record {
      same = λ present n answers requests asked. sym (same_named width (known_of program) program (present_ones (externals program) present) n answers requests) ∙ both.same present n answers requests asked;
      whole = both.whole;
    }

pub does_as : (wrap fold short shorten : Bool) (items : List Raw) → IsRight items → IsKeptSource (writtens items) → length (table_in wrap fold short shorten items) ≤ 16777216 → IsTableOfSource items (table_in wrap fold short shorten items)
unfolding errors_at
does_as wrap fold short shorten items right kept within =
    let fields = fields_in items in
    let width = width_in items in
    let program = terms_in items in
    let plain = formed_all program in
    let loops = without_switches plain in
    let named = named_all loops in
    let lowered = lowered_in fold items in
    let core = core_in wrap fold items in
    let content = encoded_terms width short (spelled_in wrap fold shorten items) in
    let size = header_length + length content in
    let header = header_with fields size (checksum_of (header_with fields size 0 ++ content)) in
    let small : length content ≤ 16777216 = omega (arith, within, length-append header content) in
    let formed : AreFormed (Unit {0}) AreNamed (Unit {0}) (Unit {0}) program = terms_are_formed items right.form kept in
    let own_names : name_errors program ≡ [] = right_names items right kept in
    let own_kinds : type_errors program ≡ [] = right_kinds items right kept in
    let near : AreNear program = terms_are_near items right.statements in
    let left : AreFormed ⊥ AreNamed (Unit {0}) (Unit {0}) plain = forms_formed AreNamed (Unit {0}) (Unit {0}) program formed near in
    let terms : are_terms loops ≡ true = formed_terms ⊥ AreNamed (Unit {0}) ⊥ loops (loops_formed AreNamed (Unit {0}) (Unit {0}) plain left) in
    let locals : HaveLocals plain = forms_have_locals program (formed_terms (Unit {0}) AreNamed (Unit {0}) (Unit {0}) program formed) (have_locals program (plans_in items) right.locals) in
    let names : name_errors loops ≡ [] = same_name_errors AreNamed (Unit {0}) (Unit {0}) plain left ∙ no_form_names AreNamed (Unit {0}) (Unit {0}) program formed near own_names own_kinds in
    let counts : type_errors loops ≡ [] = same_type_errors AreNamed (Unit {0}) (Unit {0}) plain left ∙ no_form_types AreNamed (Unit {0}) (Unit {0}) program formed near own_names own_kinds in
    let room : HaveRoom (args_of (writtens items)) = room_in (writtens items) right.form kept in
    let signature : length fields.signature ≡ 4 = room.signature in
    let table = table_in wrap fold short shorten items in
    record {
      header = is_header fields content signature (omega (arith, small)) (mod_below (number_of (plan_at (args_of (writtens items)) 5)) 4294967296 (omega arith));
      faithful = does_formed AreNamed (Unit {0}) (Unit {0}) program formed near own_names own_kinds width table
          (does_unswitched AreNamed (Unit {0}) (Unit {0}) plain left locals width table
          (lowered_faithful width loops table terms (does_unfolded fold width named table (does_unwrapped wrap width lowered table
          (is_faithful shorten (described_in items) width short core table (wrapped.where_shaped wrap lowered (where_shaped fold width named (core_is_shaped items right.form right.statements right.layouts kept)))
          (wrapped.where_name_errors wrap lowered ∙ where_name_errors fold width named ∙ no_name_errors loops terms names) (wrapped.where_type_errors wrap lowered ∙ where_type_errors fold width named ∙ no_type_errors loops terms counts)
          (width_is fields content signature) (omega (arith, small)) (definition_is fields content signature (omega (arith, small))))))));
    }
