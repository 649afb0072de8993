-- The core of a source in which nothing is wrong has the source's sessions.
use Rattle.std.proofs.Common.{◌≡◌, ℕ, Bool, true, List, [], sym, ◌∙◌, subst}
use Rattle.acpi_values.specs.Paths.{AbsolutePath}
use Rattle.acpi_values.specs.Values.{Value}
use Rattle.acpi_state.specs.Asked.{IsAsked}
use Rattle.acpi_state.specs.Objects.{Names}
use Rattle.acpi_state.specs.Sessions.{Request, present_ones}
use Rattle.asl_meaning.specs.Declarations.{known_of, externals}
use Rattle.asl_meaning.specs.SourceSession.{source_session}
use Rattle.named_sessions.specs.Shaped.{AreFormed, AreNamed}
use Rattle.named_sessions.specs.Core.{says_of, core_beside}
use Rattle.named_sessions.proofs.Spelled.{same_source}
use Rattle.named_sessions.proofs.Terms.{formed_terms}
use Rattle.acpi_names.specs.Errors.{name_errors, type_errors}
use Rattle.acpi_names.specs.Terms.{are_terms}
use Rattle.asl_lower.specs.Nodes.{named_all}
use Rattle.asl_lower.proofs.Named.{same_named}
use Rattle.asl_lower.proofs.Declared as lower
use Rattle.asl_fold.proofs.Asked.{where_shaped, where_sessions, where_known}
use Rattle.asl_prints.specs.Forms.{formed_all}
use Rattle.asl_formats.proofs.Formed.{same_formed}
use Rattle.form_shapes.specs.Near.{AreNear}
use Rattle.form_shapes.proofs.Formed.{forms_formed}
use Rattle.form_shapes.proofs.Locals.{forms_have_locals}
use Rattle.form_shapes.proofs.Names as others
use Rattle.hidden_locals.specs.Switches.{without_switches, HaveLocals}
use Rattle.loop_shapes.proofs.Formed.{loops_formed}
use Rattle.loop_shapes.proofs.Faithful as loops
use Rattle.loop_shapes.proofs.Names as looped
use Rattle.switch_checks.proofs.Silent.{have_locals}
use Rattle.wrapped_externals.proofs.Asked as wrapped
use Rattle.asl_syntax.specs.declared.raw.Raw.{Raw}
use Rattle.asl_syntax.specs.Written.{writtens}
use Rattle.program_shapes.specs.Kept.{IsKeptSource}
use Rattle.program_shapes.specs.Sources.{plans_in, terms_in, width_in, lowered_in, core_in, described_in, spelled_in, IsRight}
use Rattle.program_shapes.proofs.Near.{plans_near}
use Rattle.program_shapes.proofs.Stripped.{right_names, right_kinds}
use Rattle.program_shapes.proofs.Tables.{terms_are_formed, core_is_shaped}

pub same_cores : (wrap fold shorten : Bool) (items : List Raw) → IsRight items → IsKeptSource (writtens items) → (present : List AbsolutePath) (n : ℕ) (answers : List Value) (requests : List Request) → IsAsked (width_in items) n answers requests
    → source_session (width_in items) (known_of (terms_in items)) (spelled_in wrap fold shorten items) (present_ones (externals (terms_in items)) present) n answers requests
    ≡ source_session (width_in items) (known_of (terms_in items)) (terms_in items) (present_ones (externals (terms_in items)) present) n answers requests
same_cores wrap fold shorten items right kept present n answers requests asked =
    let width = width_in items in
    let program = terms_in items in
    let plain = formed_all program in
    let turns = without_switches plain in
    let named = named_all turns in
    let lowered = lowered_in fold items in
    let core = core_in wrap fold items in
    let there : Names = present_ones (externals program) present in
    let formed : AreFormed (Unit {0}) AreNamed (Unit {0}) (Unit {0}) program = terms_are_formed items right.form kept in
    let own_names : name_errors program ≡ [] = right_names items right kept in
    let own_kinds : type_errors program ≡ [] = right_kinds items right kept in
    let near : AreNear program = plans_near 0 (plans_in items) right.statements in
    let left : AreFormed ⊥ AreNamed (Unit {0}) (Unit {0}) plain = forms_formed AreNamed (Unit {0}) (Unit {0}) program formed near in
    let terms : are_terms turns ≡ true = formed_terms ⊥ AreNamed (Unit {0}) ⊥ turns (loops_formed AreNamed (Unit {0}) (Unit {0}) plain left) in
    let locals : HaveLocals plain = forms_have_locals program (formed_terms (Unit {0}) AreNamed (Unit {0}) (Unit {0}) program formed) (have_locals program (plans_in items) right.locals) in
    let same_known : known_of core ≡ known_of program =
    wrapped.where_known wrap lowered ∙ where_known fold width named ∙ lower.same_known turns terms ∙ looped.same_known AreNamed (Unit {0}) (Unit {0}) plain left
    ∙ others.same_known AreNamed (Unit {0}) (Unit {0}) program formed near own_names own_kinds in
    let same_others : externals plain ≡ externals program = others.same_externals AreNamed (Unit {0}) (Unit {0}) program formed near own_names own_kinds in
    let spelled : source_session width (known_of core) core there n answers requests ≡ source_session width (known_of core) (core_beside shorten (described_in items) core) there n answers requests
    = same_source shorten (described_in items) width (says_of core) (known_of core) core (wrapped.where_shaped wrap lowered (where_shaped fold width named (core_is_shaped items right.form right.statements right.layouts kept))) there n answers requests in
    subst (λ known. source_session width known (core_beside shorten (described_in items) core) there n answers requests ≡ source_session width known core there n answers requests) same_known (sym spelled)
    ∙ wrapped.where_sessions wrap width (known_of program) lowered there n answers requests
    ∙ where_sessions fold width (known_of program) named there n answers requests
    ∙ same_named width (known_of program) turns there n answers requests
    ∙ subst (λ others. source_session width (known_of program) turns (present_ones others present) n answers requests ≡ source_session width (known_of program) plain (present_ones others present) n answers requests) same_others
    (loops.same_sessions AreNamed (Unit {0}) (Unit {0}) plain left locals width (known_of program) present n answers requests asked)
    ∙ same_formed width (known_of program) program there n answers requests
