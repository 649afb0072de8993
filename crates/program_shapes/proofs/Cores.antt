-- A program with what stands for its Fors and for what prints, loops for its Switches, its symbols named, its constants folded, its Externals in Ifs, and then its names spelled by what is known of the program itself, is the core of the first.
use Rattle.std.proofs.Common.{◌≡◌, ℕ, Bool, true, List, [], Option, sym, ap, ◌∙◌, subst}
use Rattle.acpi_values.specs.Paths.{AbsolutePath}
use Rattle.acpi_state.specs.Objects.{lookup}
use Rattle.acpi_values.specs.declared.width.Width.{Width}
use Rattle.asl_tree.specs.Tree.{Trees}
use Rattle.asl_meaning.specs.Declarations.{Declarations, declarations, is_named, nothing_declared, written_external, called, calls_all}
use Rattle.acpi_names.specs.Errors.{whole_of, name_errors, type_errors}
use Rattle.acpi_names.specs.Parts.{Agrees}
use Rattle.acpi_names.specs.Spelled.{spelled_all}
use Rattle.acpi_names.specs.Tables.{Tabled}
use Rattle.acpi_names.specs.Terms.{are_terms}
use Rattle.asl_lower.specs.Nodes.{named_all}
use Rattle.asl_lower.proofs.Declared.{same_declarations, same_first_call}
use Rattle.named_sessions.specs.Core.{core_beside}
use Rattle.named_sessions.specs.Shaped.{AreFormed, AreNamed}
use Rattle.named_sessions.proofs.Terms.{formed_terms}
use Rattle.asl_prints.specs.Forms.{formed_all}
use Rattle.asl_formats.proofs.Declared as forms
use Rattle.form_shapes.specs.Near.{AreNear}
use Rattle.form_shapes.proofs.Formed.{forms_formed}
use Rattle.form_shapes.proofs.Names.{same_calls as same_first}
use Rattle.hidden_locals.specs.Switches.{without_switches}
use Rattle.loop_shapes.proofs.Formed.{loops_formed}
use Rattle.loop_shapes.proofs.Names as loops
use Rattle.named_sessions.proofs.Core.{core_spelled}
use Rattle.asl_fold.specs.Folds.{folded_where}
use Rattle.asl_fold.proofs.Asked.{where_declarations, where_whole}
use Rattle.wrapped_externals.specs.Wraps.{wrapped_where}
use Rattle.wrapped_externals.proofs.Asked as wrapped

-- each path is called first with as many arguments
same_calls : (program : Trees) → are_terms program ≡ true → (path : AbsolutePath) → lookup (whole_of (named_all program)).calls path ≡ lookup (whole_of program).calls path
same_calls program terms path =
    ap (λ d. lookup (called (calls_all (is_named d) (named_all program) [] nothing_declared)) path) (same_declarations program) ∙ same_first_call program terms (is_named (declarations program)) path

pub core_lowered : (wrap fold : Bool) (width : Width) (shorten : Bool) (beside : AbsolutePath → Bool) (paths : List AbsolutePath) (named : List Bool) (table : List (Option ℕ)) (program spelt : Trees) → are_terms program ≡ true
    → ((d : Declarations) (counts : List (AbsolutePath × ℕ)) → Agrees paths named d → Tabled paths table (lookup counts) → spelt ≡ spelled_all shorten beside (is_named d) (written_external counts) (wrapped_where wrap (folded_where fold width (named_all program))) [])
    → Agrees paths named (declarations program) → Tabled paths table (lookup (whole_of program).calls) → spelt ≡ core_beside shorten beside (wrapped_where wrap (folded_where fold width (named_all program)))
core_lowered wrap fold width shorten beside paths named table program spelt terms spells agrees tabled =
    let lowered = folded_where fold width (named_all program) in
    let core = wrapped_where wrap lowered in
    core_spelled shorten beside paths named table core spelt spells (subst (Agrees paths named) (sym (wrapped.where_declarations wrap lowered ∙ where_declarations fold width (named_all program) ∙ same_declarations program)) agrees)
    (λ path. tabled path ∙ sym (ap (λ whole. lookup whole.calls path) (wrapped.where_whole wrap lowered ∙ where_whole fold width (named_all program)) ∙ same_calls program terms path))

-- the same with what stands for Fors and for what prints, and loops for Switches
pub core_looped : (wrap fold : Bool) (width : Width) (shorten : Bool) (beside : AbsolutePath → Bool) (paths : List AbsolutePath) (named : List Bool) (table : List (Option ℕ)) (program spelt : Trees) → AreFormed (Unit {0}) AreNamed (Unit {0}) (Unit {0}) program
    → AreNear program → name_errors program ≡ [] → type_errors program ≡ []
    → ((d : Declarations) (counts : List (AbsolutePath × ℕ)) → Agrees paths named d → Tabled paths table (lookup counts)
    → spelt ≡ spelled_all shorten beside (is_named d) (written_external counts) (wrapped_where wrap (folded_where fold width (named_all (without_switches (formed_all program))))) [])
    → Agrees paths named (declarations program) → Tabled paths table (lookup (whole_of program).calls) → spelt ≡ core_beside shorten beside (wrapped_where wrap (folded_where fold width (named_all (without_switches (formed_all program)))))
core_looped wrap fold width shorten beside paths named table program spelt formed near names counts spells agrees tabled =
    let plain : Trees = formed_all program in
    let left : AreFormed ⊥ AreNamed (Unit {0}) (Unit {0}) plain = forms_formed AreNamed (Unit {0}) (Unit {0}) program formed near in
    core_lowered wrap fold width shorten beside paths named table (without_switches plain) spelt (formed_terms ⊥ AreNamed (Unit {0}) ⊥ (without_switches plain) (loops_formed AreNamed (Unit {0}) (Unit {0}) plain left)) spells
    (subst (Agrees paths named) (sym (loops.same_declarations AreNamed (Unit {0}) (Unit {0}) plain left ∙ forms.same_declarations program)) agrees)
    (λ path. tabled path ∙ sym (ap (λ whole. lookup whole.calls path) (loops.same_whole AreNamed (Unit {0}) (Unit {0}) plain left) ∙ same_first AreNamed (Unit {0}) (Unit {0}) program formed near names counts path))
