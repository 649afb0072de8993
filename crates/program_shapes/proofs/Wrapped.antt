-- What does as a program with its Externals in Ifs, where that is asked for, does as the program.
use Rattle.std.proofs.Common.{Bool, List, sym, ◌∙◌, subst}
use Rattle.acpi_values.specs.declared.width.Width.{Width}
use Rattle.asl_tree.specs.Tree.{Trees}
use Rattle.asl_meaning.specs.Declarations.{known_of, externals}
use Rattle.acpi_state.specs.Sessions.{present_ones}
use Rattle.aml_meaning.specs.ByteSession.{IsFaithful}
use Rattle.wrapped_externals.specs.Wraps.{wrapped_where}
use Rattle.wrapped_externals.proofs.Asked.{where_sessions, where_known, where_externals}

pub does_unwrapped : (wrap : Bool) (width : Width) (program : Trees) (bytes : List _) → IsFaithful width (known_of (wrapped_where wrap program)) (externals (wrapped_where wrap program)) (wrapped_where wrap program) bytes
    → IsFaithful width (known_of program) (externals program) program bytes
does_unwrapped wrap width program bytes faithful =
    let core = wrapped_where wrap program in
    let known : IsFaithful width (known_of program) (externals core) core bytes = subst (λ known. IsFaithful width known (externals core) core bytes) (where_known wrap program) faithful in
    let both : IsFaithful width (known_of program) (externals program) core bytes = subst (λ names. IsFaithful width (known_of program) names core bytes) (where_externals wrap program) known in
    record {
      same = λ present n answers requests asked. sym (where_sessions wrap width (known_of program) program (present_ones (externals program) present) n answers requests) ∙ both.same present n answers requests asked;
      whole = both.whole;
    }
