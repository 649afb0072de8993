-- The words of the directives.
use Rattle.std.specs.Prelude.{ℕ, Bool, true, false, cond, List, codes, Some, None}
use Rattle.std.specs.declared.option.Option.{Option}
use Rattle.std.specs.Str.{bytes_eq}
use Rattle.asl_directives.specs.declared.kind.DirectiveKind.{DirectiveKind}
use Rattle.asl_directives.specs.declared.kind.DirectiveKind.TheVariants as k

-- the directive of a word
unfoldable pub kind_of : List ℕ → Option DirectiveKind
kind_of word =
    cond (bytes_eq word (codes "define")) (Some k.Define) (
    cond (bytes_eq word (codes "undef")) (Some k.Undefine) (
    cond (bytes_eq word (codes "if")) (Some k.If) (
    cond (bytes_eq word (codes "ifdef")) (Some k.IfDefined) (
    cond (bytes_eq word (codes "ifndef")) (Some k.IfNotDefined) (
    cond (bytes_eq word (codes "elif")) (Some k.ElseIf) (
    cond (bytes_eq word (codes "else")) (Some k.Else) (
    cond (bytes_eq word (codes "endif")) (Some k.EndIf) (
    cond (bytes_eq word (codes "include")) (Some k.Include) (
    cond (bytes_eq word (codes "error")) (Some k.Error) (
    cond (bytes_eq word (codes "warning")) (Some k.Warning) (
    cond (bytes_eq word (codes "pragma")) (Some k.Pragma) None)))))))))))

-- the directives that open, turn and close branches
abbrev pub is_conditional : DirectiveKind → Bool
is_conditional k.If = true
is_conditional k.IfDefined = true
is_conditional k.IfNotDefined = true
is_conditional k.ElseIf = true
is_conditional k.Else = true
is_conditional k.EndIf = true
is_conditional k.Define = false
is_conditional k.Undefine = false
is_conditional k.Include = false
is_conditional k.Error = false
is_conditional k.Warning = false
is_conditional k.Pragma = false
