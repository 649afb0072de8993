-- A list of terms that is put into Ifs from its first on, and what stands in the braces of a form.
use Rattle.std.specs.Prelude.{ℕ, zero, suc, Bool, true, false, List, [], ◌∷◌, ◌++◌}
use Rattle.asl_tree.specs.declared.term.Control.TheVariants as Control
use Rattle.asl_tree.specs.declared.term.Declaration.TheVariants as Declaration
use Rattle.asl_tree.specs.declared.term.Op.{Op}
use Rattle.asl_tree.specs.declared.term.Special.TheVariants as Special
use Rattle.asl_tree.specs.Tree.{Trees}
use Rattle.asl_lower.specs.Nests.{joined}
use Rattle.wrapped_externals.specs.Wraps.{leading, guarded, behind, wrapped_args, wrapped_all}
use Rattle.wrapped_externals.specs.Starts.{is_free, starts}

-- a run of Externals before terms that may go on with it
abbrev pub resumed : (run : Trees) → Trees → Trees
resumed run terms = guarded (joined run (leading terms)) (behind terms)

abbrev pub no_flags : ℕ → List Bool
no_flags zero = []
no_flags (suc n) = false ∷ no_flags n

-- the flags of a run of so many Externals and of the terms behind it
abbrev pub pending : ℕ → Trees → List Bool
pending zero terms = starts false terms
pending (suc n) terms = is_free terms ∷ (no_flags n ++ starts true terms)

-- what stands in the braces of a form: terms, the elements of a Package, or what is kept as it is
abbrev pub wrapped_body : Op → Trees → Trees
wrapped_body (Op.Special Special.Package) body = wrapped_args body
wrapped_body (Op.Declaration Declaration.Method) body = wrapped_all body
wrapped_body (Op.Declaration Declaration.Device) body = wrapped_all body
wrapped_body (Op.Declaration Declaration.ThermalZone) body = wrapped_all body
wrapped_body (Op.Declaration Declaration.PowerResource) body = wrapped_all body
wrapped_body (Op.Declaration Declaration.Processor) body = wrapped_all body
wrapped_body (Op.Declaration Declaration.Scope) body = wrapped_all body
wrapped_body (Op.Control Control.If) body = wrapped_all body
wrapped_body (Op.Control Control.ElseIf) body = wrapped_all body
wrapped_body (Op.Control Control.Else) body = wrapped_all body
wrapped_body (Op.Control Control.While) body = wrapped_all body
wrapped_body (Op.Control Control.For) body = wrapped_all body
wrapped_body (Op.Control Control.Switch) body = wrapped_all body
wrapped_body (Op.Control Control.Case) body = wrapped_all body
wrapped_body (Op.Control Control.Default) body = wrapped_all body
wrapped_body op body = body
