-- Parts of a step, by what is open.
use Rattle.std.specs.Prelude.{ℕ, Bool, true, false, nat_le, List, ◌∷◌, Option, Some, None}
use Rattle.asl_syntax.specs.declared.mark.Lexeme.{Lexeme}
use Rattle.asl_syntax.specs.declared.raw.Infix.TheVariants as op
use Rattle.asl_syntax.specs.declared.subtree.Subtree.{Subtree}
use Rattle.asl_syntax.specs.declared.frame.Frame.{Frame}
use Rattle.asl_syntax.specs.declared.frame.Frame.TheVariants as f
use Rattle.asl_parser.specs.declared.state.ParserState.TheVariants as st
use Rattle.asl_syntax.specs.declared.open.FrameKind.{FrameKind}
use Rattle.asl_syntax.specs.declared.open.FrameKind.TheVariants as k
use Rattle.asl_syntax.specs.Grow.{no_subtrees, joined, applied, listing}
use Rattle.asl_parser.specs.Machine.{Config, args_listed}

-- ---- kinds

abbrev pub is_args : FrameKind → Bool
is_args (k.Args p w) = true
is_args _ = false

abbrev pub is_list : FrameKind → Bool
is_list (k.List p) = true
is_list _ = false

abbrev pub is_body : FrameKind → Bool
is_body (k.Body p w args) = true
is_body _ = false

abbrev pub is_index : FrameKind → Bool
is_index (k.Index p) = true
is_index _ = false

-- ---- operators

-- whether the innermost frame is an operator that binds at least as tightly
abbrev pub binds : ℕ → List Frame → Bool
binds pull (f.Pending level most p o xs ∷ fs) = nat_le level pull
binds pull _ = false

-- the innermost operator over its operands, the last of which comes now
abbrev pub applied_once : Subtree → List Frame → Subtree × List Frame
applied_once e (f.Pending level most p o xs ∷ fs) = (applied p o xs e, fs)
applied_once e fs = (e, fs)

-- ---- ends, with the last tree

abbrev pub args_closed : Subtree → List Frame → Option Config
args_closed e (f.Args p w done ∷ fs) = Some (st.Called p w (joined done e), fs)
args_closed e _ = None

abbrev pub list_closed : Subtree → List Frame → Option Config
list_closed e (f.List p done ∷ fs) = Some (st.Listed (listing p (joined done e)), fs)
list_closed e _ = None

abbrev pub index_closed : Subtree → List Frame → Option Config
index_closed e (f.Index p a ∷ fs) = Some (st.Whole (applied p op.Index (joined no_subtrees a) e), fs)
index_closed e _ = None

-- a comma or the end of arguments, before which this tree stands
abbrev pub omitted : Subtree → Lexeme → List Frame → Option Config
omitted e x (f.Args p w done ∷ fs) = args_listed e x p w done fs
omitted e x _ = None
