-- The arguments and the bodies of forms with their constants folded, and what is seen of an operator whose arguments are folded.
use Rattle.std.specs.Prelude.{ℕ, zero, suc, Bool, true, false, not, ◌&&◌, nat_eq, nat_lt, if◌then◌else◌, List, [], ◌∷◌, Option, Some, None}
use Rattle.acpi_values.specs.declared.width.Width.{Width}
use Rattle.acpi_values.specs.declared.operator.IntOp.{IntOp}
use Rattle.acpi_values.specs.declared.operator.DataOp.TheVariants as DataOp
use Rattle.acpi_values.specs.declared.operator.Plain.{Plain}
use Rattle.acpi_values.specs.Operators.{Letter, Row, row_of}
use Rattle.acpi_values.specs.Operators as L
use Rattle.asl_operators.specs.Letters.{letter_as}
use Rattle.asl_operators.specs.declared.letter.Letter.{Letter as CodeLetter}
use Rattle.acpi_values.specs.Widths.{ones_of}
use Rattle.acpi_values.specs.Integers.{wrapped}
use Rattle.acpi_state.specs.Forms.{LocalSlot}
use Rattle.acpi_names.specs.Walked.{TermShape, OfForm, term_shape}
use Rattle.asl_tree.specs.Literals.{literal_number, word_number}
use Rattle.asl_tree.specs.declared.term.Term.{Term}
use Rattle.asl_tree.specs.declared.term.Term as D
use Rattle.asl_tree.specs.declared.term.Control.TheVariants as Control
use Rattle.asl_tree.specs.declared.term.Declaration.{Declaration}
use Rattle.asl_tree.specs.declared.term.Op.{Op}
use Rattle.asl_tree.specs.declared.term.Special.TheVariants as Special
use Rattle.asl_tree.specs.declared.term.Symbolic.TheVariants as Symbolic
use Rattle.asl_tree.specs.Tree.{Tree, Integer, Constant, InSlot, Omitted, Apply, Misshapen, Trees, no_trees, tree}
use Rattle.asl_tree.specs.View.{operands_as, targets_of, apply_of}
use Rattle.asl_fold.specs.declared.fate.Fate.{Fate}
use Rattle.asl_fold.specs.declared.part.Listing.{Listing}
use Rattle.asl_fold.specs.declared.part.MemberRole.{MemberRole}
use Rattle.asl_fold.specs.declared.seen.Seen.{Seen}
use Rattle.asl_fold.specs.Folds.{fate_of, last_of, folded}

-- whether the operand at a place is a constant of so many bytes
abbrev pub is_raw : Letter → Bool
is_raw (L.Raw size) = true
is_raw letter = false

abbrev pub raw_at : List Letter → ℕ → Bool
raw_at [] i = false
raw_at (letter ∷ letters) zero = is_raw letter
raw_at (letter ∷ letters) (suc i) = raw_at letters i

-- the same of a letter of the code, where there is one
abbrev pub raw_code : Option CodeLetter → Bool
raw_code None = false
raw_code (Some letter) = is_raw (letter_as letter)

-- whether the argument of a declaration at a place is no expression: a name, or a number that has to be written as one
abbrev pub is_declared : Declaration → ℕ → Bool
is_declared Declaration.Name i = nat_eq i 0
is_declared Declaration.OperationRegion i = nat_lt i 2
is_declared Declaration.BankField i = not (nat_eq i 2)
is_declared Declaration.CreateField i = nat_eq i 3
is_declared Declaration.CreateBitField i = nat_eq i 2
is_declared Declaration.CreateByteField i = nat_eq i 2
is_declared Declaration.CreateWordField i = nat_eq i 2
is_declared Declaration.CreateDWordField i = nat_eq i 2
is_declared Declaration.CreateQWordField i = nat_eq i 2
is_declared declaration i = true

-- where the format of a Printf and of an Fprintf stands
abbrev pub is_first : ℕ → Bool
is_first zero = true
is_first (suc n) = false

abbrev pub is_second : ℕ → Bool
is_second zero = false
is_second (suc n) = is_first n

abbrev pub is_kept : Op → ℕ → Bool
is_kept (Op.Declaration declaration) i = is_declared declaration i
is_kept (Op.Plain op) i = raw_at (row_of op).operands i
is_kept (Op.Control Control.Printf) i = is_first i
is_kept (Op.Control Control.Fprintf) i = is_second i
is_kept (Op.Symbolic (Symbolic.Operator op)) i = raw_at (row_of op).operands i
is_kept op i = false

-- what the member of a list at a place is
abbrev pub part_in : Listing → ℕ → MemberRole
part_in (Listing.Arguments op) i = if is_kept op i then MemberRole.Kept else MemberRole.Operand
part_in Listing.Elements i = MemberRole.Operand
part_in Listing.Terms i = MemberRole.Statement
part_in Listing.Others i = MemberRole.Kept

-- what stands in the braces of a form
abbrev pub listing_of : Op → Listing
listing_of (Op.Special Special.Package) = Listing.Elements
listing_of (Op.Declaration Declaration.Method) = Listing.Terms
listing_of (Op.Declaration Declaration.Device) = Listing.Terms
listing_of (Op.Declaration Declaration.ThermalZone) = Listing.Terms
listing_of (Op.Declaration Declaration.PowerResource) = Listing.Terms
listing_of (Op.Declaration Declaration.Processor) = Listing.Terms
listing_of (Op.Declaration Declaration.Scope) = Listing.Terms
listing_of (Op.Control Control.If) = Listing.Terms
listing_of (Op.Control Control.ElseIf) = Listing.Terms
listing_of (Op.Control Control.Else) = Listing.Terms
listing_of (Op.Control Control.While) = Listing.Terms
listing_of (Op.Control Control.For) = Listing.Terms
listing_of (Op.Control Control.Switch) = Listing.Terms
listing_of (Op.Control Control.Case) = Listing.Terms
listing_of (Op.Control Control.Default) = Listing.Terms
listing_of op = Listing.Others

-- a member that is folded as what it is
abbrev pub folded_as : Width → MemberRole → Tree → Tree
folded_as width MemberRole.Kept term = term
folded_as width MemberRole.Operand term = folded width false term
folded_as width MemberRole.Statement term = folded width true term

abbrev pub folded_by : Width → (ℕ → MemberRole) → Trees → Trees
folded_by width part no_trees = no_trees
folded_by width part (tree t ts) = tree (folded_as width (part 0) t) (folded_by width (λ i. part (suc i)) ts)

-- a form as it is seen
abbrev pub form_seen : Op → Trees → Trees → Seen
form_seen (Op.Literal literal) no_trees no_trees = Seen.Literal literal
form_seen op args body = Seen.Other

abbrev pub shape_seen : TermShape → Seen
shape_seen (OfForm op args body) = form_seen op args body
shape_seen shape = Seen.Other

-- a term as it is seen, and its tree
abbrev pub term_seen : Term → Seen
term_seen (D.Integer number) = Seen.Number number
term_seen (D.Word word) = Seen.Number (word_number word)
term_seen (D.Local index) = Seen.Local
term_seen D.Omitted = Seen.Omitted
term_seen term = shape_seen (term_shape term)

abbrev pub tree_seen : Tree → Seen
tree_seen (Integer number) = Seen.Number number
tree_seen (Constant literal) = Seen.Literal literal
tree_seen (InSlot (LocalSlot index)) = Seen.Local
tree_seen Omitted = Seen.Omitted
tree_seen term = Seen.Other

-- an operand as a constant; one that is left out has all its bits set
abbrev pub seen_value : Width → Seen → Option ℕ
seen_value width (Seen.Number number) = Some (wrapped width number)
seen_value width (Seen.Literal literal) = Some (literal_number width literal)
seen_value width Seen.Omitted = Some (ones_of width)
seen_value width Seen.Local = None
seen_value width Seen.Other = None

-- a result with a target
abbrev pub seen_fate : Bool → Seen → ℕ → Fate
seen_fate statement Seen.Omitted n = Fate.Becomes n
seen_fate statement Seen.Local n = Fate.Stores n
seen_fate statement seen n = if statement then Fate.Stores n else Fate.Stays

abbrev pub is_omitted : Seen → Bool
is_omitted Seen.Omitted = true
is_omitted seen = false

-- a result with no target, with one, and with two or more, where the operator has so many
abbrev pub fate_zero : ℕ → ℕ → Fate
fate_zero many n = if nat_eq many 0 then Fate.Becomes n else Fate.Stays

abbrev pub fate_one : Bool → ℕ → Seen → ℕ → Fate
fate_one statement many target n = if nat_eq many 1 then seen_fate statement target n else Fate.Stays

abbrev pub fate_two : Bool → ℕ → Seen → Seen → ℕ → ℕ → Fate
fate_two statement many remainder target more n =
    if nat_eq many 2 && (nat_eq more 0 && is_omitted remainder) then seen_fate statement target n else Fate.Stays

-- what becomes of an operator with these arguments
abbrev pub fate_on : Width → Bool → IntOp → Trees → Fate
fate_on width statement op args =
    let letters = (row_of (Plain.Number op)).operands in fate_of width statement op (operands_as letters args) (targets_of letters args)

-- what becomes of a plain operator with a body: one with some body is no form of an operator, and stays
abbrev pub fate_form : Width → Bool → Plain → Trees → Trees → Fate
fate_form width statement (Plain.Number op) args no_trees = fate_on width statement op args
fate_form width statement op args body = Fate.Stays

-- a plain operator with arguments as they are written
abbrev pub plain_form : Plain → Trees → Trees → Tree
plain_form op args no_trees = apply_of op args
plain_form op args (tree t ts) = Misshapen

-- the operator by what becomes of it
abbrev pub replaced_form : Fate → Plain → Trees → Trees → Tree
replaced_form Fate.Stays op args body = plain_form op args body
replaced_form (Fate.Becomes n) op args body = Integer n
replaced_form (Fate.Stores n) op args body = Apply (Plain.Data DataOp.Store) (tree (Integer n) (last_of args)) no_trees

-- a plain operator whose arguments are folded
abbrev pub reduced_form : Width → Bool → Plain → Trees → Trees → Tree
reduced_form width statement op args body = replaced_form (fate_form width statement op args body) op args body
