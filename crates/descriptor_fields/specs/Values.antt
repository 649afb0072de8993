-- Where expressions stand, whose value a descriptor's field may be, and where fields are counted in bits.
use Rattle.std.specs.Prelude.{ℕ, nat_lt, Bool, true, false, if◌then◌else◌, List, slice_get}
use Rattle.acpi_values.specs.Operators.{Letter, Valued, Kept, row_of}
use Rattle.acpi_state.specs.Outcomes.{choose}
use Rattle.asl_tree.specs.declared.term.Op.{Op}
use Rattle.asl_tree.specs.declared.term.Declaration.{Declaration}
use Rattle.asl_tree.specs.declared.term.Control.{Control}
use Rattle.asl_tree.specs.declared.term.Symbolic.{Symbolic}
use Rattle.asl_tree.specs.declared.term.Special.{Special}

-- an operand by its letter
abbrev pub has_value : Letter → Bool
has_value Valued = true
has_value Kept = true
has_value letter = false

-- operands; behind them stand targets
abbrev pub is_operand : List Letter → ℕ → Bool
is_operand letters n = choose (slice_get letters n) false has_value

-- between so many paths or words and so many arguments in all
abbrev pub is_between : ℕ → ℕ → ℕ → Bool
is_between first count n = if nat_lt n first then false else nat_lt n count

abbrev pub is_behind : ℕ → ℕ → Bool
is_behind first n = if nat_lt n first then false else true

-- an argument of a declaration by its number
abbrev pub is_declared_value : Declaration → ℕ → Bool
is_declared_value Declaration.Name n = is_behind 1 n
is_declared_value Declaration.OperationRegion n = is_behind 2 n
is_declared_value Declaration.BankField n = is_between 2 3 n
is_declared_value Declaration.CreateField n = nat_lt n 3
is_declared_value Declaration.CreateBitField n = nat_lt n 2
is_declared_value Declaration.CreateByteField n = nat_lt n 2
is_declared_value Declaration.CreateWordField n = nat_lt n 2
is_declared_value Declaration.CreateDWordField n = nat_lt n 2
is_declared_value Declaration.CreateQWordField n = nat_lt n 2
is_declared_value _ n = false

-- an argument of a form by its number
abbrev pub is_value : Op → ℕ → Bool
is_value (Op.Declaration declaration) n = is_declared_value declaration n
is_value (Op.Plain op) n = is_operand (row_of op).operands n
is_value (Op.Symbolic (Symbolic.Operator op)) n = is_operand (row_of op).operands n
is_value (Op.Symbolic Symbolic.Assign) n = is_behind 1 n
is_value (Op.Symbolic (Symbolic.AssignBy op)) n = is_behind 1 n
is_value (Op.Special Special.CondRefOf) n = false
is_value (Op.Control Control.Fprintf) n = is_behind 1 n
is_value _ n = true

-- what stands in the body of a form: the bytes of a Buffer are numbers, and a name in the list of a field is what units are
-- connected to
abbrev pub has_values : Op → Bool
has_values (Op.Special Special.Buffer) = false
has_values (Op.Declaration Declaration.Field) = false
has_values (Op.Declaration Declaration.IndexField) = false
has_values (Op.Declaration Declaration.BankField) = false
has_values _ = true

-- the index and the number of bits of a buffer field that is counted in bits
abbrev pub in_bits : Op → ℕ → Bool
in_bits (Op.Declaration Declaration.CreateBitField) n = nat_lt 0 n
in_bits (Op.Declaration Declaration.CreateField) n = nat_lt 0 n
in_bits _ n = false

-- where the nodes of a list stand: as the arguments of a form, as its body, or as the arguments of a call; terms stand as these do
pub data Among : Type 0 where
  Arguments Contents : (op : Op) → Among
  OfCall : Among

abbrev pub is_value_in : Among → ℕ → Bool
is_value_in (Arguments op) n = is_value op n
is_value_in (Contents op) n = has_values op
is_value_in OfCall n = true

abbrev pub is_in_bits : Among → ℕ → Bool
is_in_bits (Arguments op) n = in_bits op n
is_in_bits _ n = false
